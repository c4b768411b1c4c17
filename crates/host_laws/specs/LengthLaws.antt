-- The lengths that a call from C asks about, one by one.
use Rattle.std.specs.Prelude.{◌≡◌, true, false, ℕ, ◌%◌, eqb}
use Rattle.std.proofs.Math.Bool.{and-eq-true_iff}
use borrow.Author.Tests.{eqb-true, eq-eqb, ne_eqb}
use Rattle.lent_bytes_spec.specs.Numbers.{number_length}
use Rattle.lent_bytes_spec.specs.StateBytes.{state_length}
use Rattle.host_spec.specs.Result.{result_length}
use Rattle.host_spec.specs.Host.{lengths_good}

module _ (state tape trace result : ℕ) where
  pub bad-state : (state ≡ state_length → ⊥) → false ≡ lengths_good state tape trace result
  unfolding lengths_good
  bad-state n = rw (ne_eqb state state_length n)

  pub bad-result : state ≡ state_length → (result ≡ result_length → ⊥) → false ≡ lengths_good state tape trace result
  unfolding lengths_good
  bad-result a n = rw (eq-eqb state state_length a, ne_eqb result result_length n)

  pub odd-tape : state ≡ state_length → result ≡ result_length → (tape % number_length ≡ 0 → ⊥) → false ≡ lengths_good state tape trace result
  unfolding lengths_good
  odd-tape a b n = rw (eq-eqb state state_length a, eq-eqb result result_length b, ne_eqb (tape % number_length) 0 n)

  pub trace-left : state ≡ state_length → result ≡ result_length → tape % number_length ≡ 0 → eqb (trace % number_length) 0 ≡ lengths_good state tape trace result
  unfolding lengths_good
  trace-left a b c = rw (eq-eqb state state_length a, eq-eqb result result_length b, eq-eqb (tape % number_length) 0 c)

  pub record Lengths : Type 0 where
    pub state-long : state ≡ state_length
    pub result-long : result ≡ result_length
    pub trace-even : trace % number_length ≡ 0

  pub good-lengths : lengths_good state tape trace result ≡ true → Lengths
  unfolding lengths_good
  good-lengths e =
      let a = (and-eq-true_iff (eqb state state_length) _).0 e in
      let b = (and-eq-true_iff (eqb result result_length) _).0 a.1 in
      let c = (and-eq-true_iff (eqb (tape % number_length) 0) _).0 b.1 in
      record {
        state-long = eqb-true state state_length a.0;
        result-long = eqb-true result result_length b.0;
        trace-even = eqb-true (trace % number_length) 0 c.1;
      }
