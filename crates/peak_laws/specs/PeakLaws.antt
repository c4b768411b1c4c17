-- Rounds one after the other, and the largest count at their closes.
use Rattle.std.specs.Prelude.{◌≡◌, Bool, ℕ, suc, max}
use Rattle.std.proofs.Math.Path.{refl}
use Rattle.std.proofs.Common.{sym, ◌∙◌, ap}
use Rattle.std.proofs.Math.Bool.{true, false}
use mathlib.Core.List.{List, [], ◌∷◌, ◌++◌, append_assoc, append-nil}
use native.Mathlib.Omega.{arith}
use Rattle.list_spec.specs.Choice.{pick}
use Rattle.list_spec.specs.Largest.{largest}
use Rattle.list_laws.specs.LargestLaws.{largest-append}
use Rattle.method_spec.specs.Node.{Node}
use Rattle.method_spec.specs.Prog.{Want, Prog, done, want}
use Rattle.method_spec.specs.Answer.{Structure}
use Rattle.round_spec.specs.Whole.{listed}
use Rattle.bucket_call_spec.specs.Fetch.{Going, total, too_many, Round, on, shut, count_at_close, at_close, idle_round, want_round, fetch_round}
use Rattle.bucket_call_spec.specs.Peak.{then_rounds, rounds_from, counts_of, peak_of, peak_at}

-- ---- peaks of lists
module _ {A : Type 0} where
  counts-append : (rs ts : List (Round A)) → counts_of (rs ++ ts) ≡ counts_of rs ++ counts_of ts
  unfolding counts_of
  counts-append [] ts = refl
  counts-append (r ∷ rs) ts = rw (counts-append rs ts) (sym (append_assoc (listed (count_at_close r)) (counts_of rs) (counts_of ts)))

  pub peak-append : (rs ts : List (Round A)) → peak_of (rs ++ ts) ≡ max (peak_of rs) (peak_of ts)
  peak-append rs ts = ap largest (counts-append rs ts) ∙ largest-append (counts_of rs) (counts_of ts)

  -- ---- one round
  -- At a round's close its nodes are counted, whether it overflows or not.
  pub peak-close : (g : Going) (p : Prog ℕ A) → peak_at (at_close g p) ≡ total g
  unfolding counts_of count_at_close largest at_close
  peak-close g p = go (too_many g)
    where
      go : (b : Bool) → peak_at (pick b (shut 9 g) (on g p)) ≡ total g
      go true = omega arith
      go false = omega arith

  -- A round of a program that is done wants none.
  pub done-round : (s : Structure) (e k d : ℕ) (a : A) (g : Going) → fetch_round s e k d (done a) g ≡ idle_round k d (done a) g
  unfolding fetch_round
  done-round s e k d a g = refl

  pub wanting-round : (s : Structure) (e k d : ℕ) (w : Want ℕ) (c : Node ℕ → Prog ℕ A) (g : Going) → fetch_round s e k d (want w c) g ≡ want_round s e k d w c g
  unfolding fetch_round
  wanting-round s e k d w c g = refl

  -- ---- one round after another
  module _ (s : Structure) (e k : ℕ) (draw : ℕ → ℕ) where
    pub rounds-none : (i : ℕ) (p : Prog ℕ A) (g : Going) → rounds_from s e k draw 0 i p g ≡ []
    unfolding rounds_from
    rounds-none i p g = refl

    module _ (n i : ℕ) (p : Prog ℕ A) (g h : Going) where
      pub rounds-goes : (q : Prog ℕ A) → fetch_round s e k (draw i) p g ≡ on h q
          → rounds_from s e k draw (suc n) i p g ≡ fetch_round s e k (draw i) p g ∷ rounds_from s e k draw n (suc i) q h
      unfolding rounds_from then_rounds
      rounds-goes q went = rw went

      pub rounds-shuts : (m : ℕ) → fetch_round s e k (draw i) p g ≡ shut m h → rounds_from s e k draw (suc n) i p g ≡ fetch_round s e k (draw i) p g ∷ []
      unfolding rounds_from then_rounds
      rounds-shuts m closed = rw closed

      -- The largest so far, when a round goes on or closes the store.
      pub peak-goes : (q : Prog ℕ A) → fetch_round s e k (draw i) p g ≡ on h q → (most : ℕ)
          → max most (peak_of (rounds_from s e k draw (suc n) i p g)) ≡ max (max most (peak_at (fetch_round s e k (draw i) p g))) (peak_of (rounds_from s e k draw n (suc i) q h))
      peak-goes q went most =
          let first = fetch_round s e k (draw i) p g in
          let all = ap peak_of (rounds-goes q went) ∙ peak-append (first ∷ []) (rounds_from s e k draw n (suc i) q h) in
          omega arith

      pub peak-shuts : (m : ℕ) → fetch_round s e k (draw i) p g ≡ shut m h → (most : ℕ)
          → max most (peak_of (rounds_from s e k draw (suc n) i p g)) ≡ max most (peak_at (fetch_round s e k (draw i) p g))
      peak-shuts m closed most = ap (λ (rs : List (Round A)). max most (peak_of rs)) (rounds-shuts m closed)

pub peak-none : (A : Type 0) → peak_of {A = A} [] ≡ 0
unfolding counts_of largest
peak-none A = refl

-- Damage is no close.
pub peak-damage : (A : Type 0) (g : Going) → peak_at {A = A} (shut 8 g) ≡ 0
unfolding counts_of count_at_close largest
peak-damage A g = refl
