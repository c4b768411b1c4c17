-- Fetch rounds in two parts: the first of them, then the rest. Once a program is done the rest are rounds that want none, as the
-- put rounds are.
use Rattle.std.specs.Prelude.{◌≡◌}
use Rattle.std.proofs.Math.Path.{refl}
use Prim.Native.Nat.{ℕ, zero, suc, ◌+◌}
use Rattle.std.proofs.Math.Nat.{add-zero, suc-add, zero-add}
use Rattle.std.proofs.Common.{add-suc}
use Rattle.method_spec.specs.Prog.{Prog}
use Rattle.method_spec.specs.Answer.{Structure}
use Rattle.method_spec.specs.Outcome.{Outcome}
use Rattle.bucket_call_spec.specs.Fetch.{Going, Round, on, shut, fetch_round, fetch_rounds}

-- ---- fetch rounds
module _ (s : Structure) (e k : ℕ) (draw : ℕ → ℕ) where
  abbrev GoingOn : Type 0
  GoingOn = Going → Prog ℕ (Outcome ℕ) → Round (Outcome ℕ)

  unfoldable pub goes_on : Round (Outcome ℕ) → GoingOn → Round (Outcome ℕ)
  goes_on (shut m g) f = shut m g
  goes_on (on g q) f = f g q

  pub fetches-none : (i : ℕ) (p : Prog ℕ (Outcome ℕ)) (g : Going) → fetch_rounds s e k draw 0 i p g ≡ on g p
  unfolding fetch_rounds
  fetches-none i p g = refl

  pub fetches-next : (n i : ℕ) (p : Prog ℕ (Outcome ℕ)) (g : Going)
      → fetch_rounds s e k draw (suc n) i p g ≡ goes_on (fetch_round s e k (draw i) p g) (λ h q. fetch_rounds s e k draw n (suc i) q h)
  unfolding fetch_rounds goes_on
  fetches-next n i p g = go (fetch_round s e k (draw i) p g) refl
    where
      go : (x : Round (Outcome ℕ)) → fetch_round s e k (draw i) p g ≡ x
          → fetch_rounds s e k draw (suc n) i p g ≡ goes_on x (λ h q. fetch_rounds s e k draw n (suc i) q h)
      go (shut m h) x = rw (x, fetch_rounds)
      go (on h q) x = rw (x, fetch_rounds)

  pub fetches-split : (a b i : ℕ) (p : Prog ℕ (Outcome ℕ)) (g : Going)
      → fetch_rounds s e k draw (a + b) i p g ≡ goes_on (fetch_rounds s e k draw a i p g) (λ h q. fetch_rounds s e k draw b (i + a) q h)
  unfolding goes_on
  fetches-split zero b i p g =
      rw (fetches-none i p g, zero-add b, add-zero i)
  fetches-split (suc a) b i p g =
      rw (suc-add a b, fetches-next (a + b) i p g, fetches-next a i p g) (go (λ h q. fetches-split a b (suc i) q h) (fetch_round s e k (draw i) p g))
    where
      go : ((h : Going) (q : Prog ℕ (Outcome ℕ))
          → fetch_rounds s e k draw (a + b) (suc i) q h ≡ goes_on (fetch_rounds s e k draw a (suc i) q h) (λ h q. fetch_rounds s e k draw b (suc i + a) q h))
          → (x : Round (Outcome ℕ))
          → goes_on x (λ h q. fetch_rounds s e k draw (a + b) (suc i) q h)
          ≡ goes_on (goes_on x (λ h q. fetch_rounds s e k draw a (suc i) q h)) (λ h q. fetch_rounds s e k draw b (i + suc a) q h)
      go more (shut m h) = refl
      go more (on h q) = rw (add-suc i a, ← suc-add i a) (more h q)
