-- The first cause that is met, with one cause left out: it is the same, or the one left out was the first. Of any causes and any number.
use Rattle.std.specs.Prelude.{ℕ, ◌≡◌, refl, Bool, true, false, ◌⊎◌, List, [], ◌∷◌, eqb}
use Rattle.std.proofs.Common.{ap, inl, inr, arith, eqb-true}
use Rattle.std.proofs.Math.Option.{none, some}
use Rattle.list_spec.specs.Choice.{pick}
use Rattle.call_spec.specs.Store.{Check, cause, first_met}
use Rattle.check_laws.specs.Causes.{met_of}
use Rattle.promise_spec.specs.AsBefore.{without}
use Rattle.promise_spec.specs.UnusedFields.{checked_before}

-- A cause that is met, where none before it is, is the first.
pub first-is : (n : ℕ) (cs : List Check) → first_met (checked_before n cs) ≡ none → met_of n cs ≡ true → first_met cs ≡ some n
unfolding first_met checked_before
first-is n [] passed met = let z : ◌≡◌ {A = ℕ} 0 1 = cc in absurd (omega arith)
first-is n (c ∷ cs) passed met = go (first-is n cs) (eqb c.number n) refl c.met passed met
  where
    go : (first_met (checked_before n cs) ≡ none → met_of n cs ≡ true → first_met cs ≡ some n) → (same : Bool) → eqb c.number n ≡ same → (b : Bool)
        → first_met (pick same [] (cause c.number b ∷ checked_before n cs)) ≡ none → pick same b (met_of n cs) ≡ true
        → pick b (some c.number) (first_met cs) ≡ some n
    go later true e true p m = ap some (eqb-true c.number n e)
    go later true e false p m = let z : ◌≡◌ {A = ℕ} 0 1 = cc in absurd (omega arith)
    go later false e true p m = let z : ◌≡◌ {A = ℕ} 0 1 = cc in absurd (omega arith)
    go later false e false p m = later p m

abbrev pub Either : ℕ → List Check → Type 0
Either n cs = (first_met cs ≡ first_met (without n cs)) ⊎ ((first_met (checked_before n cs) ≡ none) × (met_of n cs ≡ true))

pub either_way : (n : ℕ) (cs : List Check) → Either n cs
unfolding first_met without checked_before
either_way n [] = inl refl
either_way n (c ∷ cs) = go (either_way n cs) (eqb c.number n) c.met
  where
    go : Either n cs → (same b : Bool)
        → (pick b (some c.number) (first_met cs) ≡ first_met (pick same cs (cause c.number b ∷ without n cs)))
        ⊎ ((first_met (pick same [] (cause c.number b ∷ checked_before n cs)) ≡ none) × (pick same b (met_of n cs) ≡ true))
    go later true true = inr (refl, refl)
    go later true false = inl refl
    go later false true = inl refl
    go later false false = later

-- Where it is not met, it can be left out.
pub left_out : (n : ℕ) (cs : List Check) → met_of n cs ≡ false → first_met cs ≡ first_met (without n cs)
left_out n cs unmet = go (either_way n cs)
  where
    go : Either n cs → first_met cs ≡ first_met (without n cs)
    go (inl e) = e
    go (inr h) = let met = h.1 in let z : ◌≡◌ {A = ℕ} 0 1 = cc in absurd (omega arith)
