-- Causes of a refusal, and the first of them that is met. A cause is looked up by its number, wherever it stands: so another one, put among them,
-- touches none of these laws and none that cites them.
use Rattle.std.specs.Prelude.{ℕ, ◌≡◌, refl, Bool, true, false, ◌⊎◌, List, [], ◌∷◌, eqb}
use Rattle.std.proofs.Common.{inl, inr, arith}
use Rattle.std.proofs.Math.Option.{Option, none, some}
use Rattle.list_spec.specs.Choice.{pick}
use Rattle.list_laws.specs.ChoiceLaws.{pick-both}
use Rattle.call_spec.specs.Store.{Check, first_met}

-- ---- definitions
-- Whether the cause of that number is met, the first of that number; false where there is none.
abbrev pub met_of : ℕ → List Check → Bool
met_of n [] = false
met_of n (c ∷ cs) = pick (eqb c.number n) c.met (met_of n cs)

-- A test that every cause's number passes.
abbrev pub all_numbers : (ℕ → Bool) → List Check → Bool
all_numbers test [] = true
all_numbers test (c ∷ cs) = pick (test c.number) (all_numbers test cs) false

-- A number is that of a cause that is met.
abbrev pub OneOf : ℕ → List Check → Type 0
OneOf n [] = ⊥
OneOf n (c ∷ cs) = ((n ≡ c.number) × (c.met ≡ true)) ⊎ OneOf n cs

-- ---- laws
-- Where none is met, no cause is.
none-at : (met : Bool) (m n : ℕ) (first : Option ℕ) (later : Bool) → (first ≡ none → later ≡ false) → pick met (some m) first ≡ none
    → pick (eqb m n) met later ≡ false
none-at true m n first later h e = let z : ◌≡◌ {A = ℕ} 0 1 = cc in absurd (omega arith)
none-at false m n first later h e = go (eqb m n)
  where
    go : (same : Bool) → pick same false later ≡ false
    go true = refl
    go false = h e

pub none-met : (n : ℕ) (cs : List Check) → first_met cs ≡ none → met_of n cs ≡ false
unfolding first_met
none-met n [] e = refl
none-met n (c ∷ cs) e = none-at c.met c.number n (first_met cs) (met_of n cs) (none-met n cs) e

-- The first that is met is one of them.
one_at : (met : Bool) (m n : ℕ) (first : Option ℕ) (Later : Type 0) → (first ≡ some n → Later) → pick met (some m) first ≡ some n
    → ((n ≡ m) × (met ≡ true)) ⊎ Later
one_at true m n first Later h e = let same : n ≡ m = cc in inl (same, refl)
one_at false m n first Later h e = inr (h e)

pub first_one : (n : ℕ) (cs : List Check) → first_met cs ≡ some n → OneOf n cs
unfolding first_met
first_one n [] e = let z : ◌≡◌ {A = ℕ} 0 1 = cc in absurd (omega arith)
first_one n (c ∷ cs) e = one_at c.met c.number n (first_met cs) (OneOf n cs) (first_one n cs) e

pub first_passes : (test : ℕ → Bool) (n : ℕ) (cs : List Check) → all_numbers test cs ≡ true → first_met cs ≡ some n → test n ≡ true
first_passes test n cs all e = go cs all (first_one n cs e)
  where
    go : (ds : List Check) → all_numbers test ds ≡ true → OneOf n ds → test n ≡ true
    go [] h x = absurd x
    go (d ∷ ds) h (inl x) = rw x.0 (pick-both (test d.number) (all_numbers test ds) h).0
    go (d ∷ ds) h (inr x) = go ds (pick-both (test d.number) (all_numbers test ds) h).1 x
