-- Which number the head of a state is refused with, and what it says of the head.
use Rattle.std.specs.Prelude.{◌≡◌, refl, Bool, true, false, ◌⊎◌, ℕ, eqb}
use Rattle.std.proofs.Common.{inl, inr, eqb-true, eq-eqb, ne_eqb}
use Rattle.std.proofs.lemmas.Bool.{eqb-false}
use Rattle.slot_spec.specs.declared.Link.{Link}
use Rattle.slot_spec.specs.declared.Ahead.{Ahead}
use Rattle.state_spec.specs.Fit.{head_fits}
use Rattle.fitness.specs.Refusal.{head_refusal}

module _ (mark structure size entries count : ℕ) (root : Link) (ahead : Ahead) where
  abbrev fit : Bool
  fit = head_fits structure size entries count root ahead

  abbrev number : ℕ
  number = head_refusal mark structure size entries count root ahead

  pub closed-head : (mark ≡ 0 → ⊥) → number ≡ 1
  unfolding head_refusal
  closed-head h = rw (ne_eqb mark 0 h)

  pub open-head : mark ≡ 0 → fit ≡ true → number ≡ 0
  unfolding head_refusal
  open-head m h = rw (eq-eqb mark 0 m, h)

  pub unfit-head : mark ≡ 0 → fit ≡ false → number ≡ 2
  unfolding head_refusal
  unfit-head m h = rw (eq-eqb mark 0 m, h)

  -- By the mark and the test.
  pub by-head : ((mark ≡ 0 → ⊥) × (number ≡ 1)) ⊎ (((mark ≡ 0) × ((fit ≡ false) × (number ≡ 2))) ⊎ ((mark ≡ 0) × ((fit ≡ true) × (number ≡ 0))))
  by-head = go (eqb mark 0) fit refl refl
    where
      go : (unmarked good : Bool) → eqb mark 0 ≡ unmarked → fit ≡ good
          → ((mark ≡ 0 → ⊥) × (number ≡ 1)) ⊎ (((mark ≡ 0) × ((fit ≡ false) × (number ≡ 2))) ⊎ ((mark ≡ 0) × ((fit ≡ true) × (number ≡ 0))))
      go false good p q = let h = eqb-false mark 0 p in inl (h, closed-head h)
      go true false p q = let h = eqb-true mark 0 p in inr (inl (h, (q, unfit-head h q)))
      go true true p q = let h = eqb-true mark 0 p in inr (inr (h, (q, open-head h q)))
