-- A call on a state: refused by it, or made by the core over its head and the row of its waiting nodes.
use Rattle.std.specs.Prelude.{◌≡◌, refl, Bool, true, false, ◌⊎◌, Result, Ok, Err, List, ℕ}
use Rattle.std.proofs.Common.{sym, ◌∙◌, ap, inl, inr, arith}
use Rattle.state_spec.specs.declared.State.{State}
use Rattle.state_spec.specs.Fit.{fits, places_fit, head_fits}
use Rattle.state_laws.specs.FitLaws.{fits-parts}
use Rattle.call_spec.specs.declared.Called.{Called}
use Rattle.call_spec.specs.declared.Refusal.{Refusal}
use Rattle.call_spec.specs.Reply.{number_of, refusal_number}
use Rattle.call_spec.specs.Store.{refusing, called, call_ended_as}
use Rattle.stash.specs.Stash.{Loaded, saved}
use Rattle.stash_laws.specs.Waiting.{waiting_in}
use Rattle.call_ending.specs.declared.Ran.{Ran}
use Rattle.call_core.specs.Run.{head_of, StandsFor, CallsAs}
use Rattle.fitness.specs.Refusal.{head_refusal}
use Rattle.fitness.specs.RefusalLaws.{by-head}
use Rattle.call_core.specs.CallLaws.{refused-1, refused-2}

module _ (s : State) where
  abbrev head : Bool
  head = head_fits s.structure s.size s.entries s.count s.root s.ahead

  unfit-head : head ≡ false → fits s ≡ false
  unfit-head e = fits-parts s ∙ rw e

  -- The number with which the head is refused.
  abbrev number : ℕ
  number = head_refusal s.mark s.structure s.size s.entries s.count s.root s.ahead

  pub head_passed : number ≡ 0 → (s.mark ≡ 0) × (head ≡ true)
  head_passed e = go (by-head s.mark s.structure s.size s.entries s.count s.root s.ahead)
    where
      go : ((s.mark ≡ 0 → ⊥) × (number ≡ 1)) ⊎ (((s.mark ≡ 0) × ((head ≡ false) × (number ≡ 2))) ⊎ ((s.mark ≡ 0) × ((head ≡ true) × (number ≡ 0))))
          → (s.mark ≡ 0) × (head ≡ true)
      go (inl x) = let z : ⊥ = omega (arith, x.1, e) in absurd z
      go (inr (inl x)) = let z : ⊥ = omega (arith, x.1.1, e) in absurd z
      go (inr (inr x)) = (x.0, x.1.0)

  module _ (good : head ≡ true) where
    pub fit-by-places : {b : Bool} → places_fit s ≡ b → fits s ≡ b
    fit-by-places e = fits-parts s ∙ rw good e

    pub stands : {row : List ℕ} → s.mark ≡ 0 → places_fit s ≡ true → Loaded s row s.count → StandsFor s (head_of s) row
    stands unmarked e loaded = record { head = refl; not-closed = unmarked; fit = fit-by-places e; loaded = loaded }

  module _ (tree ticket tape trace : List ℕ) where
    pub refuses : (n : Refusal) → called s tree ticket tape trace ≡ refusing (number_of n) s tree trace
        → call_ended_as (record { state = s; reply = Err n; leaves = 0; peak = 0 }) tree trace ≡ called s tree ticket tape trace
    refuses n h = sym h

    -- The head is refused, with its number.
    pub head-refused : (number ≡ 0 → ⊥) → called s tree ticket tape trace ≡ refusing number s tree trace
    head-refused h = go (by-head s.mark s.structure s.size s.entries s.count s.root s.ahead)
      where
        go : ((s.mark ≡ 0 → ⊥) × (number ≡ 1)) ⊎ (((s.mark ≡ 0) × ((head ≡ false) × (number ≡ 2))) ⊎ ((s.mark ≡ 0) × ((head ≡ true) × (number ≡ 0))))
            → called s tree ticket tape trace ≡ refusing number s tree trace
        go (inl x) = rw x.1 (refused-1 s tree ticket tape trace x.0)
        go (inr (inl x)) = rw x.1.1 (refused-2 s tree ticket tape trace x.0 (unfit-head x.1.0))
        go (inr (inr x)) = absurd (h x.1.1)

    module _ {row row' tree' trace' : List ℕ} (st : StandsFor s (head_of s) row) (r : Ran)
        (made : CallsAs (head_of s) row tree ticket tape trace row' tree' trace' (Ok r)) where
      -- It made its rounds, and what it left is saved.
      pub changed : {left : State} → left ≡ saved s.structure s.size r.mark r.entries r.root r.ahead (waiting_in r.waiting row')
          → call_ended_as (record { state = left; reply = r.reply; leaves = r.leaves; peak = r.peak }) tree' trace' ≡ called s tree ticket tape trace
      changed saved-so = ap (λ (x : State). call_ended_as (record { state = x; reply = r.reply; leaves = r.leaves; peak = r.peak }) tree' trace') saved-so ∙ made.calls s st

    -- The core refused.
    pub kept : {row row' tree' trace' : List ℕ} → StandsFor s (head_of s) row → (n : Refusal) → CallsAs (head_of s) row tree ticket tape trace row' tree' trace' (Err n)
        → call_ended_as (record { state = s; reply = Err n; leaves = 0; peak = 0 }) tree' trace' ≡ called s tree ticket tape trace
    kept st n made = made.calls s st
