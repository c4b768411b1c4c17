-- Which cause of a refusal a call meets first, or none: `checks` taken apart once.
use Rattle.std.specs.Prelude.{ℕ, ◌≤◌, ◌≡◌, true, false, ◌⊎◌, List, eqb, length}
use Rattle.std.proofs.Math.Path.{refl}
use Rattle.std.proofs.Common.{inl, inr, eqb-true, ltb-false, le-leb}
use Rattle.std.proofs.Math.Option.{none, some}
use native.Mathlib.Omega.{arith}
use Rattle.std.proofs.lemmas.Bool.{eqb-false, not-true, not-false}
use Rattle.slot_spec.specs.Tree.{tree_length}
use Rattle.method_spec.specs.Answer.{Structure, Op}
use Rattle.method_spec.specs.Rounds.{rounds, draws}
use Rattle.bucket_call_spec.specs.Fetch.{CallLeft}
use Rattle.bucket_call_spec.specs.Call.{draw_of, bucket_call}
use Rattle.bucket_call_spec.specs.Peak.{call_peak}
use Rattle.state_spec.specs.declared.State.{State}
use Rattle.state_spec.specs.Fit.{fits}
use Rattle.state_spec.specs.Ticket.{op_in, structure_of, out_of_keys}
use Rattle.call_spec.specs.Store.{Ended, store_of, refusing, ending, by_rounds, Check, asks_nothing, checks, first_met, called}
use Rattle.check_laws.specs.Causes.{OneOf, none-met, first_one}
use Rattle.check_laws.specs.Decided.{decided-both}
use Rattle.demand_spec.specs.History.{changes_nothing}

-- The refusals above 10 that change nothing: 17 and 19.
abbrev pub Later : ℕ → Type 0
Later n = (n ≡ 17) ⊎ (n ≡ 19)

-- The refusals that what a call brings decides: 4 to 7, 17 and 19.
abbrev pub IllBrought : ℕ → Type 0
IllBrought n = ((4 ≤ n) × (n ≤ 7)) ⊎ Later n

pub ill-changes : (n : ℕ) → IllBrought n → changes_nothing n ≡ true
ill-changes n (inl h) = rw (le-leb n 7 h.1)
ill-changes n (inr (inl h)) = rw h
ill-changes n (inr (inr h)) = rw h

module _ (st : Structure) (s : State) (tree ticket tape trace : List ℕ) where
  -- What the rounds of the call of that ticket leave.
  abbrev pub left_by : Op st → CallLeft
  left_by op = bucket_call s.size (rounds st s.size) op (draw_of s.size tape) (store_of s tree)

  -- Their peak.
  abbrev pub peak_by : Op st → ℕ
  peak_by op = call_peak s.size (rounds st s.size) op (draw_of s.size tape) (store_of s tree)

  -- What a call comes to: refusal 1, 2 or 3, one that what it brings decides, or, on a fit state and a tree of its size, the
  -- rounds, with a key for what it stores and a tape for its draws.
  pub data Verdict (e : Ended) : Type 0 where
    closed : (s.mark ≡ 0 → ⊥) → e ≡ refusing 1 s tree trace → Verdict e
    unfit : fits s ≡ false → e ≡ refusing 2 s tree trace → Verdict e
    other-tree : (length tree ≡ tree_length s.size → ⊥) → e ≡ refusing 3 s tree trace → Verdict e
    ill-brought : (n : ℕ) → IllBrought n → e ≡ refusing n s tree trace → Verdict e
    counts : fits s ≡ true → length tree ≡ tree_length s.size → (op : Op st) → op_in st ticket ≡ some op
        → out_of_keys op s.ahead.key ≡ false → draws st s.size ≤ length tape → e ≡ ending s trace (left_by op) (peak_by op) → Verdict e

  abbrev causes : List Check
  causes = checks st s tree ticket tape trace (op_in st ticket)

  asks : first_met causes ≡ none → asks_nothing (op_in st ticket) ≡ false
  unfolding checks
  asks none_is = none-met 5 causes none_is

  -- One clause for each cause, in their order.
  by-cause : (n : ℕ) → OneOf n causes → Verdict (refusing n s tree trace)
  unfolding checks
  by-cause n (inl x) = rw x.0 (closed (eqb-false s.mark 0 (not-true (eqb s.mark 0) x.1)) refl)
  by-cause n (inr (inl x)) = rw x.0 (unfit (not-true (fits s) x.1) refl)
  by-cause n (inr (inr (inl x))) =
      rw x.0 (other-tree (eqb-false (length tree) (tree_length s.size) (not-true (eqb (length tree) (tree_length s.size)) x.1)) refl)
  by-cause n (inr (inr (inr (inl x)))) = ill-brought n (inl (omega arith, omega arith)) refl
  by-cause n (inr (inr (inr (inr (inl x))))) = ill-brought n (inl (omega arith, omega arith)) refl
  by-cause n (inr (inr (inr (inr (inr (inl x)))))) = ill-brought n (inr (inr x.0)) refl
  by-cause n (inr (inr (inr (inr (inr (inr (inl x))))))) = ill-brought n (inr (inl x.0)) refl
  by-cause n (inr (inr (inr (inr (inr (inr (inr (inl x)))))))) = ill-brought n (inl (omega arith, omega arith)) refl
  by-cause n (inr (inr (inr (inr (inr (inr (inr (inr (inl x))))))))) = ill-brought n (inl (omega arith, omega arith)) refl
  by-cause n (inr (inr (inr (inr (inr (inr (inr (inr (inr x))))))))) = absurd x

  by-rounds : (op : Op st) → first_met causes ≡ none → op_in st ticket ≡ some op → Verdict (by_rounds st op s tree tape trace)
  unfolding checks
  by-rounds op none_is asked =
      counts (not-false (fits s) (none-met 2 causes none_is))
      (eqb-true (length tree) (tree_length s.size) (not-false (eqb (length tree) (tree_length s.size)) (none-met 3 causes none_is))) op asked
      (rw asked at (none-met 17 causes none_is)) (ltb-false (length tape) (draws st s.size) (none-met 6 causes none_is)) refl

  -- The verdict on a call of a state of that structure.
  pub verdict : structure_of s.structure ≡ st → Verdict (called s tree ticket tape trace)
  unfolding called
  verdict e =
      rw e
      (decided-both (λ (x y : Ended). Verdict x) {refused' = λ n. refusing n s tree trace} {ended' = λ op. by_rounds st op s tree tape trace} (first_met causes)
      (op_in st ticket) asks (λ n first. by-cause n (first_one n causes first)) by-rounds)
