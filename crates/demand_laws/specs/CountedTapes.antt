-- The tape of a call that counts has all the draws of a call of its store.
use Rattle.std.specs.Prelude.{ℕ, zero, suc, ◌≤◌, refl, Bool, List, [], ◌∷◌, length}
use Rattle.std.proofs.Math.Path.{◌≡◌, sym, ap, subst⁻¹}
use Rattle.std.proofs.Common.{◌∙◌, subst}
use Rattle.std.proofs.Math.Bool.{true, false}
use native.Mathlib.Omega.{arith}
use Rattle.std.proofs.Math.ListN.{get_or-map}
use Rattle.list_spec.specs.Choice.{pick}
use Rattle.list_spec.specs.Distinct.{All}
use Rattle.list_laws.specs.DistinctLaws.{all_nil, all_cons, all_get_d}
use Rattle.method_spec.specs.Rounds.{draws}
use Rattle.method_spec.specs.Answer.{Structure}
use Rattle.method_spec.specs.Origin.{tape_of}
use Rattle.state_spec.specs.Ticket.{structure_of}
use Rattle.call_spec.specs.Store.{Ended, refusing}
use Rattle.demand_spec.specs.History.{Brought, StateAndTree, call_on, left_by, early, counted, tapes_of}
use Rattle.demand_laws.specs.Checks.{Verdict, closed, unfit, other-tree, ill-brought, counts, ill-changes, verdict}

module _ (s : StateAndTree) (b : Brought) where
  abbrev st : Structure
  st = structure_of s.state.structure

  abbrev e : Ended
  e = call_on s b

  abbrev k : ℕ
  k = s.state.size

  -- A call keeps structure and size.
  same_kind : (e.state.structure ≡ s.state.structure) × (e.state.size ≡ s.state.size)
  same_kind = go (verdict st s.state s.tree b.ticket b.tape b.trace refl)
    where
      by : {x : Ended} → e ≡ x → (x.state.structure ≡ s.state.structure) × (x.state.size ≡ s.state.size)
          → (e.state.structure ≡ s.state.structure) × (e.state.size ≡ s.state.size)
      by q h = subst (λ (y : Ended). (y.state.structure ≡ s.state.structure) × (y.state.size ≡ s.state.size)) (sym q) h

      go : Verdict st s.state s.tree b.ticket b.tape b.trace e → (e.state.structure ≡ s.state.structure) × (e.state.size ≡ s.state.size)
      go (closed h q) = by q (refl, refl)
      go (unfit h q) = by q (refl, refl)
      go (other-tree h q) = by q (refl, refl)
      go (ill-brought n h q) = by q (refl, refl)
      go (counts fit sized op asks keyed long q) = by q (refl, refl)

  -- A call that counts has a tape that is long enough.
  long-tape : early e.reply ≡ false → draws st k ≤ length b.tape
  unfolding early
  long-tape late = go (verdict st s.state s.tree b.ticket b.tape b.trace refl)
    where
      refused : (n : ℕ) → e ≡ refusing n s.state s.tree b.trace → early (refusing n s.state s.tree b.trace).reply ≡ true → ⊥
      refused n q quiet =
          let z : true ≡ false = sym quiet ∙ ap (λ (y : Ended). early y.reply) (sym q) ∙ late in
          let y : ◌≡◌ {A = ℕ} 0 1 = cc in omega arith

      go : Verdict st s.state s.tree b.ticket b.tape b.trace e → draws st k ≤ length b.tape
      go (closed h q) = absurd (refused 1 q refl)
      go (unfit h q) = absurd (refused 2 q refl)
      go (other-tree h q) = absurd (refused 3 q refl)
      go (ill-brought n h q) = absurd (refused n q (ill-changes n h))
      go (counts fit sized op asks keyed long q) = long

pub counted-tapes : (st : Structure) (k : ℕ) (s : StateAndTree) → structure_of s.state.structure ≡ st → s.state.size ≡ k → (bs : List Brought)
    → All (λ b. draws st k ≤ length b.tape) (counted s bs)
unfolding counted
counted-tapes st k s is-st is-k [] = all_nil (λ (b : Brought). draws st k ≤ length b.tape)
counted-tapes st k s is-st is-k (b ∷ bs) =
    let same = same_kind s b in
    go (early (call_on s b).reply) refl
    (counted-tapes st k (left_by (call_on s b)) (ap structure_of same.0 ∙ is-st) (same.1 ∙ is-k) bs)
  where
    go : (q : Bool) → early (call_on s b).reply ≡ q → All (λ b. draws st k ≤ length b.tape) (counted (left_by (call_on s b)) bs)
        → All (λ b. draws st k ≤ length b.tape) (pick q (counted (left_by (call_on s b)) bs) (b ∷ counted (left_by (call_on s b)) bs))
    go true q later = later
    go false q later =
        all_cons {P = λ (b : Brought). draws st k ≤ length b.tape} (rw (← is-st, ← is-k) (long-tape s b q)) later

-- By a call's number, from 1.
pub tape-long : (n : ℕ) (cs : List Brought) → All (λ b. n ≤ length b.tape) cs → (c : ℕ) → 1 ≤ c → c ≤ length cs → n ≤ length (tape_of (tapes_of cs) c)
tape-long n cs long zero some few = let z : ⊥ = omega arith in absurd z
tape-long n cs long (suc c) some few =
    let none : Brought = record { ticket = []; tape = []; trace = [] } in
    subst⁻¹ (λ (t : List ℕ). n ≤ length t) (get_or-map (λ (b : Brought). b.tape) cs c none) (all_get_d cs long c none (omega arith))
