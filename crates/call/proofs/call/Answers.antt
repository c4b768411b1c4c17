-- `call` meets its contract. Two loops look at the places and load them, the third saves them.
use mathlib.Core.Path.{◌≡◌, refl, sym, ◌∙◌, ap, ap₂, subst}
use mathlib.Core.Bool.{true, false}
use mathlib.Core.List.{List}
use Prim.Native.Nat.{ℕ, ◌+◌, ◌*◌, ◌≤◌}
use lib.ListN.{length}
use borrow.Author.Rules.{rules}
use native.Mathlib.Omega.{arith}
use Rattle.state_spec.specs.declared.State.{State}
use Rattle.state_spec.specs.Fit.{places_fit, head_fits}
use Rattle.fitness.specs.Refusal.{head_refusal}
use Rattle.std.specs.Prelude.{Result, Ok, Err}
use Rattle.call_spec.specs.declared.Refusal.{Refusal}
use Rattle.call_spec.specs.declared.Refusal.TheVariants.{Unfit}
use Rattle.call_spec.specs.Reply.{number_of, refusal_number}
use Rattle.fitness.specs.declared.Head.{Head}
use Rattle.call_spec.specs.Store.{refusing, called, call_ended_as}
use Rattle.state_laws.specs.FitLaws.{head-true}
use Rattle.stash.specs.Stash.{PlaceLoaded}
use Rattle.stash.specs.StashLaws.{LoadedTo, loaded-none, loaded-more, loaded-all}
use Rattle.word_round_laws.specs.SlotRowLaws.{zeros-blank}
use Rattle.stash.specs.LookLaws.{LookedAt, at, looked-none, used-unfit, used-fails, unused-unfit, used-more, unused-more, looked-all}
use Rattle.stash.specs.SaveLaws.{saved-more, saved-all}
use Rattle.call_ending.specs.declared.Ran.{Ran}
use Rattle.call_core.specs.Run.{head_of, StandsFor, CallsAs}
use Rattle.call_core.specs.RunLaws.{number-some}
use Rattle.call_core.specs.CallLaws.{refused-2}
use Rattle.call.specs.CallLaws.{head_passed, head-refused, fit-by-places, stands, refuses, kept, changed}
use Rattle.call.proofs.call.Goals as goal

-- What is known once the head was passed.
module _ (s : State) {r : Result Unit Refusal} (e : refusal_number r ≡ head_refusal s.mark s.structure s.size s.entries s.count s.root s.ahead) (none : (n : Refusal) → r ≡ Err n → ⊥) where
  passed : (s.mark ≡ 0) × (head_fits s.structure s.size s.entries s.count s.root s.ahead ≡ true)
  passed = head_passed s (sym e ∙ unrefused r none)
    where
      unrefused : (r : Result Unit Refusal) → ((n : Refusal) → r ≡ Err n → ⊥) → refusal_number r ≡ 0
      unrefused (Ok u) none = refl
      unrefused (Err n) none = absurd (none n refl)

  bounds : ((1 ≤ s.size) × (s.size ≤ 8)) × (s.count ≤ 64)
  bounds =
      let h = head-true s.structure s.size s.entries s.count s.root s.ahead passed.1 in
      ((omega (arith, h.sizes), omega (arith, h.sizes)), omega (arith, h.waiting))

  -- Places that do not fit are refused.
  unfit : (tree ticket tape trace : List ℕ) → places_fit s ≡ false
      → call_ended_as (record { state = s; reply = Err Unfit; leaves = 0; peak = 0 }) tree trace ≡ called s tree ticket tape trace
  unfit tree ticket tape trace f =
      refuses s tree ticket tape trace Unfit (refused-2 s tree ticket tape trace passed.0 (fit-by-places s passed.1 f))

  -- The row stands for the state once all its places were looked at and the used ones loaded.
  stand : {i j least : ℕ} {row : List ℕ} → LookedAt s j least → 101 ≤ j → LoadedTo i s.places row → i ≤ s.count → s.count ≤ i
      → StandsFor s (head_of s) row
  stand {i} {j} {least} {row} looked past loaded most few =
      let same : i ≡ s.count = omega arith in
      let fit = looked-all s j least looked past (omega (arith, bounds.1)) in
      stands s passed.1 passed.0 fit
      (loaded-all s row s.count (subst (λ (k : ℕ). LoadedTo k s.places row) same loaded) refl)

-- The head is refused, with its number.
head-told : (s : State) (tree ticket tape trace : List ℕ) {r : Result Unit Refusal} (n : Refusal)
    → refusal_number r ≡ head_refusal s.mark s.structure s.size s.entries s.count s.root s.ahead → r ≡ Err n
    → call_ended_as (record { state = s; reply = Err n; leaves = 0; peak = 0 }) tree trace ≡ called s tree ticket tape trace
head-told s tree ticket tape trace n e is =
    let same : number_of n ≡ head_refusal s.mark s.structure s.size s.entries s.count s.root s.ahead = sym (ap refusal_number is) ∙ e in
    refuses s tree ticket tape trace n
    (head-refused s tree ticket tape trace (λ z. number-some n (same ∙ z)) ∙ ap (λ (k : ℕ). refusing k s tree trace) (sym same))

pub returns-in-Err : goal.returns-in-Err
returns-in-Err c =
    let a = c.args in
    head-told a.state a.tree.now a.ticket.now a.tape.now a.trace.now c.in-Err.refusal c.head_refusal.ensures c.in-Err.is

pub loop-i-init : goal.loop-i-init
loop-i-init c =
    let s : State = c.args.state in
    (looked-none s, loaded-none s.places _ refl zeros-blank)

pub bounds-state-i : goal.bounds-state-i
bounds-state-i c = omega (arith, (bounds c.args.state c.head_refusal.ensures c.in_default.not-Err).1)

pub load_place-requires : goal.load_place-requires
load_place-requires c =
    let b = bounds c.args.state c.head_refusal.ensures c.in_default.not-Err in
    (c.loop-i.invariant.1.holds.sized, (omega (arith, b.1), omega (arith, b.0)))

pub returns-then-not-load_place : goal.returns-then-not-load_place
returns-then-not-load_place c =
    let s : State = c.args.state in
    let l = c.loop-i in
    let u = c.load_place in
    unfit s c.head_refusal.ensures c.in_default.not-Err c.args.tree.now c.args.ticket.now
    c.args.tape.now c.args.trace.now
    (used-unfit s
    (used-fails s l.i l.least l.invariant.0 (omega (arith, c.loop-i-test.true, c.from-n.ensures)) (sym (rw c.from-size.ensures at u.ensures.0) ∙ c.if-not-load_place.true)))

pub loop-i-preserved : goal.loop-i-preserved
loop-i-preserved c =
    let s : State = c.args.state in
    let b = bounds c.args.state c.head_refusal.ensures c.in_default.not-Err in
    let l = c.loop-i in
    let u = c.load_place in
    let good = c.if-not-load_place.false in (
      used-more s l.i l.least l.invariant.0 (omega (arith, c.loop-i-test.true, c.from-n.ensures)) (omega (arith, b.1)) (sym (rw c.from-size.ensures at u.ensures.0) ∙ good),
      loaded-more l.i s.places l.w u.new.w l.invariant.1 (omega (arith, b.1, c.loop-i-test.true, c.from-n.ensures))
          (subst (PlaceLoaded l.i (at s l.i) l.w u.new.w) good u.ensures.1),
    )

pub returns-then-not-zero_place : goal.returns-then-not-zero_place
returns-then-not-zero_place c =
    let s : State = c.args.state in
    let l = c.loop-i-2 in
    unfit s c.head_refusal.ensures c.in_default.not-Err c.args.tree.now c.args.ticket.now
    c.args.tape.now c.args.trace.now
    (unused-unfit s l.i c.loop-i.least l.invariant (omega (arith, c.from-n.ensures)) (omega (arith, c.loop-i-2-test.true))
    (sym c.zero_place.ensures ∙ c.if-not-zero_place.true))

pub loop-i-2-preserved : goal.loop-i-2-preserved
loop-i-2-preserved c =
    let l = c.loop-i-2 in
    unused-more c.args.state l.i c.loop-i.least l.invariant (omega (arith, c.from-n.ensures)) (omega (arith, c.loop-i-2-test.true))
    (sym c.zero_place.ensures ∙ c.if-not-zero_place.false)

pub rounds_of-rounds-requires : goal.rounds_of-rounds-requires
rounds_of-rounds-requires c = (bounds c.args.state c.head_refusal.ensures c.in_default.not-Err).0

pub call_row-requires : goal.call_row-requires
call_row-requires c =
    let f = c.rounds_of-rounds.ensures.0 in (
      record {
        state = _;
        for = stand c.args.state c.head_refusal.ensures c.in_default.not-Err
            c.loop-i-2.invariant (omega (arith, c.loop-i-2-test.false)) c.loop-i.invariant.1 (omega (arith, c.from-n.ensures)) (omega (arith, c.loop-i-test.false, c.from-n.ensures));
      },
      (f, ap₂ (λ (f d : ℕ). 2 * f + d) f c.spare_of.ensures.0),
    )

pub returns-in-Err-call_row : goal.returns-in-Err-call_row
returns-in-Err-call_row c =
    let a = c.args in
    kept a.state a.tree.now a.ticket.now a.tape.now a.trace.now (stand c.args.state c.head_refusal.ensures c.in_default.not-Err
    c.loop-i-2.invariant (omega (arith, c.loop-i-2-test.false)) c.loop-i.invariant.1 (omega (arith, c.from-n.ensures)) (omega (arith, c.loop-i-test.false, c.from-n.ensures))) c.in-Err-call_row.refusal
    (rw c.in-Err-call_row.is at c.call_row.ensures)

pub loop-j-preserved : goal.loop-j-preserved
loop-j-preserved c =
    let s : State = c.args.state in
    let b = bounds c.args.state c.head_refusal.ensures c.in_default.not-Err in
    let st = stand c.args.state c.head_refusal.ensures c.in_default.not-Err
    c.loop-i-2.invariant (omega (arith, c.loop-i-2-test.false)) c.loop-i.invariant.1 (omega (arith, c.from-n.ensures)) (omega (arith, c.loop-i-test.false, c.from-n.ensures)) in
    let l = c.loop-j in
    let r : Ran = c.in-Ok.r in
    let made : CallsAs (head_of c.args.state) _ _ _ _ _ _ _ _ (Ok r) = rw c.in-Ok.is at c.call_row.ensures in
    let sized : length s.places ≡ 101 = search rules in
    let in-places : c.max-end.result ≤ 101 = omega (arith, c.max-end.ensures, b.1, made.waits.few, c.from-n.ensures) in
    saved-more r.waiting _ made.waits s st.fit sized l.j l.left c.saved_place.result
    (omega (arith, c.loop-j-test.true, in-places)) l.invariant c.saved_place.ensures

pub returns : goal.returns
returns c =
    let a = c.args in
    let b = bounds c.args.state c.head_refusal.ensures c.in_default.not-Err in
    let st = stand c.args.state c.head_refusal.ensures c.in_default.not-Err
    c.loop-i-2.invariant (omega (arith, c.loop-i-2-test.false)) c.loop-i.invariant.1 (omega (arith, c.from-n.ensures)) (omega (arith, c.loop-i-test.false, c.from-n.ensures)) in
    let l = c.loop-j in
    let r : Ran = c.in-Ok.r in
    let made : CallsAs (head_of c.args.state) _ _ _ _ _ _ _ _ (Ok r) = rw c.in-Ok.is at c.call_row.ensures in
    let sized : length a.state.places ≡ 101 = search rules in
    let in-places : c.max-end.result ≤ 101 = omega (arith, c.max-end.ensures, b.1, made.waits.few, c.from-n.ensures) in
    changed a.state a.tree.now a.ticket.now a.tape.now a.trace.now st r made
    (saved-all r.waiting _ made.waits a.state st.fit sized l.j l.left r.mark r.entries r.root
    r.ahead l.invariant (omega (arith, c.loop-j-test.false, c.max-end.ensures)) (omega (arith, c.loop-j-test.false, c.max-end.ensures, c.from-n.ensures)) (omega (arith, in-places)))
