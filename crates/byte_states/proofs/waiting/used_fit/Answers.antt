-- `byte_states::waiting::used_fit` meets its contract. The invariant: the first i slots are looked at.
use Rattle.std.proofs.Common.{sym, arith}
use Rattle.stash.specs.LookLaws.{looked-none, used-passes}
use Rattle.byte_states.specs.PlacesFit.{state_of}
use Rattle.byte_states.specs.PlacesFitLaws.{slot-fails, slot-passes}
use Rattle.byte_states.proofs.waiting.used_fit.Goals as goal

pub loop-i-init : goal.loop-i-init
loop-i-init c = looked-none (state_of c.args.h c.args.slots.now)

pub returns-in_default : goal.returns-in_default
returns-in_default c =
    let l = c.loop-i in
    let p = c.least_after in
    sym (slot-fails c.args.h c.args.slots.now c.requires.0 l.i l.least p.result l.invariant (omega (arith, c.loop-i-test.true, c.from-i-end.ensures)) (rw c.from.ensures at p.ensures) c.in_default.not-Some)

pub loop-i-preserved : goal.loop-i-preserved
loop-i-preserved c =
    let l = c.loop-i in
    let p = c.least_after in
    slot-passes c.args.h c.args.slots.now c.requires.0 l.i l.least p.result l.invariant (omega (arith, c.loop-i-test.true, c.from-i-end.ensures)) (rw c.from.ensures at p.ensures) c.in-Some.next c.in-Some.is

pub returns : goal.returns
returns c =
    let l = c.loop-i in
    sym (used-passes (state_of c.args.h c.args.slots.now) l.i l.least l.invariant (omega (arith, c.loop-i-test.false, c.from-i-end.ensures)))
