-- `idle_rounds::idle::idle_rounds` meets its contract: round by round.
use Rattle.std.proofs.Common.{refl, sym, ◌∙◌, arith}
use Rattle.bucket_call_spec.specs.Call.{draw_of}
use Rattle.round_close.specs.Fault.{fault-marks, no-fault}
use Rattle.round_close.specs.MaxLaws.{greater_is}
use Rattle.idle_rounds.specs.IdleLaws.{idling-begins, idling-ends, idling-shuts, idling-goes, between-ready}
use Rattle.idle_rounds.proofs.idle.idle_rounds.Goals as goal

pub loop-i-init : goal.loop-i-init
loop-i-init c =
    let a = c.args in
    idling-begins a.size a.n (draw_of a.size a.tape.now) a.count a.first a.at a.w.now a.tree.now a.trace.now a.held.now c.requires.0

pub idle_round-r-requires : goal.idle_round-r-requires
idle_round-r-requires c =
    between-ready c.loop-i.invariant.between c.draw_at-leaf.result c.draw_at-leaf.ensures.1.0

pub returns-then-is_some : goal.returns-then-is_some
returns-then-is_some c =
    let a = c.args in
    let draw = c.draw_at-leaf in
    idling-shuts a.size a.n (draw_of a.size a.tape.now) a.count a.first a.at a.w.now a.tree.now a.trace.now a.held.now c.loop-i.invariant c.loop-i-test.true
    draw.ensures.0 draw.ensures.1.0 refl c.idle_round-r.ensures (c.max-peak.ensures ∙ greater_is c.loop-i.peak c.idle_round-r.result.count) (fault-marks c.idle_round-r.result.fault (sym c.is_some.ensures ∙ c.if-is_some.true))

pub loop-i-preserved : goal.loop-i-preserved
loop-i-preserved c =
    let a = c.args in
    let draw = c.draw_at-leaf in
    idling-goes a.size a.n (draw_of a.size a.tape.now) a.count a.first a.at a.w.now a.tree.now a.trace.now a.held.now c.loop-i.invariant c.loop-i-test.true
    draw.ensures.0 draw.ensures.1.0 refl c.idle_round-r.ensures (c.max-peak.ensures ∙ greater_is c.loop-i.peak c.idle_round-r.result.count) (no-fault c.idle_round-r.result.fault (sym c.is_some.ensures ∙ c.if-is_some.false))

pub returns : goal.returns
returns c =
    let a = c.args in
    idling-ends a.size a.n (draw_of a.size a.tape.now) a.count a.first a.at a.w.now a.tree.now a.trace.now a.held.now c.loop-i.invariant (omega (arith, c.loop-i-test.false))
