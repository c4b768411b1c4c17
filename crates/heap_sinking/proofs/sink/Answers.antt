use mathlib.Core.Path.{◌∙◌, ap}
use Prim.Native.Nat.{◌+◌, ◌-◌}
use native.Mathlib.Omega.{arith}
use Rattle.method_spec.specs.Node.{with_value}
use Rattle.operations.specs.ResumeLaws.{handed-on}
use Rattle.heap_sinking.specs.SinkLaws.{sink-start, sink-missing, sink-turn, sink_ends, sink-last}
use Rattle.heap_sinking.proofs.sink.Goals as goal

pub loop-init : goal.loop-init
loop-init c = let a = c.args in sink-start _ _ a.value a.way.depth a.made.now (omega arith) c.requires.0.turns c.requires.2 c.requires.3 c.told-made

pub returns-in_err-r : goal.returns-in_err-r
returns-in_err-r c =
    handed-on _ _ c.from_residual.result c.from_residual.ensures
    (sink-missing _ _ c.args.value c.loop.invariant (c.args.way.depth - (c.loop.counter + 1)) (omega arith) c.in_err-r.field-0.0 c.in_err-r.ensures)

pub returns-in_default : goal.returns-in_default
returns-in_default c =
    sink_ends _ _ c.args.value c.loop.invariant (c.args.way.depth - (c.loop.counter + 1)) (omega arith) c.in_ok-r.ensures c.in_default.is

pub loop-preserved : goal.loop-preserved
loop-preserved c =
    sink-turn _ _ c.args.value c.loop.invariant (c.args.way.depth - (c.loop.counter + 1)) (omega arith) c.in_ok-r.ensures c.in-Some.is

pub returns : goal.returns
returns c =
    sink-last _ _ c.args.value c.loop.invariant (omega arith) (c.with_value-n.ensures ∙ ap (with_value c.args.value) c.node_in.ensures)
    (rw c.below_first.ensures at c.list_first-all.ensures) c.requires.1
