use mathlib.Core.Path.{refl, ap}
use Rattle.leaf_spec.specs.Convert.{to_node}
use Rattle.heap_rising.specs.RisingLaws.{rise-level, rise-end}
use native.Mathlib.Omega.{arith}
use Rattle.heap_rising.proofs.rise.Goals as goal

pub loop-i-preserved : goal.loop-i-preserved
loop-i-preserved c =
    λ count. rise-level _ _ (to_node c.args.n) (rw c.requires.turns at c.requires.few) (c.loop-i.invariant count) (omega arith) (omega arith) (omega arith)
    (ap to_node c.node_at.ensures) c.goes_left.ensures c.lift-r.ensures c.set_node.ensures.0 c.set_node.ensures.1

pub returns : goal.returns
returns c =
    λ count. rise-end _ _ (to_node c.args.n) (rw c.requires.turns at c.requires.few) (c.loop-i.invariant count) (omega arith) (omega arith) refl c.set_node-2.ensures.0 c.set_node-2.ensures.1
