use Rattle.node_rows.specs.HeldLaws.{lists-node, lists-then}
use native.Mathlib.Omega.{arith}
use Rattle.heap_spans.proofs.list_first.Goals as goal

pub returns : goal.returns
returns c =
    let a = c.args in
    let node = c.set_node in
    lists-then a.made.now a.count (lists-node a.made.now c.told-made a.count (omega (arith, c.requires.2)) node.ensures.0 node.ensures.1) c.list_span.ensures
