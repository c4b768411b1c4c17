use Rattle.method_spec.specs.Heap.{way_to}
use Rattle.node_rows.specs.Held.{held_in}
use Rattle.node_rows.specs.HeldLaws.{held-room}
use Rattle.operations.specs.ResumeLaws.{handed-on}
use Rattle.heap_sinking.specs.SinkLaws.{turn-missing, turn-passes}
use Rattle.heap_sinking.proofs.turn.Goals as goal

pub returns-in_err-c : goal.returns-in_err-c
returns-in_err-c c =
    let a = c.args in
    handed-on _ _ c.from_residual.result c.from_residual.ensures
    (turn-missing (held_in a.held.now a.count) (way_to a.way.position) a.value a.span a.next a.done a.made.now (held-room a.held.now c.told-held a.count c.requires.1)
    (rw c.requires.0.turns at c.requires.2) (rw (c.node_in-n.ensures, c.goes_left.ensures, c.below_first.ensures) at c.in_err-c.ensures))

pub returns : goal.returns
returns c =
    let a = c.args in
    turn-passes (held_in a.held.now a.count) (way_to a.way.position) a.value a.span a.next a.done a.made.now (held-room a.held.now c.told-held a.count c.requires.1) c.requires.1
    (rw c.requires.0.turns at c.requires.2) (rw (c.node_in-n.ensures, c.goes_left.ensures, c.below_first.ensures) at c.in_ok-c.ensures)
    (rw c.node_in-n.ensures at c.pass.ensures)
