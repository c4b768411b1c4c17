use Rattle.operations.specs.ResumeLaws.{handed-on}
use Rattle.heap_children.specs.ChildLaws.{children-missing, children_waiting, children-both}
use Rattle.heap_children.proofs.children_of.Goals as goal

pub returns-in_err-a : goal.returns-in_err-a
returns-in_err-a c =
    handed-on _ _ c.from_residual.result c.from_residual.ensures
    (children-missing c.args.turn c.args.below (rw c.span_if.ensures at c.in_err-a.ensures))

pub returns-in_err-b : goal.returns-in_err-b
returns-in_err-b c =
    handed-on _ _ c.from_residual-in_err-b.result c.from_residual-in_err-b.ensures
    (children_waiting c.args.turn c.args.below (rw c.span_if.ensures at c.in_ok-a.ensures) (rw c.span_if-2.ensures at c.in_err-b.ensures))

pub returns : goal.returns
returns c =
    children-both c.args.turn c.args.below (rw c.span_if.ensures at c.in_ok-a.ensures) (rw c.span_if-2.ensures at c.in_ok-b.ensures)
