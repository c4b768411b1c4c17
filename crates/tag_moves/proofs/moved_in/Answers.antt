use mathlib.Core.Path.{ap}
use Rattle.leaf_spec.specs.Convert.{to_node}
use Rattle.operation_spec.specs.Method.{to_from}
use Rattle.tag_moves.specs.MoveLaws.{moved-by-root, moved_here, moved-not-here}
use Rattle.tag_moves.proofs.moved_in.Goals as goal

pub returns-then-n-key : goal.returns-then-n-key
returns-then-n-key c =
    let a = c.args in
    λ m t. rw c.in-Side.is
    (moved_here (to_node a.n) m c.in-Side.key c.in-Side.left c.if-n-key.true c.child_link-link.ensures t c.with_child.ensures)

pub returns-in-Root : goal.returns-in-Root
returns-in-Root c = let a = c.args in λ m t. moved-by-root (to_node a.n) m (ap to_from c.in-Root.is)

pub returns-else-n-key : goal.returns-else-n-key
returns-else-n-key c =
    let a = c.args in
    λ m t. rw c.in-Side.is (moved-not-here (to_node a.n) m c.in-Side.key c.in-Side.left c.if-n-key.false)
