use Rattle.heap_children.specs.ChildLaws.{no-right, no-left, left-smaller, right-smaller}
use native.Mathlib.Omega.{arith}
use Rattle.heap_children.proofs.smaller.Goals as goal

pub returns-then-right-eq0 : goal.returns-then-right-eq0
returns-then-right-eq0 c = no-right _ c.if-right-eq0.true

pub returns-then-left-eq0 : goal.returns-then-left-eq0
returns-then-left-eq0 c = no-left _ c.if-left-eq0.true

pub returns-then-node_at : goal.returns-then-node_at
returns-then-node_at c =
    let h = rw (c.node_at.ensures, c.node_at-2.ensures) at c.if-node_at.true in
    left-smaller _ c.if-left-eq0.false c.if-right-eq0.false (omega arith)

pub returns : goal.returns
returns c =
    let h = rw (c.node_at.ensures, c.node_at-2.ensures) at c.if-node_at.false in
    right-smaller _ c.if-left-eq0.false c.if-right-eq0.false (omega arith)
