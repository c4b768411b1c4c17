use Rattle.heap_children.specs.ChildLaws.{child-at-hand, child-none, child-waits, child-next}
use native.Mathlib.Omega.{arith}
use Rattle.heap_children.proofs.child_of.Goals as goal
use Rattle.heap_children.proofs.child_of.Goals.{then-below-gt0-via-then-below-gt0, then-below-gt0-via-else-below-gt0+then-child_link-eq0}

pub returns-then-below-gt0 : goal.returns-then-below-gt0
returns-then-below-gt0 c =
    elim c.then-below-gt0.branch [
      | then-below-gt0-via-then-below-gt0 w ↦ child-at-hand c.requires.0 c.requires.1 (omega (arith, w.if-below-gt0.true))
      | then-below-gt0-via-else-below-gt0+then-child_link-eq0 w ↦
          child-none c.requires.0 c.requires.1 (omega (arith, w.if-below-gt0.false)) w.child_link.ensures w.if-child_link-eq0.true
    ]

pub returns-then-next-count : goal.returns-then-next-count
returns-then-next-count c =
    child-waits c.requires.0 c.requires.1 (omega arith) c.child_link.ensures c.if-child_link-eq0.false c.if-next-count.true c.beneath.ensures

pub returns : goal.returns
returns c =
    child-next c.requires.0 c.requires.1 (omega arith) c.child_link.ensures c.if-child_link-eq0.false c.if-next-count.false
