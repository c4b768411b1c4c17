use Prim.Native.Nat.{◌+◌, ◌-◌}
use mathlib.Core.Path.{◌∙◌, ap}
use native.Mathlib.Omega.{arith}
use Rattle.method_spec.specs.Map.{below}
use Rattle.map_descent.specs.LowestLaws.{lower-start, lower-missing, lower-spent, lower-end, lower-turn}
use Rattle.map_descent.proofs.descend.next_larger.Goals as goal
use Rattle.map_descent.proofs.descend.next_larger.Goals.{then-i-lowest-via-then-i-lowest, then-i-lowest-via-else-i-lowest+then-m-eq0}

pub loop-i-init : goal.loop-i-init
loop-i-init c =
    lower-start _ c.args.found _ _ (c.below-next.ensures ∙ ap below c.step_at.ensures ∙ rw c.node_at-n.ensures) (omega arith) c.requires.1

pub returns-then-i-lowest : goal.returns-then-i-lowest
returns-then-i-lowest c =
    let now = rw (← c.node_at-n.ensures) at c.loop-i.invariant in
    rw (← c.node_at-n.ensures)
    (elim c.then-i-lowest.branch [
      | then-i-lowest-via-then-i-lowest w ↦ lower-spent c.requires.0 c.loop-i.next now (omega arith) (omega (arith, c.from.ensures, w.if-i-lowest.true))
      | then-i-lowest-via-else-i-lowest+then-m-eq0 w ↦
          lower-end c.requires.0 c.loop-i.next now (omega arith) (rw c.node_at-m.ensures at w.if-m-eq0.true)
    ])

pub loop-i-preserved : goal.loop-i-preserved
loop-i-preserved c =
    let n = c.node_at-m.ensures in
    let less = c.args.found + c.node_at-n.result.right.height + 1 - (c.loop-i.i + 1) in
    rw (← c.node_at-n.ensures)
    (lower-turn c.requires.0 c.loop-i.next (rw (← c.node_at-n.ensures) at c.loop-i.invariant) (omega arith) less (omega (arith, c.from.ensures))
    (rw n at c.if-m-eq0.false) (c.below-next-in-loop-i.ensures ∙ ap below c.step_at-in-loop-i.ensures ∙ rw n))

pub returns : goal.returns
returns c = lower-missing c.requires.0 c.loop-i.next c.loop-i.invariant (omega arith)
