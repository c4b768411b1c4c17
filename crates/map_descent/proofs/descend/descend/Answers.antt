use Prim.Native.Nat.{◌+◌, ◌-◌}
use mathlib.Core.Path.{◌∙◌, ap}
use native.Mathlib.Omega.{arith}
use Rattle.method_spec.specs.Map.{below}
use Rattle.map_descent.specs.WalkLaws.{descend-start, descend-gap, descend-spent, descend-missing, descend-hit, descend-turn}
use Rattle.map_descent.proofs.descend.descend.Goals as goal

pub loop-i-init : goal.loop-i-init
loop-i-init c = descend-start c.args.key _ _ _ c.start-want.ensures (omega arith) c.requires.root-low

pub returns-then-want-eq0 : goal.returns-then-want-eq0
returns-then-want-eq0 c = descend-gap c.requires.held c.loop-i.want c.loop-i.invariant c.if-want-eq0.true

pub returns-then-i-count : goal.returns-then-i-count
returns-then-i-count c =
    descend-missing c.requires.held c.loop-i.want c.loop-i.invariant (c.args.root.height - (c.loop-i.i + 1)) (omega arith) c.if-want-eq0.false c.if-i-count.true

pub returns-then-key-n : goal.returns-then-key-n
returns-then-key-n c =
    descend-hit c.requires.held c.loop-i.want c.loop-i.invariant (c.args.root.height - (c.loop-i.i + 1)) (omega arith) c.if-want-eq0.false c.if-i-count.false
    c.node_at-n.ensures c.if-key-n.true

pub loop-i-preserved : goal.loop-i-preserved
loop-i-preserved c =
    let n = c.node_at-n.ensures in
    descend-turn c.requires.held c.loop-i.want c.loop-i.invariant (c.args.root.height - (c.loop-i.i + 1)) (omega arith) c.if-want-eq0.false c.if-i-count.false
    (rw n at c.if-key-n.false) (c.below-want.ensures ∙ ap below c.step_at.ensures ∙ rw n)

pub returns : goal.returns
returns c = descend-spent c.requires.held c.loop-i.want c.loop-i.invariant (omega arith) (omega arith)
