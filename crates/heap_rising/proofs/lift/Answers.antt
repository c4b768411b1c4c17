use mathlib.Core.Path.{refl, ◌∙◌, ap}
use Rattle.method_spec.specs.Node.{with_child}
use Rattle.leaf_spec.specs.Convert.{to_node}
use Rattle.heap_rising.specs.RisingLaws.{lift-on, lift-rests, lift-settled}
use native.Mathlib.Omega.{arith}
use Rattle.heap_rising.proofs.lift.Goals as goal
use Rattle.heap_rising.proofs.lift.Goals.{else-rising-via-then-rising+else-n-p, else-rising-via-else-rising}

pub returns-then-n-p : goal.returns-then-n-p
returns-then-n-p c =
    let a = c.args in
    lift-on (to_node a.n) (to_node a.p) a.left (c.with_child-upper.ensures ∙ ap (with_child a.left (to_node a.p)) c.link_one.ensures)
    c.if-rising.true (omega (arith, c.if-n-p.true)) c.with_value.ensures c.with_value-then-n-p.ensures

pub returns : goal.returns
returns c =
    let a = c.args in
    let over = c.with_child-upper.ensures ∙ ap (with_child a.left (to_node a.p)) c.link_one.ensures in
    elim c.else-rising.branch [
      | else-rising-via-then-rising+else-n-p w ↦ lift-rests (to_node a.n) (to_node a.p) a.left over w.if-rising.true (omega (arith, w.if-n-p.false)) refl
      | else-rising-via-else-rising w ↦ lift-settled (to_node a.n) (to_node a.p) a.left over w.if-rising.false refl
    ]
