use mathlib.Core.Path.{sym, ◌∙◌}
use Rattle.map_nodes.specs.Method.{to_sub, to_step}
use Rattle.leaf_spec.specs.Convert.{to_node}
use Rattle.node_rows.specs.Held.{held_in}
use Rattle.rotations.specs.RaiseLaws.{raises-single, misses-inward, raises-double}
use Rattle.rotations.proofs.raise.turn_over.Goals as goal

pub returns-then-leans_out : goal.returns-then-leans_out
returns-then-leans_out c =
    let a = c.args in
    raises-single (to_step a.p) a.left (to_node a.n) (to_node a.c) (to_sub a.near) a.others (held_in a.held.now a.count) a.next
    c.kid_of-inner.ensures (sym c.leans_out.ensures ∙ c.if-leans_out.true)
    (rw (← c.kid_of-outer.ensures) c.single.ensures) c.requires.0.within

pub returns-in_default : goal.returns-in_default
returns-in_default c =
    let a = c.args in
    misses-inward (to_step a.p) a.left (to_node a.n) (to_node a.c) (to_sub a.near) a.others (held_in a.held.now a.count) a.next
    (sym c.leans_out.ensures ∙ c.if-leans_out.false) (rw (← c.kid_of-inner.ensures) c.in_default.ensures) c.inner_want.result c.inner_want.ensures

pub returns : goal.returns
returns c =
    let a = c.args in
    raises-double (to_step a.p) a.left (to_node a.n) (to_node a.c) (to_sub a.near) a.others (held_in a.held.now a.count) a.next
    (sym c.leans_out.ensures ∙ c.if-leans_out.false) (rw (← c.kid_of-inner.ensures) c.in-Some.ensures)
    c.double.ensures c.kid_of-outer.ensures
