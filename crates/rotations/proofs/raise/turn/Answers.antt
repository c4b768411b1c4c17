use Rattle.map_nodes.specs.Method.{to_sub, to_step}
use Rattle.leaf_spec.specs.Convert.{to_node}
use Rattle.node_rows.specs.Held.{held_in}
use Rattle.rotations.specs.RaiseLaws.{misses-child, raises-turn}
use Rattle.rotations.proofs.raise.turn.Goals as goal

pub returns : goal.returns
returns c =
    let a = c.args in
    raises-turn (to_step a.p) a.left (to_node a.n) (to_sub a.near) a.others (held_in a.held.now a.count) a.next
    (rw (← c.top_of.ensures) c.in-Some.ensures) c.turn_over.result c.turn_over.ensures

pub returns-in_default : goal.returns-in_default
returns-in_default c =
    let a = c.args in
    misses-child (to_step a.p) a.left (to_node a.n) (to_sub a.near) a.others (held_in a.held.now a.count) a.next
    (rw (← c.top_of.ensures) c.in_default.ensures) c.child_want.result c.child_want.ensures
