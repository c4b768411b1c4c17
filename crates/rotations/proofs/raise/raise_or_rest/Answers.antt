use Rattle.node_rows.specs.Held.{held_in}
use Rattle.map_nodes.specs.Method.{to_step, to_sub}
use Rattle.rotations.specs.RaiseLaws.{raises-rest}
use Rattle.rotations.proofs.raise.raise_or_rest.Goals as goal

pub returns-else-rotating : goal.returns-else-rotating
returns-else-rotating c =
    let a = c.args in
    let r = c.rest.ensures in
    rw c.if-rotating.false
    (raises-rest (to_step a.p) (to_sub a.b) (held_in a.held.now a.count) a.next r.0 r.1 c.requires.0.within)
