use Rattle.map_ascent.specs.ClimbLaws.{room-for-one, lists-one}
use Rattle.map_ascent.proofs.list_kid.Goals as goal

pub returns-in-Some : goal.returns-in-Some
returns-in-Some c =
    let e = c.in-Some.is in
    lists-one c.args.made.now c.args.count c.requires.0 e (room-for-one c.args.count e c.requires.1) c.set_node.ensures.0 c.set_node.ensures.1
