use Rattle.leaf_spec.specs.Convert.{to_node}
use Rattle.map_nodes.specs.Method.{to_kid}
use Rattle.rotations.specs.RotationLaws.{single-is}
use Rattle.rotations.proofs.rotation.single.Goals as goal

pub returns : goal.returns
returns c =
    let a = c.args in
    single-is a.left (to_node a.n) (to_node a.c) (to_kid a.outer) c.rotate-r.ensures
    c.seated.ensures
