use Rattle.leaf_spec.specs.Convert.{to_node}
use Rattle.rotations.specs.RotationLaws.{double-is}
use Rattle.rotations.proofs.rotation.double.Goals as goal

pub returns : goal.returns
returns c =
    let a = c.args in
    double-is a.left (to_node a.n) (to_node a.c) (to_node a.inner)
    c.rotate-r.ensures c.rotate-q.ensures
    c.seated.ensures
