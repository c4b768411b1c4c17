use Prim.Native.Nat.{◌-◌}
use Rattle.leaf_spec.specs.Convert.{to_link}
use Rattle.tag_moves.specs.MoveLaws.{MovingTo}
use Rattle.tag_moves.proofs.move_tags.Given as goal

abbrev pub invariant-loop-i : goal.invariant-loop-i
invariant-loop-i l =
    MovingTo l.count l.froms (to_link l.initial.link) l.initial.held l.held (to_link l.link) l.i
