use Rattle.node_rows.specs.Held.{held_in}
use Rattle.map_ascent.specs.Climb.{Climbing}
use Rattle.map_ascent.proofs.climb.Given as goal

abbrev pub invariant-loop-i : goal.invariant-loop-i
invariant-loop-i l =
    Climbing l.key l.root (held_in l.held l.count) l.b l.made l.done l.sub l.next l.i
