use mathlib.Core.Path.{◌≡◌}
use Rattle.operation_spec.specs.Method.{to_want}
use Rattle.node_rows.specs.Held.{held_in}
use Rattle.map_descent.specs.Walk.{want_at}
use Rattle.map_descent.specs.PathTo.{ways_to}
use Rattle.map_descent.proofs.path_steps.step_to.Given as goal

abbrev pub invariant-loop-j : goal.invariant-loop-j
invariant-loop-j l =
    to_want l.want ≡ want_at (held_in l.held l.count) (to_want l.initial.want) (ways_to l.key (held_in l.held l.count) (to_want l.initial.want) l.found) l.j
