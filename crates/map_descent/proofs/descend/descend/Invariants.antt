use Prim.Native.Nat.{◌-◌}
use Rattle.method_spec.specs.Prog.{start}
use Rattle.leaf_spec.specs.Convert.{to_link}
use Rattle.operation_spec.specs.Method.{to_want}
use Rattle.node_rows.specs.Held.{held_in}
use Rattle.map_descent.specs.Walk.{Descending}
use Rattle.map_descent.proofs.descend.descend.Given as goal

abbrev pub invariant-loop-i : goal.invariant-loop-i
invariant-loop-i l =
    Descending l.key (held_in l.held l.count) (start (to_link l.fn.root)) l.fn.root.height (to_want l.want) (l.fn.root.height - l.i) l.i
