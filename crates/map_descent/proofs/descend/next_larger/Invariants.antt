use Prim.Native.Nat.{◌+◌, ◌-◌}
use mathlib.Core.Bool.{false}
use Rattle.method_spec.specs.Map.{below, step_at}
use Rattle.operation_spec.specs.Method.{to_want}
use Rattle.node_rows.specs.Held.{held_in, held_at}
use Rattle.map_descent.specs.Walk.{Lowering}
use Rattle.map_descent.proofs.descend.next_larger.Given as goal

abbrev pub invariant-loop-i : goal.invariant-loop-i
invariant-loop-i l =
    let h = held_in l.held l.count in
    let n = held_at h l.found in
    Lowering h l.found (below (step_at (to_want l.fn.want) n false)) n.right.height (to_want l.next) (l.found + n.right.height + 1 - l.i) l.i
