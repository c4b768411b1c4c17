use Prim.Native.Nat.{ℕ, ◌-◌}
use Rattle.method_spec.specs.Heap.{way_to}
use Rattle.leaf_spec.specs.Convert.{to_node}
use Rattle.node_rows.specs.Held.{held_in}
use Rattle.heap_rising.specs.Rising.{Rises}
use Rattle.heap_rising.proofs.rise.Given as goal

abbrev pub invariant-loop-i : goal.invariant-loop-i
invariant-loop-i l =
    (count : ℕ) → Rises (held_in l.held count) (way_to l.way.position) (to_node l.initial.top) l.made (l.way.depth - l.i) l.rising (to_node l.top) l.i
