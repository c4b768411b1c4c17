use Prim.Native.Nat.{◌-◌}
use Rattle.method_spec.specs.Heap.{way_to}
use Rattle.node_rows.specs.Held.{held_in}
use Rattle.heap_sinking.specs.Sinking.{Sinks}
use Rattle.heap_sinking.proofs.sink.Given as goal

abbrev pub invariant-loop : goal.invariant-loop
invariant-loop l =
    Sinks (held_in l.held l.count) (way_to l.way.position) l.value (l.way.depth - l.counter) l.span l.next l.done l.made
