use Rattle.slot_spec.specs.Row.{nodes_from}
use Rattle.method_spec.specs.Heap.{way_to}
use Rattle.heap_spans.specs.SpanLaws.{Listing}
use Rattle.heap_spans.proofs.list_span.Given as goal

abbrev pub invariant-loop-i : goal.invariant-loop-i
invariant-loop-i l =
    Listing (nodes_from l.held) (way_to l.way.position) l.initial.made l.count l.span.at l.made l.i
