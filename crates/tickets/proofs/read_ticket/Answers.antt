-- `tickets::read_ticket` meets its contract, kind by kind.
use mathlib.Core.Path.{sym, ◌∙◌, ap}
use mathlib.Core.Logic.{inl, inr}
use Rattle.std.specs.Prelude.{Some}
use Rattle.tickets.specs.AskedLaws.{map-kinds, stack-kinds, heap-kinds, queue-kinds, no-map, no_stack, no-heap, no-queue, no_kind, first_byte}
use native.Mathlib.Omega.{arith}
use Rattle.tickets.proofs.read_ticket.Goals as goal
use Rattle.tickets.proofs.read_ticket.Goals.{in_default-structure-via-then-structure-lt1, in_default-structure-via-else-structure-lt1+else-structure-lt4}

pub returns-then-structure-eq1 : goal.returns-then-structure-eq1
returns-then-structure-eq1 c = let t = c.args.ticket.now in let f = first_byte t (omega (arith, c.requires)) in
    ap Some (c.map_op.ensures ∙ rw (f, c.key_in-key.ensures, c.value_in-value.ensures)) ∙ sym (map-kinds t c.args.structure c.if-structure-eq1.true (omega arith) (omega arith))

pub returns-then-structure-eq2 : goal.returns-then-structure-eq2
returns-then-structure-eq2 c = let t = c.args.ticket.now in let f = first_byte t (omega (arith, c.requires)) in
    ap Some (c.stack_op.ensures ∙ rw (f, c.value_in-value.ensures)) ∙ sym (stack-kinds t c.args.structure c.if-structure-eq2.true (omega arith) (omega arith))

pub returns-then-structure-eq3 : goal.returns-then-structure-eq3
returns-then-structure-eq3 c = let t = c.args.ticket.now in let f = first_byte t (omega (arith, c.requires)) in
    ap Some (c.heap_op.ensures ∙ rw (f, c.value_in-value.ensures)) ∙ sym (heap-kinds t c.args.structure c.if-structure-eq3.true (omega arith) (omega arith))

pub returns-else-structure-eq1 : goal.returns-else-structure-eq1
returns-else-structure-eq1 c = let t = c.args.ticket.now in let f = first_byte t (omega (arith, c.requires)) in
    sym (no-map t c.args.structure c.if-structure-eq1.false (omega arith))

pub returns-else-structure-eq2 : goal.returns-else-structure-eq2
returns-else-structure-eq2 c = let t = c.args.ticket.now in let f = first_byte t (omega (arith, c.requires)) in
    sym (no_stack t c.args.structure c.if-structure-eq2.false (omega arith) (omega arith))

pub returns-else-structure-eq3 : goal.returns-else-structure-eq3
returns-else-structure-eq3 c = let t = c.args.ticket.now in let f = first_byte t (omega (arith, c.requires)) in
    sym (no-heap t c.args.structure c.if-structure-eq3.false (omega arith) (omega arith))

pub returns-in-1-to-3-structure : goal.returns-in-1-to-3-structure
returns-in-1-to-3-structure c = let t = c.args.ticket.now in let f = first_byte t (omega (arith, c.requires)) in
    sym (no-queue t c.args.structure (omega arith) (omega arith) (omega arith))

pub returns-in_default-structure : goal.returns-in_default-structure
returns-in_default-structure c = let t = c.args.ticket.now in let f = first_byte t (omega (arith, c.requires)) in
    ap Some (c.queue_op.ensures ∙ rw (f, c.value_in-value.ensures)) ∙ sym (queue-kinds t c.args.structure (elim c.in_default-structure.branch [ in_default-structure-via-then-structure-lt1 w ↦ inl (omega arith) | in_default-structure-via-else-structure-lt1+else-structure-lt4 w ↦ inr (omega arith) ]) (omega arith) (omega arith))

pub returns-in_default : goal.returns-in_default
returns-in_default c = let t = c.args.ticket.now in let f = first_byte t (omega (arith, c.requires)) in
    sym (no_kind t c.args.structure (inl (omega arith)))

pub returns-in_default-2 : goal.returns-in_default-2
returns-in_default-2 c = let t = c.args.ticket.now in let f = first_byte t (omega (arith, c.requires)) in
    sym (no_kind t c.args.structure (inr (omega arith)))
