-- What a ticket asks of a structure, as the code says it.
use Rattle.std.specs.Prelude as code
use Rattle.std.specs.Prelude.{ℕ, eqb, List, Some, None}
use Rattle.list_spec.specs.Choice.{pick}
use Rattle.std.proofs.Math.Option.{Option, none, some}
use Rattle.method_spec.specs.Answer as method
use Rattle.method_spec.specs.Answer.{Structure, get, put, remove, push, pop, add, take, enqueue, dequeue}
use Rattle.operation_spec.specs.declared.Op.{Op}
use Rattle.operation_spec.specs.declared.Op.TheVariants.{Get, Put, Remove, Push, Pop, Add, Take, Enqueue, Dequeue}
use Rattle.state_spec.specs.Ticket.{op_in, structure_of}

unfoldable pub from_op : {s : Structure} → method.Op s → Op
from_op (get k) = Get k
from_op (put k v) = Put k v
from_op (remove k) = Remove k
from_op (push v) = Push v
from_op pop = Pop
from_op (add v) = Add v
from_op take = Take
from_op (enqueue v) = Enqueue v
from_op dequeue = Dequeue

unfoldable pub from_asked : {s : Structure} → Option (method.Op s) → code.Option Op
from_asked none = None
from_asked (some op) = Some (from_op op)

-- The structure is one of the four, by its number.
abbrev pub asked : ℕ → List ℕ → code.Option Op
asked structure ticket = from_asked (op_in (structure_of structure) ticket)

-- An operation of a map by its kind, 1 to 3, of a stack, 4 or 5, of a heap, 6 or 7, and of a queue, 8 or 9.
unfoldable pub map_op : (kind key value : ℕ) → Op
map_op kind key value = pick (eqb kind 1) (Get key) (pick (eqb kind 2) (Put key value) (Remove key))

unfoldable pub stack_op : (kind value : ℕ) → Op
stack_op kind value = pick (eqb kind 4) (Push value) Pop

unfoldable pub heap_op : (kind value : ℕ) → Op
heap_op kind value = pick (eqb kind 6) (Add value) Take

unfoldable pub queue_op : (kind value : ℕ) → Op
queue_op kind value = pick (eqb kind 8) (Enqueue value) Dequeue
