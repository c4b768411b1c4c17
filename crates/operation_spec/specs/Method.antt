-- The code's values as the method's, at leaf numbers for tags.
use Rattle.std.specs.Prelude.{ℕ, List, [], eqb, Err, None, Ok, Some}
use Rattle.std.specs.Prelude as code
use Rattle.std.proofs.Math.Option.{Option, none, some}
use Rattle.list_spec.specs.Choice.{pick}
use Rattle.leaf_spec.specs.Convert.{to_link, to_ahead}
use Rattle.operation_spec.specs.declared.Op as op
use Rattle.operation_spec.specs.declared.Op.TheVariants.{Get, Put, Remove, Push, Pop, Add, Take, Enqueue, Dequeue}
use Rattle.operation_spec.specs.declared.Answer as answer
use Rattle.operation_spec.specs.declared.Answer.TheVariants.{Found, Absent, Replaced, New, Removed, Pushed, Popped, Added, Taken, Queued, Dequeued, Empty}
use Rattle.operation_spec.specs.declared.From as from
use Rattle.operation_spec.specs.declared.From.TheVariants.{Root, Side}
use Rattle.operation_spec.specs.declared.Want as wanted
use Rattle.operation_spec.specs.declared.Spares.{Spares}
use Rattle.operation_spec.specs.declared.Outcome as outcome
use Rattle.method_spec.specs.Node.{Link, Ahead, Node}
use Rattle.method_spec.specs.Prog.{From, root, side, Want, Prog, done, want}
use Rattle.method_spec.specs.Answer.{Structure, Op, Answer}
use Rattle.method_spec.specs.Answer as method
use Rattle.method_spec.specs.Outcome.{Outcome}
use Rattle.method_spec.specs.Call.{program, ahead_after}
use Rattle.operation_spec.specs.declared.Full.{Full}

abbrev pub to_from : from.From → From
to_from Root = root
to_from (Side k s) = side k s

abbrev pub to_bound : code.Option ℕ → Option ℕ
to_bound None = none
to_bound (Some k) = some k

abbrev pub to_want : wanted.Want → Want ℕ
to_want w =
    record { link = to_link w.link; from = to_from w.from; low = to_bound w.low; high = to_bound w.high }

-- What a ticket asks, and of which structure.
abbrev pub structure_asked : op.Op → Structure
structure_asked (Get k) = method.map
structure_asked (Put k v) = method.map
structure_asked (Remove k) = method.map
structure_asked (Push v) = method.stack
structure_asked Pop = method.stack
structure_asked (Add v) = method.heap
structure_asked Take = method.heap
structure_asked (Enqueue v) = method.queue
structure_asked Dequeue = method.queue

abbrev pub to_op : (o : op.Op) → Op (structure_asked o)
to_op (Get k) = method.get k
to_op (Put k v) = method.put k v
to_op (Remove k) = method.remove k
to_op (Push v) = method.push v
to_op Pop = method.pop
to_op (Add v) = method.add v
to_op Take = method.take
to_op (Enqueue v) = method.enqueue v
to_op Dequeue = method.dequeue

abbrev pub to_answer : answer.Answer → Answer
to_answer (Found v) = method.found v
to_answer Absent = method.absent
to_answer (Replaced v) = method.replaced v
to_answer New = method.new
to_answer (Removed v) = method.removed v
to_answer Pushed = method.pushed
to_answer (Popped v) = method.popped v
to_answer Added = method.added
to_answer (Taken v) = method.taken v
to_answer Queued = method.queued
to_answer (Dequeued v) = method.dequeued v
to_answer Empty = method.empty

abbrev pub to_step_answer : code.Result answer.Answer Full → Answer
to_step_answer (Ok a) = to_answer a
to_step_answer (Err e) = method.full

-- ---- a program, what it wants next, and its outcome

-- The spare draws: the programs ask the first two.
abbrev pub spares_in : Spares → ℕ → ℕ
spares_in s i = pick (eqb i 0) s.first s.second

-- The program of an operation, and what is known ahead after its step.
abbrev pub program_for : (o : op.Op) → Spares → (limit entries : ℕ) → Link ℕ → Prog ℕ (Outcome ℕ)
program_for o s limit entries l = program 0 (to_op o) (spares_in s) limit entries (to_ahead s.ahead) l

abbrev pub ahead_for : (o : op.Op) → Spares → (limit entries : ℕ) → Ahead ℕ
ahead_for o s limit entries = ahead_after 0 (to_op o) (spares_in s) limit entries (to_ahead s.ahead)

abbrev pub to_wanted : code.Option wanted.Want → Option (Want ℕ)
to_wanted None = none
to_wanted (Some w) = some (to_want w)

abbrev pub wanted_in : {A : Type 0} → Prog ℕ A → Option (Want ℕ)
wanted_in (done a) = none
wanted_in (want w k) = some w

-- A step's outcome, with the nodes that it made.
abbrev pub to_outcome : outcome.Outcome → List (Node ℕ) → Outcome ℕ
to_outcome o ns = record { nodes = ns; root = to_link o.root; entries = o.entries; answer = to_step_answer o.answer }

-- No nodes, with that root link, entries and answer.
abbrev pub nothing : Link ℕ → ℕ → Answer → Outcome ℕ
nothing l entries a = record { nodes = []; root = l; entries = entries; answer = a }

-- The outcome of a program that is done; of one that still wants a node nothing, with root link and entries as they were.
abbrev pub outcome_in : Link ℕ → ℕ → Prog ℕ (Outcome ℕ) → Outcome ℕ
outcome_in l entries (done o) = o
outcome_in l entries (want w k) = nothing l entries method.absent
