-- What a step changes of the entries, told by its answer: the one entry that it takes out, the one that it brings in.
use Rattle.std.specs.Prelude.{List, [], ◌∷◌, ℕ, suc}
use mathlib.Core.List as list
use Rattle.method_spec.specs.Node.{Link}
use Rattle.method_spec.specs.Answer.{Structure, map, stack, heap, queue, Op, get, put, remove, push, pop, add, take, enqueue, dequeue, Answer, found, absent, replaced, new, removed, pushed, popped, added, taken, queued, dequeued, empty, full}
use Rattle.method_spec.specs.Plain.{Pair}

-- The key that a ticket is about, for the entries, the next unused key and the root link of the store, and the value that it brings.
unfoldable pub key_asked : {s : Structure} → Op s → (entries next : ℕ) → Link ℕ → ℕ
key_asked (get key) entries next l = key
key_asked (put key value) entries next l = key
key_asked (remove key) entries next l = key
key_asked (push value) entries next l = suc entries
key_asked pop entries next l = l.key
key_asked (add value) entries next l = suc entries
key_asked take entries next l = entries
key_asked (enqueue value) entries next l = next
key_asked dequeue entries next l = l.key

unfoldable pub value_asked : {s : Structure} → Op s → ℕ
value_asked (get key) = 0
value_asked (put key value) = value
value_asked (remove key) = 0
value_asked (push value) = value
value_asked pop = 0
value_asked (add value) = value
value_asked take = 0
value_asked (enqueue value) = value
value_asked dequeue = 0

-- The entry of that key that is taken out, with the value that is answered.
unfoldable pub taken_out : ℕ → Answer → List Pair
taken_out key (found v) = []
taken_out key absent = []
taken_out key (replaced v) = record { key = key; value = v } ∷ []
taken_out key new = []
taken_out key (removed v) = record { key = key; value = v } ∷ []
taken_out key pushed = []
taken_out key (popped v) = record { key = key; value = v } ∷ []
taken_out key added = []
taken_out key (taken v) = record { key = key; value = v } ∷ []
taken_out key queued = []
taken_out key (dequeued v) = record { key = key; value = v } ∷ []
taken_out key empty = []
taken_out key full = []

-- The entry of that key that is brought in, with the ticket's value.
unfoldable pub brought_in : ℕ → ℕ → Answer → List Pair
brought_in key value (found v) = []
brought_in key value absent = []
brought_in key value (replaced v) = record { key = key; value = value } ∷ []
brought_in key value new = record { key = key; value = value } ∷ []
brought_in key value (removed v) = []
brought_in key value pushed = record { key = key; value = value } ∷ []
brought_in key value (popped v) = []
brought_in key value added = record { key = key; value = value } ∷ []
brought_in key value (taken v) = []
brought_in key value queued = record { key = key; value = value } ∷ []
brought_in key value (dequeued v) = []
brought_in key value empty = []
brought_in key value full = []

-- The answers of each kind of ticket.
pub data AnswerOf : (s : Structure) → Op s → Answer → Type 0 where
  get-found : {key v : ℕ} → AnswerOf map (get key) (found v)
  get_absent : {key : ℕ} → AnswerOf map (get key) absent
  put-replaced : {key value v : ℕ} → AnswerOf map (put key value) (replaced v)
  put-new : {key value : ℕ} → AnswerOf map (put key value) new
  put_full : {key value : ℕ} → AnswerOf map (put key value) full
  remove-removed : {key v : ℕ} → AnswerOf map (remove key) (removed v)
  remove_absent : {key : ℕ} → AnswerOf map (remove key) absent
  push-pushed : {value : ℕ} → AnswerOf stack (push value) pushed
  push-full : {value : ℕ} → AnswerOf stack (push value) full
  pop-popped : {v : ℕ} → AnswerOf stack pop (popped v)
  pop-empty : AnswerOf stack pop empty
  add-added : {value : ℕ} → AnswerOf heap (add value) added
  add-full : {value : ℕ} → AnswerOf heap (add value) full
  take-taken : {v : ℕ} → AnswerOf heap take (taken v)
  take-empty : AnswerOf heap take empty
  enqueue-queued : {value : ℕ} → AnswerOf queue (enqueue value) queued
  enqueue-full : {value : ℕ} → AnswerOf queue (enqueue value) full
  dequeue-dequeued : {v : ℕ} → AnswerOf queue dequeue (dequeued v)
  dequeue-empty : AnswerOf queue dequeue empty

abbrev pub Answers : {s : Structure} → Op s → Answer → Type 0
Answers {s} op a = AnswerOf s op a

-- What of an entry the steps of a structure keep together: key and value; of a heap, whose numbers move between positions, the number alone.
abbrev pub tracked : Structure → Pair → Pair
tracked map p = p
tracked stack p = p
tracked heap p = record { key = 0; value = p.value }
tracked queue p = p

abbrev pub tracked_in : Structure → List Pair → List Pair
tracked_in s ps = list.map (tracked s) ps
