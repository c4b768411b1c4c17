-- The structures, what a ticket asks of each, and the answers with the number, value and word of each.
use Rattle.std.specs.Prelude.{ℕ}
use Prim.Native.String.{String}
use Rattle.std.proofs.Math.Option.{Option, none, some}

pub data Structure : Type 0 where
  map : Structure
  stack : Structure
  heap : Structure
  queue : Structure

-- What a ticket of a structure's own kinds asks; fields that its kind does not use are not here.
pub data Op : Structure → Type 0 where
  get : (key : ℕ) → Op map
  put : (key value : ℕ) → Op map
  remove : (key : ℕ) → Op map
  push : (value : ℕ) → Op stack
  pop : Op stack
  add : (value : ℕ) → Op heap
  take : Op heap
  -- Document 02's in and out.
  enqueue : (value : ℕ) → Op queue
  dequeue : Op queue

pub data Answer : Type 0 where
  found : ℕ → Answer
  absent : Answer
  replaced : ℕ → Answer
  new : Answer
  removed : ℕ → Answer
  pushed : Answer
  popped : ℕ → Answer
  added : Answer
  taken : ℕ → Answer
  queued : Answer
  dequeued : ℕ → Answer
  empty : Answer
  full : Answer

-- "For every case of an enum answer, a definition gives this paper's number and values": the number that a call returns, 10
-- for a full store and 0 else, and the answer's value, if it has one. The word is the walk program's.
pub record Meaning : Type 0 where
  pub number : ℕ
  pub value : Option ℕ
  pub word : String

abbrev pub meaning : Answer → Meaning
meaning (found v) = record { number = 0; value = some v; word = "found" }
meaning absent = record { number = 0; value = none; word = "absent" }
meaning (replaced v) = record { number = 0; value = some v; word = "replaced" }
meaning new = record { number = 0; value = none; word = "new" }
meaning (removed v) = record { number = 0; value = some v; word = "removed" }
meaning pushed = record { number = 0; value = none; word = "pushed" }
meaning (popped v) = record { number = 0; value = some v; word = "popped" }
meaning added = record { number = 0; value = none; word = "added" }
meaning (taken v) = record { number = 0; value = some v; word = "taken" }
meaning queued = record { number = 0; value = none; word = "queued" }
meaning (dequeued v) = record { number = 0; value = some v; word = "dequeued" }
meaning empty = record { number = 0; value = none; word = "empty" }
meaning full = record { number = 10; value = none; word = "refused" }
