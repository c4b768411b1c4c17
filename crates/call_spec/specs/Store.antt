-- Calls: the outcome, the state, every byte of the tree and every number of the trace buffer.
use Rattle.std.specs.Prelude.{ℕ, ◌+◌, ◌-◌, ◌*◌, Bool, true, false, not, List, [], ◌∷◌, ◌++◌, map, eqb, ltb, length, drop, replicate}
use Rattle.std.proofs.Math.Option.{Option, none, some}
use Rattle.list_spec.specs.Choice.{pick}
use Rattle.slot_spec.specs.Tree.{tree_length}
use Rattle.method_spec.specs.Node.{Node}
use Rattle.method_spec.specs.Answer.{Structure, Op, Answer, found, absent, replaced, new, removed, pushed, popped, added, taken, queued, dequeued, empty, full, Meaning, meaning}
use Rattle.method_spec.specs.Rounds.{rounds, draws}
use Rattle.leaf_spec.specs.Convert.{to_link, from_link, to_ahead, from_ahead, to_node, from_node}
use Rattle.bucket_call_spec.specs.Fetch.{CallLeft}
use Rattle.bucket_call_spec.specs.Call as bucket
use Rattle.bucket_call_spec.specs.Call.{draw_of, bucket_call}
use Rattle.bucket_call_spec.specs.Peak.{call_peak}
use Rattle.operation_spec.specs.declared.Answer.TheVariants.{Found, Absent, Replaced, New, Removed, Pushed, Popped, Added, Taken, Queued, Dequeued, Empty}
use Rattle.operation_spec.specs.Method.{to_answer}
use Rattle.state_spec.specs.declared.Place.{Place}
use Rattle.state_spec.specs.declared.State.{State}
use Rattle.call_spec.specs.declared.Called.{Called}
use Rattle.call_spec.specs.Reply.{Reply, Answered, Refused, to_reply}
use Rattle.state_spec.specs.Fit.{fits, used, places, no_place}
use Rattle.state_spec.specs.Ticket.{ticket_length, op_in, structure_of, out_of_keys, stray_fields}

-- ---- states
abbrev pub waiting_places : List (Node ℕ) → List Place
waiting_places ns = map (λ (n : Node ℕ). record { full = true; node = from_node n }) ns ++ replicate (places - length ns) no_place

-- ---- a call
pub record Ended : Type 0 where
  pub state : State
  pub reply : Reply
  pub leaves : ℕ
  pub peak : ℕ
  pub tree : List ℕ
  pub trace : List ℕ

-- What the code of a call returns, with the tree and the trace buffer as it leaves them.
abbrev pub call_ended_as : Called → (tree trace : List ℕ) → Ended
call_ended_as r tree trace = record { state = r.state; reply = to_reply r.reply; leaves = r.leaves; peak = r.peak; tree = tree; trace = trace }

-- An answer as it is, and a full store's as a refusal with its number.
unfoldable pub reply_of : Answer → Reply
reply_of (found v) = Answered (Found v)
reply_of absent = Answered Absent
reply_of (replaced v) = Answered (Replaced v)
reply_of new = Answered New
reply_of (removed v) = Answered (Removed v)
reply_of pushed = Answered Pushed
reply_of (popped v) = Answered (Popped v)
reply_of added = Answered Added
reply_of (taken v) = Answered (Taken v)
reply_of queued = Answered Queued
reply_of (dequeued v) = Answered (Dequeued v)
reply_of empty = Answered Empty
reply_of full = Refused (meaning full).number

-- The number, value and word of a reply: those of its answer, or of a refusal with a number.
abbrev pub reply_meaning : Reply → Meaning
reply_meaning (Answered a) = meaning (to_answer a)
reply_meaning (Refused n) = record { number = n; value = none; word = "refused" }

unfoldable pub replied : ℕ → Option Answer → Reply
replied mark none = Refused mark
replied mark (some a) = reply_of a

-- The store of a state and a tree, and the state that a call leaves.
abbrev pub store_of : State → List ℕ → bucket.Store
store_of s tree =
    record {
      entries = s.entries;
      root = to_link s.root;
      ahead = to_ahead s.ahead;
      waiting = map (λ (p : Place). to_node p.node) (used s);
      tree = tree;
    }

abbrev pub state_left : State → CallLeft → State
state_left s l =
    record {
      mark = l.mark;
      structure = s.structure;
      size = s.size;
      entries = l.entries;
      root = from_link l.root;
      ahead = from_ahead l.ahead;
      count = length l.waiting;
      places = waiting_places l.waiting;
    }

-- A refusal 1 to 7, 17 or 19 changes nothing and reveals no leaf; no round closes.
abbrev pub refusing : ℕ → State → List ℕ → List ℕ → Ended
refusing n s tree trace = record { state = s; reply = Refused n; leaves = 0; peak = 0; tree = tree; trace = trace }

abbrev pub ending : State → List ℕ → CallLeft → (peak : ℕ) → Ended
ending s trace l peak =
    record {
      state = state_left s l;
      reply = replied l.mark l.answer;
      leaves = length l.leaves;
      peak = peak;
      tree = l.tree;
      trace = l.leaves ++ drop (length l.leaves) trace;
    }

-- What the rounds of an operation end in.
abbrev pub by_rounds : (st : Structure) → Op st → State → (tree tape trace : List ℕ) → Ended
by_rounds st op s tree tape trace =
    ending s trace (bucket_call s.size (rounds st s.size) op (draw_of s.size tape) (store_of s tree))
    (call_peak s.size (rounds st s.size) op (draw_of s.size tape) (store_of s tree))

-- ---- the causes of a refusal
-- A cause: its number, and whether it is met.
pub record Check : Type 0 where
  pub number : ℕ
  pub met : Bool

abbrev pub cause : ℕ → Bool → Check
cause n met = record { number = n; met = met }

module _ {st : Structure} where
  abbrev pub asks_nothing : Option (Op st) → Bool
  asks_nothing none = true
  asks_nothing (some op) = false

  abbrev pub lacks_key : Option (Op st) → (next : ℕ) → Bool
  lacks_key none next = false
  lacks_key (some op) next = out_of_keys op next

-- Document 01's table, "Cause, in order of check | Number", with 19 and 17 where document 02 puts them; `asked` is what the ticket asks.
unfoldable pub checks : (st : Structure) → State → (tree ticket tape trace : List ℕ) → (asked : Option (Op st)) → List Check
checks st s tree ticket tape trace asked =
    cause 1 (not (eqb s.mark 0))  -- closed mark
    ∷ cause 2 (not (fits s))  -- state unfit
    ∷ cause 3 (not (eqb (length tree) (tree_length s.size)))  -- tree of another length
    ∷ cause 4 (not (eqb (length ticket) ticket_length))  -- ticket not 13 bytes
    ∷ cause 5 (asks_nothing asked)  -- kind not one of the structure's
    ∷ cause 19 (stray_fields ticket)  -- an unused field is not zero
    ∷ cause 17 (lacks_key asked s.ahead.key)  -- an in, and no key is left
    ∷ cause 6 (ltb (length tape) (draws st s.size))  -- tape under 2F + 1 numbers, a queue's under four
    ∷ cause 7 (ltb (length trace) (2 * rounds st s.size))  -- trace buffer under 2F
    ∷ []

-- The number of the first cause that is met.
unfoldable pub first_met : List Check → Option ℕ
first_met [] = none
first_met (c ∷ cs) = pick c.met (some c.number) (first_met cs)

-- ---- one call
module _ {R : Type 0} where
  -- Refused with the first cause that is met, else ended by what the ticket asks. A ticket that asks nothing has met 5 before.
  unfoldable pub decided : {st : Structure} → (refused : ℕ → R) → (ended : Op st → R) → (first : Option ℕ) → (asked : Option (Op st)) → R
  decided refused ended (some n) asked = refused n
  decided refused ended none none = refused 5
  decided refused ended none (some op) = ended op

  -- A call, by which of the checks it makes, what a refusal leaves and what an operation ends in.
  abbrev pub called_by : (which : List Check → List Check) → (refused : ℕ → State → (tree trace : List ℕ) → R)
      → (ended : (st : Structure) → Op st → State → (tree tape trace : List ℕ) → R) → State → (tree ticket tape trace : List ℕ) → R
  called_by which refused ended s tree ticket tape trace =
      let st = structure_of s.structure in
      let asked = op_in st ticket in
      decided (λ n. refused n s tree trace) (λ op. ended st op s tree tape trace) (first_met (which (checks st s tree ticket tape trace asked))) asked

abbrev pub every : List Check → List Check
every cs = cs

-- One call: all the checks, then the rounds.
unfoldable pub called : State → (tree ticket tape trace : List ℕ) → Ended
called s tree ticket tape trace = called_by every refusing by_rounds s tree ticket tape trace
