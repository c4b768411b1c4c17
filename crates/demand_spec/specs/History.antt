-- Lists of calls on a store: document 01's "Origin rule" section, first paragraph.
use Rattle.std.specs.Prelude.{ℕ, Bool, false, ◌||◌, List, [], ◌∷◌, ◌++◌, map, eqb, leb, take}
use Rattle.std.proofs.Math.Option.{none, some}
use Rattle.leaf_spec.specs.Entries.{pair_of}
use Rattle.list_spec.specs.Choice.{pick}
use Rattle.method_spec.specs.Answer.{Structure, map as the-map, stack as the-stack, heap as the_heap, queue as the-queue, Op}
use Rattle.method_spec.specs.Plain.{Pair}
use Rattle.round_spec.specs.Whole.{contents}
use Rattle.leaf_spec.specs.Convert.{to_node}
use Rattle.leaf_spec.specs.Leaf.{leaf_format}
use Rattle.state_spec.specs.declared.Place.{Place}
use Rattle.state_spec.specs.declared.State.{State}
use Rattle.state_spec.specs.Fit.{used}
use Rattle.state_spec.specs.Ticket.{op_in}
use Rattle.call_spec.specs.Reply.{Reply, Answered, Refused}
use Rattle.call_spec.specs.Store.{Ended, called}

-- What a call brings: a ticket, a tape and a trace buffer of its own, of any content and length.
pub record Brought : Type 0 where
  pub ticket : List ℕ
  pub tape : List ℕ
  pub trace : List ℕ

-- A store that somebody holds: its state and its tree.
pub record StateAndTree : Type 0 where
  pub state : State
  pub tree : List ℕ

abbrev pub call_on : StateAndTree → Brought → Ended
call_on s b = called s.state s.tree b.ticket b.tape b.trace

abbrev pub left_by : Ended → StateAndTree
left_by e = record { state = e.state; tree = e.tree }

-- Each call gets the state and tree that the last one left: the outcomes in order, and the store at the end.
unfoldable pub history : StateAndTree → List Brought → List Ended
history s [] = []
history s (b ∷ bs) = call_on s b ∷ history (left_by (call_on s b)) bs

unfoldable pub finally : StateAndTree → List Brought → StateAndTree
finally s [] = s
finally s (b ∷ bs) = finally (left_by (call_on s b)) bs

-- The calls before the one that closed the store: all of them, where none did.
unfoldable pub until_closed : StateAndTree → List Brought → List Brought
until_closed s [] = []
until_closed s (b ∷ bs) = pick (eqb (call_on s b).state.mark 0) (b ∷ until_closed (left_by (call_on s b)) bs) []

-- The refusals that change nothing and reveal no leaf: 1 to 7, 17 and 19.
abbrev pub changes_nothing : ℕ → Bool
changes_nothing n = leb n 7 || (eqb n 17 || eqb n 19)

-- A reply with one of these numbers.
unfoldable pub early : Reply → Bool
early (Answered a) = false
early (Refused n) = changes_nothing n

-- "The calls that count are those not refused with 1 to 7", 17 or 19: what they brought.
unfoldable pub counted : StateAndTree → List Brought → List Brought
counted s [] = []
counted s (b ∷ bs) =
    pick (early (call_on s b).reply) (counted (left_by (call_on s b)) bs) (b ∷ counted (left_by (call_on s b)) bs)

-- Their replies.
unfoldable pub replies : List Ended → List Reply
replies [] = []
replies (e ∷ es) = pick (early e.reply) (replies es) (e.reply ∷ replies es)

-- "The list's trace is the leaves that they revealed, in order": the first of each call's trace buffer.
unfoldable pub trace_of : List Ended → List ℕ
trace_of [] = []
trace_of (e ∷ es) = take e.leaves e.trace ++ trace_of es

-- The tickets of calls, as a structure reads them.
unfoldable pub ops_in : (st : Structure) → List Brought → List (Op st)
ops_in st [] = []
ops_in st (b ∷ bs) = elim (op_in st b.ticket) [ none ↦ ops_in st bs | some op ↦ op ∷ ops_in st bs ]

abbrev pub tapes_of : List Brought → List (List ℕ)
tapes_of bs = map (λ (b : Brought). b.tape) bs

-- The key and value pairs that waiting nodes and good slots hold.
abbrev pub pairs_in : State → List ℕ → List Pair
pairs_in s tree =
    map pair_of (contents leaf_format s.size tree ++ map (λ (p : Place). to_node p.node) (used s))

-- The structure's number: 1 map, 2 stack, 3 heap, 4 queue.
abbrev pub structure_number : Structure → ℕ
structure_number the-map = 1
structure_number the-stack = 2
structure_number the_heap = 3
structure_number the-queue = 4
