-- Lists of calls from a C host, each on the bytes that the last one left, whatever the lengths of what they lend: as `History` (demand_spec) has them
-- for states.
use Rattle.std.specs.Prelude.{ℕ, ◌^◌, ◌<◌, ◌≡◌, Bool, ◌&&◌, ◌||◌, List, [], ◌∷◌, ◌++◌, map, eqb, ltb, length, get_or, take, drop}
use Rattle.std.proofs.Math.Option.{Option, none, some}
use Rattle.list_spec.specs.Choice.{pick}
use Rattle.slot_spec.specs.LittleEndian.{Bytes, bytes}
use Rattle.call_spec.specs.Reply.{Reply}
use Rattle.call_spec.specs.Store.{Ended}
use Rattle.lent_bytes_spec.specs.Numbers.{numbers_of}
use Rattle.lent_bytes_spec.specs.StateBytes.{state_length, head_in, state_bytes}
use Rattle.host_spec.specs.Result.{reply_number, reply_value}
use Rattle.host_spec.specs.Host.{HostEnded, lengths_good, host_leaving, host_ended_as, host_called}
use Rattle.demand_spec.specs.History.{Brought, StateAndTree, call_on, left_by, history, finally, until_closed, changes_nothing, counted, replies, trace_of}

-- What a C host brings with a call; and, read as numbers, what the existing call brings.
pub record HostBrought : Type 0 where
  pub ticket : List ℕ
  pub tape : List ℕ
  pub trace : List ℕ
  pub result : List ℕ

abbrev pub brought_by : HostBrought → Brought
brought_by b = record { ticket = b.ticket; tape = numbers_of b.tape; trace = numbers_of b.trace }

-- Bytes, as everything that a machine can lend.
pub record LentBytes (b : HostBrought) : Type 0 where
  pub ticket : Bytes b.ticket
  pub trace : Bytes b.trace

-- A store as a C host holds it: its state's bytes and its tree.
pub record HostStore : Type 0 where
  pub state : List ℕ
  pub tree : List ℕ

abbrev pub bytes_of : StateAndTree → HostStore
bytes_of s = record { state = state_bytes s.state; tree = s.tree }

abbrev pub mark_in : List ℕ → ℕ
mark_in state = (head_in state).mark

-- ---- calls one after the other
abbrev pub host_call_on : HostStore → HostBrought → HostEnded
host_call_on s b = host_called s.state s.tree b.ticket b.tape b.trace b.result

abbrev pub host_left_by : HostEnded → HostStore
host_left_by e = record { state = e.state; tree = e.tree }

unfoldable pub host_history : HostStore → List HostBrought → List HostEnded
host_history s [] = []
host_history s (b ∷ bs) = host_call_on s b ∷ host_history (host_left_by (host_call_on s b)) bs

unfoldable pub host_finally : HostStore → List HostBrought → HostStore
host_finally s [] = s
host_finally s (b ∷ bs) = host_finally (host_left_by (host_call_on s b)) bs

-- The calls before the one that closed the store.
unfoldable pub host_until_closed : HostStore → List HostBrought → List HostBrought
host_until_closed s [] = []
host_until_closed s (b ∷ bs) =
    pick (eqb (mark_in (host_call_on s b).state) 0) (b ∷ host_until_closed (host_left_by (host_call_on s b)) bs) []

-- ---- the calls that count
-- The refusals that leave every byte as it came and reveal no leaf: 1 to 7, 17 and 19, and 18, whose "effects are those of 17".
abbrev pub changes_no_byte : ℕ → Bool
changes_no_byte n = changes_nothing n || eqb n 18

-- A call that returned one of these; 0 is none.
abbrev pub host_early : HostEnded → Bool
host_early e = ltb 0 e.number && changes_no_byte e.number

unfoldable pub host_counted : HostStore → List HostBrought → List HostBrought
host_counted s [] = []
host_counted s (b ∷ bs) =
    pick (host_early (host_call_on s b)) (host_counted (host_left_by (host_call_on s b)) bs) (b ∷ host_counted (host_left_by (host_call_on s b)) bs)

-- ---- what a C host reads of a call that counts
-- The number, and of the result bytes the first, whether there is a value, and the last eight, the value.
pub record HostReply : Type 0 where
  pub number : ℕ
  pub has : List ℕ
  pub value : List ℕ

abbrev pub host_reply_in : HostEnded → HostReply
host_reply_in e = record { number = e.number; has = take 1 e.result; value = drop 4 e.result }

-- The same of a reply of the existing call.
abbrev pub host_reply_of : Reply → HostReply
host_reply_of r = record { number = reply_number r; has = bytes 1 (reply_value r).has; value = bytes 8 (reply_value r).value }

-- A value fits its eight bytes, where there is one: then these say it.
abbrev pub ValueFits : Option ℕ → Type 0
ValueFits none = Unit {0}
ValueFits (some v) = v < 2 ^ 64

unfoldable pub host_replies : List HostEnded → List HostReply
host_replies [] = []
host_replies (e ∷ es) = pick (host_early e) (host_replies es) (host_reply_in e ∷ host_replies es)

-- The leaves: as many of the trace's numbers as the second result byte says.
abbrev pub leaves_read : HostEnded → List ℕ
leaves_read e = take (get_or e.result 1 0) (numbers_of e.trace)

unfoldable pub host_trace_of : List HostEnded → List ℕ
host_trace_of [] = []
host_trace_of (e ∷ es) = pick (host_early e) (host_trace_of es) (leaves_read e ++ host_trace_of es)

-- ---- the same list by the existing calls
abbrev pub lengths_pass : HostBrought → Bool
lengths_pass b = lengths_good state_length (length b.tape) (length b.trace) (length b.result)

-- The calls whose lengths pass, as the existing calls.
unfoldable pub heard : List HostBrought → List Brought
heard [] = []
heard (b ∷ bs) = pick (lengths_pass b) (brought_by b ∷ heard bs) (heard bs)

-- One whose lengths do not pass gets 18 and changes nothing; the others are the existing calls, over bytes.
unfoldable pub host_outcomes : StateAndTree → List HostBrought → List HostEnded
host_outcomes s [] = []
host_outcomes s (b ∷ bs) =
    pick (lengths_pass b)
    (host_ended_as b.result (call_on s (brought_by b)) ∷ host_outcomes (left_by (call_on s (brought_by b))) bs)
    (host_leaving 18 (state_bytes s.state) s.tree b.trace b.result ∷ host_outcomes s bs)

-- A list of calls from C on a byte store is the list of existing calls that were heard, on a state and its tree: every number and every lent byte; the
-- store at the end; and, of the calls that count, the replies and the trace.
pub record HostAs (h : HostStore) (s : StateAndTree) (bs : List HostBrought) : Type 0 where
  pub outcomes : host_history h bs ≡ host_outcomes s bs
  pub end : host_finally h bs ≡ bytes_of (finally s (heard bs))
  pub until : heard (host_until_closed h bs) ≡ until_closed s (heard bs)
  pub counts : map brought_by (host_counted h bs) ≡ counted s (heard bs)
  pub answers : host_replies (host_history h bs) ≡ map host_reply_of (replies (history s (heard bs)))
  pub trace : host_trace_of (host_history h bs) ≡ trace_of (history s (heard bs))
