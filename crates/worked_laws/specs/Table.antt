-- Document 01's worked calls marked P, as a single table with one claim.
use Rattle.std.specs.Prelude.{◌≡◌, refl, ℕ, ◌+◌, List, [], ◌∷◌, ◌++◌, take, drop, replicate, get_or}
use Rattle.std.proofs.Math.Option.{none}
use Rattle.balance_spec.specs.Least.{least}
use Rattle.balance_spec.specs.Shape.{shaped}
use Rattle.balance_spec.specs.Greatest.{greatest, tallest}
use Rattle.slot_spec.specs.LittleEndian.{value, bytes}
use Rattle.slot_spec.specs.Layout.{fields, pack}
use Rattle.slot_spec.specs.Tree.{halvings, among, path, tree_length}
use Rattle.slot_spec.specs.Slot.{no_link, fields_in, fields_of, node_of, encode, all_zero, bad, read_slot, filled, well_formed}
use Rattle.round_spec.specs.Round.{with_bucket, none_twice, all_good, read_bucket, read_buckets, insert, join, take_first, tagged, granted, joined, granted_from, read_half, choose, evict}
use Rattle.method_spec.specs.Prog.{bind}
use Rattle.method_spec.specs.Answer.{stack, Op, push, pop}
use Rattle.method_spec.specs.Map.{walk, balance_of, single, double, turn, raise, climb, unwind, unwound, get_step, get_prog, put_step, put_prog, lowest, take_out, remove_step, remove_prog, between, map_test}
use Rattle.method_spec.specs.Stack.{push_prog, pop_prog, stack_test}
use Rattle.method_spec.specs.Queue.{enqueue_prog, enqueue_ahead, dequeue_prog, dequeue_ahead, queue_test}
use Rattle.method_spec.specs.Call.{program, ahead_after, test, run, call, empty_memory, take_key, fetches, draws_from, stepped, answered}
use Rattle.method_spec.specs.Origin as origin
use Rattle.method_spec.specs.Origin.{Origin, drawn, origins, names}
use Rattle.method_spec.specs.Rounds.{rounds, spare}
use Rattle.leaf_spec.specs.Leaf.{read_leaf}
use Rattle.bucket_call_spec.specs.Fetch.{moved_link, moved_node, closing, at_close, idle_round, took_round, want_round, fetch_round, fetch_rounds}
use Rattle.bucket_call_spec.specs.Call.{put_rounds, after_puts, after_fetches, bucket_call}
use Rattle.operation_spec.specs.declared.Answer.TheVariants.{Absent, Pushed, Popped}
use Rattle.slot_spec.specs.declared.Reading.TheVariants.{Full}
use Rattle.state_spec.specs.declared.State.{State}
use Rattle.call_spec.specs.Reply.{Answered, Refused}
use Rattle.list_spec.specs.Ascending.{ascending_from, ascending}
use Rattle.state_spec.specs.Fit.{all_of, root_good, ahead_good, fits, head_fits, places_from}
use Rattle.state_spec.specs.Ticket.{op_in, fields_used, stray_fields}
use Rattle.state_spec.specs.Opening.{opened}
use Rattle.call_spec.specs.Store.{Ended, called, checks, first_met, decided, replied, reply_of}

-- ---- lists of calls from an opening
pub record Ticketed : Type 0 where
  pub kind : ℕ
  pub key : ℕ
  pub value : ℕ
  pub tape : List ℕ

abbrev ticket_of : Ticketed → List ℕ
ticket_of c = bytes 1 c.kind ++ (bytes 4 c.key ++ bytes 8 c.value)

-- One call with a trace buffer of that many numbers.
abbrev call_on : ℕ → State → List ℕ → Ticketed → Ended
call_on room s tree c = called s tree (ticket_of c) c.tape (replicate room 0)

-- The calls of a list in order, each on what the last one left: the last one's outcome.
unfoldable pub last_of : ℕ → State → List ℕ → Ticketed → List Ticketed → Ended
unfolding opened called checks first_met decided replied reply_of fits head_fits all_of ascending_from ascending root_good ahead_good places_from op_in fields_used stray_fields rounds spare greatest tallest shaped least bucket_call after_fetches after_puts put_rounds fetch_rounds fetch_round want_round took_round idle_round at_close closing moved_link moved_node with_bucket none_twice all_good read_bucket read_buckets insert join take_first tagged granted joined granted_from read_half choose evict halvings among filled encode fields_of pack bytes read_slot bad fields_in node_of fields value all_zero well_formed read_leaf program ahead_after test walk single double turn raise climb unwind unwound get_step get_prog put_step put_prog lowest take_out remove_step remove_prog between map_test push_prog pop_prog stack_test enqueue_prog enqueue_ahead dequeue_prog dequeue_ahead queue_test bind balance_of
last_of room s tree c [] = call_on room s tree c
last_of room s tree c (d ∷ cs) =
    last_of room (call_on room s tree c).state (call_on room s tree c).tree d cs

-- From a good opening of a tree that held other bytes.
abbrev pub from : (structure size room : ℕ) → Ticketed → List Ticketed → Ended
from structure size room c cs =
    last_of room (opened structure size (replicate (tree_length size) 7)).state
    (opened structure size (replicate (tree_length size) 7)).tree c cs

-- ---- the worked calls
abbrev on_zeros : (kind key : ℕ) → Ticketed
on_zeros kind key = record { kind = kind; key = key; value = 0; tape = replicate 25 0 }

abbrev push_fifty : Ticketed
push_fifty = record { kind = 4; key = 0; value = 50; tape = 1 ∷ 2 ∷ 3 ∷ [] }

abbrev pop_next : Ticketed
pop_next = record { kind = 5; key = 0; value = 0; tape = 0 ∷ 1 ∷ 1 ∷ [] }

abbrev push_next : Ticketed
push_next = record { kind = 4; key = 0; value = 60; tape = 0 ∷ 1 ∷ 1 ∷ [] }

abbrev get_seven : List ℕ → Ticketed
get_seven tape = record { kind = 1; key = 7; value = 0; tape = tape }

abbrev zero_to_twelve : List ℕ
zero_to_twelve = 0 ∷ 1 ∷ 2 ∷ 3 ∷ 4 ∷ 5 ∷ 6 ∷ 7 ∷ 8 ∷ 9 ∷ 10 ∷ 11 ∷ 12 ∷ []

-- The third place that the origin rule names for a list of two calls on a stack of size 2.
abbrev third : List (Op stack) → Origin
third ops = get_or (names (rounds stack 2) 2 ops) 2 origin.no_draw

-- A node's slot: key, value, tag, and links that are absent.
abbrev lone : (key value tag : ℕ) → List ℕ
lone key value tag =
    encode (record { key = key; value = value; tag = tag; left = no_link; right = no_link })

-- ---- the table
pub record Worked : Type 0 where
  -- Size 2, leaf 2: buckets 6, 3, 1.
  pub path-of-leaf : path 2 2 ≡ 6 ∷ 3 ∷ 1 ∷ []
  -- After the push, the node (tag 2) is at byte 256 and none waits.
  pub pushed-tree : (from 2 2 2 push_fifty []).tree ≡ replicate 256 0 ++ (lone 1 50 2 ++ replicate 608 0)
  pub none-waits : (from 2 2 2 push_fifty []).state.count ≡ 0
  pub pushed-reply : (from 2 2 2 push_fifty []).reply ≡ Answered Pushed
  pub pushed-leaves : (from 2 2 2 push_fifty []).trace ≡ 1 ∷ 3 ∷ []
  -- The pop after it, with the third place named call 1, draw 1.
  pub popped-reply : (from 2 2 2 push_fifty (pop_next ∷ [])).reply ≡ Answered (Popped 50)
  pub popped-leaves : (from 2 2 2 push_fifty (pop_next ∷ [])).trace ≡ 2 ∷ 1 ∷ []
  pub pop-names : third (push 50 ∷ pop ∷ []) ≡ drawn 1 1
  -- A push in its place: third place names call 2, draw 0, leaves 0 and 1.
  pub push-names : third (push 50 ∷ push 60 ∷ []) ≡ drawn 2 0
  pub push-leaves : (from 2 2 2 push_fifty (push_next ∷ [])).trace ≡ 0 ∷ 1 ∷ []
  -- Fresh map, size 2, get 7, tape 0 to 12.
  pub absent-reply : (from 1 2 12 (get_seven zero_to_twelve) []).reply ≡ Answered Absent
  pub absent-leaves : (from 1 2 12 (get_seven zero_to_twelve) []).trace ≡ 0 ∷ 1 ∷ 2 ∷ 3 ∷ 0 ∷ 1 ∷ 3 ∷ 0 ∷ 1 ∷ 2 ∷ 3 ∷ 0 ∷ []
  -- The same with 12 numbers: 6. With a trace of 11: 7.
  pub tape-short : (from 1 2 12 (get_seven (take 12 zero_to_twelve)) []).reply ≡ Refused 6
  pub trace-short : (from 1 2 11 (get_seven zero_to_twelve) []).reply ≡ Refused 7
  -- Map size 2, zero tape, put 1, 2, 3: root 2.
  pub ascending-root : (from 1 2 12 (on_zeros 2 1) (on_zeros 2 2 ∷ on_zeros 2 3 ∷ [])).state.root.key ≡ 2
  -- Map size 3, zero tape, put 2, 1, 4, 3, 5, remove 1: root 4, not 3.
  pub leaning-root : (from 1 3 24 (on_zeros 2 2) (on_zeros 2 1 ∷ on_zeros 2 4 ∷ on_zeros 2 3 ∷ on_zeros 2 5 ∷ on_zeros 3 1 ∷ [])).state.root.key ≡ 4
  -- Map size 2, zero tape, put 2, 1, 3, remove 2: root 3 with left 1. The root's node is at byte 416: slot 1 of bucket 4, which starts at
  -- byte 384; slot 0 has key 1, the lowest.
  pub replaced-root : (from 1 2 12 (on_zeros 2 2) (on_zeros 2 1 ∷ on_zeros 2 3 ∷ on_zeros 3 2 ∷ [])).state.root ≡ record { height = 2; key = 3; tag = 0 }
  pub replaced-left : read_slot 2 4 (take 32 (drop 416 (from 1 2 12 (on_zeros 2 2) (on_zeros 2 1 ∷ on_zeros 2 3 ∷ on_zeros 3 2 ∷ [])).tree))
      ≡ Full (record { key = 3; value = 0; tag = 0; left = record { height = 1; key = 1; tag = 0 }; right = no_link })

-- The calls marked P in document 01, proved together.
pub worked : Worked
unfolding last_of origins run call empty_memory take_key fetches draws_from stepped answered
worked =
    record {
      path-of-leaf = refl;
      pushed-tree = refl;
      none-waits = refl;
      pushed-reply = refl;
      pushed-leaves = refl;
      popped-reply = refl;
      popped-leaves = refl;
      pop-names = refl;
      push-names = refl;
      push-leaves = refl;
      absent-reply = refl;
      absent-leaves = refl;
      tape-short = refl;
      trace-short = refl;
      ascending-root = refl;
      leaning-root = refl;
      replaced-root = refl;
      replaced-left = refl;
    }
