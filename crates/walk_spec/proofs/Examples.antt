-- Worked examples of the definitions: numbers, lines, the parts of the input, and whole outputs.
use Rattle.std.specs.Prelude.{◌≡◌, refl, ℕ, List, [], ◌∷◌, ◌++◌, length, replicate}
use Rattle.balance_spec.specs.Least.{least}
use Rattle.balance_spec.specs.Shape.{shaped}
use Rattle.balance_spec.specs.Greatest.{greatest, tallest}
use Rattle.slot_spec.specs.LittleEndian.{value, bytes}
use Rattle.slot_spec.specs.Layout.{fields, pack}
use Rattle.slot_spec.specs.Tree.{halvings, among}
use Rattle.slot_spec.specs.Slot.{fields_in, fields_of, node_of, encode, all_zero, bad, read_slot, filled, well_formed}
use Rattle.round_spec.specs.Round.{with_bucket, none_twice, all_good, read_bucket, read_buckets, insert, join, take_first, tagged, granted, joined, granted_from, read_half, choose, evict}
use Rattle.method_spec.specs.Prog.{bind}
use Rattle.method_spec.specs.Map.{walk, balance_of, single, double, turn, raise, climb, unwind, unwound, get_step, get_prog, put_step, put_prog, lowest, take_out, remove_step, remove_prog, between, map_test}
use Rattle.method_spec.specs.Stack.{push_prog, pop_prog, stack_test}
use Rattle.method_spec.specs.Heap.{turns_to, descend, settled, rise, topmost, add_prog, downward, child_of, sink, replace_root, take_prog, heap_test}
use Rattle.method_spec.specs.Queue.{enqueue_prog, enqueue_ahead, dequeue_prog, dequeue_ahead, queue_test}
use Rattle.method_spec.specs.Call.{program, ahead_after, test}
use Rattle.method_spec.specs.Rounds.{rounds, spare}
use Rattle.leaf_spec.specs.Leaf.{read_leaf}
use Rattle.bucket_call_spec.specs.Fetch.{moved_link, moved_node, closing, at_close, idle_round, took_round, want_round, fetch_round, fetch_rounds}
use Rattle.bucket_call_spec.specs.Call.{put_rounds, after_puts, after_fetches, bucket_call}
use Rattle.call_spec.specs.Reply.{Answered, Refused}
use Rattle.list_spec.specs.Ascending.{ascending_from, ascending}
use Rattle.state_spec.specs.Fit.{all_of, root_good, ahead_good, fits, head_fits, places_from}
use Rattle.state_spec.specs.Ticket.{op_in, fields_used, stray_fields}
use Rattle.state_spec.specs.Opening.{opened}
use Rattle.call_spec.specs.Store.{called, checks, first_met, decided, replied, reply_of}
use Rattle.operation_spec.specs.declared.Answer.TheVariants.{Absent, Pushed, Popped, Replaced}
use Rattle.walk_spec.specs.Lines.{ascii, leading, decimal, numbers, line_of, longest_line}
use Rattle.walk_spec.specs.PeakLines.{peak_line}
use Rattle.lent_bytes_spec.specs.Numbers.{numbers_in}
use Rattle.walk_spec.specs.Input.{record_length, tape_in, arrived_of}
use Rattle.walk_spec.specs.Walk.{call_lines, walked}

-- ---- numbers
pub record Numbers : Type 0 where
  pub nought : decimal 0 ≡ ascii "0"
  pub ten : decimal 10 ≡ ascii "10"
  pub largest-leaf : decimal 65535 ≡ ascii "65535"
  pub largest-value : decimal 18446744073709551615 ≡ ascii "18446744073709551615"

numbers-worked : Numbers
unfolding leading decimal
numbers-worked = record { nought = refl; ten = refl; largest-leaf = refl; largest-value = refl }

-- ---- lines
pub record Lines : Type 0 where
  pub push : line_of (Answered Pushed) (1 ∷ 3 ∷ []) ≡ ascii "pushed 0 1 3\n"
  pub pop : line_of (Answered (Popped 50)) (2 ∷ 1 ∷ []) ≡ ascii "popped 50 2 1\n"
  pub get : line_of (Answered Absent) (0 ∷ 1 ∷ 2 ∷ 3 ∷ 0 ∷ 1 ∷ 3 ∷ 0 ∷ 1 ∷ 2 ∷ 3 ∷ 0 ∷ []) ≡ ascii "absent 0 0 1 2 3 0 1 3 0 1 2 3 0\n"
  pub full-store : line_of (Refused 10) (0 ∷ 1 ∷ []) ≡ ascii "refused 10 0 1\n"
  pub closed : line_of (Refused 1) [] ≡ ascii "refused 1\n"
  pub peak : peak_line 7 65 ≡ ascii "last 7 largest 65 limit 64\n"
  pub longest : length (line_of (Answered (Replaced 18446744073709551615)) (replicate 66 65535)) ≡ longest_line

lines-worked : Lines
unfolding leading decimal numbers line_of peak_line
lines-worked = record { push = refl; pop = refl; get = refl; full-store = refl; closed = refl; peak = refl; longest = refl }

-- ---- the input
pub record Records : Type 0 where
  pub stack : record_length 2 2 ≡ 19
  pub smallest-map : record_length 1 1 ≡ 27
  pub largest-map : record_length 1 8 ≡ 147
  pub largest-heap : record_length 3 8 ≡ 111
  pub queue : record_length 4 8 ≡ 21
  pub tape : tape_in 2 (replicate 13 7 ++ (1 ∷ 2 ∷ 255 ∷ 255 ∷ [])) ≡ 513 ∷ 65535 ∷ []

records-worked : Records
unfolding least shaped tallest greatest rounds spare value numbers_in
records-worked = record { stack = refl; smallest-map = refl; largest-map = refl; largest-heap = refl; queue = refl; tape = refl }

-- ---- whole outputs
-- A call in the input.
abbrev call_bytes : (kind key number : ℕ) → List ℕ → List ℕ
call_bytes kind key number tape = bytes 1 kind ++ (bytes 4 key ++ (bytes 8 number ++ tape))

pub record Outputs : Type 0 where
  -- Document 01: structure 2, size 2, push 50 with tape 1 2 3, pop with 0 1 1.
  pub document : walked (2 ∷ 2 ∷ (call_bytes 4 0 50 (1 ∷ 0 ∷ 2 ∷ 0 ∷ 3 ∷ 0 ∷ []) ++ call_bytes 5 0 0 (0 ∷ 0 ∷ 1 ∷ 0 ∷ 1 ∷ 0 ∷ []))) ≡ ascii "pushed 0 1 3\npopped 50 2 1\n"
  -- Document 01's case, as document 02 changes it: map size 1, put 9 twice: new, then replaced.
  pub full-map : walked (1 ∷ 1 ∷ (call_bytes 2 9 5 (replicate 14 0) ++ call_bytes 2 9 6 (replicate 14 0))) ≡ ascii "new 0 0 0 0 0 0 0\nreplaced 5 0 0 0 0 0 0\n"
  pub foreign-kind : walked (2 ∷ 1 ∷ (call_bytes 1 0 0 (replicate 6 0) ++ call_bytes 5 0 0 (replicate 6 1))) ≡ ascii "refused 5\nempty 0 1 1\n"
  pub within-a-call : walked (2 ∷ 1 ∷ (call_bytes 5 0 0 (replicate 6 0) ++ call_bytes 5 0 0 (replicate 5 0))) ≡ ascii "empty 0 0 0\nshort\n"
  pub no-calls : walked (1 ∷ 8 ∷ []) ≡ []
  pub heap : walked (3 ∷ 1 ∷ (call_bytes 6 0 7 (replicate 14 0) ++ call_bytes 7 0 0 (replicate 14 1))) ≡ ascii "added 0 0 0 0 0 0 0\ntaken 7 0 1 1 1 1 1\n"
  -- Queue, size 1: in 7 with tape 0 1 1 0, out with 1 0 0 1. The node's tag is draw 1 of the in; each put round reveals draw 3.
  pub queue : walked (4 ∷ 1 ∷ (call_bytes 8 0 7 (0 ∷ 0 ∷ 1 ∷ 0 ∷ 1 ∷ 0 ∷ 0 ∷ 0 ∷ []) ++ call_bytes 9 0 0 (1 ∷ 0 ∷ 0 ∷ 0 ∷ 0 ∷ 0 ∷ 1 ∷ 0 ∷ []))) ≡ ascii "queued 0 0 0\ndequeued 7 1 1\n"
  pub no-structure : walked (5 ∷ 9 ∷ 7 ∷ []) ≡ ascii "refused 11\n"
  pub no_size : walked (1 ∷ 9 ∷ []) ≡ ascii "refused 12\n"
  pub one_byte : walked (7 ∷ []) ≡ ascii "short\n"
  pub no_byte : walked [] ≡ ascii "short\n"

outputs-worked : Outputs
unfolding leading decimal numbers line_of numbers_in arrived_of call_lines walked opened called checks first_met decided replied reply_of fits head_fits all_of ascending_from ascending root_good places_from op_in fields_used stray_fields rounds spare greatest tallest shaped least bucket_call after_fetches after_puts put_rounds fetch_rounds fetch_round want_round took_round idle_round at_close closing moved_link moved_node with_bucket none_twice all_good read_bucket read_buckets insert join take_first tagged granted joined granted_from read_half choose evict halvings among filled encode fields_of pack bytes read_slot bad fields_in node_of fields value all_zero well_formed read_leaf program test walk single double turn raise climb unwind unwound get_step get_prog put_step put_prog lowest take_out remove_step remove_prog between map_test push_prog pop_prog stack_test turns_to descend settled rise topmost add_prog downward child_of sink replace_root take_prog heap_test enqueue_prog enqueue_ahead dequeue_prog dequeue_ahead queue_test ahead_after ahead_good bind balance_of
outputs-worked =
    record {
      document = refl;
      full-map = refl;
      foreign-kind = refl;
      within-a-call = refl;
      no-calls = refl;
      heap = refl;
      queue = refl;
      no-structure = refl;
      no_size = refl;
      one_byte = refl;
      no_byte = refl;
    }
