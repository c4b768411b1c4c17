-- Worked lengths, results, and calls over bytes.
use Rattle.std.specs.Prelude.{◌≡◌, refl, true, false, List, [], ◌∷◌, ◌++◌, map, ℕ, replicate}
use Rattle.balance_spec.specs.Least.{least}
use Rattle.balance_spec.specs.Shape.{shaped}
use Rattle.balance_spec.specs.Greatest.{greatest, tallest}
use Rattle.list_spec.specs.Ascending.{ascending_from, ascending}
use Rattle.list_spec.specs.Largest.{largest}
use Rattle.slot_spec.specs.LittleEndian.{value, bytes}
use Rattle.slot_spec.specs.Layout.{fields, pack}
use Rattle.slot_spec.specs.Tree.{halvings, among}
use Rattle.slot_spec.specs.Slot.{fields_in, fields_of, node_of, encode, all_zero, bad, read_slot, filled, well_formed}
use Rattle.round_spec.specs.Round.{with_bucket, none_twice, all_good, read_bucket, read_buckets, insert, join, take_first, tagged, granted, joined, granted_from, read_half, choose, evict}
use Rattle.method_spec.specs.Stack.{push_prog, pop_prog, stack_test}
use Rattle.method_spec.specs.Call.{program, ahead_after, test}
use Rattle.method_spec.specs.Rounds.{rounds, spare}
use Rattle.leaf_spec.specs.Leaf.{read_leaf}
use Rattle.bucket_call_spec.specs.Fetch.{count_at_close, moved_link, moved_node, closing, at_close, idle_round, took_round, want_round, fetch_round, fetch_rounds}
use Rattle.bucket_call_spec.specs.Call.{put_rounds, after_puts, after_fetches, bucket_call}
use Rattle.bucket_call_spec.specs.Peak.{then_rounds, rounds_from, counts_of, puts_after}
use Rattle.operation_spec.specs.declared.Answer.TheVariants.{Found, Absent}
use Rattle.state_spec.specs.Fit.{all_of, root_good, ahead_good, fits, head_fits, places_from}
use Rattle.state_spec.specs.Ticket.{op_in, fields_used, stray_fields}
use Rattle.state_spec.specs.Opening.{opened}
use Rattle.call_spec.specs.Reply.{Answered, Refused}
use Rattle.call_spec.specs.Store.{called, checks, first_met, decided, replied, reply_of}
use Rattle.readout_spec.specs.ReadOut as read
use Rattle.readout_spec.specs.ReadOut.{read_out, length_of}
use Rattle.lent_bytes_spec.specs.Numbers.{numbers_in, numbers_bytes}
use Rattle.lent_bytes_spec.specs.StateBytes.{head_in, head_bytes, place_in, places_in, places_bytes, state_in, state_bytes, slots_sound, fit_bytes}
use Rattle.host_spec.specs.Lengths.{tree_lent, tape_lent, trace_lent, file_lent}
use Rattle.host_spec.specs.Result.{reply_number, reply_value, result_bytes}
use Rattle.host_spec.specs.Host.{host_opened, lengths_good, host_leaving, host_called, host_read_out}

-- ---- lengths
-- A map of size 1, F = 3, and of size 8, F = 33; a stack; a queue, whose call takes four draws. Structure 5, size 9 and 257 are unknown.
pub record Lengths : Type 0 where
  pub trees : map tree_lent (1 ∷ 2 ∷ 8 ∷ 0 ∷ 9 ∷ 257 ∷ []) ≡ 384 ∷ 896 ∷ 65408 ∷ 0 ∷ 0 ∷ 0 ∷ []
  pub tapes : tape_lent 1 1 ∷ tape_lent 1 8 ∷ tape_lent 2 8 ∷ tape_lent 4 1 ∷ tape_lent 5 1 ∷ tape_lent 257 1 ∷ tape_lent 1 9 ∷ [] ≡ 14 ∷ 134 ∷ 6 ∷ 8 ∷ 0 ∷ 0 ∷ 0 ∷ []
  pub traces : trace_lent 1 1 ∷ trace_lent 1 8 ∷ trace_lent 2 8 ∷ trace_lent 4 1 ∷ trace_lent 0 1 ∷ trace_lent 1 257 ∷ [] ≡ 12 ∷ 132 ∷ 4 ∷ 4 ∷ 0 ∷ 0 ∷ []
  pub files : map file_lent (1 ∷ 8 ∷ 9 ∷ []) ≡ 1810 ∷ 34322 ∷ 0 ∷ []
  -- State, tape, trace and result: of another length each, an odd tape, an odd trace.
  pub good : lengths_good 3248 6 4 12 ∷ lengths_good 3247 6 4 12 ∷ lengths_good 3248 5 4 12 ∷ lengths_good 3248 6 3 12 ∷ lengths_good 3248 6 4 13 ∷ lengths_good 3248 0 0 12 ∷ []
      ≡ true ∷ false ∷ false ∷ false ∷ false ∷ true ∷ []

lengths-worked : Lengths
unfolding tape_lent trace_lent file_lent lengths_good least shaped tallest greatest rounds spare
lengths-worked = record { trees = refl; tapes = refl; traces = refl; files = refl; good = refl }

-- ---- results
pub record Results : Type 0 where
  pub found : result_bytes (reply_value (Answered (Found 258))) 6 3 ≡ 1 ∷ 6 ∷ 3 ∷ 0 ∷ 2 ∷ 1 ∷ replicate 6 0
  pub absent : result_bytes (reply_value (Answered Absent)) 66 64 ≡ 0 ∷ 66 ∷ 64 ∷ 0 ∷ replicate 8 0
  pub full-store : result_bytes (reply_value (Refused 10)) 2 1 ≡ 0 ∷ 2 ∷ 1 ∷ 0 ∷ replicate 8 0
  pub numbers : reply_number (Answered Absent) ∷ reply_number (Refused 10) ∷ [] ≡ 0 ∷ 10 ∷ []

results-worked : Results
unfolding result_bytes pack bytes
results-worked = record { found = refl; absent = refl; full-store = refl; numbers = refl }

-- ---- opening
-- A stack of size 1; structure 257, size 9, a tree that is a byte too short; a state of 15 bytes.
pub record Openings : Type 0 where
  pub good : host_opened 2 1 (replicate 3248 7) (replicate 384 9) ≡ record { number = 0; state = 0 ∷ 2 ∷ 1 ∷ replicate 3245 0; tree = replicate 384 0 }
  pub no-structure : host_opened 257 1 (replicate 3248 7) (9 ∷ []) ≡ record { number = 11; state = 11 ∷ replicate 3247 0; tree = 9 ∷ [] }
  pub no_size : host_opened 1 9 (replicate 3248 7) [] ≡ record { number = 12; state = 12 ∷ replicate 3247 0; tree = [] }
  pub no-tree : host_opened 1 1 (replicate 3248 7) (replicate 383 9) ≡ record { number = 3; state = 3 ∷ replicate 3247 0; tree = replicate 383 9 }
  pub no-state : host_opened 257 1 (replicate 15 7) [] ≡ record { number = 18; state = replicate 15 7; tree = [] }

openings-worked : Openings
unfolding host_opened opened state_bytes head_bytes places_bytes pack bytes
openings-worked = record { good = refl; no-structure = refl; no_size = refl; no-tree = refl; no-state = refl }

-- ---- calls
-- Document 01's worked push over bytes: a stack of size 2, push 50 with tape 1 2 3. The node, under tag 2, is in bucket 3, at byte 256.
abbrev push_ticket : List ℕ
push_ticket = 4 ∷ replicate 4 0 ++ (50 ∷ replicate 7 0)

abbrev fresh_bytes : List ℕ
fresh_bytes = 0 ∷ 2 ∷ 2 ∷ replicate 3245 0

abbrev pushed_bytes : List ℕ
pushed_bytes = 0 ∷ 2 ∷ 2 ∷ 1 ∷ 1 ∷ 0 ∷ 0 ∷ 0 ∷ 1 ∷ 0 ∷ 0 ∷ 0 ∷ 2 ∷ replicate 3235 0

abbrev pushed_tree : List ℕ
pushed_tree = replicate 256 0 ++ (1 ∷ 0 ∷ 0 ∷ 0 ∷ 1 ∷ replicate 11 0) ++ (2 ∷ replicate 7 0) ++ (50 ∷ replicate 615 0)

abbrev tape : List ℕ
tape = 1 ∷ 0 ∷ 2 ∷ 0 ∷ 3 ∷ 0 ∷ []

-- A trace buffer with a place more than is needed, and a result buffer, both with some content.
abbrev trace : List ℕ
trace = replicate 6 7

abbrev result : List ℕ
result = replicate 12 7

pub record Calls : Type 0 where
  pub push : host_called fresh_bytes (replicate 896 0) push_ticket tape trace result
      ≡ record { number = 0; state = pushed_bytes; tree = pushed_tree; trace = 1 ∷ 0 ∷ 3 ∷ 0 ∷ 7 ∷ 7 ∷ []; result = 0 ∷ 2 ∷ 0 ∷ replicate 9 0 }
  -- Then pop with tape 0 1 1: 50, leaves 2 and 1, and one node held at the first round's close.
  pub pop : host_called pushed_bytes pushed_tree (5 ∷ replicate 12 0) (0 ∷ 0 ∷ 1 ∷ 0 ∷ 1 ∷ 0 ∷ []) trace result
      ≡ record { number = 0; state = fresh_bytes; tree = replicate 896 0; trace = 2 ∷ 0 ∷ 1 ∷ 0 ∷ 7 ∷ 7 ∷ []; result = 1 ∷ 2 ∷ 1 ∷ 0 ∷ 50 ∷ replicate 7 0 }
  -- An odd tape, also for a state that is closed; then a closed mark, ahead of all that is wrong with the rest of the bytes.
  pub odd-tape : host_called (9 ∷ replicate 3247 9) [] [] (1 ∷ []) trace result ≡ host_leaving 18 (9 ∷ replicate 3247 9) [] trace result
  pub closed : host_called (9 ∷ replicate 3247 9) [] [] [] trace result ≡ host_leaving 1 (9 ∷ replicate 3247 9) [] trace result
  -- A byte of the last unused slot is not zero; then a foreign kind.
  pub stray-byte : host_called (0 ∷ 2 ∷ 2 ∷ replicate 3244 0 ++ (1 ∷ [])) (replicate 896 0) push_ticket tape trace result
      ≡ host_leaving 2 (0 ∷ 2 ∷ 2 ∷ replicate 3244 0 ++ (1 ∷ [])) (replicate 896 0) trace result
  pub foreign-kind : host_called fresh_bytes (replicate 896 0) (1 ∷ replicate 12 0) tape trace result ≡ host_leaving 5 fresh_bytes (replicate 896 0) trace result
  -- Document 02's pop with an old setpoint, 50; a push that has a key; and a foreign kind with both fields.
  pub stray-value : host_called pushed_bytes pushed_tree (5 ∷ replicate 4 0 ++ (50 ∷ replicate 7 0)) tape trace result ≡ host_leaving 19 pushed_bytes pushed_tree trace result
  pub stray-key : host_called fresh_bytes (replicate 896 0) (4 ∷ 1 ∷ replicate 3 0 ++ (50 ∷ replicate 7 0)) tape trace result
      ≡ host_leaving 19 fresh_bytes (replicate 896 0) trace result
  pub foreign-fields : host_called fresh_bytes (replicate 896 0) (9 ∷ replicate 12 7) tape trace result ≡ host_leaving 5 fresh_bytes (replicate 896 0) trace result

calls-worked : Calls
unfolding host_called lengths_good fit_bytes state_in head_in places_in place_in slots_sound state_bytes head_bytes places_bytes numbers_in numbers_bytes result_bytes called checks first_met decided replied reply_of fits head_fits all_of ascending_from ascending root_good ahead_good places_from op_in fields_used stray_fields rounds spare greatest tallest shaped least bucket_call after_fetches after_puts put_rounds fetch_rounds fetch_round want_round took_round idle_round at_close closing count_at_close then_rounds rounds_from counts_of puts_after largest moved_link moved_node with_bucket none_twice all_good read_bucket read_buckets insert join take_first tagged granted joined granted_from read_half choose evict halvings among filled encode fields_of pack bytes read_slot bad fields_in node_of fields value all_zero well_formed read_leaf program ahead_after test push_prog pop_prog stack_test
calls-worked = record { push = refl; pop = refl; odd-tape = refl; closed = refl; stray-byte = refl; foreign-kind = refl; stray-value = refl; stray-key = refl; foreign-fields = refl }

-- ---- reading out: a state of another length, and an open store.
pub record Files : Type 0 where
  pub short-state : host_read_out (9 ∷ []) [] (7 ∷ []) ≡ record { number = 18; length = 0; out = 7 ∷ [] }
  pub open-store : host_read_out fresh_bytes [] (7 ∷ []) ≡ record { number = 14; length = 0; out = 7 ∷ [] }

files-worked : Files
unfolding host_read_out read_out read.read_out_number length_of state_in head_in fields value
files-worked = record { short-state = refl; open-store = refl }
