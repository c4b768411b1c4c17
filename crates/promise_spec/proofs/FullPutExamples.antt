-- Worked cases of the definitions: two lists one place apart; a full map of size 1 that holds 9, and puts on it, as they are and as they were.
use Rattle.std.specs.Prelude.{◌≡◌, refl, ℕ, Bool, true, false, List, [], ◌∷◌, ◌++◌, replicate}
use Rattle.std.proofs.Common.{sym, ◌∙◌, arith}
use Rattle.std.proofs.Math.Option.{some}
use Rattle.slot_spec.specs.LittleEndian.{value, bytes}
use Rattle.slot_spec.specs.Layout.{fields, pack}
use Rattle.slot_spec.specs.Tree.{halvings, among}
use Rattle.slot_spec.specs.Slot.{fields_in, fields_of, node_of, encode, all_zero, bad, read_slot, filled, well_formed}
use Rattle.round_spec.specs.Round.{with_bucket, none_twice, all_good, read_bucket, read_buckets, insert, join, take_first, tagged, granted, joined, granted_from, read_half, choose, evict}
use Rattle.method_spec.specs.Node.{Node, link_to}
use Rattle.method_spec.specs.Prog.{bind}
use Rattle.method_spec.specs.Answer.{map, Op, get, put, replaced, full}
use Rattle.method_spec.specs.Map.{walk, balance_of, single, double, turn, raise, climb, unwind, unwound, get_step, get_prog, put_step, put_prog, between, map_test}
use Rattle.method_spec.specs.Rounds.{rounds, spare}
use Rattle.method_spec.specs.Call.{program, ahead_after, test}
use Rattle.leaf_spec.specs.Leaf.{leaf_format, read_leaf}
use Rattle.bucket_call_spec.specs.Fetch.{CallLeft, moved_link, moved_node, closing, at_close, idle_round, took_round, want_round, fetch_round, fetch_rounds}
use Rattle.bucket_call_spec.specs.Call.{Store, put_rounds, after_puts, after_fetches, fetched_by, bucket_call}
use Rattle.balance_spec.specs.Least.{least}
use Rattle.balance_spec.specs.Shape.{shaped}
use Rattle.balance_spec.specs.Greatest.{tallest, greatest}
use Rattle.list_spec.specs.Ascending.{ascending_from, ascending}
use Rattle.state_spec.specs.Fit.{all_of, root_good, ahead_good, fits, head_fits, places_from}
use Rattle.state_spec.specs.Ticket.{op_in, fields_used, stray_fields}
use Rattle.state_spec.specs.Opening.{opened}
use Rattle.operation_spec.specs.declared.Answer.TheVariants.{Replaced}
use Rattle.call_spec.specs.Reply.{Answered, Refused}
use Rattle.call_spec.specs.Store.{Ended, checks, first_met, decided, called, replied, reply_of}
use Rattle.promise_spec.specs.FullPut.{full_put, present_on_full, full_put_call, Differ, here, there, OneSlot, stands, ten-then-replaced, OnlyValue}
use Rattle.promise_spec.specs.AsBefore.{earlier_put_step, earlier_put_prog, earlier_programs, bucket_call_with, called_with, called_before_full_put}

two-lists : Differ {A = ℕ} 5 6 (4 ∷ 5 ∷ 5 ∷ []) (4 ∷ 6 ∷ 5 ∷ [])
two-lists = there 4 (here (5 ∷ []))

-- A map of size 1 (F = 3) with that put, on a zero tape.
abbrev empty : Store
empty =
    record {
      entries = 0;
      root = record { height = 0; key = 0; tag = 0 };
      ahead = record { key = 0; tag = 0 };
      waiting = [];
      tree = replicate 384 0;
    }

abbrev zeros : ℕ → ℕ
zeros d = 0

abbrev left_by : CallLeft → Store
left_by l = record { entries = l.entries; root = l.root; ahead = l.ahead; waiting = l.waiting; tree = l.tree }

-- Where this unfolds, so does all that a call computes with.
unfoldable holds_nine : Store
unfolding bucket_call after_fetches after_puts put_rounds fetch_rounds fetch_round want_round took_round idle_round at_close closing moved_link moved_node with_bucket none_twice all_good read_bucket read_buckets insert join take_first tagged granted joined granted_from read_half choose evict halvings among filled encode fields_of pack bytes read_slot bad fields_in node_of fields value all_zero well_formed read_leaf spare program ahead_after test walk balance_of single double turn raise climb unwind unwound get_step get_prog put_step put_prog between map_test bind earlier_put_step earlier_put_prog earlier_programs full_put
holds_nine = left_by (bucket_call 1 3 (put 9 1) zeros empty)

-- Which calls on it are puts of a present key on a full map; on the empty map none is.
abbrev is_full_put : Op map → Store → Bool
is_full_put op st = full_put 1 st.entries op (fetched_by 1 3 op zeros st)

which : (is_full_put (put 9 2) holds_nine ≡ true) × (is_full_put (put 8 2) holds_nine ≡ false) × (is_full_put (get 9) holds_nine ≡ false) × (is_full_put (put 9 1) empty ≡ false)
unfolding holds_nine
which = (refl, refl, refl, refl)

-- Put 9 on the full map: it was 10; it is replaced, with the old value.
abbrev earlier : CallLeft
earlier = bucket_call_with earlier_programs 1 3 (put 9 2) zeros holds_nine

abbrev now : CallLeft
now = bucket_call 1 3 (put 9 2) zeros holds_nine

nine-twice : (earlier.answer ≡ some full) × (now.answer ≡ some (replaced 1))
unfolding holds_nine
nine-twice = (refl, refl)

-- Where there is room the earlier put replaces too.
with-room : (bucket_call_with earlier_programs 2 6 (put 9 2) zeros (left_by (bucket_call 2 6 (put 9 1) zeros (record { entries = 0; root = empty.root; ahead = empty.ahead; waiting = []; tree = replicate 896 0 })))).answer ≡ some (replaced 1)
unfolding holds_nine
with-room = refl

-- The two trees differ in the slot of 9 alone, the first of the leaf's bucket 2; none waits.
abbrev nine_with : ℕ → Node ℕ
nine_with v =
    record {
      key = 9;
      value = v;
      tag = 0;
      left = record { height = 0; key = 0; tag = 0 };
      right = record { height = 0; key = 0; tag = 0 };
    }

abbrev tree_with : ℕ → List ℕ
tree_with v = replicate 128 0 ++ (leaf_format.bytes (nine_with v) ++ replicate 224 0)

two-trees : (earlier.tree ≡ tree_with 1) × (now.tree ≡ tree_with 2) × (earlier.waiting ≡ []) × (now.waiting ≡ [])
unfolding holds_nine
two-trees = (refl, refl, refl, refl)

one-slot : OneSlot leaf_format 1 (nine_with 1) (nine_with 2) (tree_with 1) (tree_with 2)
unfolding halvings among
one-slot =
    record {
      bucket = 2;
      j = 0;
      in_tree = (omega arith, omega arith);
      fourth = omega arith;
      passed = refl;
      before = replicate 128 0;
      after = replicate 224 0;
      at = refl;
      one = refl;
      two = refl;
    }

-- All else that the two calls left, and so that they differ in the value and the answer alone.
one-mark : (earlier.mark ≡ 0) × (now.mark ≡ 0) × (earlier.entries ≡ 1) × (now.entries ≡ 1)
unfolding holds_nine
one-mark = (refl, refl, refl, refl)

one-root : (earlier.root ≡ link_to (nine_with 1)) × (now.root ≡ link_to (nine_with 1)) × (earlier.leaves ≡ replicate 6 0) × (now.leaves ≡ replicate 6 0)
unfolding holds_nine
one-root = (refl, refl, refl, refl)

one-ahead : (earlier.ahead ≡ empty.ahead) × (now.ahead ≡ empty.ahead)
unfolding holds_nine
one-ahead = (refl, refl)

only-the-value : OnlyValue 1 9 2 earlier now
only-the-value =
    record {
      mark = one-mark.1 ∙ sym one-mark.0;
      entries = one-mark.3 ∙ sym one-mark.2;
      root = one-root.1 ∙ sym one-root.0;
      ahead = one-ahead.1 ∙ sym one-ahead.0;
      leaves = one-root.3 ∙ sym one-root.2;
      node = nine_with 1;
      named = refl;
      apart = rw (two-trees.0, two-trees.1, two-trees.2, two-trees.3) (stands one-slot);
      answers = rw (one-mark.1, nine-twice.0, nine-twice.1) ten-then-replaced;
    }

-- ---- whole calls: a map of size 1 that put 9 filled
abbrev put_ticket : (key number : ℕ) → List ℕ
put_ticket key number = bytes 1 2 ++ (bytes 4 key ++ bytes 8 number)

unfoldable filled_by_nine : Ended
unfolding holds_nine opened called checks first_met decided called_with present_on_full replied reply_of fits head_fits all_of ascending_from ascending root_good ahead_good places_from op_in fields_used stray_fields rounds greatest tallest shaped least
filled_by_nine =
    called (opened 1 1 (replicate 384 7)).state (opened 1 1 (replicate 384 7)).tree (put_ticket 9 1) (replicate 7 0) (replicate 6 5)

abbrev next : (key number : ℕ) → Ended
next key number = called filled_by_nine.state filled_by_nine.tree (put_ticket key number) (replicate 7 0) (replicate 6 5)

abbrev next_earlier : (key number : ℕ) → Ended
next_earlier key number =
    called_before_full_put filled_by_nine.state filled_by_nine.tree (put_ticket key number) (replicate 7 0) (replicate 6 5)

abbrev is_full_put_call : ℕ → Bool
is_full_put_call key = full_put_call filled_by_nine.state filled_by_nine.tree (put_ticket key 2) (replicate 7 0)

calls-on-full : (is_full_put_call 9 ≡ true) × ((next 9 2).reply ≡ Answered (Replaced 1)) × ((next_earlier 9 2).reply ≡ Refused 10)
unfolding filled_by_nine
calls-on-full = (refl, refl, refl)

absent-on-full : (is_full_put_call 8 ≡ false) × ((next 8 2).reply ≡ Refused 10) × ((next_earlier 8 2).reply ≡ Refused 10)
unfolding filled_by_nine
absent-on-full = (refl, refl, refl)
