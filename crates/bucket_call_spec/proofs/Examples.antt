-- Document 01's worked push and pop, over bytes, and put 9 twice on a map of size 1.
use Rattle.std.specs.Prelude.{◌≡◌, refl, [], ◌∷◌, replicate}
use Rattle.std.proofs.Math.Option.{some}
use Rattle.slot_spec.specs.LittleEndian.{value, bytes}
use Rattle.slot_spec.specs.Layout.{fields, pack}
use Rattle.slot_spec.specs.Tree.{halvings, among}
use Rattle.slot_spec.specs.Slot.{fields_in, fields_of, node_of, encode, all_zero, bad, read_slot, filled}
use Rattle.round_spec.specs.Round.{with_bucket, none_twice, all_good, read_bucket, read_buckets, insert, join, take_first, tagged, granted, joined, granted_from, read_half, choose, evict}
use Rattle.method_spec.specs.Prog.{bind}
use Rattle.method_spec.specs.Answer.{map, stack, put, push, pop, replaced, popped}
use Rattle.method_spec.specs.Rounds.{spare}
use Rattle.method_spec.specs.Map.{walk, balance_of, single, double, turn, raise, climb, unwind, put_step, put_prog, between, map_test}
use Rattle.method_spec.specs.Stack.{push_prog, pop_prog, stack_test}
use Rattle.method_spec.specs.Call.{program, ahead_after, test}
use Rattle.leaf_spec.specs.Leaf.{read_leaf}
use Rattle.bucket_call_spec.specs.Fetch.{CallLeft, moved_link, moved_node, closing, at_close, idle_round, took_round, want_round, fetch_round, fetch_rounds}
use Rattle.bucket_call_spec.specs.Call.{Store, draw_of, put_rounds, after_puts, after_fetches, bucket_call}

abbrev pub empty : Store
empty =
    record {
      entries = 0;
      root = record { height = 0; key = 0; tag = 0 };
      ahead = record { key = 0; tag = 0 };
      waiting = [];
      tree = replicate 896 0;
    }

abbrev pub left_by : CallLeft → Store
left_by l = record { entries = l.entries; root = l.root; ahead = l.ahead; waiting = l.waiting; tree = l.tree }

abbrev pub first : CallLeft
first = bucket_call {s = stack} 2 1 (push 50) (draw_of 2 (1 ∷ 2 ∷ 3 ∷ [])) empty

abbrev second : CallLeft
second = bucket_call {s = stack} 2 1 pop (draw_of 2 (0 ∷ 1 ∷ 1 ∷ [])) (left_by first)

pub push-reveals : first.leaves ≡ 1 ∷ 3 ∷ []
unfolding bucket_call after_fetches after_puts put_rounds fetch_rounds fetch_round want_round took_round idle_round at_close closing moved_link moved_node with_bucket none_twice all_good read_bucket read_buckets insert join take_first tagged granted joined granted_from read_half choose evict halvings among filled encode fields_of pack bytes read_slot bad fields_in node_of fields value all_zero read_leaf spare program ahead_after test push_prog pop_prog stack_test bind
push-reveals = refl

pub pop-answers : second.answer ≡ some (popped 50)
unfolding bucket_call after_fetches after_puts put_rounds fetch_rounds fetch_round want_round took_round idle_round at_close closing moved_link moved_node with_bucket none_twice all_good read_bucket read_buckets insert join take_first tagged granted joined granted_from read_half choose evict halvings among filled encode fields_of pack bytes read_slot bad fields_in node_of fields value all_zero read_leaf spare program ahead_after test push_prog pop_prog stack_test bind
pop-answers = refl

pub pop-reveals : second.leaves ≡ 2 ∷ 1 ∷ []
unfolding bucket_call after_fetches after_puts put_rounds fetch_rounds fetch_round want_round took_round idle_round at_close closing moved_link moved_node with_bucket none_twice all_good read_bucket read_buckets insert join take_first tagged granted joined granted_from read_half choose evict halvings among filled encode fields_of pack bytes read_slot bad fields_in node_of fields value all_zero read_leaf spare program ahead_after test push_prog pop_prog stack_test bind
pop-reveals = refl

-- A fresh map of size 1 (F = 3): put 9 with tape 1 0 1, 0, 0 0 0, then put 9 with 1 1 0, 1, 1 0 1. The first put's node has tag 0.
abbrev put_nine : CallLeft
put_nine =
    bucket_call {s = map} 1 3 (put 9 7) (draw_of 1 (1 ∷ 0 ∷ 1 ∷ 0 ∷ 0 ∷ 0 ∷ 0 ∷ []))
    (record { entries = 0; root = empty.root; ahead = empty.ahead; waiting = []; tree = replicate 384 0 })

abbrev put_again : CallLeft
put_again = bucket_call {s = map} 1 3 (put 9 8) (draw_of 1 (1 ∷ 1 ∷ 0 ∷ 1 ∷ 1 ∷ 0 ∷ 1 ∷ [])) (left_by put_nine)

-- The second answers the old value, and reveals the node's tag and then its own draws: all rounds are made.
pub put-again : (put_again.answer ≡ some (replaced 7)) × (put_again.entries ≡ 1) × (put_again.leaves ≡ 0 ∷ 1 ∷ 0 ∷ 1 ∷ 0 ∷ 1 ∷ [])
unfolding bucket_call after_fetches after_puts put_rounds fetch_rounds fetch_round want_round took_round idle_round at_close closing moved_link moved_node with_bucket none_twice all_good read_bucket read_buckets insert join take_first tagged granted joined granted_from read_half choose evict halvings among filled encode fields_of pack bytes read_slot bad fields_in node_of fields value all_zero read_leaf spare program ahead_after test walk balance_of single double turn raise climb unwind put_step put_prog between map_test bind
put-again = (refl, refl, refl)
