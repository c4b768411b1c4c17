-- Peaks by hand: document 01's worked push and pop, a put of a key that is there, a push that overflows, and damage in either half of a pop.
use Rattle.std.specs.Prelude.{◌≡◌, refl, List, [], ◌∷◌, ◌++◌, map, ℕ, ◌+◌, replicate}
use Rattle.list_spec.specs.Largest.{largest}
use Rattle.slot_spec.specs.LittleEndian.{value, bytes}
use Rattle.slot_spec.specs.Layout.{fields, pack}
use Rattle.slot_spec.specs.Tree.{halvings, among}
use Rattle.slot_spec.specs.Slot.{fields_in, fields_of, node_of, encode, all_zero, bad, read_slot, filled}
use Rattle.round_spec.specs.Round.{with_bucket, none_twice, all_good, read_bucket, read_buckets, insert, join, take_first, tagged, granted, joined, granted_from, read_half, choose, evict}
use Rattle.round_spec.specs.Whole.{up_to}
use Rattle.method_spec.specs.Node.{Node, absent}
use Rattle.method_spec.specs.Prog.{bind}
use Rattle.method_spec.specs.Answer.{stack, push, pop}
use Rattle.method_spec.specs.Rounds.{spare}
use Rattle.method_spec.specs.Stack.{push_prog, pop_prog, stack_test}
use Rattle.method_spec.specs.Call.{program, ahead_after, test}
use Rattle.leaf_spec.specs.Leaf.{read_leaf}
use Rattle.bucket_call_spec.specs.Fetch.{moved_link, moved_node, closing, count_at_close, at_close, idle_round, took_round, want_round, fetch_round, fetch_rounds}
use Rattle.bucket_call_spec.specs.Call.{Store, draw_of, put_rounds, after_puts, after_fetches, bucket_call}
use Rattle.bucket_call_spec.specs.Peak.{then_rounds, rounds_from, counts_of, puts_after, call_rounds, call_peak}
use Rattle.bucket_call_spec.proofs.Examples.{empty, left_by, first}

-- The numbers at the closes of a push or a pop on a stack of size 2.
abbrev push_counts : List ℕ → Store → List ℕ
push_counts tape st = counts_of (call_rounds {s = stack} 2 1 (push 50) (draw_of 2 tape) st)

abbrev pop_counts : List ℕ → Store → List ℕ
pop_counts tape st = counts_of (call_rounds {s = stack} 2 1 pop (draw_of 2 tape) st)

-- The node of the worked push, in bucket 3, is held by the pop's fetch round, and gone at its put round.
pub push-and-pop : (push_counts (1 ∷ 2 ∷ 3 ∷ []) empty ≡ 0 ∷ 0 ∷ []) × (pop_counts (0 ∷ 1 ∷ 1 ∷ []) (left_by first) ≡ 1 ∷ 0 ∷ [])
    × (call_peak {s = stack} 2 1 pop (draw_of 2 (0 ∷ 1 ∷ 1 ∷ [])) (left_by first) ≡ 1)
unfolding largest counts_of count_at_close then_rounds rounds_from puts_after bucket_call after_fetches after_puts put_rounds fetch_rounds fetch_round want_round took_round idle_round at_close closing moved_link moved_node with_bucket none_twice all_good read_bucket read_buckets insert join take_first tagged granted joined granted_from read_half choose evict halvings among filled encode fields_of pack bytes read_slot bad fields_in node_of fields value all_zero read_leaf spare program ahead_after test push_prog pop_prog stack_test bind
push-and-pop = (refl, refl, refl)

-- A stack's lowest node.
abbrev node : (key tag : ℕ) → Node ℕ
node key tag = record { key = key; value = 0; tag = tag; left = absent 0; right = absent 0 }

-- 76 nodes with tag 0 wait. The path of leaf 0 takes 12: 64 wait at the close of the push's fetch round. Its own node, tag 0 too, is one too many:
-- the put round closes with 65, and the store is closed.
abbrev crowded : Store
crowded =
    record {
      entries = 2;
      root = record { height = 1; key = 2; tag = 0 };
      ahead = record { key = 0; tag = 0 };
      waiting = map (λ (n : ℕ). node (3 + n) 0) (up_to 76);
      tree = replicate 896 0;
    }

pub crowded-push : (push_counts (0 ∷ 0 ∷ 0 ∷ []) crowded ≡ 64 ∷ 65 ∷ [])
    × (call_peak {s = stack} 2 1 (push 50) (draw_of 2 (0 ∷ 0 ∷ 0 ∷ [])) crowded ≡ 65)
    × ((bucket_call {s = stack} 2 1 (push 50) (draw_of 2 (0 ∷ 0 ∷ 0 ∷ [])) crowded).mark ≡ 9)
unfolding largest counts_of count_at_close then_rounds rounds_from puts_after bucket_call after_fetches after_puts put_rounds fetch_rounds fetch_round want_round took_round idle_round at_close closing moved_link moved_node with_bucket none_twice all_good read_bucket read_buckets insert join take_first tagged granted joined granted_from read_half choose evict halvings among filled encode fields_of pack bytes read_slot bad fields_in node_of fields value all_zero read_leaf spare program ahead_after test push_prog pop_prog stack_test bind up_to
crowded-push = (refl, refl, refl)

-- A stack whose one node waits, under tag 2, and a bad slot at the start of that bucket.
abbrev damaged_at : (before after : ℕ) → Store
damaged_at before after =
    record {
      entries = 1;
      root = record { height = 1; key = 1; tag = 2 };
      ahead = record { key = 0; tag = 0 };
      waiting = node 1 2 ∷ [];
      tree = replicate before 0 ++ (2 ∷ replicate after 0);
    }

-- Bucket 7 is on the put round's path, leaf 3: the fetch round closed with the held node. Bucket 6 is on the fetch round's, leaf 2: none closed.
pub damaged-pops : (pop_counts (0 ∷ 1 ∷ 3 ∷ []) (damaged_at 768 127) ≡ 1 ∷ []) × (pop_counts (0 ∷ 1 ∷ 3 ∷ []) (damaged_at 640 255) ≡ [])
    × (call_peak {s = stack} 2 1 pop (draw_of 2 (0 ∷ 1 ∷ 3 ∷ [])) (damaged_at 640 255) ≡ 0)
unfolding largest counts_of count_at_close then_rounds rounds_from puts_after bucket_call after_fetches after_puts put_rounds fetch_rounds fetch_round want_round took_round idle_round at_close closing moved_link moved_node with_bucket none_twice all_good read_bucket read_buckets insert join take_first tagged granted joined granted_from read_half choose evict halvings among filled encode fields_of pack bytes read_slot bad fields_in node_of fields value all_zero read_leaf spare program ahead_after test push_prog pop_prog stack_test bind
damaged-pops = (refl, refl, refl)
