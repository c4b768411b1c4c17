-- Document 01's worked push and pop, as a list of calls over buckets.
use Rattle.std.specs.Prelude.{◌≡◌, refl, [], ◌∷◌}
use Rattle.std.proofs.Math.Option.{some}
use Rattle.slot_spec.specs.LittleEndian.{value, bytes}
use Rattle.slot_spec.specs.Layout.{fields, pack}
use Rattle.slot_spec.specs.Tree.{halvings, among}
use Rattle.slot_spec.specs.Slot.{fields_in, fields_of, node_of, encode, all_zero, bad, read_slot, filled}
use Rattle.round_spec.specs.Round.{with_bucket, none_twice, all_good, read_bucket, read_buckets, insert, join, take_first, tagged, granted, joined, granted_from, read_half, choose, evict}
use Rattle.method_spec.specs.Prog.{bind}
use Rattle.method_spec.specs.Answer.{stack, push, pop, pushed, popped}
use Rattle.method_spec.specs.Stack.{push_prog, pop_prog, stack_test}
use Rattle.method_spec.specs.Rounds.{rounds, spare}
use Rattle.method_spec.specs.Call.{program, ahead_after, test}
use Rattle.method_spec.specs.Origin.{leaf_of}
use Rattle.leaf_spec.specs.Leaf.{read_leaf}
use Rattle.bucket_call_spec.specs.Fetch.{moved_link, moved_node, closing, at_close, idle_round, took_round, want_round, fetch_round, fetch_rounds}
use Rattle.bucket_call_spec.specs.Call.{put_rounds, after_puts, after_fetches, bucket_call}
use Rattle.simulation_laws.specs.BucketRun.{BucketRan, bucket_run}
use Rattle.simulation_laws.specs.ListSim.{tape_run}

abbrev worked : BucketRan
worked = tape_run {s = stack} 2 ((1 ∷ 2 ∷ 3 ∷ []) ∷ (0 ∷ 1 ∷ 1 ∷ []) ∷ []) (push 50 ∷ pop ∷ [])

pub push-and-pop : (worked.mark ≡ 0) × (worked.answers ≡ some pushed ∷ some (popped 50) ∷ []) × (worked.leaves ≡ 1 ∷ 3 ∷ 2 ∷ 1 ∷ [])
unfolding bucket_run rounds spare leaf_of bucket_call after_fetches after_puts put_rounds fetch_rounds fetch_round want_round took_round idle_round at_close closing moved_link moved_node with_bucket none_twice all_good read_bucket read_buckets insert join take_first tagged granted joined granted_from read_half choose evict halvings among filled encode fields_of pack bytes read_slot bad fields_in node_of fields value all_zero read_leaf program ahead_after test push_prog pop_prog stack_test bind
push-and-pop = (refl, refl, refl)
