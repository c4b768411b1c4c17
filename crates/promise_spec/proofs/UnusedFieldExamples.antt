-- A pop with a stray value on a stack of size 1 that holds 50: 19 now, popped before.
use Rattle.std.specs.Prelude.{ℕ, ◌≡◌, refl, List, [], ◌∷◌, ◌++◌, replicate}
use Rattle.balance_spec.specs.Least.{least}
use Rattle.balance_spec.specs.Shape.{shaped}
use Rattle.balance_spec.specs.Greatest.{greatest, tallest}
use Rattle.list_spec.specs.Ascending.{ascending_from, ascending}
use Rattle.slot_spec.specs.LittleEndian.{value, bytes}
use Rattle.slot_spec.specs.Layout.{fields, pack}
use Rattle.slot_spec.specs.Tree.{halvings, among}
use Rattle.slot_spec.specs.Slot.{fields_in, fields_of, node_of, encode, all_zero, bad, read_slot, filled, well_formed}
use Rattle.round_spec.specs.Round.{with_bucket, none_twice, all_good, read_bucket, read_buckets, insert, join, take_first, tagged, granted, joined, granted_from, read_half, choose, evict}
use Rattle.method_spec.specs.Prog.{bind}
use Rattle.method_spec.specs.Stack.{push_prog, pop_prog, stack_test}
use Rattle.method_spec.specs.Call.{program, ahead_after, test}
use Rattle.method_spec.specs.Rounds.{rounds, spare}
use Rattle.leaf_spec.specs.Leaf.{read_leaf}
use Rattle.bucket_call_spec.specs.Fetch.{moved_link, moved_node, closing, at_close, idle_round, took_round, want_round, fetch_round, fetch_rounds}
use Rattle.bucket_call_spec.specs.Call.{put_rounds, after_puts, after_fetches, bucket_call}
use Rattle.state_spec.specs.Fit.{all_of, root_good, ahead_good, fits, head_fits, places_from}
use Rattle.state_spec.specs.Ticket.{op_in, fields_used, stray_fields}
use Rattle.state_spec.specs.Opening.{opened}
use Rattle.operation_spec.specs.declared.Answer.TheVariants.{Popped}
use Rattle.call_spec.specs.Reply.{Answered, Refused}
use Rattle.call_spec.specs.Store.{Ended, refusing, checks, first_met, decided, called, replied, reply_of}
use Rattle.promise_spec.specs.AsBefore.{without, called_before_unused_fields}
use Rattle.promise_spec.specs.UnusedFields.{checked_before, Heard}

abbrev ticket : (kind key number : ℕ) → List ℕ
ticket kind key number = bytes 1 kind ++ (bytes 4 key ++ bytes 8 number)

-- Where this unfolds, so does all that a call computes with.
unfoldable holds_fifty : Ended
unfolding opened called checks first_met decided called_before_unused_fields checked_before without replied reply_of fits head_fits all_of ascending_from ascending root_good ahead_good places_from op_in fields_used stray_fields rounds spare greatest tallest shaped least bucket_call after_fetches after_puts put_rounds fetch_rounds fetch_round want_round took_round idle_round at_close closing moved_link moved_node with_bucket none_twice all_good read_bucket read_buckets insert join take_first tagged granted joined granted_from read_half choose evict halvings among filled encode fields_of pack bytes read_slot bad fields_in node_of fields value all_zero well_formed read_leaf program ahead_after test push_prog pop_prog stack_test bind
holds_fifty = called (opened 2 1 (replicate 384 7)).state (opened 2 1 (replicate 384 7)).tree (ticket 4 0 50) (replicate 3 0) (5 ∷ 5 ∷ [])

abbrev now : List ℕ → Ended
now t = called holds_fifty.state holds_fifty.tree t (replicate 3 0) (5 ∷ 5 ∷ [])

abbrev earlier : List ℕ → Ended
earlier t = called_before_unused_fields holds_fifty.state holds_fifty.tree t (replicate 3 0) (5 ∷ 5 ∷ [])

stray-pop : (now (ticket 5 0 50) ≡ refusing 19 holds_fifty.state holds_fifty.tree (5 ∷ 5 ∷ [])) × ((earlier (ticket 5 0 50)).reply ≡ Answered (Popped 50))
unfolding holds_fifty
stray-pop = (refl, refl)

-- The checks before 19 let it pass; a get with a stray value they refuse, now as before.
stray-heard : Heard holds_fifty.state holds_fifty.tree (ticket 5 0 50) (replicate 3 0) (5 ∷ 5 ∷ [])
unfolding holds_fifty
stray-heard = refl

foreign-kind : ((now (ticket 1 0 50)).reply ≡ Refused 5) × ((earlier (ticket 1 0 50)).reply ≡ Refused 5)
unfolding holds_fifty
foreign-kind = (refl, refl)

-- With its fields zero the pop is as before.
clean-pop : ((now (ticket 5 0 0)).reply ≡ Answered (Popped 50)) × ((earlier (ticket 5 0 0)).reply ≡ Answered (Popped 50))
unfolding holds_fifty
clean-pop = (refl, refl)
