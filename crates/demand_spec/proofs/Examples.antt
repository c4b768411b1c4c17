-- `until_closed` and `counted` on worked calls.
use Rattle.std.specs.Prelude.{◌≡◌, refl, ℕ, [], ◌∷◌, ◌++◌, replicate, set}
use Rattle.balance_spec.specs.Least.{least}
use Rattle.balance_spec.specs.Shape.{shaped}
use Rattle.balance_spec.specs.Greatest.{greatest, tallest}
use Rattle.slot_spec.specs.LittleEndian.{value, bytes}
use Rattle.slot_spec.specs.Layout.{fields, pack}
use Rattle.slot_spec.specs.Tree.{halvings, among}
use Rattle.slot_spec.specs.Slot.{fields_in, fields_of, node_of, encode, all_zero, bad, read_slot, filled, well_formed}
use Rattle.round_spec.specs.Round.{with_bucket, none_twice, all_good, read_bucket, read_buckets, insert, join, take_first, tagged, granted, joined, granted_from, read_half, choose, evict}
use Rattle.method_spec.specs.Prog.{bind}
use Rattle.method_spec.specs.Answer.{stack}
use Rattle.method_spec.specs.Stack.{push_prog, pop_prog, stack_test}
use Rattle.method_spec.specs.Queue.{enqueue_prog, enqueue_ahead, dequeue_prog, dequeue_ahead, queue_test}
use Rattle.method_spec.specs.Call.{program, ahead_after, test}
use Rattle.method_spec.specs.Rounds.{rounds, spare}
use Rattle.leaf_spec.specs.Leaf.{read_leaf}
use Rattle.bucket_call_spec.specs.Fetch.{moved_link, moved_node, closing, at_close, idle_round, took_round, want_round, fetch_round, fetch_rounds}
use Rattle.bucket_call_spec.specs.Call.{put_rounds, after_puts, after_fetches, bucket_call}
use Rattle.list_spec.specs.Ascending.{ascending_from, ascending}
use Rattle.state_spec.specs.Fit.{all_of, root_good, ahead_good, fits, head_fits, places_from}
use Rattle.state_spec.specs.Ticket.{op_in, fields_used, stray_fields}
use Rattle.state_spec.specs.Opening.{opened}
use Rattle.call_spec.specs.Store.{called, checks, first_met, decided, refusing, replied, reply_of}
use Rattle.demand_spec.specs.History.{Brought, StateAndTree, call_on, left_by, until_closed, early, counted}
use Rattle.demand_spec.specs.Demands.{opened_store}

-- A ticket of that kind, key and value, with a tape of three numbers and room for two leaves; without a key.
abbrev bringing_key : (kind key value a b c : ℕ) → Brought
bringing_key kind key value a b c =
    record {
      ticket = bytes 1 kind ++ (bytes 4 key ++ bytes 8 value);
      tape = a ∷ b ∷ c ∷ [];
      trace = 0 ∷ 0 ∷ [];
    }

abbrev bringing : (kind value a b c : ℕ) → Brought
bringing kind value a b c = bringing_key kind 0 value a b c

abbrev push_fifty : Brought
push_fifty = bringing 4 50 1 2 3

abbrev pop_next : Brought
pop_next = bringing 5 0 0 1 1

abbrev push_at_zero : Brought
push_at_zero = bringing 4 50 0 0 0

abbrev push_at_three : Brought
push_at_three = bringing 4 60 3 3 3

-- A fresh stack of size 2; the same after another hand set the flag of the first slot of bucket 7, on leaf 3's path alone, to 7; and
-- what a call that met that slot left.
abbrev fresh : StateAndTree
fresh = opened_store stack 2 (replicate 896 0)

abbrev damaged : StateAndTree
damaged = record { state = fresh.state; tree = set fresh.tree 768 7 }

abbrev closed : StateAndTree
closed = left_by (call_on damaged push_at_three)

-- A queue of size 2 that has no entries, and no key left: an in with three numbers, one that has a key besides, a stack's pop with both
-- fields, an out with three numbers, an out with four.
abbrev keys_gone : StateAndTree
keys_gone =
    record {
      state = record {
        mark = 0;
        structure = 4;
        size = 2;
        entries = 0;
        root = fresh.state.root;
        ahead = record { key = 4294967295; tag = 0 };
        count = 0;
        places = fresh.state.places;
      };
      tree = fresh.tree;
    }

abbrev in_short : Brought
in_short = bringing 8 7 1 1 1

abbrev in_keyed : Brought
in_keyed = bringing_key 8 1 7 1 1 1

abbrev pop_keyed : Brought
pop_keyed = bringing_key 5 1 7 1 1 1

abbrev out_short : Brought
out_short = bringing 9 0 1 1 1

abbrev out_next : Brought
out_next = record { ticket = out_short.ticket; tape = 1 ∷ 0 ∷ 0 ∷ 3 ∷ []; trace = 0 ∷ 0 ∷ [] }

pub record Worked : Type 0 where
  -- No call closes the store.
  pub all-of-them : until_closed fresh (push_fifty ∷ pop_next ∷ []) ≡ push_fifty ∷ pop_next ∷ []
  -- The second call meets that slot, and closes the store.
  pub first_alone : until_closed damaged (push_at_zero ∷ push_at_three ∷ push_at_zero ∷ []) ≡ push_at_zero ∷ []
  pub meets-damage : closed.state.mark ≡ 8
  -- The store was closed before the first call.
  pub closed-before : until_closed closed (push_at_zero ∷ []) ≡ []
  -- 17 comes before 6, for an in alone; a call refused with 17 or with 6 does not count.
  pub no_key : call_on keys_gone in_short ≡ refusing 17 keys_gone.state keys_gone.tree (0 ∷ 0 ∷ [])
  pub short-tape : call_on keys_gone out_short ≡ refusing 6 keys_gone.state keys_gone.tree (0 ∷ 0 ∷ [])
  pub one-counts : counted keys_gone (in_short ∷ out_short ∷ out_next ∷ in_short ∷ []) ≡ out_next ∷ []
  -- An unused field: 19 comes before 17 and 6, and after 5; such a call does not count either.
  pub stray-key : call_on keys_gone in_keyed ≡ refusing 19 keys_gone.state keys_gone.tree (0 ∷ 0 ∷ [])
  pub foreign-kind : call_on keys_gone pop_keyed ≡ refusing 5 keys_gone.state keys_gone.tree (0 ∷ 0 ∷ [])
  pub strays-do-not-count : counted keys_gone (in_keyed ∷ pop_keyed ∷ out_next ∷ []) ≡ out_next ∷ []

pub worked : Worked
unfolding until_closed opened called checks first_met decided replied reply_of fits head_fits all_of ascending_from ascending root_good ahead_good places_from op_in fields_used stray_fields rounds spare greatest tallest shaped least bucket_call after_fetches after_puts put_rounds fetch_rounds fetch_round want_round took_round idle_round at_close closing moved_link moved_node with_bucket none_twice all_good read_bucket read_buckets insert join take_first tagged granted joined granted_from read_half choose evict halvings among filled encode fields_of pack bytes read_slot bad fields_in node_of fields value all_zero well_formed read_leaf program ahead_after test push_prog pop_prog stack_test enqueue_prog enqueue_ahead dequeue_prog dequeue_ahead queue_test early counted bind
worked = record { all-of-them = refl; first_alone = refl; meets-damage = refl; closed-before = refl; no_key = refl; short-tape = refl; one-counts = refl; stray-key = refl; foreign-kind = refl; strays-do-not-count = refl }
