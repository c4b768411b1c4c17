-- Which nodes there are, with their places: document 02's "goes through all slots and waiting nodes".
use Rattle.std.specs.Prelude.{ℕ, zero, suc, ◌+◌, ◌-◌, ◌*◌, ◌/◌, ◌^◌, List, [], ◌∷◌, take, drop}
use Rattle.list_spec.specs.Choice.{pick}
use Rattle.slot_spec.specs.Tree.{slot_length, tree_length}
use Rattle.slot_spec.specs.Slot.{read_slot}
use Rattle.slot_spec.specs.declared.Reading.{Reading}
use Rattle.slot_spec.specs.declared.Reading.TheVariants.{Full, Bad}
use Rattle.state_spec.specs.declared.Place.{Place}
use Rattle.state_spec.specs.declared.State.{State}
use Rattle.state_spec.specs.Fit.{place_good, used, places, largest_size}

-- A slot or a waiting place, and what is read there.
pub record Seen : Type 0 where
  pub place : ℕ
  pub reading : Reading

-- ---- the slots of the tree, by number from 0
-- "A place is the byte in the tree".
abbrev pub slot_place : ℕ → ℕ
slot_place i = slot_length * i

-- A bucket has four slots, and the first bucket is 1.
abbrev pub slots_in_bucket : ℕ
slots_in_bucket = 4

abbrev pub bucket_of : ℕ → ℕ
bucket_of i = i / slots_in_bucket + 1

abbrev pub slot_count : ℕ → ℕ
slot_count k = slots_in_bucket * (2 ^ (k + 1) - 1)

abbrev pub slot_bytes_at : List ℕ → ℕ → List ℕ
slot_bytes_at tree i = take slot_length (drop (slot_place i) tree)

-- n slots from number i on.
unfoldable pub slots_from : (size : ℕ) → List ℕ → (n i : ℕ) → List Seen
slots_from k tree zero i = []
slots_from k tree (suc n) i =
    record { place = slot_place i; reading = read_slot k (bucket_of i) (slot_bytes_at tree i) } ∷ slots_from k tree n (suc i)

-- ---- the waiting places within the count, by number from 0
-- "the tree's length plus 32 times its number from 0"
abbrev pub waiting_place : (size : ℕ) → ℕ → ℕ
waiting_place k i = tree_length k + slot_length * i

-- Bad where it is empty, and where no slot would be good for its node, its bucket not asked about.
abbrev pub place_reading : ℕ → Place → Reading
place_reading k p = pick (place_good k p) (Full p.node) Bad

unfoldable pub waiting_from : (size i : ℕ) → List Place → List Seen
waiting_from k i [] = []
waiting_from k i (p ∷ ps) = record { place = waiting_place k i; reading = place_reading k p } ∷ waiting_from k (suc i) ps

-- ---- both, of a store
-- The most that a store has.
abbrev pub most_items : ℕ
most_items = slot_count largest_size + places

abbrev pub slots_seen : State → List ℕ → List Seen
slots_seen s tree = slots_from s.size tree (slot_count s.size) 0

abbrev pub waiting_seen : State → List Seen
waiting_seen s = waiting_from s.size 0 (used s)
