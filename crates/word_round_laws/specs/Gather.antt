-- The full slots of a path, by the bytes where they start: only those are read and joined.
use Rattle.std.specs.Prelude.{◌≡◌, ℕ, ◌+◌, ◌*◌, ◌/◌, ◌≤◌, List, [], ◌∷◌, ◌++◌, length, take, drop}
use Rattle.list_spec.specs.Choice.{pick}
use Rattle.slot_spec.specs.Tree.{slot_length, bucket_start, bucket_length, path}
use Rattle.slot_spec.specs.Slot.{all_zero}
use Rattle.slot_spec.specs.declared.Slot.{Slot}
use Rattle.round_spec.specs.Format.{Read}
use Rattle.round_spec.specs.Nodes.{words_format}
use Rattle.word_round_laws.specs.SlotRow.{path_slots}

-- The bytes of the slot that starts at a byte.
abbrev pub slot_from : List ℕ → ℕ → List ℕ
slot_from tree at = take slot_length (drop at tree)

-- Where the four slots of the bucket that starts at a byte start, and those of some buckets.
abbrev pub four_from : ℕ → List ℕ
four_from at = (at + slot_length * 0) ∷ (at + slot_length * 1) ∷ (at + slot_length * 2) ∷ (at + slot_length * 3) ∷ []

unfoldable pub slot_starts : List ℕ → List ℕ
slot_starts [] = []
slot_starts (b ∷ bs) = four_from (bucket_start b) ++ slot_starts bs

-- Those that are not all zero bytes.
unfoldable pub full_starts : List ℕ → List ℕ → List ℕ
full_starts tree [] = []
full_starts tree (at ∷ ats) = pick (all_zero (slot_from tree at)) [] (at ∷ []) ++ full_starts tree ats

-- The first `full` of some numbers are where the full slots of a leaf's path start.
pub record PathGathered (k leaf : ℕ) (tree from : List ℕ) (full : ℕ) : Type 0 where
  pub sized : length from ≡ path_slots
  pub fewer : full ≤ 4 * (k + 1)
  pub starts : take full from ≡ full_starts tree (slot_starts (path k leaf))

-- The bucket of the slot that starts at a byte, and the slot's reading.
abbrev pub bucket_of : ℕ → ℕ
bucket_of at = at / bucket_length + 1

abbrev pub read_from : ℕ → List ℕ → ℕ → Read Slot
read_from k tree at = words_format.read k (bucket_of at) (slot_from tree at)
