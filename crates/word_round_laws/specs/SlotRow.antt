-- The waiting slots in the lent bytes of a state's places, a slot to a place; and how long a path is.
use Rattle.std.specs.Prelude.{ℕ, ◌-◌, ◌*◌, ◌^◌, ◌<◌, ◌≡◌, List, drop, replicate}
use Rattle.list_spec.specs.Distinct.{All}
use Rattle.slot_spec.specs.Tree.{slot_length}
use Rattle.slot_spec.specs.Row.{zero_slot}
use Rattle.slot_spec.specs.declared.Slot.{Slot}
use Rattle.slot_laws.specs.ByteRow.{slots_from}
use Rattle.round_spec.specs.Nodes.{words_format}

-- The places for waiting slots, the bytes that they are, and the slots in them.
abbrev pub places : ℕ
places = 101

abbrev pub row_length : ℕ
row_length = slot_length * places

abbrev pub slots_in : List ℕ → List Slot
slots_in row = slots_from places row

-- Past the first n the places are empty.
abbrev pub Blank : ℕ → List ℕ → Type 0
Blank n row = drop n (slots_in row) ≡ replicate (places - n) zero_slot

-- The levels of the largest tree, and the slots of its paths.
abbrev pub levels : ℕ
levels = 9

abbrev pub path_slots : ℕ
path_slots = 4 * levels

-- Every slot's own tag is a leaf of a tree of size k.
abbrev pub Leaves : ℕ → List Slot → Type 0
Leaves k xs = All (λ (x : Slot). words_format.tag x < 2 ^ k) xs
