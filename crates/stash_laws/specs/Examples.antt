-- The node of document 01's worked push, key 1 and value 50 under tag 2, as four words and back.
use Rattle.std.specs.Prelude.{◌≡◌, refl, [], ◌∷◌, ◌++◌, ℕ, ◌+◌, ◌^◌}
use Rattle.slot_spec.specs.LittleEndian.{value, bytes}
use Rattle.slot_spec.specs.Layout.{fields, pack}
use Rattle.slot_spec.specs.Slot.{fields_in, fields_of, node_of, slot_bytes, slot_of, encode}
use Rattle.method_spec.specs.Node.{Node, absent}
use Rattle.slot_spec.specs.Row.{zero_slot}
use Rattle.slot_laws.specs.ByteRow.{slot_in, slots_from}
use Rattle.stash_laws.specs.Waiting.{words_for, waiting_in}

abbrev pushed : Node ℕ
pushed = record { key = 1; value = 50; tag = 2; left = absent 0; right = absent 0 }

-- Flag 1, heights 0 and key 1; no child keys; the tag; the value.
pub pushed-words : words_for pushed ≡ record { a = 1 + 2 ^ 32; b = 0; c = 2; d = 50 }
unfolding slot_of encode fields_of pack bytes value
pushed-words = refl

-- The first slot of a row that begins with its bytes.
pub one-waits : waiting_in 1 (slot_bytes (words_for pushed) ++ slot_bytes zero_slot) ≡ pushed ∷ []
unfolding slots_from slot_in slot_bytes slot_of fields_in fields value node_of bytes
one-waits = refl
