-- A row of slots as words: four to a slot.
use Rattle.std.specs.Prelude.{ℕ, List, [], ◌∷◌, map}
use Rattle.slot_spec.specs.Slot.{fields_in, node_of, slot_bytes}
use Rattle.slot_spec.specs.declared.Node.{Node}
use Rattle.slot_spec.specs.declared.Slot.{Slot}

-- The slots that words hold.
unfoldable pub slots_of : List ℕ → List Slot
slots_of [] = []
slots_of (a ∷ []) = []
slots_of (a ∷ b ∷ []) = []
slots_of (a ∷ b ∷ c ∷ []) = []
slots_of (a ∷ b ∷ c ∷ d ∷ ws) = record { a = a; b = b; c = c; d = d } ∷ slots_of ws

-- What an unused place holds.
abbrev pub zero_slot : Slot
zero_slot = record { a = 0; b = 0; c = 0; d = 0 }

-- The node that a slot's words hold, and the nodes that a row's do.
abbrev pub node_from : Slot → Node
node_from x = node_of (fields_in (slot_bytes x))

abbrev pub nodes_from : List ℕ → List Node
nodes_from ws = map node_from (slots_of ws)
