-- The waiting nodes of a call as the slots that hold them: the first n of a lent row.
use Rattle.std.specs.Prelude.{◌≡◌, List, map, ℕ, ◌≤◌, length, take}
use Rattle.list_spec.specs.Distinct.{All}
use Rattle.slot_spec.specs.Slot.{slot_of, Ranged}
use Rattle.slot_spec.specs.declared.Slot.{Slot}
use Rattle.method_spec.specs.Node.{Node}
use Rattle.leaf_spec.specs.Convert.{to_node, from_node}
use Rattle.word_round_laws.specs.SlotRow.{places, row_length, slots_in, Blank}
use Rattle.slot_spec.specs.Row.{node_from}

-- The words of a node, and the node that words hold.
abbrev pub words_for : Node ℕ → Slot
words_for n = slot_of (from_node n)

abbrev pub node_in : Slot → Node ℕ
node_in x = to_node (node_from x)

-- A node whose numbers are within their widths.
abbrev pub InWidths : Node ℕ → Type 0
InWidths n = Ranged (from_node n)

-- The nodes that the first n slots hold.
abbrev pub waiting_in : ℕ → List ℕ → List (Node ℕ)
waiting_in n row = map node_in (take n (slots_in row))

-- The first n slots are the words of nodes, and the other places are empty.
pub record Holds (n : ℕ) (row : List ℕ) : Type 0 where
  pub sized : length row ≡ row_length
  pub few : n ≤ places
  pub exact : take n (slots_in row) ≡ map words_for (waiting_in n row)
  pub ranged : All InWidths (waiting_in n row)
  pub blank : Blank n row
