-- The nodes that a call holds, in fetch order.
use Rattle.std.specs.Prelude.{ℕ, ◌+◌, ◌≤◌, ◌≡◌, List, ◌++◌, map, length, get_or, take}
use Rattle.slot_spec.specs.Slot.{no_node}
use Rattle.slot_spec.specs.Row.{nodes_from}
use Rattle.slot_spec.specs.declared.Node as node
use Rattle.method_spec.specs.Node.{Node}
use Rattle.leaf_spec.specs.Convert.{to_node}
use Rattle.node_rows.specs.Row.{places, words, fetches}
use Rattle.node_rows.specs.Heights.{Lows}

-- A row of nodes, of which the first `count` are held. Each has its new tag; the links in them are still as they were found.
pub record Held : Type 0 where
  pub nodes : List node.Node
  pub count : ℕ

-- The first n nodes of a row's words.
abbrev pub held_in : List ℕ → ℕ → Held
held_in ws n = record { nodes = nodes_from ws; count = n }

abbrev pub nodes_of : Held → List (Node ℕ)
nodes_of h = map to_node (take h.count h.nodes)

-- The node at a place.
abbrev pub held_at : Held → ℕ → Node ℕ
held_at h i = to_node (get_or h.nodes i no_node)

-- More nodes after the first `count` of a row.
pub record Lists (ws : List ℕ) (count : ℕ) (more : List (Node ℕ)) (ws' : List ℕ) (count' : ℕ) : Type 0 where
  pub first : nodes_of (held_in ws' count') ≡ nodes_of (held_in ws count) ++ more
  pub long : length ws' ≡ words
  pub counted : count' ≡ count + length more

-- What the code asks of the held nodes: they fit, those from `next` on are not taken yet, and no height is too large.
pub record HeldFrom (most : ℕ) (h : Held) (next : ℕ) : Type 0 where
  pub places : length h.nodes ≡ places
  pub few : h.count ≤ fetches
  pub within : next ≤ h.count
  pub low : Lows most (nodes_of h)
