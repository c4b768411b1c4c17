-- The store's links, nodes and what a queue knows ahead as the method's, at leaf numbers for tags, and back.
use Rattle.std.specs.Prelude.{ℕ, ◌≡◌, refl}
use Rattle.slot_spec.specs.declared.Link as link
use Rattle.slot_spec.specs.declared.Ahead as ahead
use Rattle.slot_spec.specs.declared.Node as node
use Rattle.method_spec.specs.Node.{Link, Ahead, Node}

abbrev pub to_link : link.Link → Link ℕ
to_link l = record { height = l.height; key = l.key; tag = l.tag }

abbrev pub from_link : Link ℕ → link.Link
from_link l = record { height = l.height; key = l.key; tag = l.tag }

abbrev pub to_ahead : ahead.Ahead → Ahead ℕ
to_ahead a = record { key = a.key; tag = a.tag }

abbrev pub from_ahead : Ahead ℕ → ahead.Ahead
from_ahead a = record { key = a.key; tag = a.tag }

abbrev pub to_node : node.Node → Node ℕ
to_node n =
    record { key = n.key; value = n.value; tag = n.tag; left = to_link n.left; right = to_link n.right }

abbrev pub from_node : Node ℕ → node.Node
from_node n =
    record { key = n.key; value = n.value; tag = n.tag; left = from_link n.left; right = from_link n.right }

pub to-from : (n : Node ℕ) → to_node (from_node n) ≡ n
to-from n = refl

pub from-to : (n : node.Node) → from_node (to_node n) ≡ n
from-to n = refl
