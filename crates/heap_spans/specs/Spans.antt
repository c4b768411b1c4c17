-- Nodes at hand, by their places in the row of fetched ones, of which the first are the nodes of a way.
use Rattle.std.specs.Prelude.{ℕ, zero, suc, ◌+◌, ◌-◌, Bool, List, [], ◌∷◌, ltb, length, get_or}
use Rattle.list_spec.specs.Choice.{pick}
use Rattle.method_spec.specs.Node.{Link, Node, absent, with_child, link_one}
use Rattle.method_spec.specs.Heap.{Pass}
use Rattle.slot_spec.specs.declared.Node as node
use Rattle.slot_spec.specs.Slot.{no_node}
use Rattle.leaf_spec.specs.Convert.{to_node}
use Rattle.heap_descent.specs.Way.{turn_at}
use Rattle.heap_spans.specs.declared.Span.{Span}

-- No node at hand.
abbrev pub no_span : Span
no_span = record { at = 0; length = 0 }

-- What is below the first node.
abbrev pub below_first : Span → Span
below_first span = record { at = span.at + 1; length = span.length - 1 }

module _ (nodes : List node.Node) where
  abbrev pub fetched : ℕ → Node ℕ
  fetched i = to_node (get_or nodes i no_node)

  module _ (way : List Bool) where
    -- The link to the way's node i, and none at its end.
    unfoldable pub link_from : ℕ → Link ℕ
    link_from i = pick (ltb i (length way)) (link_one (fetched i)) (absent 0)

    -- The node in place i, as it is at hand.
    unfoldable pub node_in : ℕ → Node ℕ
    node_in i = pick (ltb i (length way)) (with_child (turn_at way i) (fetched i) (link_from (suc i))) (fetched i)

    abbrev pub pass_in : ℕ → Pass ℕ
    pass_in i = record { node = node_in i; way = turn_at way i }

    -- So many of them from i on.
    unfoldable pub passes_from : (n i : ℕ) → List (Pass ℕ)
    passes_from zero i = []
    passes_from (suc n) i = pass_in i ∷ passes_from n (suc i)

    abbrev pub passes_of : Span → List (Pass ℕ)
    passes_of span = passes_from span.length span.at
