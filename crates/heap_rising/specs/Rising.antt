-- The way up from a new position, as the code goes it.
use Rattle.std.specs.Prelude.{ℕ, suc, ◌+◌, ◌≡◌, Bool, List, ◌∷◌, ◌++◌, length}
use Rattle.list_spec.specs.Choice.{pick}
use Rattle.method_spec.specs.Node.{Node, link_one}
use Rattle.method_spec.specs.Heap.{Pass, settled, rise, topmost}
use Rattle.leaf_spec.specs.Convert.{to_node}
use Rattle.node_rows.specs.Row.{words}
use Rattle.node_rows.specs.Held.{Held, held_in, nodes_of}
use Rattle.heap_descent.specs.Way.{trail}
use Rattle.heap_rising.specs.declared.Lifted.{Lifted}

-- Upward with a number that still rises, or with one that has come to rest.
abbrev pub upward : Bool → Node ℕ → List (Pass ℕ) → List (Node ℕ)
upward rising n path = pick rising (rise n path) (settled n path)

-- One level.
pub record LiftsTo (n p : Node ℕ) (left rising : Bool) (r : Lifted) : Type 0 where
  pub makes : (path : List (Pass ℕ)) → upward rising n (record { node = p; way = left } ∷ path) ≡ to_node r.lower ∷ upward r.rising (to_node r.upper) path
  pub link : link_one (to_node r.upper) ≡ link_one p

module _ (h : Held) (way : List Bool) (n : Node ℕ) where
  -- All of it, in the first places of a row, and the link to the root's node.
  pub record RisesTo (ws : List ℕ) (top : Node ℕ) : Type 0 where
    pub makes : nodes_of (held_in ws (suc (length way))) ≡ rise n (trail h way (length way))
    pub root : link_one top ≡ link_one (topmost n (trail h way (length way)))
    pub long : length ws ≡ words

  -- With i levels to go.
  pub record Rises (ws : List ℕ) (done : ℕ) (rising : Bool) (top : Node ℕ) (i : ℕ) : Type 0 where
    pub makes : nodes_of (held_in ws done) ++ upward rising top (trail h way i) ≡ rise n (trail h way (length way))
    pub root : link_one (topmost top (trail h way i)) ≡ link_one (topmost n (trail h way (length way)))
    pub long : length ws ≡ words
    pub counted : done + i ≡ length way
