-- A search tree of entries, the nodes that represent it, and the map's invariant.
use Rattle.std.specs.Prelude.{◌≡◌, List, [], ◌∷◌, ◌++◌, ℕ, ◌≤◌, ◌<◌, length}
use Rattle.std.proofs.Math.Option.{Option, none, some}
use Rattle.list_spec.specs.Perm.{Perm}
use Rattle.balance_spec.specs.Tree.{Tree, leaf, node, height, Balanced}
use Rattle.method_spec.specs.Node.{Link, Node, absent}
use Rattle.method_spec.specs.Plain.{Pair}
use Rattle.method_spec.specs.Call.{Memory}

-- What a node holds besides its links.
pub record Entry (T : Type 0) : Type 0 where
  pub key : ℕ
  pub value : ℕ
  pub tag : T

-- The keys that stand between two bounds, each of which may be missing.
abbrev pub Above : Option ℕ → ℕ → Type 0
Above none k = Unit
Above (some a) k = a < k

abbrev pub Below : Option ℕ → ℕ → Type 0
Below none k = Unit
Below (some b) k = k < b

module _ {T : Type 0} where
  -- The tree's pairs in order of the tree.
  unfoldable pub pairs : Tree (Entry T) → List Pair
  pairs leaf = []
  pairs (node l e r) = pairs l ++ (record { key = e.key; value = e.value } ∷ pairs r)

  -- A search tree with all keys strictly between two bounds.
  unfoldable pub Search : Option ℕ → Option ℕ → Tree (Entry T) → Type 0
  Search low high leaf = Unit
  Search low high (node l e r) =
      Above low e.key × Below high e.key × Search low (some e.key) l × Search (some e.key) high r

  -- The link to a tree, and the nodes that represent it.
  unfoldable pub link_tree : T → Tree (Entry T) → Link T
  link_tree nil leaf = absent nil
  link_tree nil (node l e r) =
      record { height = height (node l e r); key = e.key; tag = e.tag }

  abbrev pub node_at : T → Tree (Entry T) → Entry T → Tree (Entry T) → Node T
  node_at nil l e r =
      record { key = e.key; value = e.value; tag = e.tag; left = link_tree nil l; right = link_tree nil r }

  unfoldable pub nodes_of : T → Tree (Entry T) → List (Node T)
  nodes_of nil leaf = []
  nodes_of nil (node l e r) = node_at nil l e r ∷ (nodes_of nil l ++ nodes_of nil r)

  -- The map's invariant: the memory holds a balanced search tree whose pairs are the plain table.
  pub record Holds (nil : T) (limit : ℕ) (table : List Pair) (m : Memory T) : Type 0 where
    pub tree : Tree (Entry T)
    pub balanced : Balanced tree
    pub search : Search none none tree
    pub same : pairs tree ≡ table
    pub linked : m.root ≡ link_tree nil tree
    pub stored : Perm m.nodes (nodes_of nil tree)
    pub counted : m.entries ≡ length table
    pub fits : length table ≤ limit
