-- What a heap's memory holds: the complete tree of positions 1 to entries. Position i stands over positions 2i and 2i + 1, and every
-- number is at least its parent's.
use Rattle.std.specs.Prelude.{◌≡◌, true, false, List, [], ◌∷◌, ◌++◌, map, ℕ, zero, suc, ◌≤◌, ◌<◌, length}
use Rattle.list_spec.specs.Perm.{Perm}
use Rattle.list_spec.specs.Distinct.{All}
use Rattle.balance_spec.specs.Tree.{Tree, leaf, node}
use Rattle.method_spec.specs.Node.{Node, Link, absent, Cell}
use Rattle.method_spec.specs.Heap.{child_position}
use Rattle.method_spec.specs.Call.{capacity, Memory}

-- n, n - 1, .., 1.
unfoldable pub countdown : ℕ → List ℕ
countdown zero = []
countdown (suc n) = suc n ∷ countdown n

-- ---- trees of numbers

-- The tree of positions up to n: the part of it that stands at position i.
abbrev pub CompleteTree : (n i : ℕ) → Tree ℕ → Type 0
CompleteTree n i leaf = n < i
CompleteTree n i (node l v r) =
    (i ≤ n) × (CompleteTree n (child_position true i) l × CompleteTree n (child_position false i) r)

-- Its top number, if there is one, is at least v.
abbrev pub AtLeast : ℕ → Tree ℕ → Type 0
AtLeast v leaf = Unit {0}
AtLeast v (node l w r) = v ≤ w

-- Every number is at least its parent's.
abbrev pub Ordered : Tree ℕ → Type 0
Ordered leaf = Unit {0}
Ordered (node l v r) = AtLeast v l × (AtLeast v r × (Ordered l × Ordered r))

unfoldable pub heap_numbers : Tree ℕ → List ℕ
heap_numbers leaf = []
heap_numbers (node l v r) = v ∷ (heap_numbers l ++ heap_numbers r)

unfoldable pub heap_positions : ℕ → Tree ℕ → List ℕ
heap_positions i leaf = []
heap_positions i (node l v r) = i ∷ (heap_positions (child_position true i) l ++ heap_positions (child_position false i) r)

-- Ascending, with repeats.
abbrev pub Sorted : List ℕ → Type 0
Sorted [] = Unit {0}
Sorted (v ∷ vs) = All (λ w. v ≤ w) vs × Sorted vs

-- ---- trees of numbers with tags

-- The numbers alone.
unfoldable pub bare : {T : Type 0} → Tree (Cell T) → Tree ℕ
bare leaf = leaf
bare (node l c r) = node (bare l) c.value (bare r)

module _ {T : Type 0} (nil : T) where
  unfoldable pub heap_link : ℕ → Tree (Cell T) → Link T
  heap_link i leaf = absent nil
  heap_link i (node l c r) = record { height = 1; key = i; tag = c.tag }

  abbrev pub heap_node : ℕ → Tree (Cell T) → Cell T → Tree (Cell T) → Node T
  heap_node i l c r =
      record {
        key = i;
        value = c.value;
        tag = c.tag;
        left = heap_link (child_position true i) l;
        right = heap_link (child_position false i) r;
      }

  unfoldable pub heap_nodes : ℕ → Tree (Cell T) → List (Node T)
  heap_nodes i leaf = []
  heap_nodes i (node l c r) =
      heap_node i l c r ∷ (heap_nodes (child_position true i) l ++ heap_nodes (child_position false i) r)

  -- The heap's invariant: the memory holds a complete ordered tree whose numbers, with repeats, are the plain heap's.
  pub record HoldsHeap (limit : ℕ) (vs : List ℕ) (m : Memory T) : Type 0 where
    pub tree : Tree (Cell T)
    pub complete : CompleteTree m.entries 1 (bare tree)
    pub ordered : Ordered (bare tree)
    pub numbers : Perm (heap_numbers (bare tree)) vs
    pub sorted : Sorted vs
    pub positions : Perm (heap_positions 1 (bare tree)) (countdown m.entries)
    pub counted : m.entries ≡ length vs
    pub linked : m.root ≡ heap_link 1 tree
    pub stored : Perm m.nodes (heap_nodes 1 tree)
    pub fits : length vs ≤ limit

  -- The memory of a heap of size k, and that its nodes' keys are the positions.
  pub record HeapShape (k : ℕ) (numbers : List ℕ) (m : Memory T) : Type 0 where
    pub holds : HoldsHeap (capacity k) numbers m
    pub numbered : Perm (map (λ n. n.key) m.nodes) (countdown m.entries)
