-- The nodes of a memory that holds a structure are proper, where their own numbers and what is known ahead are within bounds: every link is
-- all zero, or it has the key and the tag of a node, or of the one that comes next, and no great height.
use Rattle.std.specs.Prelude.{◌≡◌, refl, length}
use Rattle.std.proofs.Math.Bool.{true, false}
use mathlib.Core.List.Memᴰ
use mathlib.Core.List.{List, [], ◌∷◌}
use Prim.Native.Nat.{ℕ, suc, ◌+◌, ◌^◌, ◌≤◌, ◌<◌}
use native.Mathlib.Omega.{arith}
use Rattle.std.proofs.Common.{pow_pos}
use Rattle.list_laws.specs.PermLaws.{perm-sym}
use Rattle.list_spec.specs.Distinct.{All}
use Rattle.list_laws.specs.DistinctLaws.{all_nil, all_cons, all_append, all_left, all_right, all-perm}
use Rattle.balance_spec.specs.Tree.{Tree, leaf, node, height}
use Rattle.balance_spec.specs.Least.{least}
use Rattle.balance_spec.specs.Shape.{shaped}
use Rattle.balance_spec.specs.Greatest.{tallest, greatest}
use Rattle.balance_laws.specs.GreatestLaws.{greatest-mono}
use Rattle.method_spec.specs.Node.{Node, Ahead, absent, Cell}
use Rattle.method_spec.specs.Answer.{Structure, map, stack, heap, queue}
use Rattle.method_spec.specs.Plain.{Contents}
use Rattle.method_spec.specs.Call.{capacity, Memory}
use Rattle.run_laws.specs.StackRepresents.{chain_link, chain}
use Rattle.method_spec.specs.Heap.{child_position}
use Rattle.method_spec.specs.HeapShape.{heap_link, heap_nodes}
use Rattle.method_spec.specs.QueueShape.{row_link, row}
use Rattle.avl_laws.specs.Search.{Entry, link_tree, nodes_of}
use Rattle.avl_laws.specs.Holds.{holds-height}
use Rattle.method_laws.specs.MapRepresents.{holds-low}
use Rattle.method_laws.specs.Represented.{Held}
use Rattle.leaf_spec.specs.Leaf.{ProperLeaf}
use Rattle.leaf_laws.specs.Proper.{Fits, FitLink, fits-proper}
use Rattle.bucket_call_spec.specs.Simulates.{AheadFits}

-- The heights of all sizes whose tags have two bytes fit in a byte.
greatest-small : (k : ℕ) → k ≤ 16 → greatest k < 256
unfolding least shaped tallest greatest
greatest-small k small = let most : greatest k ≤ 22 = greatest-mono small in omega arith

module _ (k : ℕ) where
  abbrev FitLinks : Node ℕ → Type 0
  FitLinks n = FitLink k n.left × FitLink k n.right

  absent-fits : FitLink k (absent 0)
  absent-fits = record { height = omega arith; key = omega arith; tag = pow_pos k; absent-zero = λ e. (refl, refl) }

  -- A present link has the key and the tag of the node that it leads to.
  present-fits : (h : ℕ) (n : Node ℕ) → suc h < 256 → Fits k n → FitLink k (record { height = suc h; key = n.key; tag = n.tag })
  present-fits h n low f =
      record { height = low; key = f.key; tag = f.tag; absent-zero = λ (e : suc h ≡ 0). let z : ⊥ = omega arith in absurd z }

  -- ---- the map

  tree-link : (t : Tree (Entry ℕ)) → height t < 256 → All (Fits k) (nodes_of 0 t) → FitLink k (link_tree 0 t)
  unfolding nodes_of link_tree height
  tree-link leaf low f = absent-fits
  tree-link (node l e r) low f = present-fits _ _ low (f _ (Memᴰ.head refl))

  tree-links : (t : Tree (Entry ℕ)) → height t < 256 → All (Fits k) (nodes_of 0 t) → All FitLinks (nodes_of 0 t)
  unfolding nodes_of height
  tree-links leaf low f = all_nil FitLinks
  tree-links (node l e r) low f =
      let below : All (Fits k) (nodes_of 0 l) = all_left {P = Fits k} (nodes_of 0 r) (λ n i. f n (Memᴰ.tail i)) in
      let above : All (Fits k) (nodes_of 0 r) = all_right {P = Fits k} (nodes_of 0 l) (λ n i. f n (Memᴰ.tail i)) in
      let less : height l < 256 = omega arith in
      let more : height r < 256 = omega arith in
      all_cons {P = FitLinks} (tree-link l less below, tree-link r more above)
      (all_append {P = FitLinks} (nodes_of 0 l) (tree-links l less below) (tree-links r more above))

  -- ---- the stack

  chain_link_lem : (cs : List (Cell ℕ)) → All (Fits k) (chain 0 cs) → FitLink k (chain_link 0 cs)
  unfolding chain chain_link
  chain_link_lem [] f = absent-fits
  chain_link_lem (c ∷ cs) f = present-fits 0 _ (omega arith) (f _ (Memᴰ.head refl))

  chain-links : (cs : List (Cell ℕ)) → All (Fits k) (chain 0 cs) → All FitLinks (chain 0 cs)
  unfolding chain
  chain-links [] f = all_nil FitLinks
  chain-links (c ∷ cs) f =
      let below : All (Fits k) (chain 0 cs) = λ n i. f n (Memᴰ.tail i) in
      all_cons {P = FitLinks} (chain_link_lem cs below, absent-fits) (chain-links cs below)

  -- ---- the heap

  heap-link : (i : ℕ) (t : Tree (Cell ℕ)) → All (Fits k) (heap_nodes 0 i t) → FitLink k (heap_link 0 i t)
  unfolding heap_nodes heap_link
  heap-link i leaf f = absent-fits
  heap-link i (node l c r) f = present-fits 0 _ (omega arith) (f _ (Memᴰ.head refl))

  heap-links : (i : ℕ) (t : Tree (Cell ℕ)) → All (Fits k) (heap_nodes 0 i t) → All FitLinks (heap_nodes 0 i t)
  unfolding heap_nodes
  heap-links i leaf f = all_nil FitLinks
  heap-links i (node l c r) f =
      let left = child_position true i in
      let right = child_position false i in
      let below : All (Fits k) (heap_nodes 0 left l) = all_left {P = Fits k} (heap_nodes 0 right r) (λ n m. f n (Memᴰ.tail m)) in
      let beside : All (Fits k) (heap_nodes 0 right r) = all_right {P = Fits k} (heap_nodes 0 left l) (λ n m. f n (Memᴰ.tail m)) in
      all_cons {P = FitLinks} (heap-link left l below, heap-link right r beside)
      (all_append {P = FitLinks} (heap_nodes 0 left l) (heap-links left l below) (heap-links right r beside))

  -- ---- the queue

  row-link : (first : ℕ) (cs : List (Cell ℕ)) (ahead : ℕ) → All (Fits k) (row 0 first cs ahead) → FitLink k (row_link 0 first cs)
  unfolding row row_link
  row-link first [] ahead f = absent-fits
  row-link first (c ∷ cs) ahead f = present-fits 0 _ (omega arith) (f _ (Memᴰ.head refl))

  row-links : (first : ℕ) (cs : List (Cell ℕ)) (a : Ahead ℕ) → AheadFits k a → a.key ≡ first + length cs
      → All (Fits k) (row 0 first cs a.tag) → All FitLinks (row 0 first cs a.tag)
  unfolding row row_link
  row-links first [] a known keyed f = all_nil FitLinks
  row-links first (c ∷ []) a known keyed f =
      let key : suc first < 2 ^ 32 = omega (arith, known.key) in
      all_cons {P = FitLinks}
      (record { height = omega arith; key = key; tag = known.tag; absent-zero = λ (e : 1 ≡ 0). let z : ⊥ = omega arith in absurd z }, absent-fits)
      (all_nil FitLinks)
  row-links first (c ∷ b ∷ cs) a known keyed f =
      let later : All (Fits k) (row 0 (suc first) (b ∷ cs) a.tag) = λ n i. f n (Memᴰ.tail i) in
      all_cons {P = FitLinks} (row-link (suc first) (b ∷ cs) a.tag later, absent-fits)
      (row-links (suc first) (b ∷ cs) a known (omega arith) later)

  -- ---- every structure

  -- The root link, and both links of each node.
  held-links : k ≤ 16 → (s : Structure) (t : Contents s) (m : Memory ℕ) → Held 0 s (capacity k) t m → AheadFits k m.ahead → All (Fits k) m.nodes
      → FitLink k m.root × All FitLinks m.nodes
  held-links small map t m (h, idle) known fit =
      let there = all-perm {P = Fits k} h.stored fit in
      let low : height h.tree < 256 = omega (arith, holds-low k h, holds-height h, greatest-small k small) in
      (rw h.linked (tree-link h.tree low there), all-perm {P = FitLinks} (perm-sym h.stored) (tree-links h.tree low there))
  held-links small stack t m (h, idle) known fit =
      let there = all-perm {P = Fits k} h.there fit in
      (rw h.rooted (chain_link_lem h.cells there), all-perm {P = FitLinks} (perm-sym h.there) (chain-links h.cells there))
  held-links small heap t m (h, idle) known fit =
      let there = all-perm {P = Fits k} h.stored fit in
      (rw h.linked (heap-link 1 h.tree there), all-perm {P = FitLinks} (perm-sym h.stored) (heap-links 1 h.tree there))
  held-links small queue t m h known fit =
      let there = all-perm {P = Fits k} h.there fit in (
        rw h.rooted (row-link h.first h.cells m.ahead.tag there),
        all-perm {P = FitLinks} (perm-sym h.there) (row-links h.first h.cells m.ahead known h.in-row there),
      )

  module _ (small : k ≤ 16) (s : Structure) (t : Contents s) (m : Memory ℕ) (held : Held 0 s (capacity k) t m) (known : AheadFits k m.ahead)
      (fit : All (Fits k) m.nodes) where
    pub held-root : FitLink k m.root
    held-root = (held-links small s t m held known fit).0

    pub held-proper : All (ProperLeaf k) m.nodes
    held-proper n i =
        let l = (held-links small s t m held known fit).1 n i in
        fits-proper k n small (fit n i) l.0 l.1
