-- A way through the tree of a heap: the nodes passed, and what stands beside it.
use Rattle.std.specs.Prelude.{◌≡◌, refl, Bool, not, List, [], ◌∷◌, ◌++◌, map, ℕ}
use Rattle.std.proofs.Math.Bool.{true, false}
use borrow.Author.Tests.{eq-eqb, le-leb, lt-leb}
use Rattle.list_spec.specs.Choice.{pick}
use Rattle.list_spec.specs.Perm.{Perm}
use Rattle.balance_spec.specs.Tree.{Tree, leaf, node}
use Rattle.method_spec.specs.Node.{Node, child, Cell}
use Rattle.method_spec.specs.Prog.{Want}
use Rattle.method_spec.specs.Heap.{child_position, Pass, Reached, heap_link_good, heap_test}
use Rattle.run_laws.specs.Fetches.{tags}
use Rattle.method_spec.specs.HeapShape.{CompleteTree, bare, heap_link, heap_node, heap_nodes}

-- A node that a way passed: its number and tag, the side on which the way goes on, and what stands on the other.
pub record Frame (T : Type 0) : Type 0 where
  pub cell : Cell T
  pub way : Bool
  pub other : Tree (Cell T)

module _ {T : Type 0} where
  -- The tree t on the side where the way goes on; and in its place under all the nodes that were passed, nearest first.
  abbrev pub joined : Frame T → Tree (Cell T) → Tree (Cell T)
  joined f t = pick f.way (node t f.cell f.other) (node f.other f.cell t)

  unfoldable pub plug : Tree (Cell T) → List (Frame T) → Tree (Cell T)
  plug t [] = t
  plug t (f ∷ fs) = plug (joined f t) fs

  -- The position of that place.
  unfoldable pub position : List (Frame T) → ℕ
  position [] = 1
  position (f ∷ fs) = child_position f.way (position fs)

  abbrev pub frame_tags : List (Frame T) → List T
  frame_tags = map (λ f. f.cell.tag)

module _ {T : Type 0} (nil : T) where
  -- ---- a way down

  -- The nodes on the other sides of those that were passed.
  unfoldable pub aside : List (Frame T) → List (Node T)
  aside [] = []
  aside (f ∷ fs) = heap_nodes nil (child_position (not f.way) (position fs)) f.other ++ aside fs

  -- A passed node at position i as it is held: its link on the way is that from before.
  pub record PassOf (i : ℕ) (f : Frame T) (p : Pass T) : Type 0 where
    pub way : p.way ≡ f.way
    pub key : p.node.key ≡ i
    pub value : p.node.value ≡ f.cell.value
    pub tag : p.node.tag ≡ f.cell.tag
    pub other : child (not f.way) p.node ≡ heap_link nil (child_position (not f.way) i) f.other

  pub data Passes : List (Frame T) → List (Pass T) → Type 0 where
    none_passed : Passes [] []
    one-passed : {f : Frame T} {p : Pass T} {fs : List (Frame T)} {ps : List (Pass T)}
        → PassOf (position fs) f p → Passes fs ps → Passes (f ∷ fs) (p ∷ ps)

  -- Where a way to position q through the tree t came to: the nodes passed have new tags, and nothing else is changed.
  pub record Came (q : ℕ) (t : Tree (Cell T)) (r : Reached T) (held ns : List (Node T)) : Type 0 where
    pub frames : List (Frame T)
    pub focus : Tree (Cell T)
    pub at : position frames ≡ q
    pub same : bare (plug focus frames) ≡ bare t
    pub passes : Passes frames r.path
    pub ends : r.end.link ≡ heap_link nil q focus
    pub there : Perm ns (heap_nodes nil q focus ++ aside frames)
    pub retagged : Perm (tags held) (frame_tags frames)

  -- ---- the fetch test

  link-passes : (n i : ℕ) (t : Tree (Cell T)) → CompleteTree n i (bare t) → heap_link_good n i (heap_link nil i t) ≡ true
  unfolding heap_link bare
  link-passes n i leaf beyond = rw (lt-leb i n beyond)
  link-passes n i (node l c r) h = rw (le-leb i n h.0, eq-eqb i i refl)

  pub node-passes : (n i : ℕ) (w : Want T) (l : Tree (Cell T)) (c : Cell T) (r : Tree (Cell T))
      → CompleteTree n (child_position true i) (bare l) → CompleteTree n (child_position false i) (bare r)
      → heap_test n w (heap_node nil i l c r) ≡ true
  unfolding heap_test
  node-passes n i w l c r left right =
      rw (link-passes n (child_position true i) l left, link-passes n (child_position false i) r right)
