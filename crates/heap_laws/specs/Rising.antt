-- A number rises from its place: the nodes made are those of a tree in order, with the same shape, root link and numbers.
use Rattle.std.specs.Prelude.{◌≡◌, Bool, not, ltb}
use Rattle.std.proofs.Math.Path.{refl, ap}
use Rattle.std.proofs.Common.{◌∙◌, arith, ltb-true, ltb-false}
use Rattle.std.proofs.Math.Bool.{true, false}
use mathlib.Core.List.{List, [], ◌∷◌, ◌++◌, append-nil}
use Prim.Native.Nat.{ℕ, ◌≤◌, ◌<◌}
use Rattle.list_spec.specs.Choice.{pick}
use Rattle.list_spec.specs.Perm.{Perm, cons, swap, trans}
use Rattle.list_laws.specs.ChoiceLaws.{either}
use Rattle.list_laws.specs.PermLaws.{perm-refl, perm-sym, perm-of-eq, perm-append-left, perm-front}
use Rattle.list_laws.specs.Shuffle.{part, ◌&◌, shuffle}
use Rattle.balance_spec.specs.Tree.{Tree, node}
use Rattle.method_spec.specs.Node.{Node, Link, with_child, with_value, link_one, Cell}
use Rattle.method_spec.specs.Heap.{child_position, Pass, over, settled, rise, topmost}
use Rattle.run_laws.specs.Fetches.{tags}
use Rattle.method_spec.specs.HeapShape.{AtLeast, Ordered, heap_numbers, bare, heap_link, heap_node, heap_nodes}
use Rattle.heap_laws.specs.HeapTree.{Frame, joined, plug, position, frame_tags, aside, PassOf, Passes, none_passed, one-passed}
use Rattle.heap_laws.specs.Plugs.{shape, joined_on, joined-sides, shape-plug, link-plug, numbers-plug, side_nodes, sides-below, pass-node}
use Rattle.heap_laws.specs.Order.{least-less, Above, Steady, Fits, Spread, spread-fits, ordered-join}

module _ {T : Type 0} (nil : T) where
  -- ---- one level up

  -- The node that was passed, over a node n that stands at the top of u, is a node of the tree over u.
  over-node : {i : ℕ} {f : Frame T} {p : Pass T} (n : Node T) (u : Tree (Cell T)) → PassOf nil i f p
      → link_one n ≡ heap_link nil (child_position f.way i) u
      → over p n ≡ heap_node nil i (pick f.way u f.other) f.cell (pick f.way f.other u)
  over-node n u pass link = rw pass.way (pass-node nil (link_one n) u pass link)

  -- The top node of a tree on the way joins those that stand beneath the node that was passed.
  one_below : (s : Bool) (i : ℕ) (l : Tree (Cell T)) (c : Cell T) (r o : Tree (Cell T)) (out rest : List (Node T))
      → Perm
      (heap_node nil (child_position s i) l c r
      ∷ (out ++ (side_nodes nil (child_position s i) l r ++ (heap_nodes nil (child_position (not s) i) o ++ rest))))
      (out ++ (side_nodes nil i (pick s (node l c r) o) (pick s o (node l c r)) ++ rest))
  unfolding heap_nodes
  one_below s i l c r o out rest =
      trans (perm-sym (perm-front out (heap_node nil (child_position s i) l c r) _))
      (perm-append-left out (perm-sym (sides-below nil s i (node l c r) o rest)))

  -- ---- where nothing changes but tags

  settled-stored : {fs : List (Frame T)} {path : List (Pass T)} → Passes nil fs path
      → (l : Tree (Cell T)) (c : Cell T) (r : Tree (Cell T))
      → Perm (settled (heap_node nil (position fs) l c r) path ++ (side_nodes nil (position fs) l r ++ aside nil fs))
      (heap_nodes nil 1 (plug (node l c r) fs))
  unfolding settled plug position aside heap_nodes heap_link
  settled-stored none_passed l c r = cons (heap_node nil 1 l c r) (perm-of-eq (append-nil (side_nodes nil 1 l r)))
  settled-stored (one-passed {f} {p} {fs} {ps} pass passes) l c r =
      let i = position fs in
      let u = node l c r in
      let a = pick f.way u f.other in
      let b = pick f.way f.other u in
      rw (over-node (heap_node nil (child_position f.way i) l c r) u pass refl, joined-sides f.way f u)
      (trans (one_below f.way i l c r f.other (settled (heap_node nil i a f.cell b) ps) (aside nil fs))
      (settled-stored passes a f.cell b))

  -- ---- where the number rises

  -- The nodes are those of a tree that is u in its place but for the order of its numbers, and these are in order.
  pub record Risen (fs : List (Frame T)) (u : Tree (Cell T)) (out : List (Node T)) : Type 0 where
    pub tree : Tree (Cell T)
    pub ordered : Ordered (bare tree)
    pub alike : shape (bare tree) ≡ shape (bare (plug u fs))
    pub linked : heap_link nil 1 tree ≡ heap_link nil 1 (plug u fs)
    pub numbers : Perm (heap_numbers (bare tree)) (heap_numbers (bare (plug u fs)))
    pub stored : Perm out (heap_nodes nil 1 tree)

  -- The number rests: all is in order as it is.
  rests : {fs : List (Frame T)} {u : Tree (Cell T)} {out : List (Node T)} → Steady fs → Fits fs u
      → Perm out (heap_nodes nil 1 (plug u fs)) → Risen fs u out
  rests {fs} {u} steady fits stored =
      record {
        tree = plug u fs;
        ordered = ordered-join fs u steady fits;
        alike = refl;
        linked = refl;
        numbers = perm-refl (heap_numbers (bare (plug u fs)));
        stored = stored;
      }

  -- The number of c has changed places with that of the node that was passed.
  abbrev raised : Frame T → Cell T → Cell T
  raised f c = record { value = c.value; tag = f.cell.tag }

  abbrev lowered : Frame T → Cell T → Cell T
  lowered f c = record { value = f.cell.value; tag = c.tag }

  abbrev changed : Bool → Frame T → Tree (Cell T) → Cell T → Tree (Cell T) → Tree (Cell T)
  changed s f l c r =
      let u = node l (lowered f c) r in
      node (pick s u f.other) (raised f c) (pick s f.other u)

  changed-shape : (s : Bool) (f : Frame T) (l : Tree (Cell T)) (c : Cell T) (r : Tree (Cell T))
      → shape (bare (changed s f l c r)) ≡ shape (bare (joined_on s f (node l c r)))
  unfolding bare shape
  changed-shape true f l c r = refl
  changed-shape false f l c r = refl

  changed-numbers : (s : Bool) (f : Frame T) (l : Tree (Cell T)) (c : Cell T) (r : Tree (Cell T))
      → Perm (heap_numbers (bare (changed s f l c r))) (heap_numbers (bare (joined_on s f (node l c r))))
  unfolding heap_numbers bare
  changed-numbers true f l c r = swap c.value f.cell.value _
  changed-numbers false f l c r =
      shuffle ((c.value ∷ []) ∷ (f.cell.value ∷ []) ∷ (heap_numbers (bare l) ++ heap_numbers (bare r)) ∷ heap_numbers (bare f.other) ∷ [])
      (part 0 & (part 3 & (part 1 & part 2))) (part 1 & (part 3 & (part 0 & part 2))) refl

  -- The number has changed places, and rises on from there.
  rises : {f : Frame T} {fs : List (Frame T)} {l : Tree (Cell T)} {c : Cell T} {r : Tree (Cell T)} {out more : List (Node T)}
      → Perm more out → Risen fs (changed f.way f l c r) out → Risen (f ∷ fs) (node l c r) more
  unfolding plug heap_link
  rises {f} {fs} {l} {c} {r} same h =
      let u = changed f.way f l c r in
      let t = joined f (node l c r) in
      record {
        tree = h.tree;
        ordered = h.ordered;
        alike = h.alike ∙ shape-plug fs u t (changed-shape f.way f l c r);
        linked = h.linked ∙ link-plug nil fs u t (rw (joined-sides f.way f (node l c r)));
        numbers = trans h.numbers (numbers-plug fs u t (changed-numbers f.way f l c r));
        stored = trans same h.stored;
      }

  -- Under the node that was passed, as it is changed, both sides fit.
  spread-up : {f : Frame T} {fs : List (Frame T)} {l : Tree (Cell T)} {c : Cell T} {r : Tree (Cell T)}
      → Above f fs → c.value < f.cell.value → Spread (f ∷ fs) l c r
      → let u = node l (lowered f c) r in
      Spread fs (pick f.way u f.other) (raised f c) (pick f.way f.other u)
  unfolding bare
  spread-up {f} {fs} {l} {c} {r} above less h =
      record {
        left = either (Fits fs) f.way fits other;
        right = either (Fits fs) f.way other fits;
        over-left = either (λ t. AtLeast c.value (bare t)) f.way {a = node l (lowered f c) r} le least;
        over-right = either (λ t. AtLeast c.value (bare t)) f.way {b = node l (lowered f c) r} least le;
      }
    where
      fits : Fits fs (node l (lowered f c) r)
      fits =
          record {
            ordered = (h.left.least, (h.right.least, (h.left.ordered, h.right.ordered)));
            least = above.rising;
          }

      other : Fits fs f.other
      other = record { ordered = above.other; least = least-less (bare f.other) above.rising above.least }

      le : c.value ≤ f.cell.value
      le = omega arith

      least : AtLeast c.value (bare f.other)
      least = least-less (bare f.other) le above.least

  -- From a place where its own number may be too small, and all else is in order.
  pub rise-stored : {fs : List (Frame T)} {path : List (Pass T)} → Passes nil fs path → Steady fs
      → (l : Tree (Cell T)) (c : Cell T) (r : Tree (Cell T)) → Spread fs l c r
      → Risen fs (node l c r) (rise (heap_node nil (position fs) l c r) path ++ (side_nodes nil (position fs) l r ++ aside nil fs))
  unfolding rise settled position aside heap_link
  rise-stored none_passed steady l c r h = rests steady (spread-fits h (omega arith)) (settled-stored none_passed l c r)
  rise-stored (one-passed {f} {p} {fs} {ps} pass passes) steady l c r h =
      go (ltb c.value p.node.value) refl
      (λ less. rise-stored passes steady.1 a (raised f c) b (spread-up steady.0 less h))
    where
      i : ℕ
      i = position fs

      u : Tree (Cell T)
      u = node l (lowered f c) r

      a : Tree (Cell T)
      a = pick f.way u f.other

      b : Tree (Cell T)
      b = pick f.way f.other u

      n : Node T
      n = heap_node nil (child_position f.way i) l c r

      below : List (Node T)
      below =
          side_nodes nil (child_position f.way i) l r
          ++ (heap_nodes nil (child_position (not f.way) i) f.other ++ aside nil fs)

      go : (test : Bool) → ltb c.value p.node.value ≡ test
          → (c.value < f.cell.value
          → Risen fs (node a (raised f c) b) (rise (heap_node nil i a (raised f c) b) ps ++ (side_nodes nil i a b ++ aside nil fs)))
          → Risen (f ∷ fs) (node l c r)
          (pick test (with_value p.node.value n ∷ rise (with_value c.value (over p n)) ps) (n ∷ settled (over p n) ps)
          ++ below)
      go true t higher =
          let less = ltb-true c.value p.node.value t in
          rw (over-node n u pass refl, pass.value)
          (rises (one_below f.way i l (lowered f c) r f.other (rise (heap_node nil i a (raised f c) b) ps) (aside nil fs))
          (higher (omega arith)))
      go false t higher =
          let more = ltb-false c.value p.node.value t in
          rests steady (spread-fits h (omega arith)) (settled-stored (one-passed pass passes) l c r)

  -- ---- the root link and the tags

  -- The first node of a way stands at the root.
  pub topmost-link : {fs : List (Frame T)} {path : List (Pass T)} → Passes nil fs path → (n : Node T) (u : Tree (Cell T))
      → link_one n ≡ heap_link nil (position fs) u → link_one (topmost n path) ≡ heap_link nil 1 (plug u fs)
  unfolding topmost plug position heap_link
  topmost-link none_passed n u link = link
  topmost-link (one-passed {f} {p} {fs} {ps} pass passes) n u link =
      topmost-link passes p.node (joined f u) (rw (pass.key, pass.tag, joined-sides f.way f u) refl)

  over-tag : (s : Bool) (m : Node T) (l : Link T) → (with_child s m l).tag ≡ m.tag
  over-tag true m l = refl
  over-tag false m l = refl

  settled-tags : {fs : List (Frame T)} {path : List (Pass T)} → Passes nil fs path → (n : Node T)
      → tags (settled n path) ≡ n.tag ∷ frame_tags fs
  unfolding settled
  settled-tags none_passed n = refl
  settled-tags (one-passed {f} {p} {fs} {ps} pass passes) n =
      ap (λ (ts : List T). n.tag ∷ ts) (settled-tags passes (over p n) ∙ rw (over-tag p.way p.node (link_one n), pass.tag))

  -- The nodes made have the tags of the nodes passed and of the one that they started from.
  pub rise-tags : {fs : List (Frame T)} {path : List (Pass T)} → Passes nil fs path → (n : Node T)
      → tags (rise n path) ≡ n.tag ∷ frame_tags fs
  unfolding rise settled
  rise-tags none_passed n = refl
  rise-tags (one-passed {f} {p} {fs} {ps} pass passes) n =
      go (ltb n.value p.node.value) (rise-tags passes (with_value n.value (over p n)))
    where
      go : (test : Bool) → tags (rise (with_value n.value (over p n)) ps) ≡ (over p n).tag ∷ frame_tags fs
          → tags (pick test (with_value p.node.value n ∷ rise (with_value n.value (over p n)) ps) (n ∷ settled (over p n) ps))
          ≡ n.tag ∷ frame_tags (f ∷ fs)
      go true higher = ap (λ (ts : List T). n.tag ∷ ts) (higher ∙ rw (over-tag p.way p.node (link_one n), pass.tag))
      go false higher = settled-tags (one-passed pass passes) n
