-- What is at hand of a heap's tree while a number sinks: the nodes of a way down from the top.
use Rattle.std.specs.Prelude.{◌≡◌, Bool, not, ℕ, suc, ◌*◌}
use Rattle.std.proofs.Math.Path.{refl}
use Rattle.std.proofs.Common.{sym, ap}
use Rattle.std.proofs.Math.Bool.{true, false}
use mathlib.Core.List.{List, [], ◌∷◌, ◌++◌, append-nil}
use Rattle.list_spec.specs.Choice.{pick}
use Rattle.list_spec.specs.Perm.{Perm, cons, trans}
use Rattle.list_laws.specs.PermLaws.{perm-refl, perm-sym, perm-of-eq, perm-front, perm-append, perm-append-right, perm_append_comm, perm-append-assoc}
use Rattle.list_laws.specs.Shuffle.{part, ◌&◌, shuffle}
use Rattle.balance_spec.specs.Tree.{Tree, leaf, node}
use Rattle.method_spec.specs.Node.{Node, Link, with_child, link_one, Cell}
use Rattle.method_spec.specs.Heap.{child_position, Pass, downward, passed}
use Rattle.run_laws.specs.Fetches.{tags}
use Rattle.method_spec.specs.HeapShape.{CompleteTree, bare, heap_link, heap_node, heap_nodes}
use Rattle.heap_laws.specs.HeapTree.{Frame, joined, plug, position, frame_tags, aside, Passes, none_passed, one-passed}
use Rattle.heap_laws.specs.Plugs.{joined_on, joined-sides, complete-part, complete-sides, pass-node}

module _ {T : Type 0} (nil : T) where
  -- Of a tree at position i the nodes of the list are at hand, from the top downward. What is not at hand is as it was stored, with the
  -- links of a heap of n entries.
  pub data Spine (n : ℕ) : ℕ → Tree (Cell T) → List (Pass T) → Type 0 where
    bottom : {i : ℕ} → Spine n i leaf []
    unseen : {i : ℕ} {l : Tree (Cell T)} {c : Cell T} {r : Tree (Cell T)} → CompleteTree n i (bare (node l c r)) → Spine n i (node l c r) []
    seen : {i : ℕ} {l : Tree (Cell T)} {c : Cell T} {r : Tree (Cell T)} {p : Pass T} {ps : List (Pass T)}
        → p.node ≡ heap_node nil i l c r → Spine n (child_position true i) l (pick p.way ps [])
        → Spine n (child_position false i) r (pick p.way [] ps) → Spine n i (node l c r) (p ∷ ps)

  -- The same, and the top is at hand if there is one.
  pub data Topped (n i : ℕ) : Tree (Cell T) → List (Pass T) → Type 0 where
    no_top : Topped n i leaf []
    with-top : {l : Tree (Cell T)} {c : Cell T} {r : Tree (Cell T)} {p : Pass T} {ps : List (Pass T)}
        → p.node ≡ heap_node nil i l c r → Spine n (child_position true i) l (pick p.way ps [])
        → Spine n (child_position false i) r (pick p.way [] ps) → Topped n i (node l c r) (p ∷ ps)

  pub topped-spine : {n i : ℕ} {t : Tree (Cell T)} {ps : List (Pass T)} → Topped n i t ps → Spine n i t ps
  topped-spine no_top = bottom
  topped-spine (with-top e a b) = seen e a b

  -- Nothing is at hand of a tree as it was stored.
  pub stored-spine : {n i : ℕ} (t : Tree (Cell T)) → CompleteTree n i (bare t) → Spine n i t []
  stored-spine leaf h = bottom
  stored-spine (node l c r) h = unseen h

  -- The nodes that are not at hand.
  unfoldable pub hidden : ℕ → Tree (Cell T) → List (Pass T) → List (Node T)
  hidden i leaf ps = []
  hidden i (node l c r) [] = heap_nodes nil i (node l c r)
  hidden i (node l c r) (p ∷ ps) =
      hidden (child_position true i) l (pick p.way ps []) ++ hidden (child_position false i) r (pick p.way [] ps)

  pub hidden-all : (i : ℕ) (t : Tree (Cell T)) → hidden i t [] ≡ heap_nodes nil i t
  unfolding hidden heap_nodes
  hidden-all i leaf = refl
  hidden-all i (node l c r) = refl

  -- The nodes at hand are those on the left and those on the right.
  pub passed-sides : (s : Bool) (ps : List (Pass T)) → passed ps ≡ passed (pick s ps []) ++ passed (pick s [] ps)
  passed-sides true ps = sym (append-nil (passed ps))
  passed-sides false ps = refl

  -- The nodes at hand and the others are all.
  pub spine-nodes : {n i : ℕ} {t : Tree (Cell T)} {ps : List (Pass T)} → Spine n i t ps
      → Perm (passed ps ++ hidden i t ps) (heap_nodes nil i t)
  unfolding hidden heap_nodes
  spine-nodes bottom = perm-refl []
  spine-nodes {n} {i} (unseen {l = l} {c} {r} h) = perm-refl (heap_nodes nil i (node l c r))
  spine-nodes (seen {i = i} {l} {c} {r} {p} {ps} e a b) =
      let left = pick p.way ps [] in
      let right = pick p.way [] ps in
      rw (e, passed-sides p.way ps)
      (cons (heap_node nil i l c r)
      (trans
      (shuffle (passed left ∷ passed right ∷ hidden (2 * i) l left ∷ hidden (suc (2 * i)) r right ∷ [])
      ((part 0 & part 1) & (part 2 & part 3)) ((part 0 & part 2) & (part 1 & part 3)) refl)
      (perm-append (spine-nodes a) (spine-nodes b))))

  -- ---- the nodes of a way, as a take has them at hand

  -- The node m over the tree t on the side s is at hand, and so is what was at hand of t; the other side is not.
  topped-joined : (s : Bool) {n i : ℕ} (f : Frame T) {t : Tree (Cell T)} {m : Node T} {below : List (Pass T)}
      → m ≡ heap_node nil i (pick s t f.other) f.cell (pick s f.other t)
      → Spine n (child_position s i) t below → CompleteTree n (child_position (not s) i) (bare f.other)
      → Topped n i (joined_on s f t) (record { node = m; way = s } ∷ below)
  topped-joined true f e spine side = with-top e spine (stored-spine f.other side)
  topped-joined false f e spine side = with-top e (stored-spine f.other side) spine

  hidden-joined : (s : Bool) (i : ℕ) (f : Frame T) (t : Tree (Cell T)) (m : Node T) (below : List (Pass T))
      → Perm (hidden i (joined_on s f t) (record { node = m; way = s } ∷ below))
      (hidden (child_position s i) t below ++ heap_nodes nil (child_position (not s) i) f.other)
  unfolding hidden
  hidden-joined true i f t m below = perm-of-eq (rw (hidden-all (suc (2 * i)) f.other))
  hidden-joined false i f t m below =
      rw (hidden-all (2 * i) f.other) (perm_append_comm (heap_nodes nil (2 * i) f.other) (hidden (suc (2 * i)) t below))

  -- The list is at hand of the whole tree, where `below` is at hand of the tree t at the place.
  pub record Downward (n : ℕ) (fs : List (Frame T)) (t : Tree (Cell T)) (below ps : List (Pass T)) : Type 0 where
    pub topped : Topped n 1 (plug t fs) ps
    pub rest : Perm (hidden 1 (plug t fs) ps) (hidden (position fs) t below ++ aside nil fs)
    pub tagged : Perm (tags (passed ps)) (tags (passed below) ++ frame_tags fs)

  -- So it is of the nodes of a way, each with its link to the next, where the tree o stood at the place.
  pub downward-hand : (n : ℕ) {fs : List (Frame T)} {path : List (Pass T)} → Passes nil fs path
      → (o : Tree (Cell T)) → CompleteTree n 1 (bare (plug o fs)) → (t : Tree (Cell T)) (below : List (Pass T)) → Topped n (position fs) t below
      → (l : Link T) → l ≡ heap_link nil (position fs) t → Downward n fs t below (downward l path below)
  unfolding plug position aside downward heap_link
  downward-hand n none_passed o complete t below topped l link =
      record {
        topped = topped;
        rest = perm-of-eq (sym (append-nil (hidden 1 t below)));
        tagged = perm-of-eq (sym (append-nil (tags (passed below))));
      }
  downward-hand n (one-passed {f} {p} {fs} {ps} h more) o complete t below topped l link =
      let i = position fs in
      let m = with_child f.way p.node l in
      let e = pass-node nil l t h link in
      let side = (complete-sides f.way n i f o (complete-part n fs (joined f o) complete)).1 in
      let over =
      downward-hand n more (joined f o) complete (joined f t) (record { node = m; way = f.way } ∷ below)
      (topped-joined f.way f e (topped-spine topped) side) (link_one m) (rw (joined-sides f.way f t) (ap link_one e)) in
      rw h.way
      (record {
        topped = over.topped;
        rest =
            trans over.rest
            (trans (perm-append-right (aside nil fs) (hidden-joined f.way i f t m below))
            (perm-append-assoc (hidden (child_position f.way i) t below) (heap_nodes nil (child_position (not f.way) i) f.other) (aside nil fs)));
        tagged =
            trans over.tagged
            (trans (perm-of-eq (ap (λ (n : Node T). n.tag ∷ (tags (passed below) ++ frame_tags fs)) e))
            (perm-sym (perm-front (tags (passed below)) f.cell.tag (frame_tags fs))));
      })
