-- The way down to a position is safe: it passes the nodes above that position, and changes nothing but their tags.
use Rattle.std.specs.Prelude.{◌≡◌, Bool, not, ℕ, suc, ◌≤◌}
use Rattle.std.proofs.Math.Path.{refl}
use Rattle.std.proofs.Common.{sym, ◌∙◌, ap}
use Rattle.std.proofs.Math.Bool.{true, false}
use mathlib.Core.List.{List, [], ◌∷◌, ◌++◌, append-nil}
use native.Mathlib.Omega.{arith}
use Rattle.list_spec.specs.Choice.{pick}
use Rattle.list_spec.specs.Perm.{Perm, cons, trans}
use Rattle.list_laws.specs.PermLaws.{perm-refl, perm-of-eq}
use Rattle.balance_spec.specs.Tree.{Tree, leaf, node}
use Rattle.method_spec.specs.Node.{Node, Link, child, retag, Cell}
use Rattle.method_spec.specs.Prog.{Want, start}
use Rattle.method_spec.specs.Heap.{child_position, way_to, Pass, beneath, descend, heap_test}
use Rattle.run_laws.specs.Safe.{Safe, ends, meets}
use Rattle.run_laws.specs.Fetches.{tags}
use Rattle.method_spec.specs.HeapShape.{CompleteTree, bare, heap_link, heap_node, heap_nodes}
use Rattle.heap_laws.specs.HeapTree.{Frame, joined, plug, position, frame_tags, aside, PassOf, Passes, none_passed, one-passed, Came, node-passes}
use Rattle.run_laws.specs.HeapWays.{along, along-way, along-turn}
use Rattle.heap_laws.specs.Plugs.{side_nodes, sides-below, position_some, bare-plug, complete-part}

module _ {T : Type 0} (nil : T) where
  -- The fetched node (l, c, r) with its new tag, passed on the side s.
  abbrev frame_of : Bool → Tree (Cell T) → Cell T → Tree (Cell T) → T → Frame T
  frame_of s l c r d = record { cell = record { value = c.value; tag = d }; way = s; other = pick s r l }

  -- Both sides of a node are there, the one on the way first.
  sides-there : (s : Bool) (i : ℕ) (l r : Tree (Cell T)) (rest : List (Node T))
      → Perm (side_nodes nil i l r ++ rest)
      (heap_nodes nil (child_position s i) (pick s l r) ++ (heap_nodes nil (child_position (not s) i) (pick s r l) ++ rest))
  sides-there true i l r rest = sides-below nil true i l r rest
  sides-there false i l r rest = sides-below nil false i r l rest

  -- The links of a node on the side s and on the other.
  links : (s : Bool) (i : ℕ) (l : Tree (Cell T)) (c : Cell T) (r : Tree (Cell T))
      → (child s (heap_node nil i l c r) ≡ heap_link nil (child_position s i) (pick s l r))
      × (child (not s) (heap_node nil i l c r) ≡ heap_link nil (child_position (not s) i) (pick s r l))
  links true i l c r = (refl, refl)
  links false i l c r = (refl, refl)

  -- The node in its frame is the node, but for the tag.
  bare-frame : (s : Bool) (l : Tree (Cell T)) (c : Cell T) (r : Tree (Cell T)) (d : T)
      → bare (joined (frame_of s l c r d) (pick s l r)) ≡ bare (node l c r)
  unfolding bare
  bare-frame true l c r d = refl
  bare-frame false l c r d = refl

  module _ (n q : ℕ) (t : Tree (Cell T)) (complete : CompleteTree n 1 (bare t)) (few : q ≤ suc n) where
    -- The rest of a way, from a place on it.
    descend-rest : (ss : List Bool) (fs : List (Frame T)) (u : Tree (Cell T)) (w : Want T) (path : List (Pass T)) {held ns : List (Node T)}
        → along (position fs) ss ≡ q → bare (plug u fs) ≡ bare t → Passes nil fs path → w.link ≡ heap_link nil (position fs) u
        → Perm ns (heap_nodes nil (position fs) u ++ aside nil fs) → Perm (tags held) (frame_tags fs)
        → Safe (heap_test n) (Came nil q t) (descend ss w path) held ns
    unfolding descend along position plug aside heap_link heap_nodes bare
    descend-rest [] fs u w path leads same passes link there retagged =
        let link' = rw leads at link in
        let there' = rw leads at there in
        ends
        (record {
          frames = fs;
          focus = u;
          at = leads;
          same = same;
          passes = passes;
          ends = link';
          there = there';
          retagged = retagged;
        })
    descend-rest (s ∷ ss) fs leaf w path leads same passes link there retagged =
        let inside = complete-part n fs leaf (rw same complete) in
        let before = along-turn (position fs) s ss (position_some fs) in
        let z : ⊥ = omega arith in
        absurd z
    descend-rest (s ∷ ss) fs (node l c r) w path {held} {ns} leads same passes link there retagged =
        let i = position fs in
        let inside = complete-part n fs (node l c r) (rw same complete) in
        meets (heap_node nil i l c r) (side_nodes nil i l r ++ aside nil fs)
        there (sym (ap (λ (k : Link T). k.key) link)) (sym (ap (λ (k : Link T). k.tag) link))
        (node-passes nil n i w l c r inside.1.0 inside.1.1)
        (λ d.
        let m = retag d (heap_node nil i l c r) in
        let f = frame_of s l c r d in
        let p : PassOf nil i f (record { node = m; way = s }) =
        record { way = refl; key = refl; value = refl; tag = refl; other = (links s i l f.cell r).1 } in
        descend-rest ss (f ∷ fs) (pick s l r) (beneath m s) (record { node = m; way = s } ∷ path) leads
        (bare-plug fs (joined f (pick s l r)) (node l c r) (bare-frame s l c r d) ∙ same) (one-passed p passes)
        (links s i l f.cell r).0 (sides-there s i l r (aside nil fs)) (cons d retagged))

  -- The way from the root to a position of the tree, or to the next one.
  pub descend-safe : (n q : ℕ) (t : Tree (Cell T)) (ns : List (Node T)) → CompleteTree n 1 (bare t) → 1 ≤ q → q ≤ suc n
      → Perm ns (heap_nodes nil 1 t)
      → Safe (heap_test n) (Came nil q t) (descend (way_to q) (start (heap_link nil 1 t)) []) [] ns
  unfolding position plug aside
  descend-safe n q t ns complete some few there =
      descend-rest n q t complete few (way_to q) [] t (start (heap_link nil 1 t)) [] (along-way q some) refl none_passed refl
      (trans there (perm-of-eq (sym (append-nil (heap_nodes nil 1 t))))) (perm-refl [])
