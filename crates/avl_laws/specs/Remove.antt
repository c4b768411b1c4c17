-- A node leaves the tree: alone, or with the next larger key's node in its place.
use Rattle.std.specs.Prelude.{◌≡◌}
use Rattle.std.proofs.Math.Path.{refl, sym, ap, subst}
use Rattle.std.proofs.Common.{◌∙◌}
use Rattle.std.proofs.Math.Bool.{true, false}
use mathlib.Core.List.{List, [], ◌∷◌, ◌++◌, map, map-append, append-nil, append_assoc}
use Rattle.std.proofs.Math.Option.{none, some}
use Prim.Native.Nat.{ℕ, zero, suc, max, ◌≤◌}
use native.Mathlib.Omega.{arith}
use Rattle.std.proofs.Math.Dec.{eqb-suc-zero}
use Rattle.list_spec.specs.Perm.{Perm, nil as perm-none, trans, cons, swap}
use Rattle.list_laws.specs.PermLaws.{perm-refl, perm-of-eq, perm-sym, perm-front, perm-append-right}
use Rattle.list_laws.specs.Shuffle.{part, ◌&◌, shuffle}
use Rattle.balance_spec.specs.Tree.{Tree, leaf, node, height, Balanced}
use Rattle.method_spec.specs.Node.{Link, Node}
use Rattle.method_spec.specs.Plain.{Pair, erase}
use Rattle.method_spec.specs.Map.{Lowest, stub, Built, map_test, step_at, below as wantBelow, lowest, take_out, climb, swapped}
use Rattle.run_laws.specs.Safe.{Safe, ends}
use Rattle.run_laws.specs.SafeLaws.{safe-then}
use Rattle.avl_laws.specs.Search.{Entry, pairs, link_tree, node_at, nodes_of}
use Rattle.avl_laws.specs.Ascending.{Ascending, next, Split, ascending-split, erase-at}
use Rattle.avl_laws.specs.View.{away, have, whole, unfetched, tags, further, sub_of}
use Rattle.avl_laws.specs.Rotation.{balanced-parts}
use Rattle.avl_laws.specs.Frames.{Frame, low_at, high_at, HeightAt, Passed, pair_of, before, after, around, Over, Sound, over, step_of, others, entry_tags}
use Rattle.avl_laws.specs.Fetch.{stock-as, retagged, safe-fetch}
use Rattle.avl_laws.specs.Turn.{Standing}
use Rattle.avl_laws.specs.Climb.{StockAt, Close, close_at, climb-safe}
use Rattle.avl_laws.specs.Walk.{Place, place-search, place-retag, place_down, stock-down, frame_at, hole}
use Rattle.avl_laws.specs.Table.{present-erase, erase-ascends}

-- ---- another entry at a frame

-- The frame with the entry y for its own; the key that was passed there stays.
abbrev pub swapped_frame : {T : Type 0} → Frame T → Entry T → Frame T
swapped_frame f y =
    record { entry = y; was = f.was; way = f.way; low = f.low; high = f.high; other = f.other; old = f.old }

-- It stands on frames with the same bounds and height.
over-as : {T : Type 0} {f : Frame T} {fs gs : List (Frame T)} (y : Entry T) → low_at fs ≡ low_at gs → high_at fs ≡ high_at gs
    → ((h : ℕ) → HeightAt fs h → HeightAt gs h) → Passed f.way y.key f.was → Over f fs → Over (swapped_frame f y) gs
over-as {f = f} y low high joined passed o =
    record {
      lower = o.lower ∙ low;
      upper = o.upper ∙ high;
      joined = joined (suc (max f.old.height (height f.other))) o.joined;
      balanced = o.balanced;
      up = o.up;
      down = o.down;
      search = o.search;
      passed = passed;
    }

module _ {T : Type 0} (f : Frame T) (fs : List (Frame T)) (y : Entry T) where
  over-swapped : (gs : List (Frame T)) {g : Frame T} → Over g (gs ++ (f ∷ fs)) → Over g (gs ++ (swapped_frame f y ∷ fs))
  over-swapped [] {g} o = over-as g.entry refl refl (λ h e. e) o.passed o
  over-swapped (h ∷ gs) {g} o = over-as g.entry refl refl (λ h e. e) o.passed o

  sound-swapped : (gs : List (Frame T)) → Passed f.way y.key f.was → Sound (gs ++ (f ∷ fs))
      → Sound (gs ++ (swapped_frame f y ∷ fs))
  sound-swapped [] p (over o s) = over (over-as y refl refl (λ h e. e) p o) s
  sound-swapped (g ∷ gs) p (over o s) = over (over-swapped gs o) (sound-swapped gs p s)

  height-swapped : (gs : List (Frame T)) (h : ℕ) → HeightAt (gs ++ (f ∷ fs)) h
      → HeightAt (gs ++ (swapped_frame f y ∷ fs)) h
  height-swapped [] h e = e
  height-swapped (g ∷ gs) h e = e

  -- Where the way went right at the frame, the pairs after the place stay.
  after-swapped : (gs : List (Frame T)) → f.way ≡ false
      → after (gs ++ (swapped_frame f y ∷ fs)) ≡ after (gs ++ (f ∷ fs))
  unfolding after
  after-swapped [] e = rw e
  after-swapped (g ∷ gs) e = rw (after-swapped gs e)

  tags-swapped : (gs : List (Frame T)) (more : List T)
      → Perm (y.tag ∷ (entry_tags (gs ++ (f ∷ fs)) ++ more))
      (entry_tags (gs ++ (swapped_frame f y ∷ fs)) ++ (f.entry.tag ∷ more))
  unfolding entry_tags
  tags-swapped [] more =
      cons y.tag (shuffle ((f.entry.tag ∷ []) ∷ entry_tags fs ∷ more ∷ []) (part 0 & (part 1 & part 2))
      (part 1 & (part 0 & part 2)) refl)
  tags-swapped (g ∷ gs) more =
      trans (swap y.tag g.entry.tag (entry_tags (gs ++ (f ∷ fs)) ++ more))
      (cons g.entry.tag (tags-swapped gs more))

  others-swapped : (nil : T) (gs : List (Frame T))
      → others nil (gs ++ (swapped_frame f y ∷ fs)) ≡ others nil (gs ++ (f ∷ fs))
  unfolding others
  others-swapped nil [] = refl
  others-swapped nil (g ∷ gs) = ap (λ ns. nodes_of nil g.other ++ ns) (others-swapped nil gs)

-- ---- the next larger key

module _ {T : Type 0} (nil tag : T) (table : List Pair) (base : List (Frame T)) (more : List T) where
  -- The node with no left child, and the frames down to it from the base, all of whose ways went left.
  pub data Found : Lowest T → List (Node T) → List (Node T) → Type 0 where
    found : (gs : List (Frame T)) {y : Entry T} {r : Tree (Entry T)} {held ns : List (Node T)}
        → Place table (gs ++ base) (node leaf y r)
        → ((bs : List (Frame T)) → before (gs ++ bs) ≡ before bs)
        → StockAt nil tag (have (away leaf) y (away r)) (gs ++ base) more held ns
        → Found (record { node = node_at nil leaf y r; path = map (step_of nil) gs }) held ns

  lowest-safe : Ascending none none table
      → (fuel : ℕ) (gs : List (Frame T)) (l : Tree (Entry T)) (e : Entry T) (r : Tree (Entry T))
      (old : Link T) {held ns : List (Node T)}
      → height l ≤ fuel → Place table (gs ++ base) (node l e r)
      → ((bs : List (Frame T)) → before (gs ++ bs) ≡ before bs)
      → StockAt nil tag (have (away l) e (away r)) (gs ++ base) more held ns
      → Safe map_test Found (lowest fuel (hole (gs ++ base) old) (node_at nil l e r) (map (step_of nil) gs)) held ns
  unfolding lowest link_tree height before
  lowest-safe ascends zero gs leaf e r old low p left stock = ends (found gs p left stock)
  lowest-safe ascends zero gs (node ll le lr) e r old low p left stock = let z : ⊥ = omega arith in absurd z
  lowest-safe ascends (suc fuel) gs leaf e r old low p left stock = ends (found gs p left stock)
  lowest-safe ascends (suc fuel) gs (node ll le lr) e r old low p left stock =
      let f = frame_at nil (gs ++ base) true (node ll le lr) e r in
      let q = place_down nil true (node ll le lr) e r ascends p in
      rw (eqb-suc-zero (max (height ll) (height lr)))
      (safe-fetch (wantBelow (step_at (hole (gs ++ base) old) (node_at nil (node ll le lr) e r) true)) _ ll le lr refl
      q.balanced (place-search ascends q)
      (stock-down nil (gs ++ base) true (node ll le lr) e r more stock) (λ d h m st.
      lowest-safe ascends fuel (f ∷ gs) ll (retagged d le) lr (link_tree nil (node ll le lr)) (omega arith)
      (place-retag d q) left st))

-- ---- a node leaves

-- The tree without the entry e; its tag and the new one are not used.
abbrev pub Gone : {T : Type 0} → T → T → List Pair → Entry T → Built T → List (Node T) → List (Node T) → Type 0
Gone nil tag table e = Standing nil tag Balanced (erase e.key table) [] [] (e.tag ∷ tag ∷ [])

module _ {T : Type 0} (nil tag : T) {table : List Pair} {fs : List (Frame T)}
    (ascends : Ascending none none table) where
  -- Another tree takes its place.
  gone-alone : (l : Tree (Entry T)) (e : Entry T) (r t : Tree (Entry T)) {held ns : List (Node T)}
      → Place table fs (node l e r)
      → StockAt nil tag (have (away l) e (away r)) fs (tag ∷ []) held ns
      → pairs l ++ pairs r ≡ pairs t → Perm (nodes_of nil l ++ nodes_of nil r) (nodes_of nil t)
      → Close (height (node l e r)) t
      → Safe map_test (Gone nil tag table e) (climb (map (step_of nil) fs) (sub_of nil (away t)) []) held ns
  unfolding whole unfetched tags further
  gone-alone l e r t p stock same nodes close =
      let is : erase e.key table ≡ around fs (pairs t) = present-erase ascends p ∙ ap (around fs) same in
      rw is
      (climb-safe nil p.sound (away t) [] (e.tag ∷ tag ∷ []) perm-none (close_at fs p.reached close)
      (rw is at (erase-ascends ascends p))
      (stock-as (perm-append-right (others nil fs) nodes)
      (perm-sym (perm-front (entry_tags fs) e.tag (tag ∷ []))) stock))

  -- The next larger key's node takes its place.
  module _ (l : Tree (Entry T)) (e : Entry T) (r : Tree (Entry T)) (p : Place table fs (node l e r)) where
    abbrev passed_frame : Frame T
    passed_frame = frame_at nil fs false l e r

    module _ (gs : List (Frame T)) (y : Entry T) (t : Tree (Entry T))
        (q : Place table (gs ++ (passed_frame ∷ fs)) (node leaf y t))
        (left : (bs : List (Frame T)) → before (gs ++ bs) ≡ before bs) where
      rights : List Pair
      rights = pairs t ++ after (gs ++ (passed_frame ∷ fs))

      next-table : table ≡ (before fs ++ pairs l) ++ (pair_of e ∷ pair_of y ∷ rights)
      unfolding before pairs rights
      next-table = sym q.same ∙ rw (left (passed_frame ∷ fs)) (simp append_assoc)

      next-split : Split none none (before fs ++ pairs l) (pair_of e) (pair_of y ∷ rights)
      next-split = ascending-split (before fs ++ pairs l) (rw next-table at ascends)

      next-larger : e.key ≤ y.key
      next-larger = go next-split.after
        where
          go : Ascending (some e.key) none (pair_of y ∷ rights) → e.key ≤ y.key
          go (next a b h) = omega arith

      next-erase : erase e.key table ≡ around (gs ++ (swapped_frame passed_frame y ∷ fs)) (pairs t)
      unfolding before pairs rights
      next-erase =
          ap (erase e.key) next-table
          ∙ (erase-at (before fs ++ pairs l) (pair_of e) (pair_of y ∷ rights) next-split.before
          ∙ rw (left (swapped_frame passed_frame y ∷ fs), after-swapped passed_frame fs y gs refl) (simp append_assoc))

      next-safe : {held ns : List (Node T)}
          → StockAt nil tag (have (away leaf) y (away t)) (gs ++ (passed_frame ∷ fs)) (tag ∷ []) held ns
          → Safe map_test (Gone nil tag table e)
          (climb (map (step_of nil) (gs ++ (swapped_frame passed_frame y ∷ fs))) (sub_of nil (away t)) []) held ns
      unfolding whole unfetched tags further nodes_of height
      next-safe stock =
          let v = balanced-parts true leaf y t q.balanced in
          rw next-erase
          (climb-safe nil (sound-swapped passed_frame fs y gs next-larger q.sound) (away t) [] (e.tag ∷ tag ∷ []) perm-none
          (close_at (gs ++ (swapped_frame passed_frame y ∷ fs))
          (height-swapped passed_frame fs y gs (height (node leaf y t)) q.reached)
          (record { balanced = v.second; least = omega arith; most = omega arith }))
          (rw next-erase at (erase-ascends ascends p))
          (stock-as (perm-of-eq (ap (λ ns. nodes_of nil t ++ ns) (sym (others-swapped passed_frame fs y nil gs))))
          (tags-swapped passed_frame fs y gs (tag ∷ [])) stock))

    -- Whichever node was found.
    next-found : (old : Link T) (y : Lowest T) (held ns : List (Node T))
        → Found nil tag table (passed_frame ∷ fs) (tag ∷ []) y held ns
        → Safe map_test (Gone nil tag table e)
        (climb (y.path ++ (swapped (step_at (hole fs old) (node_at nil l e r) false) y.node ∷ map (step_of nil) fs))
        (stub y.node.right) []) held ns
    unfolding sub_of
    next-found old y held ns (found gs {y = z} {r = t} q left stock) =
        subst (λ path. Safe map_test (Gone nil tag table e) (climb path (stub (link_tree nil t)) []) held ns)
        (map-append (step_of nil) gs (swapped_frame passed_frame z ∷ fs)) (next-safe gs z t q left stock)

  pub take-out-safe : (old : Link T) (l : Tree (Entry T)) (e : Entry T) (r : Tree (Entry T)) {held ns : List (Node T)}
      → Place table fs (node l e r)
      → StockAt nil tag (have (away l) e (away r)) fs (tag ∷ []) held ns
      → Safe map_test (Gone nil tag table e) (take_out (hole fs old) (node_at nil l e r) (map (step_of nil) fs)) held ns
  unfolding take_out link_tree sub_of nodes_of pairs height
  take-out-safe old leaf e r p stock =
      let v = balanced-parts true leaf e r p.balanced in
      gone-alone leaf e r r p stock refl (perm-refl (nodes_of nil r))
      (record { balanced = v.second; least = omega arith; most = omega arith })
  take-out-safe old (node ll le lr) e leaf p stock =
      let l = node ll le lr in
      let v = balanced-parts true l e leaf p.balanced in
      rw (eqb-suc-zero (max (height ll) (height lr)))
      (gone-alone l e leaf l p stock (append-nil (pairs l)) (perm-of-eq (append-nil (nodes_of nil l)))
      (record { balanced = v.first; least = omega arith; most = omega arith }))
  take-out-safe old (node ll le lr) e (node rl re rr) p stock =
      let l = node ll le lr in
      let r = node rl re rr in
      let q = place_down nil false l e r ascends p in
      rw (eqb-suc-zero (max (height ll) (height lr)), eqb-suc-zero (max (height rl) (height rr)))
      (safe-fetch (wantBelow (step_at (hole fs old) (node_at nil l e r) false)) _ rl re rr refl q.balanced
      (place-search ascends q)
      (stock-down nil fs false l e r (tag ∷ []) stock) (λ d h m st.
      safe-then _
      (lowest-safe nil tag table (frame_at nil fs false l e r ∷ fs) (tag ∷ []) ascends
      (suc (max (height rl) (height rr))) [] rl (retagged d re) rr (link_tree nil r) (omega arith) (place-retag d q)
      (λ bs. refl) st)
      (next-found l e r p old)))
