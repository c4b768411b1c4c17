-- The walk by key is safe, and ends at the place of the key.
use Rattle.std.specs.Prelude.{◌≡◌, Bool, List, [], ◌∷◌, ◌++◌, map, eqb}
use Rattle.std.proofs.Math.Path.{refl, subst}
use Rattle.std.proofs.Common.{ap, ◌∙◌, append_assoc, eqb-true, ltb-true, ltb-false}
use Rattle.std.proofs.Math.Bool.{true, false}
use Rattle.std.proofs.Math.Option.{none, some}
use Prim.Native.Nat.{ℕ, zero, suc, max, ◌≤◌, ◌<◌}
use native.Mathlib.Omega.{arith}
use Rattle.std.proofs.Math.Dec.{ltb, eqb-suc-zero}
use Rattle.std.proofs.lemmas.Bool.{eqb-false}
use Rattle.list_spec.specs.Choice.{pick}
use Rattle.balance_spec.specs.Tree.{Tree, leaf, node, height, Balanced}
use Rattle.method_spec.specs.Node.{Link, Node, absent}
use Rattle.method_spec.specs.Prog.{From, root, side, Want}
use Rattle.method_spec.specs.Plain.{Pair}
use Rattle.method_spec.specs.Map.{Spot, gap, hit, map_test, step_at, below as wantBelow, walk}
use Rattle.run_laws.specs.Safe.{Safe, ends}
use Rattle.run_laws.specs.SafeLaws.{safe-pick}
use Rattle.avl_laws.specs.Search.{Entry, pairs, Search, link_tree, node_at}
use Rattle.avl_laws.specs.Ascending.{Ascending, next, ends as none_left, ascending-split, ascending-join, ascending-search}
use Rattle.avl_laws.specs.View.{away, have, join_tree, unfetched, tags, link-height}
use Rattle.avl_laws.specs.Rotation.{balanced-parts}
use Rattle.avl_laws.specs.Frames.{Frame, low_at, high_at, HeightAt, pair_of, before, after, around, around-filled, Over, Sound, over, inside, step_of, others, entry_tags}
use Rattle.avl_laws.specs.Fetch.{retagged, safe-fetch}
use Rattle.avl_laws.specs.Measure.{stock-near}
use Rattle.avl_laws.specs.Climb.{StockAt}

-- A key is on the side s of one that was passed.
abbrev Towards : Bool → ℕ → ℕ → Type 0
Towards true key passed = key < passed
Towards false key passed = passed < key

module _ {T : Type 0} where
  -- Where the link to a place stands, and the link as a wanted one.
  abbrev from_at : List (Frame T) → From
  from_at [] = root
  from_at (f ∷ fs) = side f.was f.way

  abbrev pub hole : List (Frame T) → Link T → Want T
  hole fs l = record { link = l; from = from_at fs; low = low_at fs; high = high_at fs }

  -- The frames lead to the tree t, and the pairs around it and its own are the table.
  pub record Place (table : List Pair) (fs : List (Frame T)) (t : Tree (Entry T)) : Type 0 where
    pub sound : Sound fs
    pub reached : HeightAt fs (height t)
    pub balanced : Balanced t
    pub same : around fs (pairs t) ≡ table

  -- At a place where the table ascends, the tree is a search tree between the bounds there.
  pub place-search : {table : List Pair} {fs : List (Frame T)} {t : Tree (Entry T)} → Ascending none none table
      → Place table fs t → Search (low_at fs) (high_at fs) t
  place-search {t = t} ascends p = ascending-search t (inside (pairs t) p.sound (rw (← p.same) at ascends))

  pub place-retag : {table : List Pair} {fs : List (Frame T)} {l : Tree (Entry T)} {e : Entry T} {r : Tree (Entry T)}
      (d : T) → Place table fs (node l e r) → Place table fs (node l (retagged d e) r)
  unfolding height Balanced pairs
  place-retag d p = record { sound = p.sound; reached = p.reached; balanced = p.balanced; same = p.same }

  module _ (nil : T) where
    -- The node (l, e, r) at the place, passed on the side s.
    abbrev pub frame_at : List (Frame T) → Bool → Tree (Entry T) → Entry T → Tree (Entry T) → Frame T
    frame_at fs s l e r =
        record {
          entry = e;
          was = e.key;
          way = s;
          low = low_at fs;
          high = high_at fs;
          other = pick s r l;
          old = link_tree nil (pick s l r);
        }

    step-frame : (fs : List (Frame T)) (old : Link T) (s : Bool) (l : Tree (Entry T)) (e : Entry T) (r : Tree (Entry T))
        → step_at (hole fs old) (node_at nil l e r) s ≡ step_of nil (frame_at fs s l e r)
    step-frame fs old true l e r = refl
    step-frame fs old false l e r = refl

    below-frame : (fs : List (Frame T)) (old : Link T) (s : Bool) (l : Tree (Entry T)) (e : Entry T)
        (r : Tree (Entry T))
        → wantBelow (step_at (hole fs old) (node_at nil l e r) s)
        ≡ hole (frame_at fs s l e r ∷ fs) (link_tree nil (pick s l r))
    below-frame fs old true l e r = refl
    below-frame fs old false l e r = refl

    pub over-frame : (fs : List (Frame T)) (s : Bool) (l : Tree (Entry T)) (e : Entry T) (r : Tree (Entry T))
        → Balanced (node l e r) → Search (low_at fs) (high_at fs) (node l e r) → HeightAt fs (height (node l e r))
        → Over (frame_at fs s l e r) fs
    unfolding height Balanced Search
    over-frame fs true l e r bal between h =
        let k = link-height nil l in
        record {
          lower = refl;
          upper = refl;
          joined = rw k h;
          balanced = bal.1;
          up = omega arith;
          down = omega arith;
          search = between.3;
          passed = omega arith;
        }
    over-frame fs false l e r bal between h =
        let k = link-height nil r in
        let same : suc (max (height l) (height r)) ≡ suc (max (link_tree nil r).height (height l)) = omega arith in
        record {
          lower = refl;
          upper = refl;
          joined = subst (HeightAt fs) same h;
          balanced = bal.0;
          up = omega arith;
          down = omega arith;
          search = between.2;
          passed = omega arith;
        }

    -- A level down, to the side s.
    pub place_down : {table : List Pair} {fs : List (Frame T)} (s : Bool) (l : Tree (Entry T)) (e : Entry T)
        (r : Tree (Entry T))
        → Ascending none none table → Place table fs (node l e r) → Place table (frame_at fs s l e r ∷ fs) (pick s l r)
    place_down {table} {fs} s l e r ascends p =
        record {
          sound = over (over-frame fs s l e r p.balanced (place-search ascends p) p.reached) p.sound;
          reached = link-height nil (pick s l r);
          balanced = go s;
          same = around-filled (frame_at fs s l e r) fs (pick s l r)
              ∙ (ap (λ t. around fs (pairs t)) (sides s) ∙ p.same);
        }
      where
        parts : Balanced l × Balanced r
        parts = let v = balanced-parts true l e r p.balanced in (v.first, v.second)

        go : (s : Bool) → Balanced (pick s l r)
        go true = parts.0
        go false = parts.1

        sides : (s : Bool) → join_tree s (pick s l r) e (pick s r l) ≡ node l e r
        sides true = refl
        sides false = refl

    pub stock-down : {tag : T} (fs : List (Frame T)) (s : Bool) (l : Tree (Entry T)) (e : Entry T) (r : Tree (Entry T))
        (more : List T) {held ns : List (Node T)}
        → StockAt nil tag (have (away l) e (away r)) fs more held ns
        → StockAt nil tag (away (pick s l r)) (frame_at fs s l e r ∷ fs) more held ns
    unfolding others entry_tags unfetched tags
    stock-down fs true l e r more stock = stock-near true (away l) e (away r) stock
    stock-down fs false l e r more stock = stock-near false (away r) e (away l) stock

  side-height : (s : Bool) (l r : Tree (Entry T)) {fuel : ℕ} → suc (max (height l) (height r)) ≤ suc fuel
      → height (pick s l r) ≤ fuel
  side-height true l r h = omega arith
  side-height false l r h = omega arith

  -- ---- the place of a key

  -- The key stands between the pairs before the place and those after it.
  pub record Sits (key : ℕ) (fs : List (Frame T)) : Type 0 where
    pub lower : Ascending none (some key) (before fs)
    pub upper : Ascending (some key) none (after fs)

  sits-down : {key : ℕ} (f : Frame T) (fs : List (Frame T)) (xs : List Pair) → Ascending none none (around (f ∷ fs) xs)
      → Towards f.way key f.entry.key → Sits key fs → Sits key (f ∷ fs)
  unfolding before after
  sits-down {key} f fs xs ascends t sits = record { lower = low f.way t ascends; upper = high f.way t ascends }
    where
      p : Pair
      p = pair_of f.entry

      o : List Pair
      o = pairs f.other

      low : (s : Bool) → Towards s key p.key
          → Ascending none none
          (pick s (before fs) (before fs ++ (o ++ (p ∷ []))) ++ (xs ++ pick s (p ∷ (o ++ after fs)) (after fs)))
          → Ascending none (some key) (pick s (before fs) (before fs ++ (o ++ (p ∷ []))))
      low true t a = sits.lower
      low false t a =
          let b : Ascending none none ((before fs ++ o) ++ (p ∷ (xs ++ after fs))) =
          simp append_assoc (simp append_assoc at a) in
          rw (← append_assoc (before fs) o (p ∷ []))
          (ascending-join (before fs ++ o) p (ascending-split (before fs ++ o) b).before tt t none_left)

      high : (s : Bool) → Towards s key p.key
          → Ascending none none
          (pick s (before fs) (before fs ++ (o ++ (p ∷ []))) ++ (xs ++ pick s (p ∷ (o ++ after fs)) (after fs)))
          → Ascending (some key) none (pick s (p ∷ (o ++ after fs)) (after fs))
      high true t a =
          next t tt
          (ascending-split (before fs ++ xs) (rw (← append_assoc (before fs) xs (p ∷ (o ++ after fs))) at a)).after
      high false t a = sits.upper

towards : (key passed : ℕ) → eqb key passed ≡ false → Towards (ltb key passed) key passed
towards key passed e = go (ltb key passed) refl
  where
    go : (s : Bool) → ltb key passed ≡ s → Towards s key passed
    go true t = ltb-true key passed t
    go false t =
        let le = ltb-false key passed t in
        let ne = eqb-false key passed e in
        omega (arith, ne)

-- ---- the walk

module _ {T : Type 0} (nil tag : T) (key : ℕ) (table : List Pair) where
  -- The walk ended where the key is missing, or at its node.
  pub data Reached : Spot T → List (Node T) → List (Node T) → Type 0 where
    missing : {fs : List (Frame T)} {held ns : List (Node T)} → Place table fs leaf → Sits key fs
        → StockAt nil tag (away leaf) fs (tag ∷ []) held ns
        → Reached (gap (absent nil) (map (step_of nil) fs)) held ns
    present : {fs : List (Frame T)} {l : Tree (Entry T)} {e : Entry T} {r : Tree (Entry T)} {held ns : List (Node T)}
        (old : Link T)
        → Place table fs (node l e r) → key ≡ e.key
        → StockAt nil tag (have (away l) e (away r)) fs (tag ∷ []) held ns
        → Reached (hit (hole fs old) (node_at nil l e r) (map (step_of nil) fs)) held ns

  pub walk-safe : Ascending none none table
      → (fuel : ℕ) (t : Tree (Entry T)) {fs : List (Frame T)} {held ns : List (Node T)}
      → height t ≤ fuel → Place table fs t → Sits key fs
      → StockAt nil tag (away t) fs (tag ∷ []) held ns
      → Safe map_test Reached (walk key fuel (hole fs (link_tree nil t)) (map (step_of nil) fs)) held ns
  unfolding walk link_tree height
  walk-safe ascends zero leaf low p sits stock = ends (missing p sits stock)
  walk-safe ascends zero (node l e r) low p sits stock = let z : ⊥ = omega arith in absurd z
  walk-safe ascends (suc fuel) leaf low p sits stock = ends (missing p sits stock)
  walk-safe ascends (suc fuel) (node l e r) {fs} low p sits stock =
      rw (eqb-suc-zero (max (height l) (height r)))
      (safe-fetch (hole fs (link_tree nil (node l e r))) _ l e r refl p.balanced (place-search ascends p) stock
      (λ d h m st.
      safe-pick (eqb key e.key)
      (λ t. ends (present (link_tree nil (node l e r)) (place-retag d p) (eqb-true key e.key t) st))
      (λ t.
      let old = link_tree nil (node l e r) in
      let s = ltb key e.key in
      let q = place_down nil s l (retagged d e) r ascends (place-retag d p) in
      rw (below-frame nil fs old s l (retagged d e) r, step-frame nil fs old s l (retagged d e) r)
      (walk-safe ascends fuel (pick s l r) (side-height s l r low) q
      (sits-down (frame_at nil fs s l (retagged d e) r) fs (pairs (pick s l r)) (rw (← q.same) at ascends)
      (towards key e.key t) sits)
      (stock-down nil fs s l (retagged d e) r (tag ∷ []) st)))))
