-- Upward from a change: at each level the map's step is safe and leaves a balanced tree with the same pairs around the place.
use Rattle.std.specs.Prelude.{◌≡◌, Bool, not, ℕ, suc, max, ◌≤◌, ◌<◌, ltb}
use Rattle.std.proofs.Math.Path.{refl, sym, ap}
use Rattle.std.proofs.Common.{◌∙◌}
use Rattle.std.proofs.Math.Bool.{true, false}
use Rattle.std.specs.Bool.{beq}
use mathlib.Core.List.{List, [], ◌∷◌, ◌++◌, map, append-nil}
use Rattle.std.proofs.Math.Option.{none}
use native.Mathlib.Omega.{arith}
use borrow.Author.Tests.{ltb-true, ltb-false}
use Rattle.list_spec.specs.Choice.{pick}
use Rattle.list_spec.specs.Perm.{Perm, trans}
use Rattle.list_laws.specs.PermLaws.{perm-sym, perm-of-eq, perm-append-right, perm_append_comm}
use Rattle.balance_spec.specs.Tree.{Tree, node, height, Balanced}
use Rattle.method_spec.specs.Node.{Node, child, with_child}
use Rattle.method_spec.specs.Prog.{done}
use Rattle.method_spec.specs.Plain.{Pair}
use Rattle.method_spec.specs.Map.{Step, Sub, stub, Built, map_test, link_of, kids, nodes_at, seat, tall, turn, with_subtree, rest as rest_at, near_on, others_of, raise, climb, unwind}
use Rattle.run_laws.specs.Safe.{Safe, ends}
use Rattle.run_laws.specs.BalanceLaws.{tall-heights}
use Rattle.run_laws.specs.SafeLaws.{safe-map, safe-then, safe-pick}
use Rattle.avl_laws.specs.Search.{Entry, pairs, Search, link_tree}
use Rattle.avl_laws.specs.Ascending.{Ascending, ascending-search}
use Rattle.avl_laws.specs.View.{View, away, join, join_node, node_on, whole, whole_join, join-flip, join_tree-flip, node_on-flip, tags, unfetched, below, further, top_node, sub_of, link-height, link-sub, top-sub, kids-further, further-join}
use Rattle.avl_laws.specs.Rotation.{height-join, balanced-join}
use Rattle.avl_laws.specs.Frames.{Frame, low_at, high_at, HeightAt, around, before, after, filled, around-filled, Over, Sound, bare, over, inside, step_of, others, entry_tags}
use Rattle.avl_laws.specs.Fetch.{Stock}
use Rattle.avl_laws.specs.Measure.{stock-near-back}
use Rattle.avl_laws.specs.Turn.{Standing, child-far, turn-safe}

near-way : (s : Bool) {A : Type 0} (a b : A) → pick (beq s s) a b ≡ a
near-way true a b = refl
near-way false a b = refl

near-other : (s : Bool) {A : Type 0} (a b : A) → pick (beq (not s) s) a b ≡ b
near-other true a b = refl
near-other false a b = refl

module _ {T : Type 0} where
  -- The stock of a view at the place below the frames.
  abbrev pub StockAt : T → T → View T → List (Frame T) → List T → List (Node T) → List (Node T) → Type 0
  StockAt nil tag v fs more held ns = Stock nil tag v (others nil fs) (entry_tags fs ++ more) held ns

  -- A balanced tree whose height differs from h by at most one.
  pub record Close (h : ℕ) (t : Tree (Entry T)) : Type 0 where
    pub balanced : Balanced t
    pub least : h ≤ suc (height t)
    pub most : height t ≤ suc h

  -- The tree at the place below the frames: close in height to what stood there.
  abbrev pub CloseAt : List (Frame T) → Tree (Entry T) → Type 0
  CloseAt [] t = Balanced t
  CloseAt (f ∷ fs) t = Close f.old.height t

  pub close_at : (fs : List (Frame T)) {h : ℕ} {t : Tree (Entry T)} → HeightAt fs h → Close h t → CloseAt fs t
  close_at [] e c = c.balanced
  close_at (f ∷ fs) e c = rw e c

  standing-as : {nil tag : T} {Shape Shape' : Tree (Entry T) → Type 0} {contents contents' : List Pair}
      {gone gone' others : List (Node T)} {more : List T} {r : Built T} {held ns : List (Node T)}
      → ((t : Tree (Entry T)) → Shape t → Shape' t) → contents ≡ contents' → gone ≡ gone'
      → Standing nil tag Shape contents gone others more r held ns
      → Standing nil tag Shape' contents' gone' others more r held ns
  standing-as up same less s =
      record {
        view = s.view;
        at-hand = s.at-hand;
        emitted = rw (← less) s.emitted;
        stock = s.stock;
        shape = up (whole s.view) s.shape;
        same = s.same ∙ same;
      }

module _ {T : Type 0} {Post : Built T → List (Node T) → List (Node T) → Type 0} where
  -- One level up, by the side s and the other.
  raise-cases : (p : Step T) (b : Sub T) (s : Bool) {held ns : List (Node T)}
      → (tall s (with_subtree p b) ≡ true → Safe map_test Post (turn p s (with_subtree p b) (near_on p b s) (others_of p b s)) held ns)
      → (tall (not s) (with_subtree p b) ≡ true
      → Safe map_test Post (turn p (not s) (with_subtree p b) (near_on p b (not s)) (others_of p b (not s))) held ns)
      → (tall s (with_subtree p b) ≡ false → tall (not s) (with_subtree p b) ≡ false
      → Safe map_test Post (done (rest_at p b)) held ns)
      → Safe map_test Post (raise p b) held ns
  unfolding raise
  raise-cases p b true f g h =
      safe-pick (tall true (with_subtree p b)) f (λ t. safe-pick (tall false (with_subtree p b)) g (h t))
  raise-cases p b false f g h =
      safe-pick (tall true (with_subtree p b)) g (λ t. safe-pick (tall false (with_subtree p b)) f (λ u. h u t))

module _ {T : Type 0} where
  unwind-root : {b : Sub T} {out : List (Node T)} → unwind [] b out ≡ record { sub = b; out = out }
  unfolding unwind
  unwind-root = refl

  unwind-step : (p : Step T) (path : List (Step T)) (b : Sub T) (out : List (Node T))
      → unwind (p ∷ path) b out ≡ unwind path (rest_at p b).sub (out ++ kids b)
  unfolding unwind
  unwind-step p path b out = refl

module _ {T : Type 0} (nil : T) where
  -- ---- a level as it is at hand

  placed-node : (f : Frame T) (v : View T)
      → with_subtree (step_of nil f) (sub_of nil v) ≡ join_node nil f.way v f.entry (away f.other)
  unfolding whole
  placed-node f v = go f.way
    where
      go : (s : Bool) → with_child s (node_on s f.entry f.old (link_tree nil f.other)) (link_of (sub_of nil v))
          ≡ node_on s f.entry (link_tree nil (whole v)) (link_tree nil f.other)
      go true = rw (link-sub nil v)
      go false = rw (link-sub nil v)

  tall-near : (s : Bool) (a : View T) (e : Entry T) (b : View T)
      → tall s (join_node nil s a e b) ≡ ltb (suc (height (whole b))) (height (whole a))
  tall-near true a e b = rw (tall-heights true (join_node nil true a e b), link-height nil (whole a), link-height nil (whole b))
  tall-near false a e b = rw (tall-heights false (join_node nil false a e b), link-height nil (whole a), link-height nil (whole b))

  tall-far : (s : Bool) (a : View T) (e : Entry T) (b : View T)
      → tall (not s) (join_node nil s a e b) ≡ ltb (suc (height (whole a))) (height (whole b))
  tall-far true a e b = rw (tall-heights false (join_node nil true a e b), link-height nil (whole a), link-height nil (whole b))
  tall-far false a e b = rw (tall-heights true (join_node nil false a e b), link-height nil (whole a), link-height nil (whole b))

  placed-way : (f : Frame T) (v : View T)
      → tall f.way (with_subtree (step_of nil f) (sub_of nil v)) ≡ ltb (suc (height f.other)) (height (whole v))
  unfolding whole
  placed-way f v = rw (placed-node f v) (tall-near f.way v f.entry (away f.other))

  placed-other : (f : Frame T) (v : View T)
      → tall (not f.way) (with_subtree (step_of nil f) (sub_of nil v)) ≡ ltb (suc (height (whole v))) (height f.other)
  unfolding whole
  placed-other f v = rw (placed-node f v) (tall-far f.way v f.entry (away f.other))

  -- Where neither side is too tall.
  rest-hand : (f : Frame T) (v : View T) → (rest_at (step_of nil f) (sub_of nil v)).sub
      ≡ sub_of nil (join f.way v f.entry (away f.other))
  unfolding sub_of top_node whole
  rest-hand f v = rw (placed-node f v, top-sub nil v) (go f.way)
    where
      go : (s : Bool) → seat s (join_node nil s v f.entry (away f.other)) (top_node nil v) none
          ≡ sub_of nil (join s v f.entry (away f.other))
      go true = refl
      go false = refl

  rest_out : (s : Bool) (v : View T) (e : Entry T) (o : Tree (Entry T))
      → Perm (further nil v ++ kids (sub_of nil v)) (further nil (join s v e (away o)))
  unfolding below
  rest_out s v e o =
      trans (perm_append_comm (further nil v) (kids (sub_of nil v)))
      (trans (kids-further nil v)
      (trans (perm-of-eq (sym (append-nil (below nil v)))) (perm-sym (further-join nil s v e (away o)))))

  -- ---- one level

  -- The level f, with the view v at its place.
  abbrev lifted : Frame T → View T → View T
  lifted f v = join f.way v f.entry (away f.other)

  height-lifted : (f : Frame T) (v : View T)
      → height (whole (lifted f v)) ≡ suc (max (height (whole v)) (height f.other))
  unfolding whole
  height-lifted f v =
      rw (whole_join f.way v f.entry (away f.other)) (height-join f.way (whole v) f.entry f.other)

  balanced-lifted : {fs : List (Frame T)} (f : Frame T) → Over f fs → (v : View T) → Balanced (whole v)
      → height (whole v) ≤ suc (height f.other) → height f.other ≤ suc (height (whole v))
      → Balanced (whole (lifted f v))
  unfolding whole
  balanced-lifted f o v bal up down =
      rw (whole_join f.way v f.entry (away f.other))
      (balanced-join f.way f.entry (record { first = bal; second = o.balanced; up = up; down = down }))

  abbrev Lifted : T → Frame T → View T → List (Node T) → List T → Built T → List (Node T) → List (Node T) → Type 0
  Lifted tag f v rest more =
      Standing nil tag (Close (suc (max f.old.height (height f.other)))) (pairs (filled f (whole v)))
      (further nil v) rest more

  module _ {tag : T} {fs : List (Frame T)} (f : Frame T) (o : Over f fs) (v : View T)
      (c : Close f.old.height (whole v))
      {rest : List (Node T)} {more : List T} {held ns : List (Node T)}
      (stock : Stock nil tag (lifted f v) rest more held ns) where
    raise-way : Search (low_at (f ∷ fs)) (high_at (f ∷ fs)) (whole v) → suc (height f.other) < height (whole v)
        → Safe map_test (Lifted tag f v rest more)
        (turn (step_of nil f) f.way (join_node nil f.way v f.entry (away f.other)) (sub_of nil v) []) held ns
    unfolding whole further sub_of
    raise-way between tall =
        safe-map (λ r h m. standing-as
        (λ t k. record { balanced = k.balanced; least = omega arith; most = omega arith }) refl
        (append-nil (further nil v)))
        (turn-safe nil (step_of nil f) f.way f.entry v (away f.other) c.balanced o.balanced
        (omega arith) between stock)

    raise-other : suc (height (whole v)) < height f.other
        → Safe map_test (Lifted tag f v rest more)
        (turn (step_of nil f) (not f.way) (join_node nil f.way v f.entry (away f.other))
        (stub (link_tree nil f.other)) (nodes_at (sub_of nil v))) held ns
    unfolding whole further sub_of
    raise-other tall =
        rw (← node_on-flip f.way f.entry (link_tree nil (whole v)) (link_tree nil f.other))
        (safe-map (λ r h m. standing-as
        (λ t k. record { balanced = k.balanced; least = omega arith; most = omega arith })
        (ap pairs (join_tree-flip f.way (whole v) f.entry f.other)) refl)
        (turn-safe nil (step_of nil f) (not f.way) f.entry (away f.other) v o.balanced c.balanced
        (omega arith) o.search
        (rw (join-flip f.way v f.entry (away f.other)) stock)))

    raise-rest : height (whole v) ≤ suc (height f.other) → height f.other ≤ suc (height (whole v))
        → Lifted tag f v rest more (rest_at (step_of nil f) (sub_of nil v)) held ns
    unfolding whole
    raise-rest up down =
        let k = height-lifted f v in
        record {
          view = lifted f v;
          at-hand = rest-hand f v;
          emitted = rest_out f.way v f.entry f.other;
          stock = stock;
          shape =
              record { balanced = balanced-lifted f o v c.balanced up down; least = omega arith; most = omega arith };
          same = ap pairs (whole_join f.way v f.entry (away f.other));
        }

    raise-safe : Search (low_at (f ∷ fs)) (high_at (f ∷ fs)) (whole v)
        → Safe map_test (Lifted tag f v rest more) (raise (step_of nil f) (sub_of nil v)) held ns
    unfolding whole
    raise-safe between =
        let p = step_of nil f in
        let b = sub_of nil v in
        let over-other = ltb-true (suc (height f.other)) (height (whole v)) in
        let over-place = ltb-true (suc (height (whole v))) (height f.other) in
        raise-cases p b f.way
        (λ t. rw (placed-node f v, near-way f.way b (stub (child f.way p.node)), near-way f.way [] (nodes_at b))
        (raise-way between (over-other (sym (placed-way f v) ∙ t))))
        (λ t. rw (
          placed-node f v,
          near-other f.way b (stub (child (not f.way) p.node)),
          near-other f.way [] (nodes_at b),
          child-far f.way f.entry f.old (link_tree nil f.other),
        )
        (raise-other (over-place (sym (placed-other f v) ∙ t))))
        (λ t u. ends (raise-rest
        (ltb-false (suc (height f.other)) (height (whole v)) (sym (placed-way f v) ∙ t))
        (ltb-false (suc (height (whole v))) (height f.other) (sym (placed-other f v) ∙ u))))

  -- ---- all levels

  around-lifted : (f : Frame T) (fs : List (Frame T)) (v : View T)
      → around (f ∷ fs) (pairs (whole v)) ≡ around fs (pairs (whole (lifted f v)))
  unfolding whole
  around-lifted f fs v =
      around-filled f fs (whole v)
      ∙ ap (λ t. around fs (pairs t)) (sym (whole_join f.way v f.entry (away f.other)))

  -- The stock of a place, as that of the level above it.
  stock-up : {tag : T} (f : Frame T) (fs : List (Frame T)) (v : View T) (more : List T) {held ns : List (Node T)}
      → StockAt nil tag v (f ∷ fs) more held ns
      → StockAt nil tag (lifted f v) fs more held ns
  unfolding others entry_tags unfetched tags
  stock-up f fs v more stock = stock-near-back f.way v f.entry (away f.other) stock

  -- At the root.
  stands : {tag : T} (v : View T) (out : List (Node T)) (more : List T) {held ns : List (Node T)}
      → Perm out (further nil v) → Balanced (whole v) → StockAt nil tag v [] more held ns
      → Standing nil tag Balanced (around {T = T} [] (pairs (whole v))) [] [] more
      (record { sub = sub_of nil v; out = out }) held ns
  unfolding others entry_tags before after
  stands v out more gone bal stock =
      record {
        view = v;
        at-hand = refl;
        emitted = gone;
        stock = stock;
        shape = bal;
        same = sym (append-nil (pairs (whole v)));
      }

  pub climb-safe : {tag : T} {fs : List (Frame T)} → Sound fs
      → (v : View T) (out : List (Node T)) (more : List T) {held ns : List (Node T)}
      → Perm out (further nil v) → CloseAt fs (whole v) → Ascending none none (around fs (pairs (whole v)))
      → StockAt nil tag v fs more held ns
      → Safe map_test (Standing nil tag Balanced (around fs (pairs (whole v))) [] [] more)
      (climb (map (step_of nil) fs) (sub_of nil v) out) held ns
  unfolding climb
  climb-safe bare v out more gone close ascends stock = ends (stands v out more gone close stock)
  climb-safe (over {f = f} {fs = fs} o s) v out more gone close ascends stock =
      safe-then _
      (raise-safe f o v close (stock-up f fs v more stock)
      (ascending-search (whole v) (inside (pairs (whole v)) (over o s) ascends)))
      (λ r h m st.
      let same = around-filled f fs (whole v) ∙ ap (around fs) (sym st.same) in
      rw (same, st.at-hand)
      (climb-safe s st.view (out ++ r.out) more (trans (perm-append-right r.out gone) st.emitted)
      (close_at fs o.joined st.shape) (rw same at ascends) st.stock))

  -- The same where nothing changed but tags and values.
  pub unwind-stands : {tag : T} {fs : List (Frame T)} → Sound fs
      → (v : View T) (out : List (Node T)) (more : List T) {held ns : List (Node T)}
      → Perm out (further nil v) → Balanced (whole v) → HeightAt fs (height (whole v))
      → StockAt nil tag v fs more held ns
      → Standing nil tag Balanced (around fs (pairs (whole v))) [] [] more
      (unwind (map (step_of nil) fs) (sub_of nil v) out) held ns
  unwind-stands bare v out more gone bal h stock = rw unwind-root (stands v out more gone bal stock)
  unwind-stands (over {f = f} {fs = fs} o s) v out more gone bal h stock =
      let joined : HeightAt fs (suc (max (height (whole v)) (height f.other))) = rw h at o.joined in
      rw (unwind-step (step_of nil f) (map (step_of nil) fs) (sub_of nil v) out, rest-hand f v, around-lifted f fs v)
      (unwind-stands s (lifted f v) (out ++ kids (sub_of nil v)) more
      (trans (perm-append-right (kids (sub_of nil v)) gone) (rest_out f.way v f.entry f.other))
      (balanced-lifted f o v bal (omega arith) (omega arith)) (rw (height-lifted f v) joined)
      (stock-up f fs v more stock))
