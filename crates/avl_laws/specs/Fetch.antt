-- A fetch of a tree's top node is safe: the node is there and passes the fetch test, and the tree gets its new tag.
use Rattle.std.specs.Prelude.{◌≡◌, refl, Bool, not, List, ◌∷◌, ◌++◌, map, ℕ, suc, max, ◌<◌}
use Rattle.std.proofs.Math.Path.{sym}
use Rattle.std.proofs.Common.{ap, ◌∙◌}
use Rattle.std.proofs.Math.Bool.{true, false}
use Rattle.std.proofs.Math.Option.{Option, none, some}
use native.Mathlib.Omega.{arith}
use borrow.Author.Tests.{eq-eqb, lt-ltb, le-ltb}
use Rattle.list_spec.specs.Perm.{Perm, trans, cons, swap}
use Rattle.list_laws.specs.PermLaws.{perm-refl}
use Rattle.balance_spec.specs.Tree.{Tree, leaf, node, height, Balanced}
use Rattle.method_spec.specs.Node.{Node}
use Rattle.method_spec.specs.Prog.{Want, Prog, want, bind}
use Rattle.method_spec.specs.Map.{map_test, between, kid, fetched_top}
use Rattle.run_laws.specs.Safe.{Safe, meets}
use Rattle.run_laws.specs.BalanceLaws.{tall-heights}
use Rattle.avl_laws.specs.Search.{Entry, Above, Below, pairs, Search, link_tree, node_at, nodes_of}
use Rattle.avl_laws.specs.View.{View, away, have, join, join_tree, join_node, whole, tags, unfetched, fetched, below, further, top_node, sub_of, link-height, link-node}

-- ---- the fetch test

between-bounds : (low high : Option ℕ) (k : ℕ) → Above low k → Below high k → between low high k ≡ true
unfolding between
between-bounds none none k a b = refl
between-bounds (some x) none k a b = lt-ltb x k a
between-bounds none (some y) k a b = lt-ltb k y b
between-bounds (some x) (some y) k a b = rw (lt-ltb x k a) (lt-ltb k y b)

module _ {T : Type 0} (nil : T) where
  -- The top node of a balanced search tree passes the test of the link to the tree.
  pub passes : (w : Want T) (l : Tree (Entry T)) (e : Entry T) (r : Tree (Entry T))
      → w.link ≡ link_tree nil (node l e r) → Balanced (node l e r) → Search w.low w.high (node l e r)
      → map_test w (node_at nil l e r) ≡ true
  unfolding map_test Balanced Search
  passes w l e r link bal search =
      let i = link-height nil l in
      let j = link-height nil r in
      rw (
        tall-heights true (node_at nil l e r),
        tall-heights false (node_at nil l e r),
        le-ltb (suc (link_tree nil r).height) (link_tree nil l).height (omega arith),
        le-ltb (suc (link_tree nil l).height) (link_tree nil r).height (omega arith),
        eq-eqb (suc (max (link_tree nil l).height (link_tree nil r).height)) w.link.height
            (ap (λ k. k.height) (link-node nil l e r ∙ sym link)),
      )
      (between-bounds w.low w.high e.key search.0 search.1)

-- ---- what was not fetched, and the tags that were given

module _ {T : Type 0} where
  -- The nodes not fetched are those of the view and the rest; the new tag and the tags of the fetched nodes are those of
  -- the view and some more.
  pub record Stock (nil tag : T) (v : View T) (rest : List (Node T)) (more : List T)
      (held ns : List (Node T)) : Type 0 where
    pub left : Perm ns (unfetched nil v ++ rest)
    pub tagged : Perm (tag ∷ map (λ n. n.tag) held) (tags v ++ more)

  pub stock-as : {nil tag : T} {v u : View T} {rest rest' : List (Node T)} {more more' : List T}
      {held ns : List (Node T)}
      → Perm (unfetched nil v ++ rest) (unfetched nil u ++ rest') → Perm (tags v ++ more) (tags u ++ more')
      → Stock nil tag v rest more held ns → Stock nil tag u rest' more' held ns
  stock-as p q s = record { left = trans s.left p; tagged = trans s.tagged q }

  abbrev pub retagged : T → Entry T → Entry T
  retagged d e = record { key = e.key; value = e.value; tag = d }

module _ {T A : Type 0} {Post : A → List (Node T) → List (Node T) → Type 0} {nil tag : T} where
  pub safe-fetch : (w : Want T) (k : Node T → Prog T A) (l : Tree (Entry T)) (e : Entry T) (r : Tree (Entry T))
      {rest : List (Node T)} {more : List T} {held ns : List (Node T)}
      → w.link ≡ link_tree nil (node l e r) → Balanced (node l e r) → Search w.low w.high (node l e r)
      → Stock nil tag (away (node l e r)) rest more held ns
      → ((d : T) (h m : List (Node T)) → Stock nil tag (have (away l) (retagged d e) (away r)) rest more h m
      → Safe map_test Post (k (node_at nil l (retagged d e) r)) h m)
      → Safe map_test Post (want w k) held ns
  unfolding link_tree nodes_of unfetched tags
  safe-fetch w k l e r {rest} {held = held} link bal search s next =
      meets (node_at nil l e r) ((nodes_of nil l ++ nodes_of nil r) ++ rest) s.left
      (ap (λ k. k.key) (sym link)) (ap (λ k. k.tag) (sym link)) (passes nil w l e r link bal search)
      (λ d. next d _ _ (record {
        left = perm-refl _;
        tagged = trans (swap tag d (map (λ n. n.tag) held)) (cons d s.tagged);
      }))

-- ---- the top node of a view

module _ {T : Type 0} (nil : T) where
  -- The view x, with its top at hand: the entry c, a on the side s and b on the other.
  pub record Opened (w : Want T) (s : Bool) (x a : View T) (c : Entry T) (b : View T) : Type 0 where
    pub near : kid s (sub_of nil x) ≡ top_node nil a
    pub far : kid (not s) (sub_of nil x) ≡ top_node nil b
    pub same-below : below nil x ≡ below nil (join s a c b)
    pub same-further : further nil x ≡ further nil (join s a c b)
    pub same-pairs : pairs (whole x) ≡ pairs (join_tree s (whole a) c (whole b))
    pub same-height : height (whole x) ≡ height (join_tree s (whole a) c (whole b))
    pub balanced : Balanced (join_tree s (whole a) c (whole b))
    pub search : Search w.low w.high (join_tree s (whole a) c (whole b))

module _ {T A : Type 0} {Post : A → List (Node T) → List (Node T) → Type 0} {nil tag : T} where
  pub safe-opened : (s : Bool) (w : Want T) (x : View T) (k : Node T → Prog T A) {rest : List (Node T)} {more : List T}
      {held ns : List (Node T)}
      → w.link ≡ link_tree nil (whole x) → Balanced (whole x) → Search w.low w.high (whole x)
      → 0 < height (whole x)
      → Stock nil tag x rest more held ns
      → ((a : View T) (c : Entry T) (b : View T) (h m : List (Node T)) → Opened nil w s x a c b
      → Stock nil tag (join s a c b) rest more h m
      → Safe map_test Post (k (join_node nil s a c b)) h m)
      → Safe map_test Post (bind (fetched_top w (top_node nil x)) k) held ns
  unfolding bind sub_of top_node below further fetched unfetched tags whole height Balanced Search pairs
  safe-opened true w (have l c r) k {held = held} {ns = ns} link bal search tall stock next =
      next l c r held ns
      (record { near = refl; far = refl; same-below = refl; same-further = refl; same-pairs = refl; same-height = refl; balanced = bal; search = search }) stock
  safe-opened false w (have l c r) k {held = held} {ns = ns} link bal search tall stock next =
      next r c l held ns
      (record { near = refl; far = refl; same-below = refl; same-further = refl; same-pairs = refl; same-height = refl; balanced = bal; search = search }) stock
  safe-opened true w (away (node l c r)) k link bal search tall stock next =
      safe-fetch w k l c r link bal search stock (λ d h m st. next (away l) (retagged d c) (away r) h m
      (record { near = refl; far = refl; same-below = refl; same-further = refl; same-pairs = refl; same-height = refl; balanced = bal; search = search }) st)
  safe-opened false w (away (node l c r)) k link bal search tall stock next =
      safe-fetch w k l c r link bal search stock (λ d h m st. next (away r) (retagged d c) (away l) h m
      (record { near = refl; far = refl; same-below = refl; same-further = refl; same-pairs = refl; same-height = refl; balanced = bal; search = search }) st)
  safe-opened s w (away leaf) k link bal search tall stock next = let z : ⊥ = omega arith in absurd z
