-- Where one side of a place is too tall by one, the map's rotation is safe and leaves a balanced tree with the same pairs.
use Rattle.std.specs.Prelude.{◌≡◌, refl, Bool, not, List, [], ◌∷◌, ◌++◌, ◌+◌, ◌≤◌, ◌<◌, leb}
use Rattle.std.proofs.Math.Path.{sym}
use Rattle.std.proofs.Common.{ap, ◌∙◌, arith}
use Rattle.std.proofs.Math.Bool.{true, false}
use Rattle.std.proofs.Math.Option.{Option, some}
use borrow.Author.Tests.{leb-true, leb-false}
use Rattle.list_spec.specs.Choice.{pick}
use Rattle.list_spec.specs.Perm.{Perm, trans}
use Rattle.list_laws.specs.PermLaws.{perm-sym, perm-of-eq, perm-append, perm-append-left, perm-append-right}
use Rattle.list_laws.specs.Shuffle.{part, ◌&◌, shuffle}
use Rattle.balance_spec.specs.Tree.{Tree, height, Balanced}
use Rattle.method_spec.specs.Node.{Link, Node, child}
use Rattle.method_spec.specs.Prog.{Want}
use Rattle.method_spec.specs.Plain.{Pair}
use Rattle.method_spec.specs.Map.{Step, Built, map_test, kid, listed, nodes_at, leans_out, single, double, turn, beside, below as wantBelow, step_at}
use Rattle.run_laws.specs.Safe.{Safe, ends}
use Rattle.run_laws.specs.BalanceLaws.{leans-heights}
use Rattle.run_laws.specs.SafeLaws.{safe-pick}
use Rattle.avl_laws.specs.Search.{Entry, pairs, Search, link_tree}
use Rattle.avl_laws.specs.View.{View, join, join_tree, node_on, join_node, whole, whole_join, fetched, below, further, top_node, sub_of, link-height, link-node, top_below, top-sub, hand-further, below-join, further-join}
use Rattle.avl_laws.specs.Rotation.{Turned, single-pairs, double-pairs, single-turned, double-turned, search-far, balanced-parts, balanced-far, height-join, pairs-near, pairs-far}
use Rattle.avl_laws.specs.Fetch.{Stock, Opened, safe-opened}
use Rattle.avl_laws.specs.Measure.{stock-near, stock-near-back, stock-inner, stock-inner-back, stock-single, stock-double}

module _ {T : Type 0} where
  -- What is built stands for a view of a tree with these pairs: the nodes that were done with before and those done with
  -- now are further down in the view.
  pub record Standing (nil tag : T) (Shape : Tree (Entry T) → Type 0) (contents : List Pair)
      (gone rest : List (Node T)) (more : List T) (r : Built T) (held ns : List (Node T)) : Type 0 where
    pub view : View T
    pub at-hand : r.sub ≡ sub_of nil view
    pub emitted : Perm (gone ++ r.out) (further nil view)
    pub stock : Stock nil tag view rest more held ns
    pub shape : Shape (whole view)
    pub same : pairs (whole view) ≡ contents

  -- ---- the two sides of a node

  pub child-near : (s : Bool) (e : Entry T) (a b : Link T) → child s (node_on s e a b) ≡ a
  child-near true e a b = refl
  child-near false e a b = refl

  pub child-far : (s : Bool) (e : Entry T) (a b : Link T) → child (not s) (node_on s e a b) ≡ b
  child-far true e a b = refl
  child-far false e a b = refl

module _ {T : Type 0} (nil : T) where
  -- ---- what the rotations have at hand

  single-hand : (s : Bool) (e : Entry T) (old : Link T) (z : View T) (a : View T) (c : Entry T) (b : View T)
      (inner : Option (Node T)) (others : List (Node T))
      → (single s (node_on s e old (link_tree nil (whole z))) (join_node nil s a c b) (top_node nil a) inner others).sub
      ≡ sub_of nil (join s a c (join s b e z))
  unfolding single sub_of top_node whole
  single-hand true e old z a c b inner others = rw (link-node nil (whole b) e (whole z))
  single-hand false e old z a c b inner others = rw (link-node nil (whole z) e (whole b))

  double-hand : (s : Bool) (e : Entry T) (old : Link T) (z : View T) (a : View T) (c : Entry T) (old' : Link T)
      (b : View T) (g : Entry T) (d : View T) (others : List (Node T)) (outer : Option (Node T))
      → (double s (node_on s e old (link_tree nil (whole z))) (node_on s c (link_tree nil (whole a)) old')
      (join_node nil s b g d) outer others).sub
      ≡ sub_of nil (join s (join s a c b) g (join s d e z))
  unfolding double sub_of top_node whole
  double-hand true e old z a c old' b g d others outer =
      rw (link-node nil (whole a) c (whole b), link-node nil (whole d) e (whole z))
  double-hand false e old z a c old' b g d others outer =
      rw (link-node nil (whole b) c (whole a), link-node nil (whole z) e (whole d))

  -- ---- what the rotations are done with

  single-out : (s : Bool) (a : View T) (c : Entry T) (b : View T) (e : Entry T) (z : View T)
      → Perm ((further nil (join s a c b) ++ further nil z) ++ (listed (top_node nil b) ++ nodes_at (sub_of nil z)))
      (further nil (join s a c (join s b e z)))
  single-out s a c b e z =
      trans (perm-append-right (listed (top_node nil b) ++ nodes_at (sub_of nil z))
      (perm-append-right (further nil z) (further-join nil s a c b)))
      (trans (shuffle (below nil a ∷ below nil b ∷ further nil z ∷ listed (top_node nil b) ∷ nodes_at (sub_of nil z) ∷ [])
      (((part 0 & part 1) & part 2) & (part 3 & part 4)) (part 0 & ((part 3 & part 1) & (part 4 & part 2))) refl)
      (trans (perm-append-left (below nil a)
      (trans (perm-append (perm-of-eq (top_below nil b)) (hand-further nil z)) (perm-sym (below-join nil s b e z))))
      (perm-sym (further-join nil s a c (join s b e z)))))

  double-out : (s : Bool) (a : View T) (c : Entry T) (b : View T) (g : Entry T) (d : View T) (e : Entry T) (z : View T)
      → Perm
      (((below nil a ++ below nil (join s b g d)) ++ further nil z) ++ (listed (top_node nil a) ++ nodes_at (sub_of nil z)))
      (further nil (join s (join s a c b) g (join s d e z)))
  double-out s a c b g d e z =
      trans (perm-append-right (listed (top_node nil a) ++ nodes_at (sub_of nil z))
      (perm-append-right (further nil z) (perm-append-left (below nil a) (below-join nil s b g d))))
      (trans (shuffle
      (below nil a ∷ fetched nil b ∷ fetched nil d ∷ further nil z ∷ listed (top_node nil a) ∷ nodes_at (sub_of nil z) ∷ [])
      (((part 0 & (part 1 & part 2)) & part 3) & (part 4 & part 5))
      (((part 4 & part 0) & part 1) & (part 2 & (part 5 & part 3))) refl)
      (trans (perm-append
      (trans (perm-append-right (fetched nil b) (perm-of-eq (top_below nil a))) (perm-sym (below-join nil s a c b)))
      (trans (perm-append-left (fetched nil d) (hand-further nil z)) (perm-sym (below-join nil s d e z))))
      (perm-sym (further-join nil s (join s a c b) g (join s d e z)))))

  -- ---- the rotations

  module _ {tag : T} {w : Want T} (s : Bool) (e : Entry T) (x z a : View T) (c : Entry T) (b : View T)
      (o : Opened nil w s x a c b) where
    single-stands : {rest : List (Node T)} {more : List T} {held ns : List (Node T)}
        → Balanced (whole z) → height (whole x) ≡ height (whole z) + 2 → height (whole b) ≤ height (whole a)
        → Stock nil tag (join s (join s a c b) e z) rest more held ns
        → Standing nil tag (Turned (height (whole z))) (pairs (join_tree s (whole x) e (whole z)))
        (further nil x ++ further nil z) rest more
        (single s (join_node nil s x e z) (join_node nil s a c b) (kid s (sub_of nil x)) (kid (not s) (sub_of nil x))
        (nodes_at (sub_of nil z))) held ns
    unfolding single
    single-stands bal tall lean stock =
        record {
          view = join s a c (join s b e z);
          at-hand = rw o.near (single-hand s e _ z a c b (kid (not s) (sub_of nil x)) (nodes_at (sub_of nil z)));
          emitted = rw (o.far, o.same-further) (single-out s a c b e z);
          stock = stock-single s a c b e z stock;
          shape = rw (whole_join s a c (join s b e z), whole_join s b e z)
              (single-turned s (whole a) c (whole b) e (whole z) o.balanced bal (sym o.same-height ∙ tall) lean);
          same = rw (whole_join s a c (join s b e z), whole_join s b e z)
              (sym (single-pairs s (whole a) c (whole b) e (whole z)) ∙ pairs-near s (join_tree s (whole a) c (whole b))
              (whole x) e (whole z) (sym o.same-pairs));
        }

    double-stands : {v : Want T} (i : View T) (g : Entry T) (d : View T) (q : Opened nil v s b i g d)
        {rest : List (Node T)} {more : List T} {held ns : List (Node T)}
        → Balanced (whole z) → height (whole x) ≡ height (whole z) + 2 → height (whole a) < height (whole b)
        → Stock nil tag (join s (join s a c (join s i g d)) e z) rest more held ns
        → Standing nil tag (Turned (height (whole z))) (pairs (join_tree s (whole x) e (whole z)))
        (further nil x ++ further nil z) rest more
        (double s (join_node nil s x e z) (join_node nil s a c b) (join_node nil s i g d) (kid s (sub_of nil x))
        (nodes_at (sub_of nil z))) held ns
    unfolding double
    double-stands i g d q bal tall lean stock =
        let inner = join_tree s (whole i) g (whole d) in
        let k = height-join s (whole a) c (whole b) in
        let l = height-join s (whole a) c inner in
        let same = o.same-height in
        let same' = q.same-height in
        record {
          view = join s (join s a c i) g (join s d e z);
          at-hand = double-hand s e _ z a c _ i g d (nodes_at (sub_of nil z)) (kid s (sub_of nil x));
          emitted =
              rw o.near
              (trans (perm-append-right (listed (top_node nil a) ++ nodes_at (sub_of nil z))
              (perm-append-right (further nil z)
              (trans (perm-of-eq o.same-further)
              (trans (further-join nil s a c b) (perm-of-eq (ap (λ l. below nil a ++ l) q.same-below))))))
              (double-out s a c i g d e z));
          stock = stock-double s a c i g d e z stock;
          shape = rw (whole_join s (join s a c i) g (join s d e z), whole_join s a c i, whole_join s d e z)
              (double-turned s (whole a) c (whole i) g (whole d) e (whole z)
              (balanced-far s (whole a) c (whole b) inner o.balanced q.balanced same') bal (omega arith)
              (omega arith));
          same = rw (whole_join s (join s a c i) g (join s d e z), whole_join s a c i, whole_join s d e z)
              (sym (double-pairs s (whole a) c (whole i) g (whole d) e (whole z))
              ∙ pairs-near s (join_tree s (whole a) c inner) (whole x) e (whole z)
              (pairs-far s (whole a) c inner (whole b) (sym q.same-pairs) ∙ sym o.same-pairs));
        }

  -- ---- which rotation

  abbrev leans : Bool → View T → Entry T → View T → Bool
  leans s a c b = leans_out s (join_node nil s a c b)

  leans-height : (s : Bool) (a : View T) (c : Entry T) (b : View T)
      → leans s a c b ≡ leb (height (whole b)) (height (whole a))
  leans-height true a c b = rw (leans-heights true (join_node nil true a c b), link-height nil (whole a), link-height nil (whole b))
  leans-height false a c b = rw (leans-heights false (join_node nil false a c b), link-height nil (whole a), link-height nil (whole b))

  -- The place p is too tall on its side s, where x stands.
  pub turn-safe : {tag : T} (p : Step T) (s : Bool) (e : Entry T) (x z : View T) {rest : List (Node T)} {more : List T}
      {held ns : List (Node T)}
      → Balanced (whole x) → Balanced (whole z) → height (whole x) ≡ height (whole z) + 2
      → Search (pick s p.low (some p.was)) (pick s (some p.was) p.high) (whole x)
      → Stock nil tag (join s x e z) rest more held ns
      → Safe map_test (Standing nil tag (Turned (height (whole z))) (pairs (join_tree s (whole x) e (whole z)))
      (further nil x ++ further nil z) rest more)
      (turn p s (join_node nil s x e z) (sub_of nil x) (nodes_at (sub_of nil z))) held ns
  unfolding turn
  turn-safe p s e x z balx balz tall between stock =
      rw (top-sub nil x)
      (safe-opened s near x _ (child-near s e _ _) balx between (omega arith) (stock-near s x e z stock)
      (λ a c b h m o st.
      safe-pick (leans s a c b)
      (λ t. ends (single-stands s e x z a c b o balz tall
      (leb-true (height (whole b)) (height (whole a)) (sym (leans-height s a c b) ∙ t))
      (stock-near-back s (join s a c b) e z st)))
      (λ t. let lean = leb-false (height (whole b)) (height (whole a)) (sym (leans-height s a c b) ∙ t) in
      rw o.far
      (safe-opened s (wantBelow (step_at near (join_node nil s a c b) (not s))) b _ (child-far s c _ _)
      (balanced-parts s (whole a) c (whole b) o.balanced).second
      (search-far s near.low near.high (whole a) c (whole b) o.search) (omega arith)
      (stock-inner s a c b e z (stock-near-back s (join s a c b) e z st))
      (λ i g d h' m' q st'. ends
      (double-stands s e x z a c b o i g d q balz tall lean (stock-inner-back s a c (join s i g d) e z st')))))))
    where
      near : Want T
      near = beside p s (child s (join_node nil s x e z))
