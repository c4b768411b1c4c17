-- A tree some of whose nodes were fetched: which nodes are at hand, which are done with and which were not fetched.
use Rattle.std.specs.Prelude.{◌≡◌, Bool, not}
use Rattle.std.proofs.Math.Path.{refl, ap}
use Rattle.std.proofs.Common.{ap₂}
use Rattle.std.proofs.Math.Bool.{true, false}
use mathlib.Core.List.{List, [], ◌∷◌, ◌++◌, map, map-append}
use Rattle.std.proofs.Math.Option.{Option, none, some}
use Prim.Native.Nat.{suc, max}
use Rattle.list_spec.specs.Choice.{pick}
use Rattle.list_spec.specs.Perm.{Perm, trans, cons}
use Rattle.list_laws.specs.PermLaws.{perm-refl, perm-of-eq, perm-append, perm_append_comm}
use Rattle.list_laws.specs.Shuffle.{part, ◌&◌, shuffle}
use Rattle.balance_spec.specs.Tree.{Tree, leaf, node, height}
use Rattle.method_spec.specs.Node.{Link, Node, link_to}
use Rattle.method_spec.specs.Map.{Sub, stub, top, link_of, listed, top_of, kids, nodes_at}
use Rattle.avl_laws.specs.Search.{Entry, link_tree, node_at, nodes_of}

-- A subtree of which no node was fetched, or one whose top node was.
pub data View (T : Type 0) : Type 0 where
  away : Tree (Entry T) → View T
  have : View T → Entry T → View T → View T

module _ {T : Type 0} where
  -- A view, a tree and a node from what stands on the side s and on the other.
  abbrev pub join : Bool → View T → Entry T → View T → View T
  join true a e b = have a e b
  join false a e b = have b e a

  abbrev pub join_tree : Bool → Tree (Entry T) → Entry T → Tree (Entry T) → Tree (Entry T)
  join_tree true a e b = node a e b
  join_tree false a e b = node b e a

  abbrev pub node_on : Bool → Entry T → Link T → Link T → Node T
  node_on s e a b =
      record { key = e.key; value = e.value; tag = e.tag; left = pick s a b; right = pick s b a }

  -- The whole tree.
  unfoldable pub whole : View T → Tree (Entry T)
  whole (away t) = t
  whole (have l e r) = node (whole l) e (whole r)

  pub whole_join : (s : Bool) (a : View T) (e : Entry T) (b : View T)
      → whole (join s a e b) ≡ join_tree s (whole a) e (whole b)
  unfolding whole
  whole_join true a e b = refl
  whole_join false a e b = refl

  -- The same from the other side.
  pub join-flip : (s : Bool) (a : View T) (e : Entry T) (b : View T) → join (not s) b e a ≡ join s a e b
  join-flip true a e b = refl
  join-flip false a e b = refl

  pub join_tree-flip : (s : Bool) (a : Tree (Entry T)) (e : Entry T) (b : Tree (Entry T))
      → join_tree (not s) b e a ≡ join_tree s a e b
  join_tree-flip true a e b = refl
  join_tree-flip false a e b = refl

  pub node_on-flip : (s : Bool) (e : Entry T) (a b : Link T) → node_on (not s) e b a ≡ node_on s e a b
  node_on-flip true e a b = refl
  node_on-flip false e a b = refl

  -- The tags of the fetched nodes.
  unfoldable pub tags : View T → List T
  tags (away t) = []
  tags (have l e r) = e.tag ∷ (tags l ++ tags r)

  module _ (nil : T) where
    unfoldable pub unfetched : View T → List (Node T)
    unfetched (away t) = nodes_of nil t
    unfetched (have l e r) = unfetched l ++ unfetched r

    unfoldable pub fetched : View T → List (Node T)
    fetched (away t) = []
    fetched (have l e r) = node_at nil (whole l) e (whole r) ∷ (fetched l ++ fetched r)

    -- The fetched nodes below the top.
    unfoldable pub below : View T → List (Node T)
    below (away t) = []
    below (have l e r) = fetched l ++ fetched r

    -- The fetched nodes further down than the top's children: they are done with.
    unfoldable pub further : View T → List (Node T)
    further (away t) = []
    further (have l e r) = below l ++ below r

    unfoldable pub top_node : View T → Option (Node T)
    top_node (away t) = none
    top_node (have l e r) = some (node_at nil (whole l) e (whole r))

    -- What is at hand of it.
    unfoldable pub sub_of : View T → Sub T
    sub_of (away t) = stub (link_tree nil t)
    sub_of (have l e r) = top (node_at nil (whole l) e (whole r)) (top_node l) (top_node r)

    -- ---- links

    pub link-height : (t : Tree (Entry T)) → (link_tree nil t).height ≡ height t
    unfolding link_tree height
    link-height leaf = refl
    link-height (node l e r) = refl

    pub link-node : (l : Tree (Entry T)) (e : Entry T) (r : Tree (Entry T))
        → link_to (node_at nil l e r) ≡ link_tree nil (node l e r)
    unfolding link_tree height
    link-node l e r =
        ap {B = Link T} (λ h. record { height = h; key = e.key; tag = e.tag })
        (ap₂ (λ a b. suc (max a b)) (link-height l) (link-height r))

    pub link-sub : (v : View T) → link_of (sub_of v) ≡ link_tree nil (whole v)
    unfolding sub_of whole
    link-sub (away t) = refl
    link-sub (have l e r) = link-node (whole l) e (whole r)

    -- ---- all nodes are there

    pub top_below : (v : View T) → listed (top_node v) ++ below v ≡ fetched v
    unfolding top_node below fetched
    top_below (away t) = refl
    top_below (have l e r) = refl

    pub top-sub : (v : View T) → top_of (sub_of v) ≡ top_node v
    unfolding top_node sub_of
    top-sub (away t) = refl
    top-sub (have l e r) = refl

    pub kids-further : (v : View T) → Perm (kids (sub_of v) ++ further v) (below v)
    unfolding sub_of further below
    kids-further (away t) = perm-refl []
    kids-further (have l e r) =
        trans (shuffle (listed (top_node l) ∷ listed (top_node r) ∷ below l ∷ below r ∷ [])
        ((part 0 & part 1) & (part 2 & part 3)) ((part 0 & part 2) & (part 1 & part 3)) refl)
        (perm-append (perm-of-eq (top_below l)) (perm-of-eq (top_below r)))

    pub hand-further : (v : View T) → Perm (nodes_at (sub_of v) ++ further v) (fetched v)
    hand-further v =
        trans (shuffle (kids (sub_of v) ∷ listed (top_of (sub_of v)) ∷ further v ∷ []) ((part 0 & part 1) & part 2)
        (part 1 & (part 0 & part 2)) refl)
        (trans (perm-append (perm-of-eq (ap listed (top-sub v))) (kids-further v)) (perm-of-eq (top_below v)))

    pub view-nodes : (v : View T) → Perm (fetched v ++ unfetched v) (nodes_of nil (whole v))
    unfolding fetched unfetched whole nodes_of
    view-nodes (away t) = perm-refl (nodes_of nil t)
    view-nodes (have l e r) =
        cons (node_at nil (whole l) e (whole r))
        (trans (shuffle (fetched l ∷ fetched r ∷ unfetched l ∷ unfetched r ∷ [])
        ((part 0 & part 1) & (part 2 & part 3)) ((part 0 & part 2) & (part 1 & part 3)) refl)
        (perm-append (view-nodes l) (view-nodes r)))

    pub fetched-tags : (v : View T) → map (λ n. n.tag) (fetched v) ≡ tags v
    unfolding fetched tags
    fetched-tags (away t) = refl
    fetched-tags (have l e r) =
        rw (map-append (λ (n : Node T). n.tag)) (ap₂ (λ xs ys. e.tag ∷ (xs ++ ys)) (fetched-tags l) (fetched-tags r))

    -- ---- joined views

    -- The node of a joined view.
    abbrev pub join_node : Bool → View T → Entry T → View T → Node T
    join_node s a e b = node_on s e (link_tree nil (whole a)) (link_tree nil (whole b))

    pub unfetched-join : (s : Bool) (a : View T) (e : Entry T) (b : View T)
        → Perm (unfetched (join s a e b)) (unfetched a ++ unfetched b)
    unfolding unfetched
    unfetched-join true a e b = perm-refl _
    unfetched-join false a e b = perm_append_comm (unfetched b) (unfetched a)

    pub below-join : (s : Bool) (a : View T) (e : Entry T) (b : View T)
        → Perm (below (join s a e b)) (fetched a ++ fetched b)
    unfolding below
    below-join true a e b = perm-refl _
    below-join false a e b = perm_append_comm (fetched b) (fetched a)

    pub further-join : (s : Bool) (a : View T) (e : Entry T) (b : View T)
        → Perm (further (join s a e b)) (below a ++ below b)
    unfolding further
    further-join true a e b = perm-refl _
    further-join false a e b = perm_append_comm (below b) (below a)

  pub tags-join : (s : Bool) (a : View T) (e : Entry T) (b : View T)
      → Perm (tags (join s a e b)) (e.tag ∷ (tags a ++ tags b))
  unfolding tags
  tags-join true a e b = perm-refl _
  tags-join false a e b = cons e.tag (perm_append_comm (tags b) (tags a))
