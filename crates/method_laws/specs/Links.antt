-- The links that lead to a node are one to each node, with its key, its tag and, for the map, its height; and a queue's newest has one
-- to the node that comes next.
use Rattle.std.specs.Prelude.{◌≡◌, length, eqb}
use Rattle.std.proofs.Math.Path.{refl, ap}
use Rattle.std.proofs.Common.{sym, ◌∙◌}
use Rattle.std.proofs.Math.Bool.{true, false}
use mathlib.Core.List.{List, [], ◌∷◌, ◌++◌, map, map-append, append-nil, append_assoc}
use Prim.Native.Nat.{ℕ, zero, suc, ◌+◌, max}
use native.Mathlib.Omega.{arith}
use Rattle.std.proofs.Math.Dec.{eqb-suc-zero}
use Rattle.list_spec.specs.Choice.{pick}
use Rattle.list_spec.specs.Perm.{Perm, nil as perm-none, cons, swap, trans}
use Rattle.list_laws.specs.PermLaws.{perm-sym, perm-of-eq, perm-append, perm-append-left, perm-map}
use Rattle.list_laws.specs.Shuffle.{part, ◌&◌, shuffle}
use Rattle.balance_spec.specs.Tree.{Tree, leaf, node, height}
use Rattle.method_spec.specs.Node.{Link, Ahead, Node, link_to, link_one, link_ahead, Cell}
use Rattle.method_spec.specs.Answer.{Structure}
use Rattle.method_spec.specs.Answer as answer
use Rattle.method_spec.specs.Plain.{Contents}
use Rattle.method_spec.specs.Call.{Memory}
use Rattle.method_spec.specs.Heap.{child_position}
use Rattle.run_laws.specs.StackRepresents.{chain_link, chain}
use Rattle.method_spec.specs.HeapShape.{heap_link, heap_nodes}
use Rattle.method_spec.specs.QueueShape.{row_link, row}
use Rattle.queue_laws.specs.QueueRepresents.{cells-counted}
use Rattle.avl_laws.specs.Search.{Entry, link_tree, nodes_of}
use Rattle.avl_laws.specs.View.{link-node}
use Rattle.method_laws.specs.Represented.{Held}

module _ {T : Type 0} where
  -- A link that leads to a node, if it does: height 0 is no link.
  unfoldable pub followed : Link T → List (Link T)
  followed l = pick (eqb l.height 0) [] (l ∷ [])

  -- The links on both sides of nodes.
  unfoldable pub side_links : List (Node T) → List (Link T)
  side_links [] = []
  side_links (n ∷ ns) = (followed n.left ++ followed n.right) ++ side_links ns

  -- All links of a memory.
  abbrev pub all_links : Memory T → List (Link T)
  all_links m = followed m.root ++ side_links m.nodes

  -- The link that leads to a node.
  abbrev pub link_for : Structure → Node T → Link T
  link_for answer.map n = link_to n
  link_for answer.stack n = link_one n
  link_for answer.heap n = link_one n
  link_for answer.queue n = link_one n

  -- The newest's left link, of a queue with entries: it leads to no node yet, and carries the tag drawn ahead.
  abbrev pub links_ahead : Structure → (entries : ℕ) → Ahead T → List (Link T)
  links_ahead answer.map entries a = []
  links_ahead answer.stack entries a = []
  links_ahead answer.heap entries a = []
  links_ahead answer.queue zero a = []
  links_ahead answer.queue (suc n) a = link_ahead a ∷ []

  -- ---- laws

  links-append : (xs ys : List (Node T)) → side_links (xs ++ ys) ≡ side_links xs ++ side_links ys
  unfolding side_links
  links-append [] ys = refl
  links-append (n ∷ xs) ys =
      rw (links-append xs ys) (sym (append_assoc (followed n.left ++ followed n.right) (side_links xs) (side_links ys)))

  links-perm : {xs ys : List (Node T)} → Perm xs ys → Perm (side_links xs) (side_links ys)
  unfolding side_links
  links-perm perm-none = perm-none
  links-perm (cons n p) = perm-append-left (followed n.left ++ followed n.right) (links-perm p)
  links-perm (swap n m xs) =
      shuffle ((followed n.left ++ followed n.right) ∷ (followed m.left ++ followed m.right) ∷ side_links xs ∷ [])
      (part 0 & (part 1 & part 2)) (part 1 & (part 0 & part 2)) refl
  links-perm (trans p q) = trans (links-perm p) (links-perm q)

  module _ (nil : T) where
    tree-links : (t : Tree (Entry T)) → Perm (followed (link_tree nil t) ++ side_links (nodes_of nil t)) (map link_to (nodes_of nil t))
    unfolding followed side_links link_tree nodes_of height
    tree-links leaf = perm-none
    tree-links (node l e r) =
        rw (
          eqb-suc-zero (max (height l) (height r)),
          links-append (nodes_of nil l) (nodes_of nil r),
          map-append link_to (nodes_of nil l) (nodes_of nil r),
          link-node nil l e r,
        )
        (cons (link_tree nil (node l e r))
        (trans
        (shuffle (followed (link_tree nil l) ∷ followed (link_tree nil r) ∷ side_links (nodes_of nil l) ∷ side_links (nodes_of nil r) ∷ [])
        ((part 0 & part 1) & (part 2 & part 3)) ((part 0 & part 2) & (part 1 & part 3)) refl)
        (perm-append (tree-links l) (tree-links r))))

    chain-links : (cs : List (Cell T))
        → followed (chain_link nil cs) ++ side_links (chain nil cs) ≡ map (link_for answer.stack) (chain nil cs)
    unfolding followed side_links chain_link chain
    chain-links [] = refl
    chain-links (c ∷ cs) =
        ap (λ (ls : List (Link T)). chain_link nil (c ∷ cs) ∷ ls)
        (ap (λ (ls : List (Link T)). ls ++ side_links (chain nil cs)) (append-nil (followed (chain_link nil cs))) ∙ chain-links cs)

    heap-links : (i : ℕ) (t : Tree (Cell T))
        → Perm (followed (heap_link nil i t) ++ side_links (heap_nodes nil i t)) (map link_one (heap_nodes nil i t))
    unfolding followed side_links heap_link heap_nodes
    heap-links i leaf = perm-none
    heap-links i (node l c r) =
        let left = heap_nodes nil (child_position true i) l in
        let right = heap_nodes nil (child_position false i) r in
        rw (links-append left right, map-append link_one left right)
        (cons (heap_link nil i (node l c r))
        (trans
        (shuffle (followed (heap_link nil (child_position true i) l) ∷ followed (heap_link nil (child_position false i) r) ∷ side_links left ∷ side_links right ∷ [])
        ((part 0 & part 1) & (part 2 & part 3)) ((part 0 & part 2) & (part 1 & part 3)) refl)
        (perm-append (heap-links (child_position true i) l) (heap-links (child_position false i) r))))

    row-links : (first : ℕ) (cs : List (Cell T)) (entries : ℕ) (a : Ahead T) → entries ≡ length cs → a.key ≡ first + length cs
        → Perm (followed (row_link nil first cs) ++ side_links (row nil first cs a.tag))
        (links_ahead answer.queue entries a ++ map link_one (row nil first cs a.tag))
    unfolding followed side_links row_link row
    row-links first [] entries a counted keyed = rw counted perm-none
    row-links first (c ∷ []) entries a counted keyed =
        let key : a.key ≡ suc first = omega arith in
        rw (counted, key) (swap (row_link nil first (c ∷ [])) (record { height = 1; key = suc first; tag = a.tag }) [])
    row-links first (c ∷ b ∷ cs) entries a counted keyed =
        let later = row-links (suc first) (b ∷ cs) (suc (length cs)) a refl (omega arith) in
        rw counted
        (trans (cons (row_link nil first (c ∷ b ∷ cs)) later)
        (swap (row_link nil first (c ∷ b ∷ cs)) (link_ahead a) (map link_one (row nil (suc first) (b ∷ cs) a.tag))))

    pub one_link : (s : Structure) (limit : ℕ) (t : Contents s) (m : Memory T) → Held nil s limit t m
        → Perm (all_links m) (links_ahead s m.entries m.ahead ++ map (link_for s) m.nodes)
    one_link answer.map limit t m h =
        rw h.0.linked
        (trans (perm-append-left (followed (link_tree nil h.0.tree)) (links-perm h.0.stored))
        (trans (tree-links h.0.tree) (perm-map link_to (perm-sym h.0.stored))))
    one_link answer.stack limit t m h =
        rw h.0.rooted
        (trans (perm-append-left (followed (chain_link nil h.0.cells)) (links-perm h.0.there))
        (trans (perm-of-eq (chain-links h.0.cells)) (perm-map (link_for answer.stack) (perm-sym h.0.there))))
    one_link answer.heap limit t m h =
        rw h.0.linked
        (trans (perm-append-left (followed (heap_link nil 1 h.0.tree)) (links-perm h.0.stored))
        (trans (heap-links 1 h.0.tree) (perm-map link_one (perm-sym h.0.stored))))
    one_link answer.queue limit t m h =
        rw h.rooted
        (trans (perm-append-left (followed (row_link nil h.first h.cells)) (links-perm h.there))
        (trans
        (row-links h.first h.cells m.entries m.ahead (cells-counted nil limit t m h) h.in-row)
        (perm-append-left (links_ahead answer.queue m.entries m.ahead) (perm-map link_one (perm-sym h.there)))))
