-- Tags moved fetch by fetch.
use Rattle.std.specs.Prelude.{ℕ, zero, suc, ◌+◌, ◌≤◌, ◌<◌, ◌≡◌, Bool, get_or, take, drop, set}
use Rattle.std.proofs.Common.{arith, add-one, add-zero, ◌∙◌, eq-eqb, ne_eqb, take-suc, drop-set-lt, get_or-drop, drop-drop, get_or-take}
use Rattle.std.proofs.Math.Path.{refl, sym, ap, ap₂}
use Rattle.std.proofs.Math.Bool.{true, false}
use mathlib.Core.List.{List, [], ◌∷◌, ◌++◌, map, map-append}
use Rattle.std.proofs.Math.ListN.{length, drop_of_length-le, get_or-map}
use Rattle.slot_spec.specs.Slot.{no_node}
use Rattle.slot_spec.specs.Row.{nodes_from}
use Rattle.slot_spec.specs.declared.Node as node
use Rattle.method_spec.specs.Node.{Link, Node, child, with_child}
use Rattle.method_spec.specs.Prog.{From, root, side}
use Rattle.leaf_spec.specs.Convert.{to_node}
use Rattle.bucket_call_spec.specs.Fetch as fetch
use Rattle.bucket_call_spec.specs.Fetch.{moved_link, moved_node}
use Rattle.node_rows.specs.Row.{places, words, fetches, from_in, froms_in}
use Rattle.node_rows.specs.Held.{held_in, nodes_of, held_at}
use Rattle.node_rows.specs.HeldLaws.{first_next, first-length, held_next, held-length, held-room, row-places, row_more}
use Rattle.tag_moves.specs.Moved.{held_of, held_with, fetch_of, LinksMoved, TagsMoved}

-- ---- one fetch
module _ (n m : Node ℕ) where
  root-moves-none : n ≡ moved_node (fetch_of root m) n
  unfolding moved_node moved_link
  root-moves-none = refl

  pub moved-by-root : {f : From} → f ≡ root → n ≡ moved_node (fetch_of f m) n
  moved-by-root e = root-moves-none ∙ rw e

  module _ (k : ℕ) where
    retagged : (s : Bool) → n.key ≡ k
        → with_child s n (record { height = (child s n).height; key = (child s n).key; tag = m.tag }) ≡ moved_node (fetch_of (side k s) m) n
    unfolding moved_node moved_link
    retagged true e = rw (eq-eqb k n.key (sym e))
    retagged false e = rw (eq-eqb k n.key (sym e))

    pub moved_here : (s : Bool) {l : Link ℕ} {r : Node ℕ} {tag : ℕ} → n.key ≡ k → l ≡ child s n → m.tag ≡ tag
        → r ≡ with_child s n (record { height = l.height; key = l.key; tag = tag }) → r ≡ moved_node (fetch_of (side k s) m) n
    moved_here s {tag = tag} e f t g =
        g
        ∙ ap (λ (x : Link ℕ). with_child s n (record { height = x.height; key = x.key; tag = tag })) f
        ∙ ap (λ (x : ℕ). with_child s n (record { height = (child s n).height; key = (child s n).key; tag = x })) (sym t)
        ∙ retagged s e

    pub moved-not-here : (s : Bool) → (n.key ≡ k → ⊥) → n ≡ moved_node (fetch_of (side k s) m) n
    unfolding moved_node moved_link
    moved-not-here s e = rw (ne_eqb k n.key (λ d. e (sym d)))

module _ (l : Link ℕ) (m : Node ℕ) where
  pub moved-root-link : {tag : ℕ} → m.tag ≡ tag → record { height = l.height; key = l.key; tag = tag } ≡ moved_link (fetch_of root m) root l
  unfolding moved_link
  moved-root-link t = ap (λ (x : ℕ). record { height = l.height; key = l.key; tag = x }) (sym t)

  pub moved-side-link : (k : ℕ) (s : Bool) → l ≡ moved_link (fetch_of (side k s) m) root l
  unfolding moved_link
  moved-side-link k s = refl

-- The first fetch, and then the others.
moved-split : (h : fetch.Held) (hs : List fetch.Held) (n : Node ℕ) → moved_node (h ∷ hs) n ≡ moved_node hs (moved_node (h ∷ []) n)
unfolding moved_node moved_link
moved-split h hs n = refl

-- A node keeps its own tag.
abbrev tag_of : Node ℕ → ℕ
tag_of n = n.tag

tags-stay : (hs : List fetch.Held) (ns : List (Node ℕ)) → map tag_of (map (moved_node hs) ns) ≡ map tag_of ns
unfolding moved_node
tags-stay hs [] = refl
tags-stay hs (n ∷ ns) = ap (λ (ts : List ℕ). n.tag ∷ ts) (tags-stay hs ns)

-- ---- all held nodes, one after the other

-- Two lists with the same rest have the same next element, and the same rest after it.
module _ {A : Type 0} (xs ys : List A) (i : ℕ) (e : drop i xs ≡ drop i ys) where
  same_next : (d : A) → get_or xs i d ≡ get_or ys i d
  same_next d =
      let at : (l : List A) → get_or (drop i l) 0 d ≡ get_or l i d = λ l. get_or-drop i l 0 d ∙ rw (add-zero i) in
      sym (at xs) ∙ ap (λ (l : List A). get_or l 0 d) e ∙ at ys

  same_rest : drop (suc i) xs ≡ drop (suc i) ys
  same_rest =
      let past : (l : List A) → drop 1 (drop i l) ≡ drop (suc i) l = λ l. drop-drop 1 i l ∙ rw (add-one i) in
      sym (past xs) ∙ ap (drop 1) e ∙ past ys

module _ (hs : List fetch.Held) (row₀ : List ℕ) where
  -- The first i are done.
  pub record Moving (row : List ℕ) (i : ℕ) : Type 0 where
    pub done : nodes_of (held_in row i) ≡ map (moved_node hs) (nodes_of (held_in row₀ i))
    pub rest : drop i (nodes_from row) ≡ drop i (nodes_from row₀)
    pub sized : length row ≡ words

  module _ (sized₀ : length row₀ ≡ words) where
    pub moving-start : Moving row₀ 0
    moving-start = record { done = refl; rest = refl; sized = sized₀ }

    one_more : (i : ℕ) → i < places → nodes_of (held_in row₀ (suc i)) ≡ nodes_of (held_in row₀ i) ++ (held_at (held_in row₀ i) i ∷ [])
    one_more i k =
        let p = row-places row₀ sized₀ in
        ap (map to_node) (take-suc (nodes_from row₀) i no_node (omega arith))
        ∙ map-append to_node (take i (nodes_from row₀)) (get_or (nodes_from row₀) i no_node ∷ [])

    pub moving-turn : (row more : List ℕ) (i : ℕ) {n : node.Node} → Moving row i → i < places
        → to_node n ≡ moved_node hs (to_node (get_or (nodes_from row) i no_node)) → nodes_from more ≡ set (nodes_from row) i n → length more ≡ words
        → Moving more (i + 1)
    moving-turn row more i {n} now k e put sized =
        let d = get_or (nodes_from row₀) i no_node in
        let next : to_node n ≡ moved_node hs (to_node d) =
        e ∙ ap (λ (x : node.Node). moved_node hs (to_node x)) (same_next (nodes_from row) (nodes_from row₀) i now.rest no_node) in
        rw (add-one i)
        record {
          done =
              row_more row now.sized more i n k put
              ∙ ap₂ (λ (xs : List (Node ℕ)) (x : Node ℕ). xs ++ (x ∷ [])) now.done next
              ∙ sym (map-append (moved_node hs) (nodes_of (held_in row₀ i)) (to_node d ∷ []))
              ∙ ap (map (moved_node hs)) (sym (one_more i k));
          rest =
              ap (drop (suc i)) put
              ∙ drop-set-lt (suc i) (nodes_from row) i n (omega arith)
              ∙ same_rest (nodes_from row) (nodes_from row₀) i now.rest;
          sized = sized;
        }

    pub moving-end : (row : List ℕ) (i n : ℕ) → Moving row i → i ≡ n → LinksMoved hs n row₀ row
    moving-end row i n now e = rw (← e) (record { nodes = now.done; sized = now.sized })

-- ---- all fetches, one after the other
no-fetches : List fetch.Held
no-fetches = []

none-fetched : (fs : List From) → held_of fs [] ≡ no-fetches
unfolding held_of no-fetches
none-fetched [] = refl
none-fetched (f ∷ fs) = refl

fetch-drop : (i : ℕ) (fs : List From) (ns : List (Node ℕ)) → drop i (held_of fs ns) ≡ held_of (drop i fs) (drop i ns)
unfolding held_of no-fetches
fetch-drop zero fs ns = refl
fetch-drop (suc i) [] ns = refl
fetch-drop (suc i) (f ∷ fs) [] = sym (none-fetched (drop i fs))
fetch-drop (suc i) (f ∷ fs) (n ∷ ns) = fetch-drop i fs ns

fetch-length : (fs : List From) (ns : List (Node ℕ)) → length (held_of fs ns) ≤ length ns
unfolding held_of
fetch-length [] ns = omega arith
fetch-length (f ∷ fs) [] = omega arith
fetch-length (f ∷ fs) (n ∷ ns) = let h = fetch-length fs ns in omega arith

split-all : (h : fetch.Held) (hs : List fetch.Held) (ns : List (Node ℕ)) → map (moved_node hs) (map (moved_node (h ∷ [])) ns) ≡ map (moved_node (h ∷ hs)) ns
split-all h hs [] = refl
split-all h hs (n ∷ ns) = ap₂ (λ (m : Node ℕ) (ms : List (Node ℕ)). m ∷ ms) (sym (moved-split h hs n)) (split-all h hs ns)

none-moved : (ns : List (Node ℕ)) → map (moved_node []) ns ≡ ns
unfolding moved_node moved_link
none-moved [] = refl
none-moved (n ∷ ns) = ap (λ (ms : List (Node ℕ)). n ∷ ms) (none-moved ns)

-- The nodes of held ones, where each has its place.
pub held-nodes : {A : Type 0} (g : Node ℕ → A) (fs : List From) (ns : List (Node ℕ)) → length fs ≡ length ns → map (λ (h : fetch.Held). g h.node) (held_of fs ns) ≡ map g ns
unfolding held_of
held-nodes g [] [] e = refl
held-nodes g [] (n ∷ ns) e = let z : ⊥ = omega arith in absurd z
held-nodes g (f ∷ fs) [] e = let z : ⊥ = omega arith in absurd z
held-nodes {A} g (f ∷ fs) (n ∷ ns) e = ap (λ (xs : List A). g n ∷ xs) (held-nodes g fs ns (omega arith))

-- The tag of a held node.
held-tag : (row : List ℕ) (n i : ℕ) → i < n → get_or (map tag_of (nodes_of (held_in row n))) i 0 ≡ (held_at (held_in row n) i).tag
held-tag row n i k =
    get_or-map tag_of (nodes_of (held_in row n)) i (to_node no_node)
    ∙ ap tag_of (get_or-map to_node (take n (nodes_from row)) i no_node ∙ ap to_node (get_or-take n (nodes_from row) i no_node k))

module _ (n : ℕ) (froms : List ℕ) (l₀ : Link ℕ) (row₀ : List ℕ) where
  abbrev hs₀ : List fetch.Held
  hs₀ = held_with n froms row₀

  -- The fetch i.
  abbrev fetch_at : ℕ → fetch.Held
  fetch_at i = record { from = from_in (get_or froms i 0); node = held_at (held_in row₀ n) i }

  -- The first i are done.
  pub record MovingTo (row : List ℕ) (l : Link ℕ) (i : ℕ) : Type 0 where
    pub nodes : map (moved_node (drop i hs₀)) (nodes_of (held_in row n)) ≡ map (moved_node hs₀) (nodes_of (held_in row₀ n))
    pub tags : map tag_of (nodes_of (held_in row n)) ≡ map tag_of (nodes_of (held_in row₀ n))
    pub link : moved_link (drop i hs₀) root l ≡ moved_link hs₀ root l₀
    pub sized : length row ≡ words
    pub within : i ≤ n

  module _ (few : n ≤ fetches) (sized₀ : length row₀ ≡ words) (all : length froms ≡ fetches) where
    pub tags-start : MovingTo row₀ l₀ 0
    tags-start = record { nodes = refl; tags = refl; link = refl; sized = sized₀; within = omega arith }

    fetch-next : (i : ℕ) → i < n → drop i hs₀ ≡ fetch_at i ∷ drop (suc i) hs₀
    unfolding held_of
    fetch-next i k =
        let fs = froms_in n froms in
        let h = held_in row₀ n in
        fetch-drop i fs (nodes_of h)
        ∙ ap₂ held_of (first_next from_in froms n (omega arith) i 0 k) (held_next h i k (held-room row₀ sized₀ n (omega arith)))
        ∙ ap (λ (r : List fetch.Held). fetch_at i ∷ r) (sym (fetch-drop (suc i) fs (nodes_of h)))

    module _ (row : List ℕ) {l : Link ℕ} (i : ℕ) (now : MovingTo row l i) where
      -- The tag that the code reads is the one under which the node was fetched.
      pub tag_same : i < n → (held_at (held_in row₀ n) i).tag ≡ (get_or (nodes_from row) i no_node).tag
      tag_same k = sym (held-tag row₀ n i k) ∙ ap (λ (ts : List ℕ). get_or ts i 0) (sym now.tags) ∙ held-tag row n i k

      pub tags-turn : {more : List ℕ} {l' : Link ℕ} → i < n → LinksMoved (fetch_at i ∷ []) n row more → l' ≡ moved_link (fetch_at i ∷ []) root l
          → MovingTo more l' (i + 1)
      unfolding moved_link
      tags-turn k m e =
          rw (add-one i)
          record {
            nodes =
                ap (map (moved_node (drop (suc i) hs₀))) m.nodes
                ∙ split-all (fetch_at i) (drop (suc i) hs₀) (nodes_of (held_in row n))
                ∙ sym (ap (λ (hs : List fetch.Held). map (moved_node hs) (nodes_of (held_in row n))) (fetch-next i k))
                ∙ now.nodes;
            tags = ap (map tag_of) m.nodes ∙ tags-stay (fetch_at i ∷ []) (nodes_of (held_in row n)) ∙ now.tags;
            link =
                ap (moved_link (drop (suc i) hs₀) root) e
                ∙ sym (ap (λ (hs : List fetch.Held). moved_link hs root l) (fetch-next i k))
                ∙ now.link;
            sized = m.sized;
            within = omega arith;
          }

      pub tags-end : n ≤ i → TagsMoved n froms l₀ row₀ row l
      unfolding moved_link
      tags-end k =
          let counted = held-length (held_in row₀ n) (held-room row₀ sized₀ n (omega arith)) in
          let m : length hs₀ ≤ i = omega (arith, fetch-length (froms_in n froms) (nodes_of (held_in row₀ n))) in
          let none = drop_of_length-le hs₀ {i = i} m in
          record {
            nodes =
                sym (none-moved (nodes_of (held_in row n)))
                ∙ sym (ap (λ (hs : List fetch.Held). map (moved_node hs) (nodes_of (held_in row n))) none)
                ∙ now.nodes
                ∙ sym (held-nodes (moved_node hs₀) (froms_in n froms) (nodes_of (held_in row₀ n)) (first-length from_in froms n (omega arith) ∙ sym counted));
            sized = now.sized;
            link = sym (ap (λ (hs : List fetch.Held). moved_link hs root l) none) ∙ now.link;
          }
