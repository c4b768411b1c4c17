-- A tree in its place under the nodes that a way passed: what is true of the whole, by what is true of the tree.
use Rattle.std.specs.Prelude.{◌≡◌, Bool, length}
use Rattle.std.proofs.Math.Path.{refl}
use Rattle.std.proofs.Common.{sym, ◌∙◌, mul_assoc, mul_comm}
use Rattle.std.proofs.Math.Bool.{true, false, not}
use mathlib.Core.List.{List, [], ◌∷◌, ◌++◌}
use Prim.Native.Nat.{ℕ, zero, suc, ◌*◌, ◌^◌, ◌≤◌, ◌<◌}
use Rattle.std.proofs.Math.Nat.{pow-succ'}
use native.Mathlib.Omega.{arith}
use Rattle.list_spec.specs.Choice.{pick}
use Rattle.list_spec.specs.Perm.{Perm, cons, swap, trans}
use Rattle.list_laws.specs.PermLaws.{perm-refl, perm-sym, perm-front, perm-append-left, perm-append-right, perm-append-assoc, perm_append_comm}
use Rattle.balance_spec.specs.Tree.{Tree, leaf, node, height}
use Rattle.method_spec.specs.Node.{Node, Link, child, with_child, Cell}
use Rattle.method_spec.specs.Heap.{child_position, Pass}
use Rattle.method_spec.specs.HeapShape.{CompleteTree, heap_numbers, heap_positions, bare, heap_link, heap_node, heap_nodes}
use Rattle.heap_laws.specs.HeapTree.{Frame, joined, plug, position, PassOf}
use Rattle.run_laws.specs.HeapWays.{along, child-up, along-turn, ways-part}

-- ---- the shape of a tree

-- The tree with zeros for its numbers.
unfoldable pub shape : Tree ℕ → Tree ℕ
shape leaf = leaf
shape (node l v r) = node (shape l) 0 (shape r)

shape-complete : (n i : ℕ) (t : Tree ℕ) → CompleteTree n i t ≡ CompleteTree n i (shape t)
unfolding shape
shape-complete n i leaf = refl
shape-complete n i (node l v r) = rw (shape-complete n (2 * i) l, shape-complete n (suc (2 * i)) r)

shape-positions : (i : ℕ) (t : Tree ℕ) → heap_positions i t ≡ heap_positions i (shape t)
unfolding shape heap_positions
shape-positions i leaf = refl
shape-positions i (node l v r) = rw (shape-positions (2 * i) l, shape-positions (suc (2 * i)) r)

-- The shape says whether a tree is complete, and what its positions are.
module _ (i : ℕ) (t u : Tree ℕ) (same : shape t ≡ shape u) where
  pub complete-same : (n : ℕ) → CompleteTree n i t → CompleteTree n i u
  complete-same n h = rw (shape-complete n i u, ← same, ← shape-complete n i t) h

  pub positions-same : heap_positions i t ≡ heap_positions i u
  positions-same = rw (shape-positions i t, same, shape-positions i u)

-- The positions d levels below i start at i * 2^d.
pub complete-height : (n i d : ℕ) (t : Tree ℕ) → CompleteTree n i t → n < i * 2 ^ d → height t ≤ d
unfolding height
complete-height n i d leaf h low = omega arith
complete-height n i zero (node l v r) h low = let z : ⊥ = omega arith in absurd z
complete-height n i (suc d) (node l v r) h low =
    let e : i * 2 ^ suc d ≡ 2 * i * 2 ^ d = rw (pow-succ' 2 d, mul_comm 2 i, mul_assoc i 2 (2 ^ d)) in
    let left = complete-height n (2 * i) d l h.1.0 (omega arith) in
    let right = complete-height n (suc (2 * i)) d r h.1.1 (omega arith) in
    omega arith

-- The tree t at position i is complete up to n exactly where u is up to the next position.
pub record Grows (n i : ℕ) (t u : Tree ℕ) : Type 0 where
  pub more : CompleteTree n i t → CompleteTree (suc n) i u
  pub fewer : CompleteTree (suc n) i u → CompleteTree n i t

grows-node : {n i : ℕ} {a b l r : Tree ℕ} (v : ℕ) → (i ≡ suc n → ⊥) → Grows n (2 * i) a l → Grows n (suc (2 * i)) b r
    → Grows n i (node a v b) (node l v r)
grows-node v other left right =
    record {
      more = λ h. (omega (arith, h.0), (left.more h.1.0, right.more h.1.1));
      fewer = λ h. (omega (arith, h.0, other), (left.fewer h.1.0, right.fewer h.1.1));
    }

-- A part that the next position is not under is complete up to n exactly where it is up to the next position.
grows-beside : (n i : ℕ) (t : Tree ℕ) → ((ss : List Bool) → along i ss ≡ suc n → ⊥) → Grows n i t t
unfolding along
grows-beside n i leaf beside = record { more = λ h. omega (arith, beside []); fewer = λ h. omega arith }
grows-beside n i (node l v r) beside =
    grows-node v (beside []) (grows-beside n (2 * i) l (λ ss. beside (true ∷ ss))) (grows-beside n (suc (2 * i)) r (λ ss. beside (false ∷ ss)))

-- ---- a tree on either side

-- The lists of a tree on the side s and of one on the other, from left to right.
pub both-sides : {A B : Type 0} (s : Bool) (x y : A) (list : Bool → A → List B)
    → Perm (list s x ++ list (not s) y) (list true (pick s x y) ++ list false (pick s y x))
both-sides true x y list = perm-refl (list true x ++ list false y)
both-sides false x y list = perm_append_comm (list false x) (list true y)

-- What one of two lists has more, both have more together, beside what stands at the node over them.
module _ {A : Type 0} (a b : A) {xs ys : List A} (zs : List A) (more : Perm xs (a ∷ ys)) where
  front-left : Perm (b ∷ (xs ++ zs)) (a ∷ b ∷ (ys ++ zs))
  front-left = trans (cons b (perm-append-right zs more)) (swap b a (ys ++ zs))

  front-right : Perm (b ∷ (zs ++ xs)) (a ∷ b ∷ (zs ++ ys))
  front-right = trans (cons b (trans (perm-append-left zs more) (perm-front zs a ys))) (swap b a (zs ++ ys))

module _ {T : Type 0} where
  -- ---- one node over a tree

  -- The tree t on the side s of the node that was passed.
  abbrev pub joined_on : Bool → Frame T → Tree (Cell T) → Tree (Cell T)
  joined_on s f t = pick s (node t f.cell f.other) (node f.other f.cell t)

  pub joined-sides : (s : Bool) (f : Frame T) (t : Tree (Cell T))
      → joined_on s f t ≡ node (pick s t f.other) f.cell (pick s f.other t)
  joined-sides true f t = refl
  joined-sides false f t = refl

  pub position_some : (fs : List (Frame T)) → 1 ≤ position fs
  unfolding position
  position_some [] = omega arith
  position_some (f ∷ fs) = omega (arith, child-up f.way (position fs) (position_some fs), position_some fs)

  pub position-low : (fs : List (Frame T)) → position fs < 2 ^ suc (length fs)
  unfolding position
  position-low [] = omega arith
  position-low (f ∷ fs) = go f.way (position-low fs)
    where
      go : (s : Bool) → position fs < 2 ^ suc (length fs) → child_position s (position fs) < 2 ^ suc (suc (length fs))
      go true h = omega arith
      go false h = omega arith

  -- ---- two trees in one place

  -- What is true of two trees at a position is true of a node over the one and over the other, on either side.
  pub record Lifts (R : ℕ → Tree (Cell T) → Tree (Cell T) → Type 0) : Type 0 where
    pub left : (i : ℕ) (c : Cell T) (o t u : Tree (Cell T)) → 1 ≤ i → R (2 * i) t u → R i (node t c o) (node u c o)
    pub right : (i : ℕ) (c : Cell T) (o t u : Tree (Cell T)) → 1 ≤ i → R (suc (2 * i)) t u → R i (node o c t) (node o c u)

  -- Then what is true of two trees in a place is true of the whole trees.
  pub lift : {R : ℕ → Tree (Cell T) → Tree (Cell T) → Type 0} → Lifts R
      → (fs : List (Frame T)) (t u : Tree (Cell T)) → R (position fs) t u → R 1 (plug t fs) (plug u fs)
  unfolding plug position
  lift h [] t u r = r
  lift {R} h (f ∷ fs) t u r = lift h fs (joined f t) (joined f u) (go f.way r)
    where
      go : (s : Bool) → R (child_position s (position fs)) t u → R (position fs) (joined_on s f t) (joined_on s f u)
      go true = h.left (position fs) f.cell f.other t u (position_some fs)
      go false = h.right (position fs) f.cell f.other t u (position_some fs)

  pub bare-plug : (fs : List (Frame T)) (t u : Tree (Cell T)) → bare t ≡ bare u → bare (plug t fs) ≡ bare (plug u fs)
  unfolding bare
  bare-plug =
      lift {R = λ i t u. bare t ≡ bare u}
      (record { left = λ i c o t u some e. rw e; right = λ i c o t u some e. rw e })

  pub shape-plug : (fs : List (Frame T)) (t u : Tree (Cell T)) → shape (bare t) ≡ shape (bare u)
      → shape (bare (plug t fs)) ≡ shape (bare (plug u fs))
  unfolding bare shape
  shape-plug =
      lift {R = λ i t u. shape (bare t) ≡ shape (bare u)}
      (record { left = λ i c o t u some e. rw e; right = λ i c o t u some e. rw e })

  pub link-plug : (nil : T) (fs : List (Frame T)) (t u : Tree (Cell T)) → heap_link nil 1 t ≡ heap_link nil 1 u
      → heap_link nil 1 (plug t fs) ≡ heap_link nil 1 (plug u fs)
  unfolding heap_link
  link-plug nil =
      lift {R = λ i t u. heap_link nil 1 t ≡ heap_link nil 1 u}
      (record { left = λ i c o t u some e. refl; right = λ i c o t u some e. refl })

  pub numbers-plug : (fs : List (Frame T)) (t u : Tree (Cell T)) → Perm (heap_numbers (bare t)) (heap_numbers (bare u))
      → Perm (heap_numbers (bare (plug t fs))) (heap_numbers (bare (plug u fs)))
  unfolding bare heap_numbers
  numbers-plug =
      lift {R = λ i t u. Perm (heap_numbers (bare t)) (heap_numbers (bare u))}
      (record {
        left = λ i c o t u some p. cons c.value (perm-append-right (heap_numbers (bare o)) p);
        right = λ i c o t u some p. cons c.value (perm-append-left (heap_numbers (bare o)) p);
      })

  -- A node in an empty place adds its number and its position to those of the whole.
  pub numbers-one : (fs : List (Frame T)) (c : Cell T)
      → Perm (heap_numbers (bare (plug (node leaf c leaf) fs))) (c.value ∷ heap_numbers (bare (plug leaf fs)))
  unfolding bare heap_numbers
  numbers-one fs c =
      lift {R = λ i t u. Perm (heap_numbers (bare t)) (c.value ∷ heap_numbers (bare u))}
      (record {
        left = λ i d o t u some. front-left c.value d.value (heap_numbers (bare o));
        right = λ i d o t u some. front-right c.value d.value (heap_numbers (bare o));
      }) fs (node leaf c leaf) leaf (perm-refl (c.value ∷ []))

  pub positions-one : (fs : List (Frame T)) (c : Cell T)
      → Perm (heap_positions 1 (bare (plug (node leaf c leaf) fs))) (position fs ∷ heap_positions 1 (bare (plug leaf fs)))
  unfolding bare heap_positions
  positions-one fs c =
      lift {R = λ i t u. Perm (heap_positions i (bare t)) (position fs ∷ heap_positions i (bare u))}
      (record {
        left = λ i d o t u some. front-left (position fs) i (heap_positions (suc (2 * i)) (bare o));
        right = λ i d o t u some. front-right (position fs) i (heap_positions (2 * i) (bare o));
      }) fs (node leaf c leaf) leaf (perm-refl (position fs ∷ []))

  -- ---- complete trees

  -- The parts of a complete tree beneath a node that was passed; and the part at a place.
  pub complete-sides : (s : Bool) (n i : ℕ) (f : Frame T) (t : Tree (Cell T)) → CompleteTree n i (bare (joined_on s f t))
      → CompleteTree n (child_position s i) (bare t) × CompleteTree n (child_position (not s) i) (bare f.other)
  unfolding bare
  complete-sides true n i f t h = h.1
  complete-sides false n i f t h = (h.1.1, h.1.0)

  pub complete-part : (n : ℕ) (fs : List (Frame T)) (t : Tree (Cell T)) → CompleteTree n 1 (bare (plug t fs)) → CompleteTree n (position fs) (bare t)
  unfolding plug position
  complete-part n [] t h = h
  complete-part n (f ∷ fs) t h = (complete-sides f.way n (position fs) f t (complete-part n fs (joined f t) h)).0

  -- Where the empty place has the next position, the whole with a node there is complete up to it exactly where the whole was before.
  pub complete-one : (n : ℕ) (fs : List (Frame T)) (c : Cell T) → position fs ≡ suc n
      → Grows n 1 (bare (plug leaf fs)) (bare (plug (node leaf c leaf) fs))
  unfolding along bare
  complete-one n fs c at =
      (lift {R = λ i t u. ((ss : List Bool) × (along i ss ≡ suc n)) × Grows n i (bare t) (bare u)}
      (record {
        left = λ i d o t u some r.
            ((true ∷ r.0.0, r.0.1), grows-node d.value (before true some r.0) r.1 (beside true o some r.0));
        right = λ i d o t u some r.
            ((false ∷ r.0.0, r.0.1), grows-node d.value (before false some r.0) (beside false o some r.0) r.1);
      }) fs leaf (node leaf c leaf) (([], at), record { more = λ h. omega arith; fewer = λ h. omega arith })).1
    where
      -- Where the way goes on from position i to the next position, i is not it, and the other side is not over it.
      before : {i : ℕ} (s : Bool) → 1 ≤ i → (ss : List Bool) × (along (child_position s i) ss ≡ suc n) → i ≡ suc n → ⊥
      before {i} s some way z = omega (arith, along-turn i s way.0 some)

      beside : {i : ℕ} (s : Bool) (o : Tree (Cell T)) → 1 ≤ i → (ss : List Bool) × (along (child_position s i) ss ≡ suc n)
          → Grows n (child_position (not s) i) (bare o) (bare o)
      beside {i} s o some way =
          grows-beside n (child_position (not s) i) (bare o) (λ us e. ways-part s i some way.0 us (way.1 ∙ sym e))

module _ {T : Type 0} (nil : T) where
  -- ---- nodes

  -- The nodes on both sides of a node at position i.
  abbrev pub side_nodes : ℕ → Tree (Cell T) → Tree (Cell T) → List (Node T)
  side_nodes i l r = heap_nodes nil (child_position true i) l ++ heap_nodes nil (child_position false i) r

  -- The nodes beneath a node over u are those of u and those on the other side.
  pub sides-below : (s : Bool) (i : ℕ) (u o : Tree (Cell T)) (rest : List (Node T))
      → Perm (side_nodes i (pick s u o) (pick s o u) ++ rest)
      (heap_nodes nil (child_position s i) u ++ (heap_nodes nil (child_position (not s) i) o ++ rest))
  sides-below s i u o rest =
      let nodes : Bool → Tree (Cell T) → List (Node T) = λ s. heap_nodes nil (child_position s i) in
      trans (perm-append-right rest (perm-sym (both-sides s u o nodes))) (perm-append-assoc (nodes s u) (nodes (not s) o) rest)

  -- The node that was passed, with its new link on the way, is the node over u.
  pub pass-node : {i : ℕ} {f : Frame T} {p : Pass T} (l : Link T) (u : Tree (Cell T)) → PassOf nil i f p
      → l ≡ heap_link nil (child_position f.way i) u
      → with_child f.way p.node l ≡ heap_node nil i (pick f.way u f.other) f.cell (pick f.way f.other u)
  pass-node {i} {f} {p} l u pass link = go f.way pass.other link
    where
      go : (s : Bool) → child (not s) p.node ≡ heap_link nil (child_position (not s) i) f.other → l ≡ heap_link nil (child_position s i) u
          → with_child s p.node l ≡ heap_node nil i (pick s u f.other) f.cell (pick s f.other u)
      go true other link = cc (pass.key, pass.value, pass.tag)
      go false other link = cc (pass.key, pass.value, pass.tag)
