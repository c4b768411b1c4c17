-- The held nodes one by one: the next of those not taken, and that none is left.
use Rattle.std.specs.Prelude.{ℕ, zero, suc, ◌+◌, ◌≤◌, ◌<◌, ◌≡◌, refl, List, [], ◌∷◌, ◌++◌, map, length, get_or, take, drop, set}
use Rattle.std.proofs.Common.{arith, sym, ◌∙◌, ap, subst, append-nil, append_assoc, length-take, length-append, drop_of_length-le, drop-cons, get_or-take, take-suc-set, add-zero, add-one}
use Rattle.std.proofs.lemmas.List.{map-append, length-map}
use Rattle.std.proofs.Math.ListN.{get_or-map}
use Rattle.method_spec.specs.Node.{Node}
use Rattle.slot_spec.specs.declared.Node as node
use Rattle.slot_spec.specs.Slot.{no_node}
use Rattle.leaf_spec.specs.Convert.{to_node}
use Rattle.slot_spec.specs.Row.{nodes_from}
use Rattle.slot_laws.specs.RowLaws.{row-length}
use Rattle.node_rows.specs.Row.{places, words}
use Rattle.node_rows.specs.Held.{Held, held_in, nodes_of, held_at, Lists}
use Rattle.node_rows.specs.Heights.{Low, Lows}

module _ {T : Type 0} (most : ℕ) where
  pub lows-drop : (i : ℕ) (ns : List (Node T)) → Lows most ns → Lows most (drop i ns)
  lows-drop zero ns h = h
  lows-drop (suc i) [] h = tt
  lows-drop (suc i) (n ∷ ns) h = lows-drop i ns h.1

-- The first n of an array's elements, each as something else: how many there are, and the next.
module _ {A B : Type 0} (f : A → B) (xs : List A) (n : ℕ) (enough : n ≤ length xs) where
  pub first-length : length (map f (take n xs)) ≡ n
  first-length = simp (length-map, length-take) (omega arith)

  pub first_next : (i : ℕ) (d : A) → i < n → drop i (map f (take n xs)) ≡ f (get_or xs i d) ∷ drop (suc i) (map f (take n xs))
  first_next i d k =
      let e = first-length in
      drop-cons (map f (take n xs)) i (f d) (omega arith)
      ∙ ap (λ (y : B). y ∷ drop (suc i) (map f (take n xs))) (get_or-map f (take n xs) i d ∙ ap f (get_or-take n xs i d k))

-- One more of them, stored after the first n.
pub first_more : {A B : Type 0} (f : A → B) (xs : List A) (n : ℕ) (x : A) → n < length xs
    → map f (take (suc n) (set xs n x)) ≡ map f (take n xs) ++ (f x ∷ [])
first_more f xs n x h = ap (map f) (take-suc-set xs n x h) ∙ map-append f (take n xs) (x ∷ [])

module _ (h : Held) where
  -- With one more node.
  pub held_more_lem : (n : node.Node) → h.count < length h.nodes
      → nodes_of (record { nodes = set h.nodes h.count n; count = h.count + 1 }) ≡ nodes_of h ++ (to_node n ∷ [])
  held_more_lem n k = rw (add-one h.count) (first_more to_node h.nodes h.count n k)

  pub held-length : h.count ≤ length h.nodes → length (nodes_of h) ≡ h.count
  held-length = first-length to_node h.nodes h.count

  module _ (i : ℕ) where
    pub held_next : i < h.count → h.count ≤ length h.nodes → drop i (nodes_of h) ≡ held_at h i ∷ drop (suc i) (nodes_of h)
    held_next k l = first_next to_node h.nodes h.count l i no_node k

    pub held_none : h.count ≤ i → h.count ≤ length h.nodes → drop i (nodes_of h) ≡ []
    held_none k l = let e = held-length l in drop_of_length-le (nodes_of h) {i = i} (omega arith)

    pub held_low : (most : ℕ) → Lows most (nodes_of h) → i < h.count → h.count ≤ length h.nodes → Low most (held_at h i)
    held_low most low k l = (subst (Lows most) (held_next k l) (lows-drop most i (nodes_of h) low)).0

-- ---- a row's words
module _ (ws : List ℕ) (sized : length ws ≡ words) where
  pub row-places : length (nodes_from ws) ≡ places
  row-places = row-length places ws sized

  pub held-room : (n : ℕ) → n ≤ places → n ≤ length (nodes_from ws)
  held-room n k = let r = row-places in omega arith

  -- One more node of a row.
  pub row_more : (more : List ℕ) (i : ℕ) (n : node.Node) → i < places → nodes_from more ≡ set (nodes_from ws) i n
      → nodes_of (held_in more (suc i)) ≡ nodes_of (held_in ws i) ++ (to_node n ∷ [])
  row_more more i n k e =
      let r = row-places in
      ap (λ (xs : List node.Node). map to_node (take (suc i) xs)) e ∙ first_more to_node (nodes_from ws) i n (omega arith)

  -- None, or one node more.
  module _ (count : ℕ) where
    pub lists-nothing : Lists ws count [] ws count
    lists-nothing = record { first = sym (append-nil (nodes_of (held_in ws count))); long = sized; counted = sym (add-zero count) }

    pub lists-node : {n : node.Node} {ws' : List ℕ} → count < places → nodes_from ws' ≡ set (nodes_from ws) count n → length ws' ≡ words
        → Lists ws count (to_node n ∷ []) ws' (count + 1)
    lists-node {n} {ws'} k e long =
        record { first = rw (add-one count) (row_more ws' count n k e); long = long; counted = refl }

pub lists-then : (ws : List ℕ) (i : ℕ) {ws' ws'' : List ℕ} {j k : ℕ} {out more : List (Node ℕ)}
    → Lists ws i out ws' j → Lists ws' j more ws'' k → Lists ws i (out ++ more) ws'' k
lists-then ws i {out = out} {more = more} u v =
    record {
      first = v.first ∙ ap (λ (l : List (Node ℕ)). l ++ more) u.first ∙ append_assoc (nodes_of (held_in ws i)) out more;
      long = v.long;
      counted = omega (arith, u.counted, v.counted, length-append out more);
    }
