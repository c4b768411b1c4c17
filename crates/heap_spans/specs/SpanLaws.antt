-- Nodes at hand one by one; and that those of the way are the method's.
use Prim.Native.Nat.{ℕ, zero, suc, ◌+◌, ◌-◌, ◌≤◌, ◌<◌}
use native.Mathlib.Omega.{arith}
use Rattle.std.proofs.Math.Decide.{dec_lt}
use Rattle.std.proofs.Math.Numerals.{add-one}
use Rattle.std.specs.Prelude.{◌≡◌, Bool, set}
use Rattle.std.proofs.Math.Path.{refl, sym, ap}
use Rattle.std.proofs.Common.{◌∙◌, subst, lt-ltb, le-ltb}
use mathlib.Core.List.{List, [], ◌∷◌, ◌++◌}
use Rattle.std.proofs.Math.ListN.{length}
use Rattle.method_spec.specs.Node.{Link, Node, absent, with_child, link_one}
use Rattle.method_spec.specs.Heap.{passed, downward}
use Rattle.slot_spec.specs.declared.Node as node
use Rattle.slot_spec.specs.Row.{nodes_from}
use Rattle.leaf_spec.specs.Convert.{to_node}
use Rattle.node_rows.specs.Row.{places, words}
use Rattle.node_rows.specs.Held.{Held, Lists}
use Rattle.node_rows.specs.HeldLaws.{lists-node, lists-nothing, lists-then}
use Rattle.heap_descent.specs.Way.{turn_at, trail}
use Rattle.heap_descent.specs.NodeLaws.{link-kept, value-kept}
use Rattle.heap_spans.specs.Spans.{fetched, link_from, node_in, pass_in, passes_from, passes_of}
use Rattle.heap_spans.specs.declared.Span.{Span}

module _ (nodes : List node.Node) (way : List Bool) where
  -- ---- one node
  pub link_on : (i : ℕ) → i < length way → link_from nodes way i ≡ link_one (fetched nodes i)
  unfolding link_from
  link_on i h = rw (lt-ltb i (length way) h)

  pub link-end : (i : ℕ) → length way ≤ i → link_from nodes way i ≡ absent 0
  unfolding link_from
  link-end i h = rw (le-ltb i (length way) h)

  pub node-on : (i : ℕ) → i < length way → node_in nodes way i ≡ with_child (turn_at way i) (fetched nodes i) (link_from nodes way (suc i))
  unfolding node_in
  node-on i h = rw (lt-ltb i (length way) h)

  pub node-off : (i : ℕ) → length way ≤ i → node_in nodes way i ≡ fetched nodes i
  unfolding node_in
  node-off i h = rw (le-ltb i (length way) h)

  -- The way's last node, and one before it.
  pub node-last : (i : ℕ) → i < length way → length way ≤ i + 1 → node_in nodes way i ≡ with_child (turn_at way i) (fetched nodes i) (absent 0)
  node-last i h k = node-on i h ∙ ap (with_child (turn_at way i) (fetched nodes i)) (link-end (suc i) (omega arith))

  pub node-inner : (i : ℕ) → i + 1 < length way → node_in nodes way i ≡ with_child (turn_at way i) (fetched nodes i) (link_one (fetched nodes (i + 1)))
  node-inner i h = rw (add-one i) (node-on i (omega arith) ∙ ap (with_child (turn_at way i) (fetched nodes i)) (link_on (suc i) (omega arith)))

  by_cases : (i : ℕ) (P : Node ℕ → Type 0) → (i < length way → P (with_child (turn_at way i) (fetched nodes i) (link_from nodes way (suc i)))) → P (fetched nodes i) → P (node_in nodes way i)
  by_cases i P on off = go (dec_lt i (length way))
    where
      go : Dec (i < length way) → P (node_in nodes way i)
      go (yes h) = subst P (sym (node-on i h)) (on h)
      go (no h) = subst P (sym (node-off i (omega arith))) off

  pub node-link : (i : ℕ) → link_one (node_in nodes way i) ≡ link_one (fetched nodes i)
  node-link i =
      by_cases i (λ n. link_one n ≡ link_one (fetched nodes i)) (λ h. link-kept (turn_at way i) (fetched nodes i) (link_from nodes way (suc i))) refl

  pub node-value : (i : ℕ) → (node_in nodes way i).value ≡ (fetched nodes i).value
  node-value i =
      by_cases i (λ n. n.value ≡ (fetched nodes i).value) (λ h. value-kept (turn_at way i) (fetched nodes i) (link_from nodes way (suc i))) refl

  -- ---- so many nodes
  pub passes_none : (n i : ℕ) → n ≡ 0 → passes_from nodes way n i ≡ []
  unfolding passes_from
  passes_none n i e = rw e

  pub passes-next : (n i : ℕ) → 0 < n → passes_from nodes way n i ≡ pass_in nodes way i ∷ passes_from nodes way (n - 1) (i + 1)
  unfolding passes_from
  passes-next zero i h = let z : ⊥ = omega arith in absurd z
  passes-next (suc n) i h = let e : suc n - 1 ≡ n = omega arith in rw (e, add-one i)

  pub passes-length : (n i : ℕ) → length (passes_from nodes way n i) ≡ n
  unfolding passes_from
  passes-length zero i = refl
  passes-length (suc n) i = ap suc (passes-length n (suc i))

  pub passed_length : (n i : ℕ) → length (passed (passes_from nodes way n i)) ≡ n
  unfolding passes_from
  passed_length zero i = refl
  passed_length (suc n) i = ap suc (passed_length n (suc i))

  -- One more at the end.
  passed-last : (n i : ℕ) → passed (passes_from nodes way (suc n) i) ≡ passed (passes_from nodes way n i) ++ (node_in nodes way (i + n) ∷ [])
  unfolding passes_from
  passed-last zero i = let e : i + 0 ≡ i = omega arith in rw e
  passed-last (suc n) i =
      let e : i + suc n ≡ suc i + n = omega arith in
      rw e (ap (λ (l : List (Node ℕ)). node_in nodes way i ∷ l) (passed-last n (suc i)))

-- ---- the loop that lists them
module _ (nodes : List node.Node) (way : List Bool) (ws : List ℕ) (count : ℕ) (at : ℕ) where
  abbrev pub Listing : List ℕ → ℕ → Type 0
  Listing more i = Lists ws count (passed (passes_from nodes way i at)) more (count + i)

  pub listing_start : length ws ≡ words → Listing ws 0
  listing_start long =
      let e : count + 0 ≡ count = omega arith in
      rw (e, passes_none nodes way 0 at refl) (lists-nothing ws long count)

  pub listing-turn : {more next : List ℕ} (i : ℕ) {n : node.Node} → Listing more i → count + i < places → to_node n ≡ node_in nodes way (at + i)
      → nodes_from next ≡ set (nodes_from more) (count + i) n → length next ≡ words → Listing next (i + 1)
  listing-turn {more} i l h e stored long =
      let a : count + (i + 1) ≡ count + i + 1 = omega arith in
      rw (a, add-one i, passed-last nodes way i at, ← e) (lists-then ws count l (lists-node more l.long (count + i) h stored long))

-- How many there are after a node and a span.
pub first_counted : (nodes : List node.Node) (way : List Bool) (span : Span) {n : Node ℕ} {ws ws' : List ℕ} {count r : ℕ}
    → Lists ws count (n ∷ passed (passes_of nodes way span)) ws' r → r ≡ count + 1 + span.length
first_counted nodes way span l = omega (arith, l.counted, passed_length nodes way span.length span.at)

-- ---- the way
module _ (h : Held) (way : List Bool) where
  downward-from : (i : ℕ) → i ≤ length way
      → downward (link_from h.nodes way i) (trail h way i) (passes_from h.nodes way (length way - i) i) ≡ passes_from h.nodes way (length way) 0
  unfolding downward trail passes_from
  downward-from zero k = let e : length way - 0 ≡ length way = omega arith in rw e
  downward-from (suc i) k =
      let nodes = h.nodes in
      let s = turn_at way i in
      let n = with_child s (fetched nodes i) (link_from nodes way (suc i)) in
      let below = passes_from nodes way (length way - suc i) (suc i) in
      let e : length way - i ≡ suc (length way - suc i) = omega arith in
      let a : link_one n ≡ link_from nodes way i = link-kept s (fetched nodes i) (link_from nodes way (suc i)) ∙ sym (link_on nodes way i (omega arith)) in
      let b : passes_from nodes way (length way - i) i ≡ record { node = n; way = s } ∷ below =
      ap (λ (m : ℕ). passes_from nodes way m i) e ∙ ap (λ (m : Node ℕ). record { node = m; way = s } ∷ below) (node-on nodes way i (omega arith)) in
      ap (λ (l : Link ℕ). downward l (trail h way i) (record { node = n; way = s } ∷ below)) a
      ∙ ap (downward (link_from nodes way i) (trail h way i)) (sym b)
      ∙ downward-from i (omega arith)

  pub downward-passes : downward (absent 0) (trail h way (length way)) [] ≡ passes_from h.nodes way (length way) 0
  downward-passes =
      let l = length way in
      ap (λ (x : Link ℕ). downward x (trail h way l) []) (sym (link-end h.nodes way l (omega arith)))
      ∙ ap (downward (link_from h.nodes way l) (trail h way l)) (sym (passes_none h.nodes way (l - l) l (omega arith)))
      ∙ downward-from l (omega arith)
