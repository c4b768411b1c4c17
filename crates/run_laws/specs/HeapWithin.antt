-- The heap on any content: what its fetch test says of links; and how many nodes a call wants: one for each turn of its way, and for a
-- take the last position and two for each level that its number may sink.
use Prim.Native.Nat.{ℕ, zero, suc, ◌+◌, ◌*◌, ◌/◌, ◌%◌, ◌^◌, ◌≤◌, ◌<◌, max}
use Rattle.std.specs.Prelude.{◌≡◌, refl, Bool, ◌&&◌, eqb, ltb, leb}
use Rattle.std.proofs.Math.Bool.{true, false, and-eq-true_iff}
use mathlib.Core.List.{List, [], ◌∷◌, ◌++◌}
use native.Mathlib.Omega.{arith}
use Rattle.std.proofs.Math.ListN.{length}
use Rattle.std.proofs.Common.{length-append, eqb-true, leb-false}
use Rattle.list_spec.specs.Choice.{pick}
use Rattle.method_spec.specs.Node.{Node, Link, Ahead, absent, child, with_child, link_one}
use Rattle.method_spec.specs.Prog.{Want, Prog, bind, start}
use Rattle.method_spec.specs.Answer.{heap, Op, add, take}
use Rattle.method_spec.specs.Heap.{child_position, heap_link_good, heap_test, Pass, Lower, childless, lower, turns_to, way_to, beneath, descend, add_prog, downward, child_of, smaller, above, sunk, sink, replace_root, take_prog}
use Rattle.method_spec.specs.Call.{program}
use Rattle.run_laws.specs.Safe.{Within, stops, asks}
use Rattle.run_laws.specs.SafeLaws.{within_more, within-pick, within-bind, WithinTo, stops-with, asks-with, within_to-then, within-map}

-- ---- what the heap's fetch test says of links
module _ {T : Type 0} where
  -- The link of a position among the entries leads there; and no link is higher than 1.
  abbrev LinkFor : (entries i : ℕ) → Link T → Type 0
  LinkFor entries i l = (i ≤ entries → (l.height ≡ 1) × (l.key ≡ i)) × (l.height ≤ 1)

  link-tested : (entries i : ℕ) (l : Link T) → heap_link_good entries i l ≡ true → LinkFor entries i l
  link-tested entries i l e = go (leb i entries) refl e
    where
      go : (b : Bool) → leb i entries ≡ b → pick b (eqb l.height 1 && eqb l.key i) (eqb l.height 0) ≡ true → LinkFor entries i l
      go true within e =
          let both = (and-eq-true_iff (eqb l.height 1) (eqb l.key i)).0 e in
          let one = eqb-true l.height 1 both.0 in
          (λ h. (one, eqb-true l.key i both.1), omega arith)
      go false beyond e =
          let none = eqb-true l.height 0 e in
          let over = leb-false i entries beyond in
          (λ h. let z : ⊥ = omega arith in absurd z, omega arith)

  pub heap-tested : (entries : ℕ) (w : Want T) (n : Node T) → heap_test entries w n ≡ true → (s : Bool) → LinkFor entries (child_position s n.key) (child s n)
  unfolding heap_test
  heap-tested entries w n e s =
      let both = (and-eq-true_iff (heap_link_good entries (child_position true n.key) n.left) (heap_link_good entries (child_position false n.key) n.right)).0 e in
      go s both
    where
      go : (s : Bool) → (heap_link_good entries (child_position true n.key) n.left ≡ true) × (heap_link_good entries (child_position false n.key) n.right ≡ true)
          → LinkFor entries (child_position s n.key) (child s n)
      go true both = link-tested entries (child_position true n.key) n.left both.0
      go false both = link-tested entries (child_position false n.key) n.right both.1

-- ---- ways
-- A position below 2^(k + 1) has at most k turns.
pub turns-few : (fuel k i : ℕ) → i < 2 ^ suc k → length (turns_to fuel i) ≤ k
unfolding turns_to
turns-few zero k i h = omega arith
turns-few (suc fuel) k i h = go (λ k. turns-few fuel k (i / 2)) (leb i 1) refl k h
  where
    go : ((k : ℕ) → i / 2 < 2 ^ suc k → length (turns_to fuel (i / 2)) ≤ k) → (b : Bool) → leb i 1 ≡ b
        → (k : ℕ) → i < 2 ^ suc k → length (pick b [] (turns_to fuel (i / 2) ++ (eqb (i % 2) 0 ∷ []))) ≤ k
    go few true e k h = omega arith
    go few false e zero h = let more = leb-false i 1 e in let z : ⊥ = omega arith in absurd z
    go few false e (suc k) h =
        let half : i / 2 < 2 ^ suc k = omega arith in
        omega (arith, few k half, length-append (turns_to fuel (i / 2)) (eqb (i % 2) 0 ∷ []))

-- How many nodes a call of a heap with so many entries wants at most.
abbrev pub most_in_heap : ℕ → ℕ
most_in_heap zero = 0
most_in_heap (suc n) = max (length (way_to (suc (suc n)))) (3 * length (way_to (suc n)) + 1)

pub heap-rounds : (k entries : ℕ) → entries < 2 ^ k → most_in_heap entries ≤ 3 * k
heap-rounds k zero h = omega arith
heap-rounds zero (suc n) h = let z : ⊥ = omega arith in absurd z
heap-rounds (suc k) (suc n) h =
    let next : suc (suc n) < 2 ^ suc (suc k) = omega arith in
    omega (arith, turns-few (suc n) k (suc n) h, turns-few (suc (suc n)) (suc k) (suc (suc n)) next)

pub downward-length : {T : Type 0} (l : Link T) (path below : List (Pass T)) → length (downward l path below) ≡ length path + length below
unfolding downward
downward-length l [] below = omega arith
downward-length l (p ∷ path) below =
    let n = with_child p.way p.node l in
    omega (arith, downward-length (link_one n) path (record { node = n; way = p.way } ∷ below))

module _ {T : Type 0} {test : Want T → Node T → Bool} where
  -- ---- the way down
  descend-within : (more : ℕ) (turns : List Bool) (w : Want T) (path : List (Pass T))
      → WithinTo test (λ r left. (length r.path ≡ length turns + length path) × (more ≤ left)) (length turns + more) (descend turns w path)
  unfolding descend
  descend-within more [] w path =
      let same : length path ≡ 0 + length path = omega arith in
      let fits : more ≤ 0 + more = omega arith in
      stops-with (same, fits)
  descend-within more (s ∷ turns) w path =
      let e : suc (length turns) + more ≡ suc (length turns + more) = omega arith in
      let o : suc (length turns) + length path ≡ length turns + suc (length path) = omega arith in
      rw (e, o) (asks-with (λ n ok. descend-within more turns (beneath n s) (record { node = n; way = s } ∷ path)))

  -- ---- sinking
  child-within : (w : Want T) (below : List (Pass T)) → Within test 1 (child_of w below)
  unfolding child_of
  child-within w [] = within-pick (eqb w.link.height 0) stops (asks (λ c ok. stops))
  child-within w (p ∷ below) = stops

  sunk-within : (most : ℕ) (further : Pass T → List (Pass T) → Prog T (List (Node T)))
      → ((p : Pass T) (below : List (Pass T)) → Within test most (further p below))
      → (v : ℕ) (n : Node T) (a b : List (Pass T)) (o : Lower T) → Within test most (sunk further v n a b o)
  sunk-within most further h v n a b childless = stops
  sunk-within most further h v n a b (lower c below others) =
      within-pick (ltb c.node.value v) (within-map _ (h c below)) stops

  sink-within : (fuel v : ℕ) (p : Pass T) (below : List (Pass T)) → Within test (2 * fuel) (sink fuel v p below)
  unfolding sink
  sink-within zero v p below = stops
  sink-within (suc fuel) v p below =
      let e : 2 * suc fuel ≡ 1 + (1 + 2 * fuel) = omega arith in
      rw e
      (within-bind _ (child-within (beneath p.node true) (pick p.way below []))
      (λ a. within-bind _ (child-within (beneath p.node false) (pick p.way [] below))
      (λ b. sunk-within (2 * fuel) (sink fuel v) (sink-within fuel v) v (above true a (above false b p.node)) a b (smaller a b))))

  replace-within : (nil : T) (entries : ℕ) (z : Node T) (path : List (Pass T)) → Within test (2 * length path) (replace_root nil entries z path)
  unfolding replace_root
  replace-within nil entries z [] = stops
  replace-within nil entries z (p ∷ below) = within-map _ (sink-within (suc (length below)) z.value p below)

  -- ---- the programs
  -- An empty heap's calls want none.
  empty-within : (nil : T) (op : Op heap) (spares : ℕ → T) (limit : ℕ) (a : Ahead T) (l : Link T)
      → Within test 0 (program nil op spares limit 0 a l)
  unfolding program add_prog take_prog turns_to descend bind
  empty-within nil (add value) spares limit a l = within-pick (ltb 0 limit) stops stops
  empty-within nil take spares limit a l = stops

  pub heap-within : (nil : T) (op : Op heap) (spares : ℕ → T) (limit entries : ℕ) (a : Ahead T) (l : Link T)
      → Within test (most_in_heap entries) (program nil op spares limit entries a l)
  unfolding program add_prog take_prog
  heap-within nil op spares limit zero a l = empty-within nil op spares limit a l
  heap-within nil (add value) spares limit (suc n) a l =
      within-pick (ltb (suc n) limit)
      (within_more {n = length (way_to (suc (suc n))) + 0} (omega arith)
      (within_to-then _ (descend-within 0 (way_to (suc (suc n))) (start l) []) (λ r left h. stops)))
      stops
  heap-within nil take spares limit (suc n) a l =
      let turns = way_to (suc n) in
      within-pick (eqb (suc n) 0) stops
      (within_more {n = length turns + (1 + 2 * length turns)} (omega arith)
      (within_to-then _ (descend-within (1 + 2 * length turns) turns (start l) [])
      (λ r left h. within_more {n = suc (2 * length (downward (absent nil) r.path []))}
      (omega (arith, h, downward-length (absent nil) r.path []))
      (asks (λ z ok. replace-within nil (suc n) z (downward (absent nil) r.path []))))))
