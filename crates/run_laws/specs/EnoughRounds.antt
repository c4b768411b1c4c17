-- How many nodes a call wants, on any content whose nodes pass the fetch tests: for the map at most three for each level
-- of the height that the root link says, for the stack and the queue at most one, for the heap three for each level of its entries.
use Prim.Native.Nat.{ℕ, zero, suc, ◌+◌, ◌*◌, ◌≤◌, ◌<◌}
use Rattle.std.specs.Prelude.{◌≡◌, Bool, not, ltb}
use Rattle.std.proofs.Math.Path.{refl}
use Rattle.std.proofs.Math.Bool.{true, false}
use mathlib.Core.List.{List, [], ◌∷◌, ◌++◌}
use Rattle.std.proofs.Math.Option.{Option, none, some}
use native.Mathlib.Omega.{arith}
use Rattle.std.proofs.Math.Dec.{eqb}
use Rattle.std.proofs.Math.ListN.{length}
use Rattle.std.proofs.Common.{length-append}
use borrow.Author.Tests.{eqb-true, eqb-false}
use Rattle.list_spec.specs.Choice.{pick}
use Rattle.list_laws.specs.ChoiceLaws.{pick-both, pick-neither}
use Rattle.method_spec.specs.Node.{Node, Link, Ahead, child, height_of}
use Rattle.method_spec.specs.Prog.{Want, Prog, done, want, bind, start}
use Rattle.method_spec.specs.Answer as answer
use Rattle.method_spec.specs.Answer.{Structure, Op}
use Rattle.method_spec.specs.Map.{Step, Sub, stub, Spot, gap, hit, step_at, below, walk, tall, leans_out, top_of, kid, beside, double, fetched_top, turn, with_subtree, near_on, others_of, raise, climb, put_step, get_prog, put_prog, lowest, swapped, take_out, remove_step, remove_prog, map_test}
use Rattle.method_spec.specs.Stack.{push_prog, pop_prog, stack_test}
use Rattle.method_spec.specs.Queue.{enqueue_prog, dequeue_prog, queue_test}
use Rattle.method_spec.specs.Call.{program, test}
use Rattle.run_laws.specs.Safe.{Within, stops, asks}
use Rattle.run_laws.specs.HeapWithin.{most_in_heap, heap-within}
use Rattle.run_laws.specs.SafeLaws.{within_more, within-pick, within-bind, WithinTo, stops-with, asks-with, within_to-then, within-map}

-- How many nodes a call of a structure wants at most, by the entries and the height that the root link says.
abbrev pub most_wanted : Structure → (entries height : ℕ) → ℕ
most_wanted answer.map entries height = 3 * height
most_wanted answer.stack entries height = 1
most_wanted answer.heap entries height = most_in_heap entries
most_wanted answer.queue entries height = 1

module _ {T : Type 0} where
  -- ---- what the map's fetch tests say of heights

  pub tested-height : (w : Want T) (n : Node T) → map_test w n ≡ true → height_of n ≡ w.link.height
  unfolding map_test
  tested-height w n e =
      let right = (pick-neither (tall true n) _ e).1 in
      let same = (pick-neither (tall false n) _ right).1 in
      eqb-true (height_of n) w.link.height (pick-both _ _ same).0

  child-lower : (s : Bool) (n : Node T) → (child s n).height < height_of n
  child-lower true n = omega arith
  child-lower false n = omega arith

  -- ---- upward: two at most for each level

  module _ {test : Want T → Node T → Bool} where
    opened-within : (w : Want T) (o : Option (Node T)) → Within test 1 (fetched_top w o)
    opened-within w none = asks (λ m passed. stops)
    opened-within w (some n) = stops

    turn-within : (p : Step T) (s : Bool) (n : Node T) (near : Sub T) (others : List (Node T)) → Within test 2 (turn p s n near others)
    unfolding turn
    turn-within p s n near others =
        let at = beside p s (child s n) in
        within-bind _ (opened-within at (top_of near))
        (λ c. within-pick (leans_out s c) stops
        (within-bind {m = 0}
        (λ g. done (double s n c g (kid s near) others))
        (opened-within (below (step_at at c (not s))) (kid (not s) near)) (λ g. stops)))

    raise-within : (p : Step T) (b : Sub T) → Within test 2 (raise p b)
    unfolding raise
    raise-within p b =
        within-pick (tall true (with_subtree p b)) (turn-within p true (with_subtree p b) (near_on p b true) (others_of p b true))
        (within-pick (tall false (with_subtree p b))
        (turn-within p false (with_subtree p b) (near_on p b false) (others_of p b false)) stops)

    pub climb-within : (path : List (Step T)) (b : Sub T) (out : List (Node T)) → Within test (2 * length path) (climb path b out)
    unfolding climb
    climb-within [] b out = stops
    climb-within (p ∷ path) b out =
        let e : 2 * suc (length path) ≡ 2 + 2 * length path = omega arith in
        rw e (within-bind _ (raise-within p b) (λ r. climb-within path r.sub (out ++ r.out)))

  -- ---- the walk down: one for each level, and two are left for each level passed

  -- What is left where the walk ended: two for each node passed, and at the node with the key three for each level under it.
  abbrev pub WalkLeaves : Spot T → ℕ → Type 0
  WalkLeaves (gap l path) left = 2 * length path ≤ left
  WalkLeaves (hit w n path) left = 2 * length path + 3 * height_of n ≤ suc left

  -- One level of the walk, before what it goes on with.
  walk-level : (key : ℕ) (w : Want T) (path : List (Step T)) (next : Node T → Prog T (Spot T))
      → ((n : Node T) (left : ℕ) → 2 * length path + 3 * height_of n ≤ suc left → WithinTo map_test WalkLeaves left (next n))
      → (b : Bool) → eqb w.link.height 0 ≡ b → (bound : ℕ) → 2 * length path + 3 * w.link.height ≤ bound
      → WithinTo map_test WalkLeaves bound
      (pick b (done (gap w.link path)) (want w (λ n. pick (eqb key n.key) (done (hit w n path)) (next n))))
  walk-level key w path next more true e bound few =
      let fits : 2 * length path ≤ bound = omega arith in stops-with fits
  walk-level key w path next more false e zero few =
      let tall = eqb-false w.link.height 0 e in
      let z : ⊥ = omega arith in
      absurd z
  walk-level key w path next more false e (suc left) few =
      asks-with
      (λ n (passed : map_test w n ≡ true). go n (omega (arith, tested-height w n passed)) (eqb key n.key))
    where
      go : (n : Node T) → 2 * length path + 3 * height_of n ≤ suc left → (b : Bool)
          → WithinTo map_test WalkLeaves left (pick b (done (hit w n path)) (next n))
      go n fits true = stops-with fits
      go n fits false = more n left fits

  pub walk-within : (key fuel : ℕ) (w : Want T) (path : List (Step T)) (bound : ℕ) → 2 * length path + 3 * w.link.height ≤ bound
      → WithinTo map_test WalkLeaves bound (walk key fuel w path)
  unfolding walk
  walk-within key zero w path bound few =
      let fits : 2 * length path ≤ bound = omega arith in stops-with fits
  walk-within key (suc fuel) w path bound few =
      walk-level key w path
      (λ n. walk key fuel (below (step_at w n (ltb key n.key))) (step_at w n (ltb key n.key) ∷ path))
      (λ n left fits. walk-within key fuel (below (step_at w n (ltb key n.key))) (step_at w n (ltb key n.key) ∷ path) left
      (omega (arith, child-lower (ltb key n.key) n)))
      (eqb w.link.height 0) refl bound few

  -- ---- the next larger key: again three for each level

  lowest-within : (more fuel : ℕ) (w : Want T) (n : Node T) (path : List (Step T)) (bound : ℕ)
      → 2 * length path + 3 * n.left.height + more ≤ bound
      → WithinTo map_test (λ y left. 2 * length y.path + more ≤ left) bound (lowest fuel w n path)
  unfolding lowest
  lowest-within more zero w n path bound few =
      let fits : 2 * length path + more ≤ bound = omega arith in stops-with fits
  lowest-within more (suc fuel) w n path bound few =
      go (λ m steps left fits. lowest-within more fuel (below (step_at w n true)) m steps left fits) (eqb n.left.height 0) refl bound few
    where
      go : ((m : Node T) (steps : List (Step T)) (left : ℕ) → 2 * length steps + 3 * m.left.height + more ≤ left
          → WithinTo map_test (λ y rest. 2 * length y.path + more ≤ rest) left (lowest fuel (below (step_at w n true)) m steps))
          → (b : Bool) → eqb n.left.height 0 ≡ b → (bound : ℕ) → 2 * length path + 3 * n.left.height + more ≤ bound
          → WithinTo map_test (λ y left. 2 * length y.path + more ≤ left) bound
          (pick b (done (record { node = n; path = path }))
          (want (below (step_at w n true)) (λ m. lowest fuel (below (step_at w n true)) m (step_at w n true ∷ path))))
      go next true e bound few =
          let fits : 2 * length path + more ≤ bound = omega arith in stops-with fits
      go next false e zero few =
          let tall = eqb-false n.left.height 0 e in
          let z : ⊥ = omega arith in
          absurd z
      go next false e (suc left) few =
          asks-with
          (λ m (passed : map_test (below (step_at w n true)) m ≡ true). next m (step_at w n true ∷ path) left
          (omega (arith, tested-height (below (step_at w n true)) m passed, child-lower true m)))

  -- ---- the programs

  take_out-within : (w : Want T) (n : Node T) (path : List (Step T)) (bound : ℕ) → 2 * length path + 3 * height_of n ≤ suc bound
      → Within map_test bound (take_out w n path)
  unfolding take_out
  take_out-within w n path bound few =
      within-pick (eqb n.left.height 0) (up (stub n.right))
      (within-pick (eqb n.right.height 0) (up (stub n.left)) (down bound few))
    where
      up : (b : Sub T) → Within map_test bound (climb path b [])
      up b = let fits : 2 * length path ≤ bound = omega arith in within_more fits (climb-within path b [])

      down : (bound : ℕ) → 2 * length path + 3 * height_of n ≤ suc bound
          → Within map_test bound
          (want (below (step_at w n false))
          (λ m. bind (lowest n.right.height (below (step_at w n false)) m [])
          (λ y. climb (y.path ++ (swapped (step_at w n false) y.node ∷ path)) (stub y.node.right) [])))
      down zero fits = let z : ⊥ = omega arith in absurd z
      down (suc left) fits =
          asks
          (λ m (passed : map_test (below (step_at w n false)) m ≡ true). within_to-then _
          (lowest-within (2 + 2 * length path) n.right.height (below (step_at w n false)) m [] left
          (omega (arith, tested-height (below (step_at w n false)) m passed, child-lower true m)))
          (λ y rest h. within_more
          (omega (arith, length-append y.path (swapped (step_at w n false) y.node ∷ path)))
          (climb-within (y.path ++ (swapped (step_at w n false) y.node ∷ path)) (stub y.node.right) [])))

  remove_step-within : (entries : ℕ) (s : Spot T) (left : ℕ) → WalkLeaves s left → Within map_test left (remove_step entries s)
  unfolding remove_step
  remove_step-within entries (gap l path) left h = stops
  remove_step-within entries (hit w n path) left h = within-map _ (take_out-within w n path left h)

  put_step-within : (nil : T) (key value : ℕ) (tag : T) (entries limit : ℕ) (s : Spot T) (left : ℕ) → WalkLeaves s left
      → Within map_test left (put_step nil key value tag entries limit s)
  unfolding put_step
  put_step-within nil key value tag entries limit (gap l path) left h =
      within-pick (ltb entries limit) (within-map _ (within_more h (climb-within path _ []))) stops
  put_step-within nil key value tag entries limit (hit w n path) left h = stops

  pub map-within : (nil : T) (op : Op answer.map) (spares : ℕ → T) (limit entries : ℕ) (a : Ahead T) (l : Link T)
      → Within map_test (3 * l.height) (program nil op spares limit entries a l)
  unfolding program get_prog put_prog remove_prog
  map-within nil (answer.get key) spares limit entries a l =
      within_to-then _ (walk-within key l.height (start l) [] (3 * l.height) (omega arith)) (λ s left h. stops)
  map-within nil (answer.put key value) spares limit entries a l =
      within_to-then _ (walk-within key l.height (start l) [] (3 * l.height) (omega arith))
      (put_step-within nil key value (spares 0) entries limit)
  map-within nil (answer.remove key) spares limit entries a l =
      within_to-then _ (walk-within key l.height (start l) [] (3 * l.height) (omega arith))
      (remove_step-within entries)

  pub stack-within : (nil : T) (op : Op answer.stack) (spares : ℕ → T) (limit entries : ℕ) (a : Ahead T) (l : Link T)
      → Within stack_test 1 (program nil op spares limit entries a l)
  unfolding program push_prog pop_prog
  stack-within nil (answer.push value) spares limit entries a l = within-pick (ltb entries limit) stops stops
  stack-within nil answer.pop spares limit entries a l =
      within-pick (eqb l.height 0) stops (asks (λ m passed. stops))

  pub queue-within : (nil : T) (op : Op answer.queue) (spares : ℕ → T) (limit entries : ℕ) (a : Ahead T) (l : Link T)
      → Within queue_test 1 (program nil op spares limit entries a l)
  unfolding program enqueue_prog dequeue_prog
  queue-within nil (answer.enqueue value) spares limit entries a l = within-pick (ltb entries limit) stops stops
  queue-within nil answer.dequeue spares limit entries a l =
      within-pick (eqb entries 0) stops (asks (λ m passed. stops))

  -- ---- any structure

  pub program-within : {s : Structure} (nil : T) (op : Op s) (spares : ℕ → T) (limit entries : ℕ) (a : Ahead T) (l : Link T)
      → Within (test s entries) (most_wanted s entries l.height) (program nil op spares limit entries a l)
  unfolding test
  program-within {s = answer.map} nil op spares limit entries a l = map-within nil op spares limit entries a l
  program-within {s = answer.stack} nil op spares limit entries a l = stack-within nil op spares limit entries a l
  program-within {s = answer.heap} nil op spares limit entries a l = heap-within nil op spares limit entries a l
  program-within {s = answer.queue} nil op spares limit entries a l = queue-within nil op spares limit entries a l
