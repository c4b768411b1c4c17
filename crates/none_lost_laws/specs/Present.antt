-- Every program, on any content: each link that it follows is present where it stands, the root link or that of a node given before.
use Rattle.std.specs.Prelude.{◌≡◌, Bool, not, eqb}
use Rattle.std.proofs.Math.Path.{refl}
use Rattle.std.proofs.Math.Bool.{true, false}
use mathlib.Core.List.{List, [], ◌∷◌, ◌++◌, Memᴰ}
use Rattle.std.proofs.Math.Option.{none}
use Prim.Native.Nat.{ℕ, zero, suc, ◌≤◌}
use Rattle.std.proofs.Common.{le_refl, le_of_eq, arith}
use Rattle.std.proofs.Math.Dec.{ltb}
use Rattle.std.proofs.lemmas.Bool.{eqb-false}
use Rattle.list_spec.specs.Distinct.{All}
use Rattle.list_laws.specs.DistinctLaws.{all_nil, all_cons}
use Rattle.method_spec.specs.Node.{Link, Ahead, Node, child, height_of}
use Rattle.method_spec.specs.Prog.{Want, start}
use Rattle.method_spec.specs.Answer as answer
use Rattle.method_spec.specs.Answer.{Structure, Op}
use Rattle.method_spec.specs.Map.{Step, stub, top, Spot, gap, hit, step_at, below, walk, get_prog, put_step, put_prog, lowest, swapped, take_out, remove_step, remove_prog}
use Rattle.method_spec.specs.Stack.{push_prog, pop_prog, stack_test}
use Rattle.method_spec.specs.Queue.{enqueue_prog, dequeue_prog, queue_test}
use Rattle.method_spec.specs.Call.{program, test}
use Rattle.run_laws.specs.EnoughRounds.{tested-height}
use Rattle.none_lost_laws.specs.Yields.{Yields, ends, asks, yields-pick, yields-when, yields-then, yields-keep}
use Rattle.none_lost_laws.specs.Given.{RootFor, Given, Leads, at-root, at_side}
use Rattle.none_lost_laws.specs.HeapSeeks.{heap-seeks}
use Rattle.none_lost_laws.specs.Growing.{Sought, Seeks, Fresh, grown, open-absent, climb-grows}
use Rattle.none_lost_laws.specs.Shrinking.{Even, tested-even, Passed, Falls, at_top, at-step, falls-more, falls-lower, falls-append, climb-shrinks}

-- ---- the walk down
-- Where a walk ended: each node that it passed was given, and their heights fall.
pub data Sighted (most : ℕ) : Spot ℕ → List (Node ℕ) → Type 0 where
  saw-gap : {l : Link ℕ} {path : List (Step ℕ)} {held : List (Node ℕ)} → All (Fresh held) path → Sighted most (gap l path) held
  saw-node : {w : Want ℕ} {n : Node ℕ} {path : List (Step ℕ)} {held : List (Node ℕ)} → Memᴰ n held → Even n → Falls held most (height_of n) path
      → Sighted most (hit w n path) held

fresh-more : {held : List (Node ℕ)} {path : List (Step ℕ)} (n : Node ℕ) → All (Fresh held) path → All (Fresh (n ∷ held)) path
fresh-more n f p m = (mathlib.Core.List.Memᴰ.tail (f p m).0, (f p m).1)

-- A node that was just given, as a place on the way.
passed_here : {held : List (Node ℕ)} (w : Want ℕ) (n : Node ℕ) (s : Bool) → Memᴰ n held → Passed held (step_at w n s)
passed_here w n s m = record { node = n; given = m; key = refl; links = λ t. refl }

module _ {k most : ℕ} {l : Link ℕ} (key : ℕ) where
  walk-seeks : (fuel : ℕ) (w : Want ℕ) (path : List (Step ℕ)) {held : List (Node ℕ)} → ((w.link.height ≡ 0 → ⊥) → Leads l held w.from)
      → All (Fresh held) path → Falls held most w.link.height path → Seeks k l (Sighted most) (walk key fuel w path) held
  unfolding walk
  walk-seeks zero w path leads fresh falls = ends (saw-gap fresh)
  walk-seeks (suc fuel) w path {held} leads fresh falls =
      yields-when (eqb w.link.height 0) (λ e. ends (saw-gap fresh))
      (λ e. asks (leads (eqb-false w.link.height 0 e))
      (λ n got.
      let here : Memᴰ n (n ∷ held) = mathlib.Core.List.Memᴰ.head refl in
      let even = tested-even w n got.passed in
      let falls' : Falls (n ∷ held) most (height_of n) path = falls-lower (le_of_eq (tested-height w n got.passed)) (falls-more n falls) in
      let s = ltb key n.key in
      yields-pick (eqb key n.key) (ends (saw-node here even falls'))
      (walk-seeks fuel (below (step_at w n s)) (step_at w n s ∷ path) (λ present. at_side n here refl present)
      (all_cons {P = Fresh (n ∷ held)} (here, refl) (fresh-more n fresh))
      (at-step (le_refl (child s n).height) even (passed_here w n s here) falls'))))

child-low : (s : Bool) (n : Node ℕ) → (child s n).height ≤ height_of n
child-low true n = omega arith
child-low false n = omega arith

-- ---- the next larger key
module _ {k most : ℕ} {l : Link ℕ} where
  lowest-seeks : (fuel : ℕ) (w : Want ℕ) (n : Node ℕ) (path : List (Step ℕ)) {held : List (Node ℕ)} → Memᴰ n held → Even n
      → Falls held most (height_of n) path → Seeks k l (λ y given. Falls given most y.node.right.height y.path) (lowest fuel w n path) held
  unfolding lowest
  lowest-seeks zero w n path here even falls = ends (falls-lower (child-low false n) falls)
  lowest-seeks (suc fuel) w n path here even falls =
      yields-when (eqb n.left.height 0) (λ e. ends (falls-lower (child-low false n) falls))
      (λ e. asks (at_side n here refl (eqb-false n.left.height 0 e))
      (λ m got. lowest-seeks fuel (below (step_at w n true)) m (step_at w n true ∷ path) (mathlib.Core.List.Memᴰ.head refl)
      (tested-even (below (step_at w n true)) m got.passed)
      (at-step (le_of_eq (tested-height (below (step_at w n true)) m got.passed)) even (passed_here w n true (mathlib.Core.List.Memᴰ.tail here)) (falls-more m falls))))

-- ---- the steps
-- The next larger key's node in the place of n: the links are those of n.
swap-falls : {most : ℕ} {held : List (Node ℕ)} (w : Want ℕ) (n y : Node ℕ) (path : List (Step ℕ)) → Memᴰ n held → Even n → Falls held most (height_of n) path
    → Falls held most n.right.height (swapped (step_at w n false) y ∷ path)
swap-falls w n y path here even falls =
    at-step (le_refl n.right.height) (λ s. even-links s) (record { node = n; given = here; key = refl; links = λ s. same-links s }) falls
  where
    even-links : (s : Bool) → (child s (swapped (step_at w n false) y).node).height ≤ suc (child (not s) (swapped (step_at w n false) y).node).height
    even-links true = even true
    even-links false = even false

    same-links : (s : Bool) → child s n ≡ child s (swapped (step_at w n false) y).node
    same-links true = refl
    same-links false = refl

module _ {k most : ℕ} {l : Link ℕ} where
  take_out-seeks : (w : Want ℕ) (n : Node ℕ) (path : List (Step ℕ)) {held : List (Node ℕ)} → Memᴰ n held → Even n → Falls held most (height_of n) path
      → Seeks k l (λ r given. Unit {0}) (take_out w n path) held
  unfolding take_out
  take_out-seeks w n path {held} here even falls =
      let down = below (step_at w n false) in
      yields-pick (eqb n.left.height 0) (climb-shrinks path (stub n.right) [] (falls-lower (child-low false n) falls))
      (yields-when (eqb n.right.height 0) (λ e. climb-shrinks path (stub n.left) [] (falls-lower (child-low true n) falls))
      (λ e. asks (at_side n here refl (eqb-false n.right.height 0 e))
      (λ m got. yields-then _
      (yields-keep (λ given. Memᴰ n given × Falls given most (height_of n) path) (λ x given h. (mathlib.Core.List.Memᴰ.tail h.0, falls-more x h.1))
      (mathlib.Core.List.Memᴰ.tail here, falls-more m falls)
      (lowest-seeks n.right.height down m [] (mathlib.Core.List.Memᴰ.head refl) (tested-even down m got.passed)
      (at_top (le_of_eq (tested-height down m got.passed)))))
      (λ y given h. climb-shrinks (y.path ++ (swapped (step_at w n false) y.node ∷ path)) (stub y.node.right) []
      (falls-append h.0 (swap-falls w n y.node path h.1.0 even h.1.1))))))

  remove_step-seeks : (entries : ℕ) {s : Spot ℕ} {held : List (Node ℕ)} → Sighted most s held → Seeks k l (λ o given. Unit {0}) (remove_step entries s) held
  unfolding remove_step
  remove_step-seeks entries (saw-gap f) = ends tt
  remove_step-seeks entries (saw-node {w} {n} {path} here even falls) = yields-then _ (take_out-seeks w n path here even falls) (λ b given h. ends tt)

  put_step-seeks : (key value tag entries limit : ℕ) {s : Spot ℕ} {held : List (Node ℕ)} → Sighted most s held
      → Seeks k l (λ o given. Unit {0}) (put_step 0 key value tag entries limit s) held
  unfolding put_step
  put_step-seeks key value tag entries limit (saw-gap {path = path} f) =
      yields-pick (ltb entries limit)
      (yields-then _ (climb-grows path (top _ none none) [] f (grown (open-absent refl) (open-absent refl))) (λ b given h. ends tt)) (ends tt)
  put_step-seeks key value tag entries limit (saw-node here even falls) = ends tt

-- ---- every structure
module _ {k : ℕ} (spares : ℕ → ℕ) (limit entries : ℕ) (a : Ahead ℕ) (l : Link ℕ) where
  sighted : (key : ℕ) → Seeks k l (Sighted l.height) (walk key l.height (start l) []) []
  sighted key = walk-seeks key l.height (start l) [] at-root (all_nil (Fresh [])) (at_top (le_refl l.height))

  map-seeks : (op : Op answer.map) → Seeks k l (λ o given. Unit {0}) (program 0 op spares limit entries a l) []
  unfolding program get_prog put_prog remove_prog
  map-seeks (answer.get key) = yields-then _ (sighted key) (λ s given h. ends tt)
  map-seeks (answer.put key value) = yields-then _ (sighted key) (λ s given h. put_step-seeks key value (spares 0) entries limit h)
  map-seeks (answer.remove key) = yields-then _ (sighted key) (λ s given h. remove_step-seeks entries h)

  stack-seeks : (op : Op answer.stack) → Yields (Sought l) (Given k stack_test) (λ o given. Unit {0}) (program 0 op spares limit entries a l) []
  unfolding program push_prog pop_prog
  stack-seeks (answer.push value) = yields-pick (ltb entries limit) (ends tt) (ends tt)
  stack-seeks answer.pop = yields-when (eqb l.height 0) (λ e. ends tt) (λ e. asks (at-root (eqb-false l.height 0 e)) (λ n got. ends tt))

  queue-seeks : RootFor answer.queue entries l → (op : Op answer.queue)
      → Yields (Sought l) (Given k queue_test) (λ o given. Unit {0}) (program 0 op spares limit entries a l) []
  unfolding program enqueue_prog dequeue_prog
  queue-seeks rooted (answer.enqueue value) = yields-pick (ltb entries limit) (ends tt) (ends tt)
  queue-seeks rooted answer.dequeue =
      yields-when (eqb entries 0) (λ e. ends tt) (λ e. asks (at-root (rooted (eqb-false entries 0 e))) (λ n got. ends tt))

pub program-seeks : {s : Structure} {k : ℕ} (op : Op s) (spares : ℕ → ℕ) (limit entries : ℕ) (a : Ahead ℕ) (l : Link ℕ) → RootFor s entries l
    → Yields (Sought l) (Given k (test s entries)) (λ o given. Unit {0}) (program 0 op spares limit entries a l) []
unfolding test
program-seeks {s = answer.map} op spares limit entries a l rooted = map-seeks spares limit entries a l op
program-seeks {s = answer.stack} op spares limit entries a l rooted = stack-seeks spares limit entries a l op
program-seeks {s = answer.heap} {k} op spares limit entries a l rooted = heap-seeks k entries l spares limit a rooted op
program-seeks {s = answer.queue} op spares limit entries a l rooted = queue-seeks spares limit entries a l rooted op
