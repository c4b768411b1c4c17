-- Trees in order: their least number, and which trees may stand in a place, so that the whole is in order.
use Rattle.std.specs.Prelude.{◌≡◌, refl, Bool, ℕ, ◌≤◌}
use Rattle.std.proofs.Math.Bool.{true, false}
use mathlib.Core.List.Memᴰ
use mathlib.Core.List.{List, [], ◌∷◌}
use Rattle.std.proofs.Common.{le_refl, arith}
use Rattle.list_spec.specs.Perm.{Perm}
use Rattle.list_spec.specs.Distinct.{All}
use Rattle.list_laws.specs.PermLaws.{perm-sym, perm-member}
use Rattle.list_laws.specs.DistinctLaws.{all_nil, all_cons, all_append}
use Rattle.balance_spec.specs.Tree.{Tree, leaf, node}
use Rattle.method_spec.specs.Node.{Cell}
use Rattle.method_spec.specs.HeapShape.{AtLeast, Ordered, heap_numbers, Sorted, bare}
use Rattle.heap_laws.specs.HeapTree.{Frame, joined, plug}
use Rattle.heap_laws.specs.Plugs.{joined_on, lift}

-- ---- the least number

least_zero : (t : Tree ℕ) → AtLeast 0 t
least_zero leaf = tt
least_zero (node l v r) = omega arith

pub least-less : {v w : ℕ} (t : Tree ℕ) → v ≤ w → AtLeast w t → AtLeast v t
least-less leaf le h = tt
least-less (node l u r) le h = omega arith

-- What may stand over a tree in order is at most every number in it.
least-all : (b : ℕ) (t : Tree ℕ) → Ordered t → AtLeast b t → All (λ v. b ≤ v) (heap_numbers t)
unfolding heap_numbers
least-all b leaf h low = all_nil (λ v. b ≤ v)
least-all b (node l v r) h low =
    all_cons {P = λ v. b ≤ v} low
    (all_append (heap_numbers l) (least-all b l h.1.1.0 (least-less l low h.0)) (least-all b r h.1.1.1 (least-less r low h.1.0)))

-- Its top number, if there is one, is w.
abbrev pub TopIs : ℕ → Tree ℕ → Type 0
TopIs w leaf = Unit {0}
TopIs w (node l v r) = v ≡ w

-- It is the first of the numbers in ascending order.
pub top-first : (w : ℕ) (ws : List ℕ) (t : Tree ℕ) → Ordered t → Perm (heap_numbers t) (w ∷ ws) → Sorted (w ∷ ws) → TopIs w t
unfolding heap_numbers
top-first w ws leaf ordered numbers sorted = tt
top-first w ws (node l v r) ordered numbers sorted =
    let most : v ≤ w = least-all v (node l v r) ordered (le_refl v) w (perm-member (perm-sym numbers) (Memᴰ.head refl)) in
    let least : w ≤ v = all_cons {P = λ x. w ≤ x} (le_refl w) sorted.0 v (perm-member numbers (Memᴰ.head refl)) in
    omega arith

module _ {T : Type 0} where
  -- ---- order around a place

  -- The number over a place; over the root every number may stand.
  abbrev pub nearest : List (Frame T) → ℕ
  nearest [] = 0
  nearest (f ∷ fs) = f.cell.value

  -- A node that was passed is in order with the one over it and with its other side.
  pub record Above (f : Frame T) (fs : List (Frame T)) : Type 0 where
    pub rising : nearest fs ≤ f.cell.value
    pub least : AtLeast f.cell.value (bare f.other)
    pub other : Ordered (bare f.other)

  -- All that were passed are.
  abbrev pub Steady : List (Frame T) → Type 0
  Steady [] = Unit {0}
  Steady (f ∷ fs) = Above f fs × Steady fs

  -- The tree is in order, and may stand in its place.
  pub record Fits (fs : List (Frame T)) (t : Tree (Cell T)) : Type 0 where
    pub ordered : Ordered (bare t)
    pub least : AtLeast (nearest fs) (bare t)

  -- The sides of a node fit beneath it, and beneath the one over it.
  pub record Spread (fs : List (Frame T)) (l : Tree (Cell T)) (c : Cell T) (r : Tree (Cell T)) : Type 0 where
    pub left : Fits fs l
    pub right : Fits fs r
    pub over-left : AtLeast c.value (bare l)
    pub over-right : AtLeast c.value (bare r)

  pub spread-fits : {fs : List (Frame T)} {l : Tree (Cell T)} {c : Cell T} {r : Tree (Cell T)} → Spread fs l c r → nearest fs ≤ c.value
      → Fits fs (node l c r)
  unfolding bare
  spread-fits h le = record { ordered = (h.over-left, (h.over-right, (h.left.ordered, h.right.ordered))); least = le }

  -- What stands in its place in a tree in order; and a tree in order from its parts.
  pub ordered-split : (fs : List (Frame T)) (t : Tree (Cell T)) → Ordered (bare (plug t fs)) → Steady fs × Fits fs t
  unfolding plug bare
  ordered-split [] t h = (tt, record { ordered = h; least = least_zero (bare t) })
  ordered-split (f ∷ fs) t h = let r = ordered-split fs (joined f t) h in go f.way r.0 r.1
    where
      go : (s : Bool) → Steady fs → Fits fs (joined_on s f t) → Steady (f ∷ fs) × Fits (f ∷ fs) t
      go true steady h = (
        (record { rising = h.least; least = h.ordered.1.0; other = h.ordered.1.1.1 }, steady),
        record { ordered = h.ordered.1.1.0; least = h.ordered.0 },
      )
      go false steady h = (
        (record { rising = h.least; least = h.ordered.0; other = h.ordered.1.1.0 }, steady),
        record { ordered = h.ordered.1.1.1; least = h.ordered.1.0 },
      )

  pub ordered-join : (fs : List (Frame T)) (t : Tree (Cell T)) → Steady fs → Fits fs t → Ordered (bare (plug t fs))
  unfolding plug bare
  ordered-join [] t steady h = h.ordered
  ordered-join (f ∷ fs) t steady h = ordered-join fs (joined f t) steady.1 (go f.way)
    where
      go : (s : Bool) → Fits fs (joined_on s f t)
      go true = record { ordered = (h.least, (steady.0.least, (h.ordered, steady.0.other))); least = steady.0.rising }
      go false = record { ordered = (steady.0.least, (h.least, (steady.0.other, h.ordered))); least = steady.0.rising }

  -- Without what stands in a place, a tree in order stays so, and its top number stays if any does.
  pub ordered-without : (fs : List (Frame T)) (t : Tree (Cell T)) → Ordered (bare (plug t fs)) → Ordered (bare (plug leaf fs))
  unfolding bare
  ordered-without fs t h = ordered-join fs leaf (ordered-split fs t h).0 (record { ordered = tt; least = tt })

  pub top-without : (fs : List (Frame T)) (t : Tree (Cell T)) (w : ℕ) → TopIs w (bare (plug t fs)) → TopIs w (bare (plug leaf fs))
  unfolding bare
  top-without fs t w =
      lift {R = λ i t u. TopIs w (bare t) → TopIs w (bare u)}
      (record { left = λ i c o t u some r h. h; right = λ i c o t u some r h. h }) fs t leaf (λ h. tt)
