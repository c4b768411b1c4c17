-- How few and how many entries a balanced tree of a given height has, and that `shaped` says exactly with how many
-- entries and of what height there are balanced trees.
use Rattle.std.specs.Prelude.{ℕ, zero, suc, ◌+◌, ◌-◌, ◌^◌, ◌≤◌, ◌<◌, max, ◌≡◌, ◌↔◌, true, false, leb, ltb}
use Rattle.std.proofs.Math.Path.{refl}
use Rattle.std.proofs.Common.{subst₂, leb-true, ltb-true, le-leb, lt-ltb}
use Rattle.std.proofs.Math.Logic.{by_cases}
use Rattle.std.proofs.Math.Bool.{and-eq-true_iff}
use Rattle.std.proofs.Math.Nat.{two-pow-succ, le-max_left, le-max_right}
use Rattle.std.proofs.Math.Decide.{dec_le}
use native.Mathlib.Omega.{arith}
use Rattle.std.proofs.Math.Pow.{pow_mono}
use Rattle.std.proofs.lemmas.Bool.{lt-leb}
use Rattle.balance_spec.specs.Tree.{Tree, leaf, node, height, size, Balanced}
use Rattle.balance_spec.specs.Least.{least}
use Rattle.balance_laws.specs.LeastLaws.{least_zero, least-one, least_step, least-node, least-below-power, least-under-power}
use Rattle.balance_spec.specs.Shape.{Shape, shaped}

-- ---- the test as two bounds

pub shaped-bounds : (n h : ℕ) → shaped n h ≡ true → (least h ≤ n) × (n < 2 ^ h)
unfolding shaped
shaped-bounds n h e =
    let both = (and-eq-true_iff (leb (least h) n) (ltb n (2 ^ h))).0 e in
    (leb-true (least h) n both.0, ltb-true n (2 ^ h) both.1)

pub shaped-few : (n h : ℕ) → n < least h → shaped n h ≡ false
unfolding shaped
shaped-few n h few = rw (lt-leb (least h) n few)

pub shaped-enough : (n h : ℕ) → least h ≤ n → shaped n h ≡ ltb n (2 ^ h)
unfolding shaped
shaped-enough n h enough = rw (le-leb (least h) n enough)

pub bounds-shaped : (n h : ℕ) → least h ≤ n → n < 2 ^ h → shaped n h ≡ true
bounds-shaped n h enough below = rw (shaped-enough n h enough, lt-ltb n (2 ^ h) below)

module _ {A : Type 0} where
  -- ---- the entries of a tree, by its height

  -- A balanced tree has at least as many entries as `least` says for its height.
  pub least-is-least : (t : Tree A) → Balanced t → least (height t) ≤ size t
  unfolding height size Balanced
  least-is-least leaf _ = omega (arith, least_zero)
  least-is-least (node l a r) b =
      omega (arith, least-node (height l) (height r) b.2 b.3, least-is-least l b.0, least-is-least r b.1)

  -- A tree, balanced or not, has fewer entries than 2 to the power of its height.
  pub size_below : (t : Tree A) → size t < 2 ^ height t
  unfolding height size
  size_below leaf = omega arith
  size_below (node l a r) =
      omega (
        arith,
        size_below l,
        size_below r,
        two-pow-succ (max (height l) (height r)),
        pow_mono (le-max_left (height l) (height r)),
        pow_mono (le-max_right (height l) (height r)),
      )

  -- ---- trees, by their entries

  empty : Shape A 0 0
  unfolding height size Balanced
  empty = record { tree = leaf; balanced = tt; has-size = refl; has-height = refl }

  -- a node over two balanced trees, the left one as high as the right one or higher by one
  join : A → {m n g h : ℕ} → Shape A m g → Shape A n h → h ≤ g → g ≤ suc h → {s : ℕ} → s ≡ suc (m + n) → Shape A s (suc g)
  unfolding height size Balanced
  join a l r low near e =
      record {
        tree = node l.tree a r.tree;
        balanced = (l.balanced, r.balanced, omega arith, omega arith);
        has-size = omega arith;
        has-height = omega arith;
      }

  -- A balanced tree for each number of entries from `least h` to 2 ^ h - 1. While the left side can hold the rest, the
  -- right side is lower by one and least; else both sides are as high, and `upper` is what the left side leaves.
  pub shape-built : A → (h n : ℕ) → least h ≤ n → n < 2 ^ h → Shape A n h
  shape-built a zero n enough below = let e : n ≡ 0 = omega arith in rw e empty
  shape-built a (suc zero) n enough below = join a empty empty (omega arith) (omega arith) (omega (arith, least-one))
  shape-built a (suc (suc h)) n enough below =
      let step = least_step h in
      let power = two-pow-succ h in
      let powers = two-pow-succ (suc h) in
      let small = least-below-power h in
      let under = least-under-power h in
      let upper : ℕ = max (least (suc h)) (n - 2 ^ suc h) in
      by_cases (dec_le n (least h + 2 ^ suc h))
      (λ fits.
      join a
      (shape-built a (suc h) (n - suc (least h)) (omega arith) (omega arith))
      (shape-built a h (least h) (omega arith) under)
      (omega arith)
      (omega arith)
      (omega arith))
      (λ more.
      join a
      (shape-built a (suc h) (n - suc upper) (omega arith) (omega arith))
      (shape-built a (suc h) upper (omega arith) (omega arith))
      (omega arith)
      (omega arith)
      (omega arith))

  -- A balanced tree of height h with exactly `least h` entries.
  pub least-met : A → (h : ℕ) → Shape A (least h) h
  least-met a h = shape-built a h (least h) (omega arith) (least-under-power h)

  -- ---- the test is exact

  pub shape-shaped : {n h : ℕ} → Shape A n h → shaped n h ≡ true
  shape-shaped s =
      subst₂ (λ (m g : ℕ). shaped m g ≡ true) s.has-size s.has-height
      (bounds-shaped (size s.tree) (height s.tree) (least-is-least s.tree s.balanced) (size_below s.tree))

  -- The test passes exactly where a balanced tree with so many entries and of that height exists.
  pub shaped-exact : A → (n h : ℕ) → (shaped n h ≡ true) ↔ Shape A n h
  shaped-exact a n h =
      (λ e. let bounds = shaped-bounds n h e in shape-built a h n bounds.0 bounds.1, shape-shaped)
