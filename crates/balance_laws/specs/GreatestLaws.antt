-- `greatest k` is the height of a balanced tree with 2 ^ k - 1 entries, and no balanced tree with so many entries or
-- fewer is higher.
use Rattle.std.specs.Prelude.{ℕ, zero, suc, ◌+◌, ◌-◌, ◌^◌, ◌≤◌, ◌<◌, ◌≡◌, refl, Bool, true, false, cond}
use Rattle.std.proofs.Math.Logic.{by_cases}
use Rattle.std.proofs.Common.{true≢false, arith, pow_pos, pow_mono}
use Rattle.std.proofs.Math.Decide.{dec_le}
use Rattle.balance_spec.specs.Tree.{Tree, height, size, Balanced}
use Rattle.balance_spec.specs.Least.{least}
use Rattle.balance_laws.specs.LeastLaws.{least-under-power, height-below-twice}
use Rattle.balance_spec.specs.Shape.{Shape, shaped}
use Rattle.balance_laws.specs.ShapeLaws.{shaped-bounds, bounds-shaped, shape-shaped, shaped-exact}
use Rattle.balance_spec.specs.Greatest.{tallest, greatest}

-- ---- the greatest height up to a top

tallest-step : (n top : ℕ) → tallest n (suc top) ≡ cond (shaped n (suc top)) (suc top) (tallest n top)
unfolding tallest
tallest-step n top = refl

-- where n entries allow some height up to the top, they allow `tallest`, and none above it
tallest-right : (n top h : ℕ) → h ≤ top → shaped n h ≡ true → (h ≤ tallest n top) × (shaped n (tallest n top) ≡ true)
unfolding tallest
tallest-right n zero h le e = let z : h ≡ 0 = omega arith in (omega arith, rw z at e)
tallest-right n (suc top) h le e =
    rw (tallest-step n top) (by-test (shaped n (suc top)) refl (tallest-right n top h))
  where
    by-test : (b : Bool) →
        shaped n (suc top) ≡ b →
        (h ≤ top → shaped n h ≡ true → (h ≤ tallest n top) × (shaped n (tallest n top) ≡ true)) →
        (h ≤ cond b (suc top) (tallest n top)) × (shaped n (cond b (suc top) (tallest n top)) ≡ true)
    by-test true test _ = (le, test)
    by-test false test lower =
        by_cases (dec_le h top) (λ low. lower low e) (λ high. let same : h ≡ suc top = omega arith in absurd (true≢false (cc)))

-- ---- the greatest height for 2 ^ k - 1 entries

-- the perfect tree of height k has 2 ^ k - 1 entries
perfect-shaped : (k : ℕ) → shaped (2 ^ k - 1) k ≡ true
perfect-shaped k = bounds-shaped (2 ^ k - 1) k (omega (arith, least-under-power k)) (omega (arith, pow_pos k))

perfect-right : (k : ℕ) → (k ≤ greatest k) × (shaped (2 ^ k - 1) (greatest k) ≡ true)
unfolding greatest
perfect-right k = tallest-right (2 ^ k - 1) (k + k) k (omega arith) (perfect-shaped k)

pub greatest-shaped : (k : ℕ) → shaped (2 ^ k - 1) (greatest k) ≡ true
greatest-shaped k = (perfect-right k).1

-- Fewer than 2 ^ k entries make no balanced tree higher than `greatest k`.
pub shaped-at-most-greatest : (k n h : ℕ) → shaped n h ≡ true → n < 2 ^ k → h ≤ greatest k
unfolding greatest
shaped-at-most-greatest k n h e few =
    by_cases (dec_le h k)
    (λ low. omega (arith, (perfect-right k).0))
    (λ high.
    let under : least h < 2 ^ k = omega (arith, shaped-bounds n h e) in
    let room : 2 ^ k ≤ 2 ^ h = pow_mono (omega arith) in
    (tallest-right (2 ^ k - 1) (k + k) h (height-below-twice k h under)
    (bounds-shaped (2 ^ k - 1) h (omega arith) (omega (arith, pow_pos k)))
    ).0)

pub greatest-mono : {j k : ℕ} → j ≤ k → greatest j ≤ greatest k
greatest-mono {j} {k} le =
    shaped-at-most-greatest k (2 ^ j - 1) (greatest j) (greatest-shaped j) (omega (arith, pow_pos j, pow_mono le))

module _ {A : Type 0} where
  -- Some balanced tree with 2 ^ k - 1 entries has the height `greatest k`.
  pub greatest-met : A → (k : ℕ) → Shape A (2 ^ k - 1) (greatest k)
  greatest-met a k = (shaped-exact a (2 ^ k - 1) (greatest k)).0 (greatest-shaped k)

  -- No balanced tree with at most 2 ^ k - 1 entries is higher.
  pub greatest-is-greatest : (k : ℕ) (t : Tree A) → Balanced t → size t < 2 ^ k → height t ≤ greatest k
  greatest-is-greatest k t b few =
      shaped-at-most-greatest k (size t) (height t)
      (shape-shaped {A = A} (record { tree = t; balanced = b; has-size = refl; has-height = refl })) few
