-- The least number of entries grows with the height, strictly, and lies between powers of two.
use Rattle.std.specs.Prelude.{ℕ, zero, suc, ◌+◌, ◌^◌, ◌≤◌, ◌<◌, max, ◌≡◌, refl}
use Rattle.std.proofs.Math.Logic.{by_cases}
use Rattle.std.proofs.Math.Nat.{two-pow-succ}
use Rattle.std.proofs.Common.{le_refl, le_trans, arith}
use Rattle.std.proofs.Math.Decide.{dec_le, le_ind}
use Rattle.balance_spec.specs.Least.{least}

pub least_zero : least 0 ≡ 0
unfolding least
least_zero = refl

pub least-one : least 1 ≡ 1
unfolding least
least-one = refl

pub least_step : (h : ℕ) → least (suc (suc h)) ≡ suc (least (suc h) + least h)
unfolding least
least_step h = refl

-- ---- order

pub least-grows : (h : ℕ) → least h < least (suc h)
least-grows zero = omega (arith, least_zero, least-one)
least-grows (suc h) = omega (arith, least_step h)

pub least-mono : {g h : ℕ} → g ≤ h → least g ≤ least h
least-mono {g} {h} le = le_ind (λ m. least g ≤ least m) (le_refl (least g)) (λ m _ ih. omega (arith, least-grows m)) h le

pub least-strict : {g h : ℕ} → g < h → least g < least h
least-strict {g} lt = le_trans (least-grows g) (least-mono lt)

-- ---- a node over two trees whose heights differ by at most one

-- the left one is as high, or higher
least-higher : (a b : ℕ) → b ≤ a → a ≤ suc b → least (suc a) ≤ suc (least a + least b)
least-higher zero b le _ = omega (arith, least_zero, least-one)
least-higher (suc a) b _ near = omega (arith, least_step a, least-mono {g = a} {h = b} (omega arith))

pub least-node : (a b : ℕ) → a ≤ suc b → b ≤ suc a → least (suc (max a b)) ≤ suc (least a + least b)
least-node a b ab ba =
    by_cases (dec_le b a)
    (λ le. let e : max a b ≡ a = omega arith in rw e (least-higher a b le ab))
    (λ more. let e : max a b ≡ b = omega arith in rw e (omega (arith, least-higher b a (omega arith) ba)))

-- ---- powers of two

-- a least tree is no larger than a perfect one that is lower by one, with an entry more
pub least-below-power : (h : ℕ) → least (suc h) ≤ 2 ^ h
least-below-power zero = omega (arith, least-one)
least-below-power (suc h) = omega (arith, least_step h, least-grows h, least-below-power h, two-pow-succ h)

pub least-under-power : (h : ℕ) → least h < 2 ^ h
least-under-power h = le_trans (least-grows h) (least-below-power h)

-- two more of height double the least number of entries
pub power-below-least : (k : ℕ) → 2 ^ k ≤ least (suc (k + k))
power-below-least zero = omega (arith, least-one)
power-below-least (suc k) =
    let e : suc (suc k + suc k) ≡ suc (suc (suc (k + k))) = omega arith in
    rw e (omega (arith, two-pow-succ k, power-below-least k, least_step (suc (k + k)), least-grows (suc (k + k))))

-- no balanced tree with fewer than 2 ^ k entries is higher than k + k
pub height-below-twice : (k h : ℕ) → least h < 2 ^ k → h ≤ k + k
height-below-twice k h under =
    by_cases (dec_le h (k + k)) (λ le. le) (λ more. absurd (omega (arith, power-below-least k, least-mono {g = suc (k + k)} {h = h} (omega arith))))
