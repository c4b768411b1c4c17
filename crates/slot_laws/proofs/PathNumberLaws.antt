-- The shift against document 01's words: "leaf t is bucket 2^k + t. The path of t is that bucket and each halving of its number down
-- to 1." One statement each over size, leaf and level.
use Rattle.std.specs.Prelude.{◌≡◌, refl, true, false, ◌↔◌, ℕ, zero, suc, ◌+◌, ◌-◌, ◌*◌, ◌/◌, ◌^◌, ◌≤◌, ◌<◌, eqb}
use Rattle.std.proofs.Common.{sym, ◌∙◌, ap, le_refl, arith, pow_pos, pow_mono}
use Rattle.std.proofs.Math.Path.{fun_ext}
use mathlib.Core.List.{List, ◌∷◌, map, Memᴰ}
use Rattle.std.proofs.Math.Nat.{div-eq_of_lt-le}
use Rattle.std.proofs.lemmas.Nat.{leading_top}
use Rattle.slot_spec.specs.Tree.{leaf_bucket, halvings, halved, path, path_bucket, passes}
use Rattle.slot_laws.specs.TreeLaws.{halved_none, halved-last, halved-shift, among-less, among-zero, among-level, among-member, member-among}
use Rattle.slot_laws.specs.PathNumbers.{shifted_bucket, levels_from, levels, AtLevel, depth_of}

-- ---- a path's bucket
-- It is the bucket that the halving reaches.
pub shift-reaches : (k t level : ℕ) → shifted_bucket k t level ≡ path_bucket k t level
shift-reaches k t level = sym (halved-shift level (leaf_bucket k t))

-- ---- the whole path
halved-levels : (n i b : ℕ) → map (λ (j : ℕ). halved j b) (levels_from (suc n) i) ≡ halvings n (halved i b)
unfolding levels_from halvings
halved-levels zero i b = refl
halved-levels (suc n) i b = ap (λ (bs : List ℕ). halved i b ∷ bs) (halved-levels n (suc i) b ∙ ap (halvings n) (halved-last i b))

-- The list of what the halving reaches at each level, from the leaf up, is the path ..
pub levels-are-path : (k t : ℕ) → map (path_bucket k t) (levels k) ≡ path k t
levels-are-path k t = halved-levels k 0 (leaf_bucket k t) ∙ ap (halvings k) (halved_none (leaf_bucket k t))

-- .. and so is the list of the shifted numbers ..
pub shifts-are-path : (k t : ℕ) → map (shifted_bucket k t) (levels k) ≡ path k t
shifts-are-path k t = ap (λ (f : ℕ → ℕ). map f (levels k)) (fun_ext (shift-reaches k t)) ∙ levels-are-path k t

-- .. down to 1.
pub shift-to-root : (k t : ℕ) → t < 2 ^ k → shifted_bucket k t k ≡ 1
shift-to-root k t leaf = quotient (2 ^ k) t (pow_pos k) leaf
  where
    quotient : (m r : ℕ) → 0 < m → r < m → (m + r) / m ≡ 1
    quotient m r some less = div-eq_of_lt-le m (omega arith) (omega arith)

-- ---- whether a path passes a bucket
-- The test says exactly that the bucket is in the path's list.
pub passes-listed : (k t b : ℕ) → (passes k t b ≡ true) ↔ Memᴰ b (path k t)
passes-listed k t b = (among-member b (path k t), member-among b (path k t))

-- Of a level's buckets a path passes the one that the shift gives.
pub passes-at-level : (k t i b : ℕ) → t < 2 ^ k → i ≤ k → AtLevel k i b → passes k t b ≡ eqb b (shifted_bucket k t i)
passes-at-level k t i b leaf level at =
    let e : 2 ^ (i + (k - i)) ≡ 2 ^ k = ap (λ (n : ℕ). 2 ^ n) (omega arith) in
    among-level i (k - i) k (leaf_bucket k t) b level (omega arith) (omega arith) at.0 at.1
    ∙ ap (eqb b) (halved-shift i (leaf_bucket k t))

-- Every path passes the root, and none passes bucket 0.
pub root-passes : (k t : ℕ) → t < 2 ^ k → passes k t 1 ≡ true
root-passes k t leaf =
    let e : k - k ≡ 0 = omega arith in
    passes-at-level k t k 1 leaf (le_refl k) (rw e (omega arith, omega arith)) ∙ ap (eqb 1) (shift-to-root k t leaf)

pub passes_none : (k t : ℕ) → passes k t 0 ≡ false
passes_none k t = among-zero k (leaf_bucket k t) (omega arith)

module _ (k t b : ℕ) (leaf : t < 2 ^ k) (some : 0 < b) (word : b < 2 ^ 64) where
  lengthened : (2 ^ depth_of b ≤ b) × (b < 2 * 2 ^ depth_of b)
  lengthened =
      let s = leading_top 64 b some word in
      let e : s.0 ≡ depth_of b = (let v = s.1 in omega arith) in
      (rw e at s.2, (let v : b < 2 ^ suc (depth_of b) = rw e at s.3 in omega arith))

  -- The number's length is the one power of two that it is at least and half of.
  pub depth-is : (d : ℕ) → 2 ^ d ≤ b → b < 2 * 2 ^ d → d ≡ depth_of b
  depth-is d low high =
      let l = lengthened in
      let not-less : d < depth_of b → ⊥ = λ h. let m : 2 ^ suc d ≤ 2 ^ depth_of b = pow_mono {i = suc d} {j = depth_of b} h in omega arith in
      let not-more : depth_of b < d → ⊥ = λ h. let m : 2 ^ suc (depth_of b) ≤ 2 ^ d = pow_mono {i = suc (depth_of b)} {j = d} h in omega arith in
      omega (arith, not-less, not-more)

  -- None passes a bucket that is further from the root than the leaves.
  pub passes-beyond : k < depth_of b → passes k t b ≡ false
  passes-beyond h =
      let m : 2 ^ suc k ≤ 2 ^ depth_of b = pow_mono {i = suc k} {j = depth_of b} h in
      let l = lengthened in
      among-less k (leaf_bucket k t) b (omega arith)

  -- For the others one shift decides.
  pub passes-by-shift : depth_of b ≤ k → passes k t b ≡ eqb b (shifted_bucket k t (k - depth_of b))
  passes-by-shift h =
      let e : k - (k - depth_of b) ≡ depth_of b = omega arith in
      passes-at-level k t (k - depth_of b) b leaf (omega arith) (rw e (lengthened))
