-- The buckets of a path, level by level: their numbers are in the tree, each of its level.
use Rattle.std.specs.Prelude.{◌≡◌, ℕ, ◌+◌, ◌-◌, ◌*◌, ◌^◌, ◌≤◌, ◌<◌, [], ◌∷◌, drop}
use Rattle.std.proofs.Common.{sym, ◌∙◌, ap, le_trans, le-div_iff_mul-le, div-lt_iff_lt-mul, add-one, arith, drop_of_length-le, pow-add, pow_pos, pow_mono, drop-cons}
use Rattle.slot_spec.specs.Tree.{leaf_bucket, path_bucket, path, bucket_start, bucket_length, tree_length}
use Rattle.slot_laws.specs.TreeLaws.{halved-le, halvings-length, halvings-at}
use Rattle.slot_laws.specs.PathNumbers.{AtLevel}
use Rattle.slot_laws.proofs.PathNumberLaws.{shift-reaches}

-- What is left of a path from a level on.
pub path-level : (k t i : ℕ) → i ≤ k → drop i (path k t) ≡ path_bucket k t i ∷ drop (i + 1) (path k t)
path-level k t i h =
    let n = halvings-length k (leaf_bucket k t) in
    drop-cons (path k t) i 0 (omega arith) ∙ rw (halvings-at k (leaf_bucket k t) i h, add-one i)

pub path-end : (k t : ℕ) → drop (k + 1) (path k t) ≡ []
path-end k t = let n = halvings-length k (leaf_bucket k t) in drop_of_length-le (path k t) {i = k + 1} (omega arith)

-- ---- its buckets
module _ (k t i : ℕ) (leaf : t < 2 ^ k) (level : i ≤ k) where
  -- Each is of its level: 2^k + t without its i last digits has k - i after the first.
  pub path-at-level : AtLevel k i (path_bucket k t i)
  path-at-level =
      let e : 2 ^ (k - i) * 2 ^ i ≡ 2 ^ k = sym (pow-add 2 (k - i) i) ∙ ap (λ (n : ℕ). 2 ^ n) (omega arith) in
      let p = pow_pos i in
      rw (← shift-reaches k t i) ((le-div_iff_mul-le p).1 (omega arith), (div-lt_iff_lt-mul p).1 (omega arith))

  pub bucket-positive : 1 ≤ path_bucket k t i
  bucket-positive = le_trans (pow_pos (k - i)) path-at-level.0

  pub bucket-below : path_bucket k t i < 2 ^ (k + 1)
  bucket-below = let h = halved-le i (leaf_bucket k t) in rw (add-one k) (omega arith)

  pub bucket-small : k ≤ 15 → path_bucket k t i < 2 ^ 17
  bucket-small s = let h = bucket-below in let p : 2 ^ (k + 1) ≤ 2 ^ 17 = pow_mono {i = k + 1} {j = 17} (omega arith) in omega arith

  -- They are in the tree.
  pub bucket-inside : bucket_start (path_bucket k t i) + bucket_length ≤ tree_length k
  bucket-inside = let h = bucket-below in let p = bucket-positive in omega arith
