-- Path numbers in one shift (document 02, change 4), and the levels of the bucket tree, counted from the leaves up.
use Rattle.std.specs.Prelude.{List, [], ◌∷◌, ℕ, zero, suc, ◌-◌, ◌*◌, ◌/◌, ◌^◌, ◌≤◌, ◌<◌}
use Rattle.std.specs.Int.Count.{count_leading_zeros}
use Rattle.slot_spec.specs.Tree.{leaf_bucket}

-- The bucket of leaf t's path at a level: in one shift.
abbrev pub shifted_bucket : (size leaf level : ℕ) → ℕ
shifted_bucket k t level = leaf_bucket k t / 2 ^ level

-- Levels from i on, n of them.
unfoldable pub levels_from : (n i : ℕ) → List ℕ
levels_from zero i = []
levels_from (suc n) i = i ∷ levels_from n (suc i)

-- The levels of a tree of size k, from the leaves up to the root.
abbrev pub levels : (size : ℕ) → List ℕ
levels k = levels_from (suc k) 0

-- A bucket number of level i of a tree of size k.
abbrev pub AtLevel : (size level bucket : ℕ) → Type 0
AtLevel k i b = (2 ^ (k - i) ≤ b) × (b < 2 * 2 ^ (k - i))

-- How far from the root a bucket is: the length of its number, less one. Of 0 it says nothing.
abbrev pub depth_of : (bucket : ℕ) → ℕ
depth_of b = 63 - count_leading_zeros 64 b
