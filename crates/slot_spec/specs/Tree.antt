-- The bucket tree: bucket numbers, paths and places in the lent bytes. Size is a parameter throughout.
use Rattle.std.specs.Prelude.{ℕ, zero, suc, ◌+◌, ◌-◌, ◌*◌, ◌/◌, ◌^◌, Bool, false, ◌||◌, List, [], ◌∷◌, eqb}

-- Leaf t of a tree of size k is bucket 2^k + t.
abbrev pub leaf_bucket : ℕ → ℕ → ℕ
leaf_bucket k t = 2 ^ k + t

-- A bucket's number halved n times, each on the way: from b up.
unfoldable pub halvings : ℕ → ℕ → List ℕ
halvings zero b = b ∷ []
halvings (suc n) b = b ∷ halvings n (b / 2)

-- The path of leaf t: its bucket and each halving of the number down to 1.
abbrev pub path : ℕ → ℕ → List ℕ
path k t = halvings k (leaf_bucket k t)

-- The path's bucket at a level, counted from the leaf up.
unfoldable pub halved : ℕ → ℕ → ℕ
halved zero b = b
halved (suc n) b = halved n (b / 2)

abbrev pub path_bucket : ℕ → ℕ → ℕ → ℕ
path_bucket k t level = halved level (leaf_bucket k t)

unfoldable pub among : ℕ → List ℕ → Bool
among b [] = false
among b (c ∷ cs) = eqb b c || among b cs

-- A tag's path passes a bucket.
abbrev pub passes : ℕ → ℕ → ℕ → Bool
passes k tag b = among b (path k tag)

abbrev pub slot_length : ℕ
slot_length = 32

-- A bucket has four slots.
abbrev pub bucket_length : ℕ
bucket_length = 4 * slot_length

-- The byte where bucket b starts.
abbrev pub bucket_start : ℕ → ℕ
bucket_start b = bucket_length * (b - 1)

abbrev pub tree_length : ℕ → ℕ
tree_length k = bucket_length * (2 ^ (k + 1) - 1)
