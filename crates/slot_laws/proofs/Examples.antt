-- Worked path numbers.
use Rattle.std.specs.Prelude.{◌≡◌, refl, true, false, [], ◌∷◌, map}
use Rattle.std.proofs.Common.{arith}
use Rattle.std.specs.Int.Count.{count_leading_zeros}
use Rattle.slot_spec.specs.Tree.{halvings, among, passes}
use Rattle.slot_laws.specs.PathNumbers.{shifted_bucket, levels_from, levels, AtLevel, depth_of}

-- Document 01: size 2, leaf 2: buckets 6, 3, 1.
pub shifts-of-leaf : map (shifted_bucket 2 2) (levels 2) ≡ 6 ∷ 3 ∷ 1 ∷ []
unfolding levels_from
shifts-of-leaf = refl

-- Size 15, the last leaf: bucket 65,535; one level below the root bucket 3.
pub last_leaf : shifted_bucket 15 32767 0 ≡ 65535
last_leaf = refl

pub below-the-root : shifted_bucket 15 32767 14 ≡ 3
below-the-root = refl

-- Size 2: buckets 2 and 3 are of level 1.
pub level-one : AtLevel 2 1 2 × AtLevel 2 1 3
level-one = ((omega arith, omega arith), (omega arith, omega arith))

-- Bucket 6 is two halvings from the root.
pub depth-of-six : depth_of 6 ≡ 2
unfolding count_leading_zeros
depth-of-six = refl

-- The path 6, 3, 1 passes bucket 3, and neither 2 nor 0 nor 12.
pub passed : passes 2 2 3 ≡ true
unfolding halvings among
passed = refl

pub not-passed : (passes 2 2 2 ≡ false) × (passes 2 2 0 ≡ false) × (passes 2 2 12 ≡ false)
unfolding halvings among
not-passed = (refl, refl, refl)
