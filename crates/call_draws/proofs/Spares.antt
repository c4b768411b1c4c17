-- The spare draws by the number of a structure: those of map, stack and heap, and of every other number.
use mathlib.Core.Path.{◌≡◌, refl}
use mathlib.Core.Bool.{Bool, true, false}
use Prim.Native.Nat.{ℕ, ◌<◌, ◌≤◌}
use native.Mathlib.Omega.{arith}
use lib.Dec.{eqb}
use borrow.Author.Tests.{eqb-false, ne_eqb}
use Rattle.state_laws.specs.FetchingLaws.{spare-map, spare-stack, spare-heap, spare-queue}
use Rattle.state_spec.specs.Fetching.{spare_of}

pub one_spare : (n : ℕ) → 1 ≤ n → n ≤ 3 → spare_of n ≡ 1
one_spare n low high = go (eqb n 1) refl (eqb n 2) refl (eqb n 3) refl
  where
    go : (a : Bool) → eqb n 1 ≡ a → (b : Bool) → eqb n 2 ≡ b → (d : Bool) → eqb n 3 ≡ d → spare_of n ≡ 1
    go true x b y d z = rw (x, spare-map)
    go false x true y d z = rw (x, y, spare-stack)
    go false x false y true z = rw (x, y, z, spare-heap)
    go false x false y false z = absurd (omega (arith, eqb-false n 1 x, eqb-false n 2 y, eqb-false n 3 z))

pub none_spare : spare_of 0 ≡ 2
none_spare = spare-queue

pub two_spare : (n : ℕ) → 3 < n → spare_of n ≡ 2
two_spare n high = rw (ne_eqb n 1 (λ e. omega arith), ne_eqb n 2 (λ e. omega arith), ne_eqb n 3 (λ e. omega arith), spare-queue)
