-- Laws of the largest of some numbers: it is one of them, and none is larger.
use Rattle.std.specs.Prelude.{◌≡◌, refl, Bool, true, false, ℕ, max, ◌≤◌, ltb}
use mathlib.Core.List.Memᴰ
use mathlib.Core.List.{List, [], ◌∷◌, ◌++◌, Memᴰ}
use Rattle.std.proofs.Common.{arith, ltb-true, ltb-false}
use Rattle.list_spec.specs.Largest.{largest}
use Rattle.list_spec.specs.Distinct.{All}
use Rattle.list_laws.specs.DistinctLaws.{all_nil, all_cons}

pub largest-append : (ns ms : List ℕ) → largest (ns ++ ms) ≡ max (largest ns) (largest ms)
unfolding largest
largest-append [] ms = omega arith
largest-append (n ∷ ns) ms = omega (arith, largest-append ns ms)

-- If the largest is at most so many, so are all; and the other way round.
pub largest-all : (most : ℕ) (ns : List ℕ) → largest ns ≤ most → All (λ (m : ℕ). m ≤ most) ns
unfolding largest
largest-all most [] h = all_nil (λ (m : ℕ). m ≤ most)
largest-all most (n ∷ ns) h = all_cons (omega arith) (largest-all most ns (omega arith))

pub largest-bound : (most : ℕ) (ns : List ℕ) → All (λ (m : ℕ). m ≤ most) ns → largest ns ≤ most
unfolding largest
largest-bound most [] h = omega arith
largest-bound most (n ∷ ns) h =
    let first = h n (Memᴰ.head refl) in
    let rest = largest-bound most ns (λ m i. h m (Memᴰ.tail i)) in
    omega arith

-- It is one of them, where there are any.
pub largest-among : (n : ℕ) (ns : List ℕ) → Memᴰ (largest (n ∷ ns)) (n ∷ ns)
unfolding largest
largest-among n [] = let e : max n 0 ≡ n = omega arith in Memᴰ.head e
largest-among n (m ∷ ns) = go (largest-among m ns) (ltb n (largest (m ∷ ns))) refl
  where
    go : Memᴰ (largest (m ∷ ns)) (m ∷ ns) → (b : Bool) → ltb n (largest (m ∷ ns)) ≡ b
        → Memᴰ (largest (n ∷ m ∷ ns)) (n ∷ m ∷ ns)
    go i true e =
        let less = ltb-true n (largest (m ∷ ns)) e in
        let same : largest (n ∷ m ∷ ns) ≡ largest (m ∷ ns) = omega arith in
        Memᴰ.tail (Memᴰ.cast same i)
    go i false e =
        let more = ltb-false n (largest (m ∷ ns)) e in
        let same : largest (n ∷ m ∷ ns) ≡ n = omega arith in
        Memᴰ.head same
