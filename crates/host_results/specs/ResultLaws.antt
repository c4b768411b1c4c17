-- The result bytes, stored one after the other.
use Rattle.std.specs.Prelude.{◌≡◌, List, [], ◌∷◌, ℕ, ◌+◌, ◌%◌, ◌≤◌, ◌<◌, length, set, drop}
use Rattle.std.proofs.Common.{◌∙◌, arith, drop_of_length-le, length-set}
use Rattle.std.proofs.lemmas.List.Edits.{sets, sets-eq}
use Rattle.slot_spec.specs.LittleEndian.{bytes}
use Rattle.slot_spec.specs.Layout.{pack}
use Rattle.host_spec.specs.declared.Value.{Value}
use Rattle.host_spec.specs.Result.{result_length, result_bytes}

pub result-stored : (s : List ℕ) (v : Value) (leaves peak : ℕ) → length s ≡ result_length → v.has < 256
    → sets (set (set (set (set s 0 v.has) 1 (leaves % 256)) 2 (peak % 256)) 3 0) 4 (bytes 8 v.value) ≡ result_bytes v leaves peak
unfolding result_bytes pack bytes
result-stored [] v leaves peak sized low = let z : ⊥ = omega (arith, sized) in absurd z
result-stored (a ∷ []) v leaves peak sized low = let z : ⊥ = omega (arith, sized) in absurd z
result-stored (a ∷ b ∷ []) v leaves peak sized low = let z : ⊥ = omega (arith, sized) in absurd z
result-stored (a ∷ b ∷ c ∷ []) v leaves peak sized low = let z : ⊥ = omega (arith, sized) in absurd z
result-stored (a ∷ b ∷ c ∷ d ∷ rest) v leaves peak sized low =
    let e : v.has % 256 ≡ v.has = omega (arith, low) in
    let none : drop 8 rest ≡ [] = drop_of_length-le rest {i = 8} (omega (arith, sized)) in
    sets-eq (bytes 8 v.value) (v.has ∷ leaves % 256 ∷ peak % 256 ∷ 0 ∷ rest) 4 (omega (arith, sized)) ∙ rw (none, e)

-- The four bytes before the value leave the length.
pub four_same : (s : List ℕ) (a b c d : ℕ) → length (set (set (set (set s 0 a) 1 b) 2 c) 3 d) ≡ length s
four_same s a b c d = simp length-set

pub four-more : (s : List ℕ) (a b c d : ℕ) → length s ≡ result_length → 4 + 8 ≤ length (set (set (set (set s 0 a) 1 b) 2 c) 3 d)
four-more s a b c d sized = omega (arith, sized, four_same s a b c d)
