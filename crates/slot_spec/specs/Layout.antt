-- Numbers laid out one after the other in bytes, each little-endian in its own width.
use Rattle.std.specs.Prelude.{ℕ, ◌+◌, ◌^◌, ◌<◌, List, [], ◌∷◌, ◌++◌, take, drop}
use Rattle.slot_spec.specs.LittleEndian.{value, bytes}

-- The numbers of the given widths that bytes hold.
unfoldable pub fields : List ℕ → List ℕ → List ℕ
fields [] bs = []
fields (w ∷ ws) bs = value (take w bs) ∷ fields ws (drop w bs)

-- Numbers of the given widths as bytes.
unfoldable pub pack : List ℕ → List ℕ → List ℕ
pack [] vs = []
pack (w ∷ ws) [] = bytes w 0 ++ pack ws []
pack (w ∷ ws) (v ∷ vs) = bytes w v ++ pack ws vs

unfoldable pub total : List ℕ → ℕ
total [] = 0
total (w ∷ ws) = w + total ws

-- As many numbers as widths, each within its own.
unfoldable pub Fit : List ℕ → List ℕ → Type 0
Fit [] [] = Unit
Fit [] (v ∷ vs) = ⊥
Fit (w ∷ ws) [] = ⊥
Fit (w ∷ ws) (v ∷ vs) = (v < 256 ^ w) × Fit ws vs
