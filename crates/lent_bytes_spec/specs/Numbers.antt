-- Numbers of a tape or of a trace in bytes: "two bytes a number".
use Rattle.std.specs.Prelude.{ℕ, zero, suc, ◌/◌, List, [], ◌∷◌, ◌++◌, length, take, drop}
use Rattle.slot_spec.specs.LittleEndian.{value, bytes}

abbrev pub number_length : ℕ
number_length = 2

-- So many numbers, and all that bytes hold.
unfoldable pub numbers_in : ℕ → List ℕ → List ℕ
numbers_in zero bs = []
numbers_in (suc n) bs = value (take number_length bs) ∷ numbers_in n (drop number_length bs)

abbrev pub numbers_of : List ℕ → List ℕ
numbers_of bs = numbers_in (length bs / number_length) bs

-- The bytes of numbers.
unfoldable pub numbers_bytes : List ℕ → List ℕ
numbers_bytes [] = []
numbers_bytes (n ∷ ns) = bytes number_length n ++ numbers_bytes ns
