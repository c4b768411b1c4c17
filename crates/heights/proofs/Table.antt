-- The rule of a constant table, for all of its places at once: antt computes the list of the rule's values and compares
-- it with the whole table where `value-at` is cited for the table's entry.
-- Assumes nothing.
use Prim.Native.Nat.{ℕ, zero, suc, ◌+◌, ◌<◌}
use mathlib.Core.Path.{◌≡◌, ap}
use mathlib.Core.List.{List, [], ◌∷◌}
use native.Mathlib.Omega.{arith}
use lib.ListN.{get_or}

-- the values of a rule at n arguments, from i on
abbrev pub values : (ℕ → ℕ) → ℕ → ℕ → List ℕ
values rule i zero = []
values rule i (suc n) = rule i ∷ values rule (suc i) n

pub value-at : (rule : ℕ → ℕ) (i n k m : ℕ) → k < n → m ≡ i + k → get_or (values rule i n) k 0 ≡ rule m
value-at rule i zero k m inside e = absurd (omega arith)
value-at rule i (suc n) zero m inside e = let here : i ≡ m = omega arith in ap rule here
value-at rule i (suc n) (suc k) m inside e = value-at rule (suc i) n k m (omega arith) (omega arith)
