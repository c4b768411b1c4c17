-- Worked examples of the definitions, by computation.
use Rattle.std.specs.Prelude.{ℕ, ◌≡◌, refl, Bool, true, false, List, [], ◌∷◌, map}
use Rattle.std.proofs.Common.{arith}
use Rattle.balance_spec.specs.Tree.{Tree, leaf, node, height, size, Balanced}
use Rattle.balance_spec.specs.Least.{least}
use Rattle.balance_spec.specs.Shape.{shaped}
use Rattle.balance_spec.specs.Greatest.{tallest, greatest}

least-entries : map least (0 ∷ 1 ∷ 2 ∷ 3 ∷ 4 ∷ 5 ∷ 6 ∷ 22 ∷ 23 ∷ []) ≡ 0 ∷ 1 ∷ 2 ∷ 4 ∷ 7 ∷ 12 ∷ 20 ∷ 46367 ∷ 75024 ∷ []
unfolding least
least-entries = refl

-- which of the heights 0 to 5 a balanced tree with n entries can have
heights : ℕ → List Bool
heights n = map (shaped n) (0 ∷ 1 ∷ 2 ∷ 3 ∷ 4 ∷ 5 ∷ [])

no-entry : heights 0 ≡ true ∷ false ∷ false ∷ false ∷ false ∷ false ∷ []
unfolding heights shaped least
no-entry = refl

one_entry : heights 1 ≡ false ∷ true ∷ false ∷ false ∷ false ∷ false ∷ []
unfolding heights shaped least
one_entry = refl

three-entries : heights 3 ≡ false ∷ false ∷ true ∷ false ∷ false ∷ false ∷ []
unfolding heights shaped least
three-entries = refl

four-entries : heights 4 ≡ false ∷ false ∷ false ∷ true ∷ false ∷ false ∷ []
unfolding heights shaped least
four-entries = refl

seven-entries : heights 7 ≡ false ∷ false ∷ false ∷ true ∷ true ∷ false ∷ []
unfolding heights shaped least
seven-entries = refl

-- document 01's heights for the sizes 1 to 8, and those of the sizes 9 to 12
greatest-heights : map greatest (1 ∷ 2 ∷ 3 ∷ 4 ∷ 5 ∷ 6 ∷ 7 ∷ 8 ∷ 9 ∷ 10 ∷ 11 ∷ 12 ∷ []) ≡ 1 ∷ 2 ∷ 4 ∷ 5 ∷ 6 ∷ 8 ∷ 9 ∷ 11 ∷ 12 ∷ 14 ∷ 15 ∷ 16 ∷ []
unfolding least shaped tallest greatest
greatest-heights = refl

-- a least balanced tree of height 3
four : Tree ℕ
four = node (node (node leaf 1 leaf) 2 leaf) 3 (node leaf 4 leaf)

four-balanced : Balanced four
unfolding four height Balanced
four-balanced = omega arith

four-height : height four ≡ 3
unfolding four height
four-height = refl

four-size : size four ≡ 4
unfolding four size
four-size = refl
