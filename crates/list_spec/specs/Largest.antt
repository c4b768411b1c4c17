-- The largest of some numbers.
use Rattle.std.specs.Prelude.{ℕ, max, List, [], ◌∷◌}

-- 0 if there are none.
unfoldable pub largest : List ℕ → ℕ
largest [] = 0
largest (n ∷ ns) = max n (largest ns)
