-- The least number of entries that a balanced tree of a given height has.
use Rattle.std.specs.Prelude.{ℕ, zero, suc, ◌+◌}

-- In height h: an entry at the root, and two least trees of heights h - 1 and h - 2.
unfoldable pub least : ℕ → ℕ
least zero = 0
least (suc zero) = 1
least (suc (suc h)) = suc (least (suc h) + least h)
