-- Bounds of the heights in nodes: what the code needs so that no height goes beyond a byte.
use Rattle.std.specs.Prelude.{ℕ, ◌≤◌, List, [], ◌∷◌}
use Rattle.method_spec.specs.Node.{Node}

module _ {T : Type 0} (most : ℕ) where
  -- Both links of a node are at most so high.
  abbrev pub Low : Node T → Type 0
  Low n = (n.left.height ≤ most) × (n.right.height ≤ most)

  abbrev pub Lows : List (Node T) → Type 0
  Lows [] = Unit
  Lows (n ∷ ns) = Low n × Lows ns
