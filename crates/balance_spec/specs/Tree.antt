-- Binary trees with an entry at each node, their height and size, and balance: the side heights of every node
-- differ by at most one.
use Rattle.std.specs.Prelude.{ℕ, suc, ◌+◌, ◌≤◌, max}

pub data Tree (A : Type 0) : Type 0 where
  leaf : Tree A
  node : Tree A → A → Tree A → Tree A

module _ {A : Type 0} where
  unfoldable pub height : Tree A → ℕ
  height leaf = 0
  height (node l a r) = suc (max (height l) (height r))

  unfoldable pub size : Tree A → ℕ
  size leaf = 0
  size (node l a r) = suc (size l + size r)

  unfoldable pub Balanced : Tree A → Type 0
  Balanced leaf = Unit
  Balanced (node l a r) = Balanced l × Balanced r × (height l ≤ suc (height r)) × (height r ≤ suc (height l))
