-- With how many entries and of what height there are balanced trees.
use Rattle.std.specs.Prelude.{ℕ, ◌^◌, ◌≡◌, Bool, ◌&&◌, leb, ltb}
use Rattle.balance_spec.specs.Tree.{Tree, height, size, Balanced}
use Rattle.balance_spec.specs.Least.{least}

-- A balanced tree with n entries and height h.
pub record Shape (A : Type 0) (n h : ℕ) : Type 0 where
  pub tree : Tree A
  pub balanced : Balanced tree
  pub has-size : size tree ≡ n
  pub has-height : height tree ≡ h

-- The test that a balanced tree with n entries and height h exists.
unfoldable pub shaped : ℕ → ℕ → Bool
shaped n h = leb (least h) n && ltb n (2 ^ h)
