-- The greatest height of a balanced tree with 2 ^ k - 1 entries: document 01's H.
use Rattle.std.specs.Prelude.{ℕ, zero, suc, ◌+◌, ◌-◌, ◌^◌, cond}
use Rattle.balance_spec.specs.Shape.{shaped}

-- The greatest height up to `top` that a balanced tree with n entries has; 0 where it has none of 1 to `top`.
unfoldable pub tallest : ℕ → ℕ → ℕ
tallest n zero = 0
tallest n (suc top) =
    let lower = tallest n top in
    cond (shaped n (suc top)) (suc top) lower

-- No balanced tree with 2 ^ k - 1 entries is higher than k + k.
unfoldable pub greatest : ℕ → ℕ
greatest k = tallest (2 ^ k - 1) (k + k)
