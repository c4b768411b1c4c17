-- The greater of two counts.
use Rattle.std.proofs.Common.{◌≡◌, ℕ, max, rules}
use Rattle.std.specs.Ordering.{ord_max, nat_cmp}

pub greater_is : (a b : ℕ) → ord_max nat_cmp a b ≡ max a b
greater_is a b = search rules
