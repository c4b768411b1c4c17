-- The map's fetch test, test by test.
use Rattle.std.specs.Prelude.{ℕ, ◌≡◌, true, false}
use borrow.Author.Tests.{eq-eqb, ne_eqb}
use Rattle.method_spec.specs.Node.{Node, height_of}
use Rattle.method_spec.specs.Prog.{Want}
use Rattle.method_spec.specs.Map.{between, tall, map_test}

module _ (w : Want ℕ) (n : Node ℕ) where
  pub tall-left : tall true n ≡ true → map_test w n ≡ false
  unfolding map_test
  tall-left e = rw e

  pub tall-right : tall true n ≡ false → tall false n ≡ true → map_test w n ≡ false
  unfolding map_test
  tall-right d e = rw (d, e)

  pub other-height : tall true n ≡ false → tall false n ≡ false → (height_of n ≡ w.link.height → ⊥) → map_test w n ≡ false
  unfolding map_test
  other-height d e f = rw (d, e, ne_eqb (height_of n) w.link.height f)

  pub same-height : tall true n ≡ false → tall false n ≡ false → height_of n ≡ w.link.height
      → map_test w n ≡ between w.low w.high n.key
  unfolding map_test
  same-height d e f = rw (d, e, eq-eqb (height_of n) w.link.height f)
