-- The queue's fetch test, test by test.
use Rattle.std.specs.Prelude.{ℕ, suc, ◌≡◌, false, eqb}
use Rattle.std.proofs.Math.Bool.{and-false, and-true}
use borrow.Author.Tests.{eq-eqb, ne_eqb}
use Rattle.method_spec.specs.Node.{Node}
use Rattle.method_spec.specs.Prog.{Want}
use Rattle.method_spec.specs.Queue.{queue_test}

module _ (w : Want ℕ) (n : Node ℕ) where
  pub not-one-high : (n.left.height ≡ 1 → ⊥) → queue_test w n ≡ false
  unfolding queue_test
  not-one-high e = rw (ne_eqb n.left.height 1 e)

  pub right-link : n.left.height ≡ 1 → (n.right.height ≡ 0 → ⊥) → queue_test w n ≡ false
  unfolding queue_test
  right-link d e = rw (eq-eqb n.left.height 1 d, ne_eqb n.right.height 0 e, and-false (eqb n.left.key (suc n.key)))

  pub key-after : n.left.height ≡ 1 → n.right.height ≡ 0 → queue_test w n ≡ eqb n.left.key (suc n.key)
  unfolding queue_test
  key-after d e = rw (eq-eqb n.left.height 1 d, eq-eqb n.right.height 0 e, and-true (eqb n.left.key (suc n.key)))
