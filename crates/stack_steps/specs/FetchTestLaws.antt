-- The stack's fetch test, test by test.
use Rattle.std.specs.Prelude.{ℕ, suc, ◌≡◌, false, eqb}
use borrow.Author.Tests.{eq-eqb, ne_eqb}
use Rattle.method_spec.specs.Node.{Node}
use Rattle.method_spec.specs.Prog.{Want}
use Rattle.method_spec.specs.Stack.{stack_test}

module _ (w : Want ℕ) (n : Node ℕ) where
  pub right-link : (n.right.height ≡ 0 → ⊥) → stack_test w n ≡ false
  unfolding stack_test
  right-link e = rw (ne_eqb n.right.height 0 e)

  pub last-key : n.right.height ≡ 0 → n.key ≡ 1 → stack_test w n ≡ eqb n.left.height 0
  unfolding stack_test
  last-key d e = rw (eq-eqb n.right.height 0 d, eq-eqb n.key 1 e)

  pub not-one-high : n.right.height ≡ 0 → (n.key ≡ 1 → ⊥) → (n.left.height ≡ 1 → ⊥) → stack_test w n ≡ false
  unfolding stack_test
  not-one-high d e f = rw (eq-eqb n.right.height 0 d, ne_eqb n.key 1 e, ne_eqb n.left.height 1 f)

  pub key-before : n.right.height ≡ 0 → (n.key ≡ 1 → ⊥) → n.left.height ≡ 1 → stack_test w n ≡ eqb (suc n.left.key) n.key
  unfolding stack_test
  key-before d e f = rw (eq-eqb n.right.height 0 d, ne_eqb n.key 1 e, eq-eqb n.left.height 1 f)
