-- The heap's fetch test, test by test.
use Rattle.std.specs.Prelude.{ℕ, ◌+◌, ◌*◌, ◌≤◌, ◌<◌, ◌≡◌, true, false, eqb}
use Rattle.std.proofs.Math.Numerals.{add-one}
use Rattle.std.proofs.Common.{le-leb, eq-eqb, ne_eqb}
use Rattle.std.proofs.lemmas.Bool.{lt-leb}
use Rattle.method_spec.specs.Node.{Link, Node}
use Rattle.method_spec.specs.Prog.{Want}
use Rattle.method_spec.specs.Heap.{heap_link_good, heap_test}

module _ (entries i : ℕ) (l : Link ℕ) where
  pub not-one-high : i ≤ entries → (l.height ≡ 1 → ⊥) → heap_link_good entries i l ≡ false
  not-one-high h e = rw (le-leb i entries h, ne_eqb l.height 1 e)

  pub to-position : i ≤ entries → l.height ≡ 1 → heap_link_good entries i l ≡ eqb l.key i
  to-position h e = rw (le-leb i entries h, eq-eqb l.height 1 e)

  pub beyond : entries < i → heap_link_good entries i l ≡ eqb l.height 0
  beyond h = rw (lt-leb i entries h)

module _ (entries : ℕ) (w : Want ℕ) (n : Node ℕ) where
  pub left-link-bad : heap_link_good entries (2 * n.key) n.left ≡ false → heap_test entries w n ≡ false
  unfolding heap_test
  left-link-bad e = rw e

  pub left-link-good : heap_link_good entries (2 * n.key) n.left ≡ true → heap_test entries w n ≡ heap_link_good entries (2 * n.key + 1) n.right
  unfolding heap_test
  left-link-good e = rw (e, add-one (2 * n.key))
