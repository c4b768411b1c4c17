-- `heights::shape_exists` meets its contract: the table is the list of the least numbers of entries of the heights
-- 0 to 22, and in a greater height the least number is more than a u16.
-- Assumes nothing.
use Prim.Native.Nat.{ℕ, ◌*◌, ◌%◌, ◌^◌, ◌≤◌, ◌<◌}
use mathlib.Core.Path.{◌≡◌, refl, sym, subst, ◌∙◌}
use native.Mathlib.Nat.{one-mul}
use native.Mathlib.Omega.{arith}
use lib.ListN.{get_or}
use lib.Pow.{shl_exact}
use borrow.Author.Tests.{ltb-true, leb-true, leb-false}
use Rattle.balance_spec.specs.Least.{least}
use Rattle.balance_laws.specs.LeastLaws.{least-mono}
use Rattle.balance_laws.specs.ShapeLaws.{shaped-few, shaped-enough}
use Rattle.heights.proofs.Table.{values, value-at}
use Rattle.heights.proofs.shape_exists.Goals as goal
use Rattle.heights.proofs.shape_exists.Goals.{then-h-lt23, else-h-lt23}

-- the table's entry at h
entry : (h : ℕ) → h < 23 → get_or (values least 0 23) h 0 ≡ least h
entry h inside = value-at least 0 23 h h inside (omega arith)

least-23 : least 23 ≡ 75024
unfolding least
least-23 = refl

pub returns-then-h-entries : goal.returns-then-h-entries
unfolding least
returns-then-h-entries c =
    let n = c.args.entries in
    let h = c.from-h.result in
    let power : 1 * 2 ^ h % 2 ^ 32 ≡ 2 ^ h = shl_exact 1 h 32 (omega arith) (omega arith) ∙ one-mul (2 ^ h) in
    rw (c.from.ensures, ← c.from-h.ensures) (
    elim c.if-h-lt23.branch [
      | then-h-lt23 w ↦ rw power (sym (shaped-enough n h (subst (λ (m : ℕ). m ≤ n) (entry h (omega arith)) (leb-true _ _ (sym w.value-is ∙ c.if-h-entries.true)))))
      | else-h-lt23 w ↦ absurd (omega (arith, ltb-true _ _ (sym w.value-is ∙ c.if-h-entries.true), w.if-h-lt23))
    ]
    )

pub returns-else-h-entries : goal.returns-else-h-entries
unfolding least
returns-else-h-entries c =
    let n = c.args.entries in
    let h = c.from-h.result in
    c.if-h-entries.false ∙ rw (← c.from-h.ensures) (
    elim c.if-h-lt23.branch [
      | then-h-lt23 w ↦ sym (shaped-few n h (subst (λ (m : ℕ). n < m) (entry h (omega arith)) (leb-false _ _ (sym w.value-is ∙ c.if-h-entries.false))))
      | else-h-lt23 w ↦ let high = least-mono {g = 23} {h = h} (omega arith) in sym (shaped-few n h (omega (arith, least-23)))
    ]
    )
