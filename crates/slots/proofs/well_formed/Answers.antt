-- `slots::well_formed` meets its contract, test by test.
use mathlib.Core.Path.{sym, ◌∙◌}
use borrow.Author.Tests.{ltb-true}
use Rattle.slot_laws.specs.ReadLaws.{own-tag-too-large, left-link-bad, left-link-good}
use native.Mathlib.Omega.{arith}
use Rattle.slots.proofs.well_formed.Goals as goal
use Rattle.slots.proofs.well_formed.Goals.{then-from-leaves, else-from-leaves}

pub returns-then-link_good : goal.returns-then-link_good
returns-then-link_good c = let a = c.args in
    elim c.if-from-leaves.branch [
      | then-from-leaves w ↦ c.link_good-then-link_good.ensures ∙ sym (left-link-good a.size a.n (omega arith) (sym w.link_good.ensures ∙ sym w.value-is ∙ c.if-link_good.true))
      | else-from-leaves w ↦ absurd (omega (arith, ltb-true _ _ (sym w.value-is ∙ c.if-link_good.true), w.if-from-leaves))
    ]

pub returns-else-link_good : goal.returns-else-link_good
returns-else-link_good c = let a = c.args in
    c.if-link_good.false ∙ elim c.if-from-leaves.branch [
      | then-from-leaves w ↦ sym (left-link-bad a.size a.n (omega arith) (sym w.link_good.ensures ∙ sym w.value-is ∙ c.if-link_good.false))
      | else-from-leaves w ↦ sym (own-tag-too-large a.size a.n (omega arith))
    ]
