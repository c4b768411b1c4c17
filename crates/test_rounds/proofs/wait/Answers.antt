-- `test_rounds::wait` meets its contract.
use mathlib.Core.Path.{subst}
use native.Mathlib.Omega.{arith}
use Rattle.slot_spec.specs.declared.Slot.{Slot}
use Rattle.word_round_laws.specs.SlotRowLaws.{blank-got, words-tag}
use Rattle.test_rounds.specs.Single.{Waiting}
use Rattle.test_rounds.specs.SingleLaws.{slot-waits}
use borrow.Author.Rules.{rules}
use Rattle.test_rounds.proofs.wait.Goals as goal

pub join_slot-requires : goal.join_slot-requires
join_slot-requires c =
    let w = c.requires.0 in
    (w.sized, omega (arith, w.few), w.order, blank-got c.args.w.now c.args.n c.args.n (omega arith) w.blank)

pub returns-then-from-leaves : goal.returns-then-from-leaves
returns-then-from-leaves c =
    let a = c.args in
    let x = c.slot_of-x in
    let join = c.join_slot in
    subst (λ (y : Slot). Waiting a.size a.n y a.w.now join.new.s join.result) x.ensures.1
    (slot-waits a.size a.n x.result a.w.now join.new.s join.result c.requires.0 join.ensures (search rules)
    (omega (arith, c.if-n-gt-LIMIT.false))
    (omega (arith, words-tag x.result, c.tag_of.ensures, c.from.ensures, c.leaves.ensures.0, c.if-from-leaves.true)))
