-- `store_survey::good_items` meets its contract.
use Rattle.std.proofs.Common.{sym, ◌∙◌, ap, ◌+◌, ◌<◌, length, drop, arith}
use Rattle.survey_laws.specs.Items.{good_from}
use Rattle.survey_laws.specs.ItemLaws.{sets-next, good_start, good-here, none_here, good-end}
use Rattle.store_survey.proofs.good_items.Goals as goal
use Rattle.store_survey.proofs.good_items.Goals.{then-mark-eq-GOOD, else-mark-eq-GOOD}

pub loop-i-init : goal.loop-i-init
loop-i-init c = let a = c.args in let s = good_start a.marks.now a.order.now a.first in (omega arith, s.0, s.1)

pub loop-i-preserved : goal.loop-i-preserved
loop-i-preserved c =
    let a = c.args in
    let l = c.loop-i in
    let h : l.i < length a.marks.now = omega arith in
    elim c.if-mark-eq-GOOD.branch [
      | then-mark-eq-GOOD w ↦ let g = good-here a.marks.now a.first l.i h w.if-mark-eq-GOOD.true in (
        omega arith,
        rw w.n-is (omega (arith, ap length g)),
        rw (w.order-is, w.n-is) (sym (sets-next l.order l.n (a.first + l.i) (good_from (a.first + (l.i + 1)) (drop (l.i + 1) a.marks.now))) ∙ rw g at l.invariant.2),
      )
      | else-mark-eq-GOOD w ↦ let g = none_here a.marks.now a.first l.i h w.if-mark-eq-GOOD.false in (
        omega arith,
        rw w.n-is (rw g at l.invariant.1),
        rw (w.order-is, w.n-is) (rw g at l.invariant.2),
      )
    ]

pub returns : goal.returns
returns c =
    let l = c.loop-i in
    let e = good-end c.args.marks.now c.args.first l.i (omega arith) in
    (omega arith, omega (arith, ap length e), rw e at l.invariant.2)
