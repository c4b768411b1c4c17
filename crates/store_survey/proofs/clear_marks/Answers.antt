-- `store_survey::clear_marks` meets its contract.
use Rattle.std.proofs.Common.{sym, ◌∙◌, ◌<◌, length, arith}
use Rattle.survey_laws.specs.ItemLaws.{clear_next, clear-past, clear-end}
use Rattle.store_survey.proofs.clear_marks.Goals as goal
use Rattle.store_survey.proofs.clear_marks.Goals.{then-at-marks, else-at-marks}

pub loop-item-preserved : goal.loop-item-preserved
loop-item-preserved c =
    let t = c.args.taken.now in
    let l = c.loop-item in
    let h : l.item-index < length t = omega arith in
    elim c.if-at-marks.branch [
      | then-at-marks w ↦ rw (w.marks-is, c.from-at.ensures) (sym (clear_next t l.marks l.item-index h) ∙ l.invariant)
      | else-at-marks w ↦ rw w.marks-is (sym (clear-past t l.marks l.item-index h (rw c.from-at.ensures at w.if-at-marks.false)) ∙ l.invariant)
    ]

pub returns : goal.returns
returns c =
    let l = c.loop-item in
    sym (clear-end c.args.taken.now l.marks l.item-index (omega arith)) ∙ l.invariant
