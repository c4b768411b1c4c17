-- `store_survey::first_of_each` meets its contract.
use Rattle.std.proofs.Common.{sym, ◌∙◌, ap, ◌+◌, ◌<◌, length, get_or, drop, arith}
use Rattle.std.specs.Prelude.{Some}
use Rattle.std.proofs.lemmas.Bool.{not-true, not-false}
use Rattle.survey_laws.specs.Items.{key_in}
use Rattle.survey_laws.specs.ItemLaws.{sets-next, heads_from, head-put, head-kept, heads-past}
use Rattle.store_survey.proofs.first_of_each.Goals as goal
use Rattle.store_survey.proofs.first_of_each.Goals.{then-other, else-other}

pub loop-item-preserved : goal.loop-item-preserved
loop-item-preserved c =
    let o = c.args.order.now in
    let f = key_in c.args.keys.now in
    let l = c.loop-item in
    let i = l.item-index in
    let h : i < length o = omega arith in
    let k = c.key_at-key.ensures in
    elim c.if-other.branch [
      | then-other w ↦ let g = head-put f o i h l.last (rw k at (not-true _ (sym c.ne-other.ensures ∙ w.if-other.true))) in (
        omega arith,
        rw (w.n-is, w.last-is, k) (omega (arith, ap length g)),
        rw (w.taken-is, w.n-is, w.last-is, k) (sym (sets-next l.taken l.n (get_or o i 0) (heads_from f (Some (f (get_or o i 0))) (drop (i + 1) o))) ∙ rw g at l.invariant.2),
      )
      | else-other w ↦ let g = head-kept f o i h l.last (rw k at (not-false _ (sym c.ne-other.ensures ∙ w.if-other.false))) in (
        omega arith,
        rw (w.n-is, w.last-is) (rw g at l.invariant.1),
        rw (w.taken-is, w.n-is, w.last-is) (rw g at l.invariant.2),
      )
    ]

pub returns : goal.returns
returns c =
    let l = c.loop-item in
    let e = heads-past (key_in c.args.keys.now) c.args.order.now l.last l.item-index (omega arith) in
    (omega arith, omega (arith, ap length e), rw e at l.invariant.2)
