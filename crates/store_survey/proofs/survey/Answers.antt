-- `store_survey::survey` meets its contract.
use Rattle.std.proofs.Common.{◌≡◌, ◌∙◌, ap, ap₂, ℕ, List, length, arith}
use Rattle.slot_spec.specs.Slot.{fields_in, read_slot}
use Rattle.survey_laws.specs.Items.{mark_of, mark_at, key_at}
use Rattle.survey_laws.specs.ItemLaws.{row-start, row_next, row-whole}
use Rattle.store_survey.proofs.survey.Goals as goal

pub loop-i-init : goal.loop-i-init
loop-i-init c =
    let a = c.args in
    let n = length a.keys.now in
    (row-start (key_at a.slots.now) a.keys.now n, row-start (mark_at a.in_tree a.size a.slots.now) a.marks.now n)

pub loop-i-preserved : goal.loop-i-preserved
loop-i-preserved c =
    let l = c.loop-i in
    let a = c.args in
    let n = length a.keys.now in
    let key : c.from.result ≡ key_at a.slots.now l.i = c.from.ensures ∙ c.key_of.ensures ∙ ap (λ (bs : List ℕ). (fields_in bs).key) c.load-x.ensures in
    let mark : c.mark_of.result ≡ mark_at a.in_tree a.size a.slots.now l.i =
    c.mark_of.ensures ∙ ap (mark_of a.in_tree) (c.reading-r.ensures ∙ ap₂ (read_slot a.size) c.bucket_for.ensures c.load-x.ensures) in (
      rw key (row_next (key_at a.slots.now) l.keys n l.i (omega arith) (omega arith) l.invariant.0),
      rw mark (row_next (mark_at a.in_tree a.size a.slots.now) l.marks n l.i (omega arith) (omega arith) l.invariant.1),
    )

pub returns : goal.returns
returns c =
    let l = c.loop-i in
    let a = c.args in
    let n = length a.keys.now in (
      row-whole (key_at a.slots.now) l.keys n l.i (omega arith) (omega arith) l.invariant.0,
      row-whole (mark_at a.in_tree a.size a.slots.now) l.marks n l.i (omega arith) (omega arith) l.invariant.1,
    )
