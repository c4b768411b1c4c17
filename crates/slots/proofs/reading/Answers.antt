-- `slots::reading` meets its contract: each return is one case of a slot's reading.
use mathlib.Core.Path.{sym, ◌∙◌}
use Rattle.slot_laws.specs.SlotLaws.{slot-length}
use Rattle.slot_laws.specs.ReadLaws.{well-formed-tag, all-zero-read, read-wrong-flag, read-wrong-zero1, read-wrong-zero2, read-ill-formed, read-off-path, read-good}
use Rattle.slot_laws.specs.Ranges.{slot-ranges}
use Rattle.slot_spec.specs.Slot.{slot_bytes}
use borrow.Author.Rules.{rules}
use Rattle.slots.proofs.reading.Goals as goal
use Rattle.slots.proofs.reading.Goals.{
  then-x-ne1-via-then-x-ne1,
  then-x-ne1-via-else-x-ne1+then-x-ne0,
  then-x-ne1-via-else-x-ne1+else-x-ne0+then-x-ne0-2,
  then-not-well_formed-via-then-not-well_formed,
  then-not-well_formed-via-else-not-well_formed+then-not-passes_bucket,
}

pub returns-then-is_zero : goal.returns-then-is_zero
returns-then-is_zero c = let a = c.args in sym (all-zero-read a.size a.bucket (slot_bytes a.x) (slot-length a.x) (sym c.is_zero.ensures ∙ c.if-is_zero.true))

pub returns-then-x-ne1 : goal.returns-then-x-ne1
returns-then-x-ne1 c = let a = c.args in let ranges = slot-ranges a.x (search rules) in
    elim c.then-x-ne1.branch [
      | then-x-ne1-via-then-x-ne1 w ↦ sym (read-wrong-flag a.size a.bucket a.x ranges (sym c.is_zero.ensures ∙ c.if-is_zero.false) w.if-x-ne1.true)
      | then-x-ne1-via-else-x-ne1+then-x-ne0 w ↦ sym (read-wrong-zero1 a.size a.bucket a.x ranges w.if-x-ne1.false w.if-x-ne0.true)
      | then-x-ne1-via-else-x-ne1+else-x-ne0+then-x-ne0-2 w ↦ sym (read-wrong-zero2 a.size a.bucket a.x ranges w.if-x-ne1.false w.if-x-ne0.false w.if-x-ne0-2.true)
    ]

pub passes_bucket-requires : goal.passes_bucket-requires
passes_bucket-requires c =
    (c.requires, rw c.from.ensures (well-formed-tag c.args.size c.node_of-n.result (sym c.well_formed-2.ensures ∙ c.if-not-well_formed.false)))

pub returns-then-not-well_formed : goal.returns-then-not-well_formed
returns-then-not-well_formed c = let a = c.args in let ranges = slot-ranges a.x (search rules) in
    elim c.then-not-well_formed.branch [
      | then-not-well_formed-via-then-not-well_formed w ↦
          sym (read-ill-formed a.size a.bucket a.x ranges c.node_of-n.result c.node_of-n.ensures c.if-x-ne1.false c.if-x-ne0.false c.if-x-ne0-2.false (sym c.well_formed-2.ensures ∙ w.if-not-well_formed.true))
      | then-not-well_formed-via-else-not-well_formed+then-not-passes_bucket w ↦
          sym (read-off-path a.size a.bucket a.x ranges c.node_of-n.result c.node_of-n.ensures c.if-x-ne1.false c.if-x-ne0.false c.if-x-ne0-2.false (sym c.well_formed-2.ensures ∙ w.if-not-well_formed.false) (rw w.from.ensures at (sym w.passes_bucket.ensures ∙ w.if-not-passes_bucket.true)))
    ]

pub returns : goal.returns
returns c = let a = c.args in sym (read-good a.size a.bucket a.x (slot-ranges a.x (search rules)) c.node_of-n.result c.node_of-n.ensures c.if-x-ne1.false c.if-x-ne0.false c.if-x-ne0-2.false (sym c.well_formed-2.ensures ∙ c.if-not-well_formed.false) (rw c.from.ensures at (sym c.passes_bucket.ensures ∙ c.if-not-passes_bucket.false)))
