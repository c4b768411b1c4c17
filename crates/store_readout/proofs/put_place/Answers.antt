-- `store_readout::put_place` meets its contract. Owning a node tells that its numbers are within their widths.
use Rattle.std.proofs.Common.{◌≡◌, sym, ◌∙◌, rules}
use Rattle.slot_spec.specs.Slot.{slot_bytes}
use Rattle.slot_laws.specs.Ranges.{NodeRanges, node-ranges}
use Rattle.slot_laws.specs.SlotLaws.{slot-length}
use Rattle.slot_laws.specs.BucketLaws.{zero-slot}
use Rattle.lent_bytes_spec.specs.StateBytes.{place_bytes}
use Rattle.survey_laws.specs.PartLaws.{put-exact}
use Rattle.store_readout.proofs.put_place.Goals as goal
use Rattle.store_readout.proofs.put_place.Goals.{then-p, else-p}

pub returns : goal.returns
unfolding slot_bytes
returns c =
    let p = c.args.p in
    let g : NodeRanges p.node = search rules in
    let whole : c.store.new.s ≡ slot_bytes c.if-p.slot =
    c.store.ensures ∙ put-exact c.args.part.now (slot_bytes c.if-p.slot) (slot-length c.if-p.slot ∙ sym c.requires) in
    let held : slot_bytes c.if-p.slot ≡ place_bytes p =
    elim c.if-p.branch [
      | then-p w ↦ rw (w.slot-is, w.if-p.true) w.slot_of-slot.ensures.0
      | else-p w ↦ let d = w.default-slot.ensures in rw (w.slot-is, w.if-p.false, d.0, d.1.0, d.1.1.0, d.1.1.1) zero-slot
    ] in
    (node-ranges p.node g, whole ∙ held)
