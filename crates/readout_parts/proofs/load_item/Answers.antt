-- `readout_parts::load_item` meets its contract: `item_bytes` by its three cases.
use Rattle.std.proofs.Common.{◌∙◌, lt-ltb, le-ltb}
use Rattle.slot_spec.specs.Slot.{slot_bytes}
use Rattle.slot_laws.specs.BucketLaws.{zero-slot}
use Rattle.survey_laws.specs.Items.{item_bytes}
use Rattle.readout_parts.proofs.load_item.Goals as goal

pub returns-then-at-slots : goal.returns-then-at-slots
unfolding item_bytes
returns-then-at-slots c = c.load.ensures ∙ rw (← c.from-at.ensures) (simp (lt-ltb _ _ c.if-at-slots.true))

pub returns-then-waits-waiting : goal.returns-then-waits-waiting
unfolding item_bytes
returns-then-waits-waiting c =
    c.load-then-waits-waiting.ensures ∙ rw (← c.from-at.ensures) (simp (le-ltb _ _ c.if-at-slots.false, lt-ltb _ _ c.if-waits-waiting.true))

pub returns : goal.returns
unfolding item_bytes slot_bytes
returns c =
    let d = c.default.ensures in
    rw (d.0, d.1.0, d.1.1.0, d.1.1.1, ← c.from-at.ensures) (zero-slot ∙ simp (le-ltb _ _ c.if-at-slots.false, le-ltb _ _ c.if-waits-waiting.false))
