-- `bucket_writer::write_bucket` meets its contract. The invariant: the bucket holds the first j slots.
use mathlib.Core.Path.{◌∙◌}
use native.Mathlib.Omega.{arith}
use Rattle.slot_spec.specs.Slot.{filled}
use Rattle.slot_laws.specs.BucketLaws.{slot-next}
use Rattle.bucket_writer.proofs.write_bucket.Goals as goal

pub loop-j-init : goal.loop-j-init
unfolding filled
loop-j-init c = c.fill.ensures.after (λ y e. e) ∙ rw c.requires.0

pub loop-j-preserved : goal.loop-j-preserved
loop-j-preserved c =
    let l = c.loop-j in
    slot-next c.args.slots.now l.j _ l.part c.store.new.s (omega arith) (omega arith) l.invariant c.store.ensures
