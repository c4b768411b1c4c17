-- `bucket_writer::write_bucket` meets its contract. The invariant: the bucket holds the first j slots.
use mathlib.Core.Path.{◌≡◌}
use mathlib.Core.List.{map}
use lib.ListN.{take}
use Rattle.slot_spec.specs.Slot.{slot_bytes, bucket_bytes}
use Rattle.bucket_writer.proofs.write_bucket.Given as goal

abbrev pub invariant-loop-j : goal.invariant-loop-j
invariant-loop-j l = l.part ≡ bucket_bytes (map slot_bytes (take l.j l.slots))
