-- `eviction::store_slot` meets its contract: a store in the bucket's part is one in the tree.
use mathlib.Core.Path.{◌≡◌, ◌∙◌}
use Prim.Native.Nat.{◌+◌, ◌*◌, ◌-◌, ◌≤◌}
use lib.ListN.{length}
use Rattle.slot_spec.specs.Tree.{path_bucket, bucket_start, bucket_length}
use Rattle.slot_spec.specs.Slot.{slot_bytes}
use Rattle.slot_laws.specs.SlotLaws.{slot-length}
use Rattle.word_round_laws.specs.StoreLaws.{part-stored, bucket-lent}
use native.Mathlib.Omega.{arith}
use Rattle.eviction.proofs.store_slot.Goals as goal

pub returns : goal.returns
returns c =
    let a = c.args in
    let s = c.start_at-a in
    let k = c.write_in in
    let at = path_bucket a.size a.leaf a.level in
    let n : s.result + 128 - s.result ≡ bucket_length = omega arith in
    let h : bucket_start at + bucket_length ≤ length a.tree.now = rw (← s.ensures.0, c.requires.2) s.ensures.1 in
    let w = slot-length a.x in
    bucket-lent a.tree.now k.new.part at s.result (s.result + 128 - s.result) s.ensures.0 n
    ∙ rw (k.ensures, n, s.ensures.0) (part-stored a.tree.now at (32 * a.j) (slot_bytes a.x) h (omega (arith, c.requires.4)))
