-- `opening::clear` meets its contract. The invariant: the first buckets are zero, the others as they were.
use Rattle.std.proofs.Common.{◌≡◌, ◌++◌, ◌*◌, length, drop, replicate}
use Rattle.slot_spec.specs.Tree.{bucket_length}
use Rattle.opening.proofs.clear.Given as goal

abbrev pub invariant-loop-bucket : goal.invariant-loop-bucket
invariant-loop-bucket l =
    (length l.tree ≡ length l.initial.tree) × (l.tree ≡ replicate (bucket_length * l.bucket) 0 ++ drop (bucket_length * l.bucket) l.initial.tree)
