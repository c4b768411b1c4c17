-- `bench_calls_main::make_calls` is safe: each part of the block is as long as a ticket and its tape.
use Rattle.std.proofs.Common.{◌≡◌, ◌+◌, ◌*◌, length}
use Rattle.std.specs.Slice.Iter.{chunks_exact_size}
use Rattle.bench_calls_main.proofs.make_calls.Given as goal

abbrev pub invariant-loop-bytes : goal.invariant-loop-bytes
invariant-loop-bytes l =
    (goal.iterator-loop-bytes).can_next l.bytes-iterator
    × (goal.iterator-loop-bytes).is_finite l.bytes-iterator
    × (chunks_exact_size l.bytes-iterator ≡ 13 + 2 * length l.tape)
