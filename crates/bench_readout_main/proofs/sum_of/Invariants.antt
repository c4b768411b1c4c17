-- The sum is at most 255 for each byte passed.
use Rattle.std.proofs.Common.{◌*◌, ◌≤◌}
use Rattle.bench_readout_main.proofs.sum_of.Given as goal

abbrev pub invariant-loop-byte : goal.invariant-loop-byte
invariant-loop-byte l = l.sum ≤ 255 * l.byte-index
