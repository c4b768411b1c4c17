-- `bench_calls_main::run` is safe: the bytes that were held back fit the block.
use Rattle.std.proofs.Common.{◌≤◌, length}
use Rattle.bench_calls_main.proofs.run.Given as goal

abbrev pub invariant-loop : goal.invariant-loop
invariant-loop l = l.held ≤ length l.block
