-- The number stays below what a word holds.
use Rattle.std.proofs.Common.{◌<◌}
use Rattle.bench_rounds_main.proofs.rounds_asked.Given as goal

abbrev pub invariant-loop-c : goal.invariant-loop-c
invariant-loop-c g l = l.rounds < 20000000000000
