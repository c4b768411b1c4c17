-- The last file lies within the output buffer.
use Rattle.io.specs.Counts.{IsPrefixLen}
use Rattle.bench_readout_main.proofs.repeat.Given as goal

abbrev pub invariant-loop : goal.invariant-loop
invariant-loop l = IsPrefixLen l.length l.out
