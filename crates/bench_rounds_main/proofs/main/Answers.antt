-- `bench_rounds_main::main` is safe and ends: the store is at rest after each run that did not fail.
use Rattle.std.proofs.Common.{refl, arith, rules}
use Rattle.test_rounds.specs.SingleLaws.{none-waits}
use Rattle.bench_rounds_main.specs.Run.{size}
use Rattle.bench_rounds_main.proofs.main.Goals as goal

pub fill-requires : goal.fill-requires
fill-requires c = none-waits size _ _ (omega arith) refl (search rules)
