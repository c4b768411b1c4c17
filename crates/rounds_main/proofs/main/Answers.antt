-- `rounds_main::main` is safe and ends.
use Rattle.std.proofs.Common.{refl, arith, rules}
use Rattle.test_rounds.specs.SingleLaws.{none-waits}
use Rattle.rounds_main.proofs.main.Goals as goal

pub run-requires : goal.run-requires
run-requires c = (none-waits 2 _ _ (omega arith) refl (search rules), search rules)
