-- `rounds_main::run` is safe and ends. The loop's invariant: the store is at rest.
use Rattle.std.proofs.Common.{◌≡◌, length}
use Rattle.test_rounds.specs.Single.{Resting}
use Rattle.rounds_main.proofs.run.Given as goal

abbrev pub invariant-loop-word : goal.invariant-loop-word
invariant-loop-word l = Resting 2 l.n l.w l.tree
