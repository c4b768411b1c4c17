-- `bench_rounds_main::run` meets its contract. The loop's invariant: the store is at rest.
use Rattle.test_rounds.specs.Single.{Resting}
use Rattle.bench_rounds_main.specs.Run.{size}
use Rattle.bench_rounds_main.proofs.run.Given as goal

abbrev pub invariant-loop-turn : goal.invariant-loop-turn
invariant-loop-turn l = Resting size l.n l.w l.tree
