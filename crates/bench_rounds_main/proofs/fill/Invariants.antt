-- `bench_rounds_main::fill` meets its contract. The loop's invariant: the store is at rest.
use Rattle.test_rounds.specs.Single.{Resting}
use Rattle.bench_rounds_main.specs.Run.{size}
use Rattle.bench_rounds_main.proofs.fill.Given as goal

abbrev pub invariant-loop-i : goal.invariant-loop-i
invariant-loop-i l = Resting size l.n l.w l.tree
