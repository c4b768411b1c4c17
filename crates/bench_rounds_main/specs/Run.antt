-- What many rounds leave.
use Rattle.std.specs.Prelude.{ℕ, List, Option, Some, None}
use Rattle.test_rounds.specs.Single.{Resting}
use Rattle.bench_rounds_main.specs.declared.Turns.{Turns}

abbrev pub size : ℕ
size = 8

-- A store at rest, if all rounds went through.
abbrev pub Ran : (row tree : List ℕ) → Option Turns → Type 0
Ran row tree None = Unit {0}
Ran row tree (Some r) = Resting size r.waiting row tree
