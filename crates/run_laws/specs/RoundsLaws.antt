-- How many rounds a call has.
use Rattle.std.specs.Prelude.{ℕ, ◌≤◌}
use Rattle.std.proofs.Common.{arith}
use Rattle.balance_spec.specs.Least.{least}
use Rattle.balance_spec.specs.Shape.{shaped}
use Rattle.balance_spec.specs.Greatest.{tallest, greatest}
use Rattle.balance_laws.specs.GreatestLaws.{greatest-mono}
use Rattle.method_spec.specs.Answer as answer
use Rattle.method_spec.specs.Answer.{Structure}
use Rattle.method_spec.specs.Rounds.{rounds}

pub some-rounds : (s : Structure) (k : ℕ) → 1 ≤ k → 1 ≤ rounds s k
unfolding rounds least shaped tallest greatest
some-rounds answer.map k h = let least-one : 1 ≤ greatest k = greatest-mono h in omega arith
some-rounds answer.stack k h = omega arith
some-rounds answer.heap k h = omega arith
some-rounds answer.queue k h = omega arith
