-- The rounds and the draws of a call: bounded, and what they are for each structure.
use Rattle.std.specs.Prelude.{◌≡◌, refl, ℕ, ◌*◌, ◌≤◌}
use Rattle.std.proofs.Common.{arith}
use Rattle.balance_spec.specs.Least.{least}
use Rattle.balance_spec.specs.Shape.{shaped}
use Rattle.balance_spec.specs.Greatest.{tallest, greatest}
use Rattle.balance_laws.specs.GreatestLaws.{greatest-mono}
use Rattle.method_spec.specs.Answer.{Structure, map, stack, heap, queue}
use Rattle.method_spec.specs.Rounds.{rounds, spare}
use Rattle.state_spec.specs.Fit.{largest_size}
use Rattle.state_spec.specs.Fetching.{most_rounds}

greatest-eight : greatest 8 ≡ 11
unfolding least shaped tallest greatest
greatest-eight = refl

pub rounds-most : (st : Structure) (k : ℕ) → k ≤ largest_size → rounds st k ≤ most_rounds
unfolding rounds
rounds-most map k h = omega (arith, greatest-mono h, greatest-eight)
rounds-most stack k h = omega arith
rounds-most heap k h = omega arith
rounds-most queue k h = omega arith

pub rounds-map : (k : ℕ) → rounds map k ≡ 3 * greatest k
unfolding rounds
rounds-map k = refl

pub rounds-stack : (k : ℕ) → rounds stack k ≡ 1
unfolding rounds
rounds-stack k = refl

pub rounds-heap : (k : ℕ) → rounds heap k ≡ 3 * k
unfolding rounds
rounds-heap k = refl

pub rounds-queue : (k : ℕ) → rounds queue k ≡ 1
unfolding rounds
rounds-queue k = refl

pub spare-map : spare map ≡ 1
unfolding spare
spare-map = refl

pub spare-stack : spare stack ≡ 1
unfolding spare
spare-stack = refl

pub spare-heap : spare heap ≡ 1
unfolding spare
spare-heap = refl

pub spare-queue : spare queue ≡ 2
unfolding spare
spare-queue = refl
