-- `heights::greatest_height` meets its contract: the table is the list of the greatest heights of the sizes 1 to 8.
-- Assumes nothing.
use Prim.Native.Nat.{◌-◌}
use native.Mathlib.Omega.{arith}
use Rattle.balance_spec.specs.Least.{least}
use Rattle.balance_spec.specs.Shape.{shaped}
use Rattle.balance_spec.specs.Greatest.{tallest, greatest}
use Rattle.heights.proofs.Table.{value-at}
use Rattle.heights.proofs.greatest_height.Goals as goal

pub returns : goal.returns
unfolding least shaped tallest greatest
returns c = value-at greatest 1 8 (c.args.size - 1) c.args.size (omega arith) (omega arith)
