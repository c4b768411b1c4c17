use Rattle.leaf_spec.specs.Convert.{to_node}
use Rattle.map_balance.specs.BalanceLaws.{tall-test}
use Rattle.map_balance.proofs.is_tall.Goals as goal

pub returns : goal.returns
returns c = rw c.lean.ensures (tall-test c.args.left (to_node c.args.n))
