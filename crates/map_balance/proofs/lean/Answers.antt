use Rattle.leaf_spec.specs.Convert.{to_node}
use Rattle.map_balance.specs.BalanceLaws.{balance-fits, balance-negated}
use Rattle.map_balance.proofs.lean.Goals as goal

pub overflow_sub-result : goal.overflow_sub-result
overflow_sub-result c = rw c.balance-b.ensures (balance-fits (to_node c.args.n))

pub returns-else-left : goal.returns-else-left
returns-else-left c = rw (c.balance-b.ensures, c.if-left.false) (balance-negated (to_node c.args.n))
