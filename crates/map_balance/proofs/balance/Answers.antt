use mathlib.Core.Path.{sym}
use Rattle.leaf_spec.specs.Convert.{to_node}
use Rattle.run_laws.specs.BalanceLaws.{balance-two, balance-one, balance-zero, balance-minus-one, balance-minus-two}
use native.Mathlib.Omega.{arith}
use Rattle.map_balance.proofs.balance.Goals as goal

pub returns-then-left-right-gt1 : goal.returns-then-left-right-gt1
returns-then-left-right-gt1 c = sym (balance-two (to_node c.args.n) (omega arith))

pub returns-then-left-right : goal.returns-then-left-right
returns-then-left-right c = sym (balance-one (to_node c.args.n) (omega arith))

pub returns-then-right-left-gt1 : goal.returns-then-right-left-gt1
returns-then-right-left-gt1 c = sym (balance-minus-two (to_node c.args.n) (omega arith))

pub returns-then-right-left : goal.returns-then-right-left
returns-then-right-left c = sym (balance-minus-one (to_node c.args.n) (omega arith))

pub returns : goal.returns
returns c = sym (balance-zero (to_node c.args.n) (omega arith))
