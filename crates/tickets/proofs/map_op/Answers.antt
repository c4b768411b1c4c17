-- `tickets::map_op` meets its contract, kind by kind.
use borrow.Author.Tests.{eq-eqb, ne_eqb}
use Rattle.tickets.specs.Asked.{map_op}
use Rattle.tickets.proofs.map_op.Goals as goal

pub returns-then-kind-eq1 : goal.returns-then-kind-eq1
unfolding map_op
returns-then-kind-eq1 c = rw (eq-eqb c.args.kind 1 c.if-kind-eq1.true)

pub returns-then-kind-eq2 : goal.returns-then-kind-eq2
unfolding map_op
returns-then-kind-eq2 c = rw (ne_eqb c.args.kind 1 c.if-kind-eq1.false, eq-eqb c.args.kind 2 c.if-kind-eq2.true)

pub returns : goal.returns
unfolding map_op
returns c = rw (ne_eqb c.args.kind 1 c.if-kind-eq1.false, ne_eqb c.args.kind 2 c.if-kind-eq2.false)
