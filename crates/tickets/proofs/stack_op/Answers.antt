-- `tickets::stack_op` meets its contract, kind by kind.
use borrow.Author.Tests.{eq-eqb, ne_eqb}
use Rattle.tickets.specs.Asked.{stack_op}
use Rattle.tickets.proofs.stack_op.Goals as goal

pub returns-then-kind-eq4 : goal.returns-then-kind-eq4
unfolding stack_op
returns-then-kind-eq4 c = rw (eq-eqb c.args.kind 4 c.if-kind-eq4.true)

pub returns : goal.returns
unfolding stack_op
returns c = rw (ne_eqb c.args.kind 4 c.if-kind-eq4.false)
