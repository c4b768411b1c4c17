-- `tickets::queue_op` meets its contract, kind by kind.
use borrow.Author.Tests.{eq-eqb, ne_eqb}
use Rattle.tickets.specs.Asked.{queue_op}
use Rattle.tickets.proofs.queue_op.Goals as goal

pub returns-then-kind-eq8 : goal.returns-then-kind-eq8
unfolding queue_op
returns-then-kind-eq8 c = rw (eq-eqb c.args.kind 8 c.if-kind-eq8.true)

pub returns : goal.returns
unfolding queue_op
returns c = rw (ne_eqb c.args.kind 8 c.if-kind-eq8.false)
