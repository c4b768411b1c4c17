-- `tickets::heap_op` meets its contract, kind by kind.
use borrow.Author.Tests.{eq-eqb, ne_eqb}
use Rattle.tickets.specs.Asked.{heap_op}
use Rattle.tickets.proofs.heap_op.Goals as goal

pub returns-then-kind-eq6 : goal.returns-then-kind-eq6
unfolding heap_op
returns-then-kind-eq6 c = rw (eq-eqb c.args.kind 6 c.if-kind-eq6.true)

pub returns : goal.returns
unfolding heap_op
returns c = rw (ne_eqb c.args.kind 6 c.if-kind-eq6.false)
