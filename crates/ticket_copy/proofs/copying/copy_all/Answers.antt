-- No turn changes more tickets than a piece has.
use Rattle.std.proofs.Common.{arith}
use Rattle.ticket_copy.specs.TurnLaws.{turn-most}
use Rattle.ticket_copy.proofs.copying.copy_all.Goals as goal

pub overflow_add-changed : goal.overflow_add-changed
overflow_add-changed g c = omega (arith, turn-most c.in_ok-turn.ensures)

pub loop-preserved : goal.loop-preserved
loop-preserved g c = omega (arith, turn-most c.in_ok-turn.ensures)
