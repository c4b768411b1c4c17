-- Each turn changes at most as many tickets as a piece has.
use Rattle.std.proofs.Common.{◌*◌, ◌≤◌}
use Rattle.ticket_copy.proofs.copying.copy_all.Given as goal

abbrev pub invariant-loop : goal.invariant-loop
invariant-loop g l = l.changed ≤ 4096 * l.counter
