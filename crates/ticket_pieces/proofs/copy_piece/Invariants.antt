-- The tickets before the i-th are copied, and so many of them were changed.
use Rattle.std.proofs.Common.{◌*◌, ◌≤◌}
use Rattle.ticket_pieces.specs.TurnLaws.{CopiedTo}
use Rattle.ticket_pieces.proofs.copy_piece.Given as goal

abbrev pub invariant-loop-i : goal.invariant-loop-i
invariant-loop-i l = (l.count ≤ l.i) × CopiedTo l.piece (13 * l.i) l.out l.count
