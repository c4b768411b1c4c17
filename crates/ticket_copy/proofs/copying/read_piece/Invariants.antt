-- So many bytes of the piece are full.
use Rattle.std.proofs.Common.{length, ◌-◌, ◌≤◌}
use Rattle.ticket_copy.proofs.copying.read_piece.Given as goal

abbrev pub invariant-loop-length : goal.invariant-loop-length
invariant-loop-length g l = l.length ≤ length l.piece

abbrev pub decreases-loop-length : goal.decreases-loop-length
decreases-loop-length g l = length l.piece - l.length
