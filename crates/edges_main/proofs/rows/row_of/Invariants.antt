-- `edges_main::rows::row_of` is safe: a row has a number for each letter.
use Rattle.std.proofs.Common.{◌<◌}
use Rattle.edges_main.proofs.rows.row_of.Given as goal

abbrev pub invariant-loop-b : goal.invariant-loop-b
invariant-loop-b l = l.letter < 128
