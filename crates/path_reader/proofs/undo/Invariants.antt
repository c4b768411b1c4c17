-- `path_reader::undo` meets its contract. The invariant: the first i are left of those that joined.
use Rattle.path_reader.specs.UndoneLaws.{Undoing}
use Rattle.path_reader.proofs.undo.Given as goal

abbrev pub invariant-loop-i : goal.invariant-loop-i
invariant-loop-i l = Undoing l.tree l.starts l.m l.initial.s l.s l.count l.i
