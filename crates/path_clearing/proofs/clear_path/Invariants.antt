-- `path_clearing::clear_path` meets its contract. The invariant: the first full slots are emptied, the others are left to empty.
use Rattle.std.proofs.Common.{◌≡◌, length, drop}
use Rattle.word_round_laws.specs.Fill.{emptied}
use Rattle.path_clearing.proofs.clear_path.Given as goal

abbrev pub invariant-loop-start : goal.invariant-loop-start
invariant-loop-start l =
    (length l.tree ≡ length l.initial.tree) × (emptied l.initial.tree l.starts ≡ emptied l.tree (drop l.start-index l.starts))
