-- `path_reader::read_path` meets its contract. The invariant: the first i full slots have joined.
use Rattle.std.proofs.Common.{map, take}
use Rattle.word_round_laws.specs.Gather.{read_from}
use Rattle.path_reader.specs.Joined.{AllJoined}
use Rattle.path_reader.proofs.read_path.Given as goal

abbrev pub invariant-loop-i : goal.invariant-loop-i
invariant-loop-i l = AllJoined l.size l.held (map (read_from l.size l.tree) (take l.i l.from)) l.n l.initial.s l.s l.count
