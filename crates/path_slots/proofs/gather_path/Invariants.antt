-- `path_reader::gather_path` meets its contract. The invariant: the full slots of the buckets below a level are gathered, the other buckets are left to ask.
use mathlib.Core.Path.{◌≡◌}
use mathlib.Core.List.{◌++◌}
use Prim.Native.Nat.{◌+◌, ◌*◌, ◌-◌, ◌≤◌}
use lib.ListN.{length, take, drop}
use Rattle.slot_spec.specs.Tree.{path}
use Rattle.word_round_laws.specs.SlotRow.{path_slots}
use Rattle.word_round_laws.specs.Gather.{slot_starts, full_starts}
use Rattle.path_slots.proofs.gather_path.Given as goal

abbrev pub invariant-loop-level : goal.invariant-loop-level
invariant-loop-level l =
    (l.count ≤ 4 * l.level) × (length l.from ≡ path_slots)
    × (full_starts l.tree (slot_starts (path l.size l.leaf)) ≡ take l.count l.from ++ full_starts l.tree (slot_starts (drop l.level (path l.size l.leaf))))
