-- `path_reader::gather_bucket` meets its contract. The invariant: the starts of the full ones of the first j slots are gathered, the others are left to ask.
use mathlib.Core.Path.{◌≡◌}
use mathlib.Core.List.{◌++◌}
use Prim.Native.Nat.{◌+◌, ◌-◌, ◌≤◌}
use lib.ListN.{length, take, drop}
use Rattle.word_round_laws.specs.SlotRow.{path_slots}
use Rattle.word_round_laws.specs.Gather.{four_from, full_starts}
use Rattle.path_slots.proofs.gather_bucket.Given as goal

abbrev pub invariant-loop-j : goal.invariant-loop-j
invariant-loop-j l =
    (l.count ≤ l.m + l.j)
    × (take l.m l.initial.from ++ full_starts l.tree (four_from l.start) ≡ take l.count l.from ++ full_starts l.tree (drop l.j (four_from l.start)))
