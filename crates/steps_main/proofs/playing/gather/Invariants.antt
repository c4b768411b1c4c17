-- `steps_main::playing::gather` meets its contract. The invariant: the memory has room as said, and the held nodes are low. A node that
-- passed its test is as low as the link to it, which is as low as the root link and the held nodes.
use Prim.Native.Nat.{◌≤◌}
use mathlib.Core.Path.{◌≡◌}
use lib.ListN.{length}
use Rattle.node_rows.specs.Row.{words}
use Rattle.structures.specs.Operation.{LowHeld}
use Rattle.steps_main.proofs.playing.gather.Given as goal

abbrev pub invariant-loop-count : goal.invariant-loop-count
invariant-loop-count l =
    (l.m.count ≤ 16) × (LowHeld l.memory.root l.held l.count × (length l.made ≡ words))
