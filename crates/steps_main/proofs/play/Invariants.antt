-- `steps_main::play` is safe. The invariant: the memory has at most 16 nodes.
use Prim.Native.Nat.{◌≤◌}
use Rattle.steps_main.proofs.play.Given as goal

abbrev pub invariant-loop-i : goal.invariant-loop-i
invariant-loop-i l = l.m.count ≤ 16
