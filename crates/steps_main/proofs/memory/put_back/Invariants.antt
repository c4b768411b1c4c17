-- `steps_main::memory::put_back` meets its contract. The invariant: the memory has at most 16 nodes.
use Prim.Native.Nat.{◌≤◌}
use Rattle.steps_main.proofs.memory.put_back.Given as goal

abbrev pub invariant-loop-i : goal.invariant-loop-i
invariant-loop-i l = l.m.count ≤ 16
