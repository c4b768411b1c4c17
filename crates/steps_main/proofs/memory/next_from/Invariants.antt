-- `steps_main::memory::next_from` meets its contract. The invariant: the number found so far is that of a node, or none is found.
use Rattle.std.specs.Prelude.{◌<◌, IfSome}
use Rattle.steps_main.proofs.memory.next_from.Given as goal

abbrev pub invariant-loop-i : goal.invariant-loop-i
invariant-loop-i l = IfSome l.next (λ i. i < l.memory.count)
