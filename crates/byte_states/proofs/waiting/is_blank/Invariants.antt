-- `byte_states::waiting::is_blank` meets its contract. The invariant: there are no digits exactly if the first a bytes are zero.
use mathlib.Core.Path.{◌≡◌}
use Prim.Native.Nat.{◌-◌, ◌%◌, ◌≤◌}
use lib.ListN.{length}
use Rattle.slot_spec.specs.Tree.{slot_length}
use Rattle.byte_states.specs.PlacesFitLaws.{NoDigits}
use Rattle.byte_states.proofs.waiting.is_blank.Given as goal

abbrev pub invariant-loop-a : goal.invariant-loop-a
invariant-loop-a l =
    NoDigits l.slots l.a l.first l.second l.third l.fourth × ((l.a ≤ length l.slots) × (l.a % slot_length ≡ 0))

abbrev pub decreases-loop-a : goal.decreases-loop-a
decreases-loop-a l =
    length l.slots - l.a
