-- `byte_states::waiting::used_fit` meets its contract. The invariant: the first i slots are looked at.
use Rattle.stash.specs.LookLaws.{LookedAt}
use Rattle.byte_states.specs.PlacesFit.{state_of}
use Rattle.byte_states.proofs.waiting.used_fit.Given as goal

abbrev pub invariant-loop-i : goal.invariant-loop-i
invariant-loop-i l = LookedAt (state_of l.h l.slots) l.i l.least
