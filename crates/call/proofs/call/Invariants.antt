-- `call` meets its contract. Two loops look at the places and load them, the third saves them.
use Rattle.std.proofs.Common.{◌≡◌}
use Rattle.stash.specs.StashLaws.{LoadedTo}
use Rattle.stash.specs.LookLaws.{LookedAt}
use Rattle.stash.specs.SaveLaws.{saved_to}
use Rattle.call.proofs.call.Given as goal

abbrev pub invariant-loop-i : goal.invariant-loop-i
invariant-loop-i l = LookedAt l.state l.i l.least × LoadedTo l.i l.state.places l.w

abbrev pub invariant-loop-i-2 : goal.invariant-loop-i-2
invariant-loop-i-2 l = LookedAt l.state l.i l.least

abbrev pub invariant-loop-j : goal.invariant-loop-j
invariant-loop-j l = l.left ≡ saved_to l.j l.m l.w l.initial.left
