-- `byte_states::waiting::places_fit` meets its contract.
use mathlib.Core.Path.{◌≡◌, sym, ◌∙◌, ap}
use Prim.Native.Nat.{◌-◌, ◌*◌}
use lib.ListN.{length, take, drop, length-drop}
use lib.Seq.{take_all}
use Rattle.slot_spec.specs.Tree.{slot_length}
use Rattle.slot_spec.specs.Slot.{all_zero}
use Rattle.byte_states.specs.PlacesFitLaws.{rest-fits}
use native.Mathlib.Omega.{arith}
use Rattle.byte_states.proofs.waiting.places_fit.Goals as goal

pub returns-then-used_fit : goal.returns-then-used_fit
returns-then-used_fit c =
    let u = c.used_fit in
    let slots = c.args.slots.now in
    let n = slot_length * c.args.h.waiting in
    let whole : take (length slots - n) (drop n slots) ≡ drop n slots = take_all (length slots - n) (drop n slots) (omega (arith, length-drop n slots)) in
    (rw c.from.ensures at c.is_blank.ensures) ∙ ap all_zero whole
    ∙ rest-fits c.args.h slots c.requires.0 c.requires.1.0 (sym u.ensures ∙ c.if-used_fit.true)
