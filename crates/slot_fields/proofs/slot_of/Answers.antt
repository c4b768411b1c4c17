-- `slots::slot_of` meets its contract: the words of a node are its bytes.
use mathlib.Core.Path.{refl}
use Rattle.slot_spec.specs.Slot.{slot_of}
use Rattle.slot_laws.specs.SlotLaws.{slot-encoded}
use Rattle.slot_laws.specs.Ranges.{node-ranges}
use borrow.Author.Rules.{rules}
use Rattle.slot_fields.proofs.slot_of.Goals as goal

pub returns : goal.returns
unfolding slot_of
returns c =
    let n = c.args.n in
    (slot-encoded n (node-ranges n (search rules)), refl)
