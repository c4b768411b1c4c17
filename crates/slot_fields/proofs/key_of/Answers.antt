-- `slots::key_of` meets its contract: the key is the high half of the first word.
use mathlib.Core.Path.{sym, ap}
use Rattle.slot_laws.specs.Ranges.{slot-ranges}
use Rattle.slot_spec.specs.Slot.{Fields}
use Rattle.slot_laws.specs.SlotLaws.{fields-in-words, fields_of_words}
use borrow.Author.Rules.{rules}
use Rattle.slot_fields.proofs.key_of.Goals as goal

pub returns : goal.returns
unfolding fields_of_words
returns c = let x = c.args.x in
    sym (ap (λ (f : Fields). f.key) (fields-in-words x (slot-ranges x (search rules))))
