-- `slots::tag_of` meets its contract: the own tag is the low part of the third word.
use mathlib.Core.Path.{sym, ap}
use Rattle.slot_laws.specs.Ranges.{slot-ranges}
use Rattle.slot_spec.specs.Slot.{Fields}
use Rattle.slot_laws.specs.SlotLaws.{fields-in-words, fields_of_words}
use borrow.Author.Rules.{rules}
use Rattle.slot_fields.proofs.tag_of.Goals as goal

pub returns : goal.returns
unfolding fields_of_words
returns c = let x = c.args.x in
    sym (ap (λ (f : Fields). f.tag) (fields-in-words x (slot-ranges x (search rules))))
