-- `slots::node_of` meets its contract: each field is a part of a word.
use mathlib.Core.Path.{sym, ap}
use Rattle.slot_laws.specs.Ranges.{slot-ranges}
use Rattle.slot_spec.specs.Slot.{node_of}
use Rattle.slot_laws.specs.SlotLaws.{fields-in-words, fields_of_words}
use borrow.Author.Rules.{rules}
use Rattle.slot_fields.proofs.node_of.Goals as goal

pub returns : goal.returns
unfolding fields_of_words node_of
returns c = let x = c.args.x in
    sym (ap node_of (fields-in-words x (slot-ranges x (search rules))))
