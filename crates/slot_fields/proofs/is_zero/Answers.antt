-- `slots::is_zero` meets its contract: 32 bytes are zero if the words are zero together.
use borrow.Author.Rules.{rules}
use Rattle.slot_laws.specs.Ranges.{slot-ranges}
use Rattle.slot_laws.specs.SlotLaws.{zero-together}
use Rattle.slot_fields.proofs.is_zero.Goals as goal

pub returns : goal.returns
returns c = let x = c.args.x in zero-together x (slot-ranges x (search rules))
