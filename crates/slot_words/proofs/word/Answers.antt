-- `slot_words::word` meets its contract: the eight bytes are copied whole, and std reads them as the number that they say.
use Rattle.std.proofs.Common.{◌∙◌, arith}
use Rattle.slot_laws.specs.WordLaws.{word-le}
use Rattle.slot_words.proofs.word.Goals as goal

pub returns : goal.returns
returns c =
    let a = c.args in
    let copied = rw c.unwrap.ensures at c.try_from.ensures.1 in
    c.from_le_bytes.ensures ∙ rw copied.same (word-le a.s.now a.at _ c.requires (omega arith))
