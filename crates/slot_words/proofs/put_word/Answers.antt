-- `slot_words::put_word` meets its contract: the number's eight bytes stand in place of those from there on.
use Rattle.std.proofs.Common.{arith}
use Rattle.slot_laws.specs.WordLaws.{word-copied}
use Rattle.slot_words.proofs.put_word.Goals as goal

pub returns : goal.returns
returns c =
    let a = c.args in
    rw (c.copy_from_slice.ensures.after, c.to_le_bytes.ensures) (word-copied a.s.now a.at _ a.v c.requires (omega arith))
