-- `slot_words::load` meets its contract: four words are the slot's 32 bytes.
use Rattle.slot_laws.specs.LittleEndianLaws.{bytes-from}
use Rattle.slot_laws.specs.WordLaws.{slot_read}
use Rattle.slot_words.proofs.load.Goals as goal

pub returns : goal.returns
returns c =
    let a = c.args in
    slot_read a.s.now a.at c.word.result c.word-2.result c.word-3.result c.word-4.result
    (bytes-from a.s.now (λ i h. (c.type_inv.s i).fits))
    c.requires
    c.word.ensures
    c.word-2.ensures
    c.word-3.ensures
    c.word-4.ensures
