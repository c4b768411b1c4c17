-- `slot_words::store` meets its contract: four runs of stores are one.
use Rattle.slot_laws.specs.WordLaws.{slot-stored}
use Rattle.slot_words.proofs.store.Goals as goal

pub returns : goal.returns
returns c =
    let a = c.args in
    slot-stored a.s.now a.at a.x c.put_word.new.s c.put_word-2.new.s c.put_word-3.new.s c.put_word-4.new.s
    c.put_word.ensures
    c.put_word-2.ensures
    c.put_word-3.ensures
    c.put_word-4.ensures
