-- `answer_words::reply_word` meets its contract.
use Rattle.std.proofs.Common.{refl}
use Rattle.answer_words.proofs.reply_word.Goals as goal

pub returns-in-Err : goal.returns-in-Err
returns-in-Err g c = rw (c.in-Err.is, g.met.C.Cause.refused c.in-Err.field-0) refl
