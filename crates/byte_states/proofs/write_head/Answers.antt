-- `byte_states::write_head` meets its contract.
use Rattle.lent_bytes_laws.specs.HeadLaws.{first_word, second_word, head-ranges, head-stored}
use borrow.Author.Rules.{rules}
use Rattle.byte_states.proofs.write_head.Goals as goal

-- src/lib.rt:42:1
pub returns : goal.returns
unfolding first_word second_word
returns c =
    head-stored c.args.h (head-ranges c.args.h (search rules)) c.args.state.now
    c.put_word.new.s c.put_word-2.new.s c.requires
    c.put_word.ensures c.put_word-2.ensures
