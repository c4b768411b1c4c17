-- `byte_states::read_head` meets its contract.
use Rattle.slot_laws.specs.LittleEndianLaws.{bytes-from}
use Rattle.lent_bytes_laws.specs.HeadLaws.{head_of_words}
use Rattle.lent_bytes_laws.specs.HeadLaws.{head_read}
use Rattle.byte_states.proofs.read_head.Goals as goal

-- src/lib.rt:22:1
pub returns : goal.returns
unfolding head_of_words
returns c =
    let s = c.args.state.now in
    head_read s c.word-a.result c.word-b.result (bytes-from s (λ i h. (c.type_inv.state i).fits))
    c.requires c.word-a.ensures c.word-b.ensures
