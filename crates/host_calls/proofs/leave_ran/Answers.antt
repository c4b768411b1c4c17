-- `host_calls::leave_ran` meets its contract.
use borrow.Author.Rules.{rules}
use Rattle.slot_laws.specs.LittleEndianLaws.{bytes-from}
use Rattle.host_calls.specs.LeftLaws.{state-left}
use Rattle.host_calls.proofs.leave_ran.Goals as goal

pub returns : goal.returns
returns c =
    let a = c.args in
    state-left a.h a.r a.state.now c.requires (bytes-from a.state.now (λ i g. search rules))
    c.head_left.result c.write_head.new.state c.head_left.ensures c.write_head.ensures
