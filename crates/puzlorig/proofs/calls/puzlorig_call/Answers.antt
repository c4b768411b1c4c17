-- `puzlorig::calls::puzlorig_call` meets its contract.
use Rattle.std.proofs.Common.{sym, ◌∙◌, ap, ℕ}
use Rattle.host_spec.specs.Host.{host_leaving}
use Rattle.puzlorig.specs.CallLaws.{refused-18}
use Rattle.puzlorig.proofs.calls.puzlorig_call.Goals as goal

pub returns-then-not-lengths_good : goal.returns-then-not-lengths_good
returns-then-not-lengths_good c =
    let a = c.args in
    refused-18 a.state.now a.tree.now a.ticket.now a.tape.now a.trace.now a.res.now (sym c.lengths_good.ensures ∙ c.if-not-lengths_good.true)
