-- `ticket_pieces::copy_ticket` meets its contract.
use Rattle.std.proofs.Common.{sym, ◌∙◌}
use Rattle.ticket_copy_laws.specs.CopyLaws.{other_length, changed-other}
use Rattle.ticket_pieces.proofs.copy_ticket.Goals as goal

pub returns : goal.returns
returns c =
    let t = c.args.ticket.now in
    let n = c.if-ticket-eq-TICKET_LENGTH.false in
    (c.copy_from_slice.ensures.after ∙ sym (other_length t n), sym (changed-other t n))
