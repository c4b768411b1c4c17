-- `ticket_pieces::copy_whole` meets its contract.
use Rattle.std.proofs.Common.{sym, ◌∙◌}
use Rattle.ticket_copy_laws.specs.CopyLaws.{changed-is-stray}
use Rattle.ticket_pieces.specs.TurnLaws.{ticket-written}
use Rattle.ticket_pieces.proofs.copy_whole.Goals as goal

pub returns : goal.returns
returns c =
    let a = c.args in (
      ticket-written a.ticket.now a.out.now _ _ _ c.uses-used.result c.requires.0 c.requires.1 c.uses-used.ensures c.copy_field.ensures c.copy_field-2.ensures c.copy_field-3.ensures,
      c.has_stray.ensures ∙ sym (changed-is-stray a.ticket.now c.requires.0),
    )
