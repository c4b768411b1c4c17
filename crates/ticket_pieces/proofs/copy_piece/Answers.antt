-- `ticket_pieces::copy_piece` meets its contract.
use Rattle.std.proofs.Common.{◌≡◌, refl, sym, ◌∙◌, true, false, add-zero, ◌+◌, ◌-◌, ◌*◌, ◌%◌, length, arith}
use Rattle.ticket_pieces.specs.TurnLaws.{piece-none, piece-more, piece-done}
use Rattle.ticket_pieces.proofs.copy_piece.Goals as goal
use Rattle.ticket_pieces.proofs.copy_piece.Goals.{then-changed, else-changed}

pub loop-i-init : goal.loop-i-init
loop-i-init c = (omega arith, piece-none c.args.piece.now c.args.out.now)

pub loop-i-preserved : goal.loop-i-preserved
loop-i-preserved c =
    let l = c.loop-i in
    let t = c.copy_ticket-changed in
    let e : 13 * (l.i + 1) ≡ 13 * l.i + 13 = omega arith in
    let more = piece-more c.args.piece.now l.out (13 * l.i) l.count (omega arith) l.invariant.1 _ (omega arith) t.ensures.0 in
    elim c.if-changed.branch [
      | then-changed w ↦ (omega (arith, w.count-is), rw (w.count-is, e) (more true (sym w.if-changed.true ∙ t.ensures.1) 1 refl))
      | else-changed w ↦ (omega (arith, w.count-is), rw (w.count-is, e) (rw add-zero at (more false (sym w.if-changed.false ∙ t.ensures.1) 0 refl)))
    ]

pub returns : goal.returns
returns c =
    let l = c.loop-i in
    let p = c.args.piece.now in
    let e : length p - length p % 13 ≡ 13 * l.i = omega arith in
    rw e (piece-done p l.out (13 * l.i) l.count (omega arith) l.invariant.1 _ (omega arith) (omega arith) (rw e at c.copy_ticket.ensures.0))
