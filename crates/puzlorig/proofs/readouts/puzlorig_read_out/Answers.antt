-- `puzlorig::readouts::puzlorig_read_out` meets its contract.
use Rattle.std.proofs.Common.{◌∙◌, sym, ap, arith}
use Rattle.std.specs.Prelude.{Ok, Err}
use Rattle.readout_spec.specs.ReadOut.{read_out_number, length_of}
use Rattle.puzlorig.specs.ReadOutLaws.{read-bad-length, refused-by, few-wait, part-asks, file-by}
use Rattle.puzlorig.proofs.readouts.puzlorig_read_out.Goals as goal

pub returns-then-state-ne-STATE_LENGTH : goal.returns-then-state-ne-STATE_LENGTH
returns-then-state-ne-STATE_LENGTH c = let a = c.args in read-bad-length a.state.now a.tree.now a.out.now c.if-state-ne-STATE_LENGTH.true

pub returns-in-Err : goal.returns-in-Err
returns-in-Err c =
    let a = c.args in
    rw (c.from.ensures, c.number_of.ensures)
    (refused-by a.state.now a.tree.now a.out.now c.read_head-h.result c.read_head-h.ensures c.if-state-ne-STATE_LENGTH.false c.in-Err.cause c.in-Err.ensures)

pub slice_bounds-read_out_slots-end : goal.slice_bounds-read_out_slots-end
slice_bounds-read_out_slots-end c =
    let a = c.args in
    let few = few-wait a.state.now a.tree.now a.out.now c.read_head-h.result c.read_head-h.ensures c.if-state-ne-STATE_LENGTH.false c.in_default.ensures in
    omega (arith, few, c.from-2.ensures)

pub read_out_slots-requires : goal.read_out_slots-requires
read_out_slots-requires c =
    let a = c.args in
    rw (c.from-3.ensures, c.from-2.ensures)
    (part-asks a.state.now a.tree.now a.out.now c.read_head-h.result c.read_head-h.ensures c.if-state-ne-STATE_LENGTH.false c.in_default.ensures)

pub returns-in-Ok : goal.returns-in-Ok
unfolding read_out_number length_of
returns-in-Ok c =
    let a = c.args in
    file-by a.state.now a.tree.now a.out.now c.read_head-h.result c.read_head-h.ensures c.if-state-ne-STATE_LENGTH.false c.in_default.ensures
    (Ok c.in-Ok.length) c.read_out_slots.new.out (rw (c.from-3.ensures, c.from-2.ensures) at c.in-Ok.ensures)

pub returns-in-Err-read_out_slots : goal.returns-in-Err-read_out_slots
unfolding read_out_number length_of
returns-in-Err-read_out_slots c =
    let a = c.args in
    let e = c.in-Err-read_out_slots in
    rw (c.from-in-Err-read_out_slots.ensures, c.number_of-in-Err-read_out_slots.ensures)
    (file-by a.state.now a.tree.now a.out.now c.read_head-h.result c.read_head-h.ensures c.if-state-ne-STATE_LENGTH.false c.in_default.ensures
    (Err e.cause) c.read_out_slots.new.out (rw (c.from-3.ensures, c.from-2.ensures) at e.ensures))
