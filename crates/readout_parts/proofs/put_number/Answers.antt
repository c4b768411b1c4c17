-- `readout_parts::put_number` meets its contract.
use Rattle.std.proofs.Common.{◌≡◌, ◌-◌, length, arith}
use Rattle.slot_spec.specs.LittleEndian.{bytes}
use Rattle.survey_laws.specs.FileLaws.{bytes-none, byte-written, all-written}
use Rattle.readout_parts.proofs.put_number.Goals as goal

pub loop-byte-preserved : goal.loop-byte-preserved
loop-byte-preserved c =
    let l = c.loop-byte in
    let w = length c.args.part.now in
    byte-written l.part (bytes w c.args.n) w l.byte-index l.rest (omega arith) (omega arith) l.invariant

pub returns : goal.returns
returns c =
    let l = c.loop-byte in
    let w = length c.args.part.now in
    let z : w - l.byte-index ≡ 0 = omega arith in
    all-written l.part (bytes w c.args.n) (bytes (w - l.byte-index) l.rest) l.byte-index (omega arith) (rw z (bytes-none l.rest)) l.invariant
