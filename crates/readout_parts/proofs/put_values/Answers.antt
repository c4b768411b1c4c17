-- `readout_parts::put_values` meets its contract.
use Rattle.std.proofs.Common.{◌*◌, drop, map, arith}
use Rattle.readout_spec.specs.File.{value_width, values_part}
use Rattle.survey_laws.specs.Items.{value_in}
use Rattle.survey_laws.specs.FileLaws.{values-none, value_written, all-written}
use Rattle.readout_parts.proofs.put_values.Goals as goal

pub loop-i-preserved : goal.loop-i-preserved
loop-i-preserved c =
    let l = c.loop-i in
    let t = c.args.taken.now in
    let f = value_in c.args.tree.now c.args.waiting.now in
    value_written f t l.part (values_part (map f t)) c.put_number.new.part l.i c.item_value-value.result
    (omega arith) c.item_value-value.ensures (omega arith) c.put_number.ensures l.invariant

pub returns : goal.returns
returns c =
    let l = c.loop-i in
    let t = c.args.taken.now in
    let f = value_in c.args.tree.now c.args.waiting.now in
    all-written l.part (values_part (map f t)) (values_part (map f (drop l.i t))) (value_width * l.i) (omega arith)
    (values-none f t l.i (omega arith)) l.invariant
