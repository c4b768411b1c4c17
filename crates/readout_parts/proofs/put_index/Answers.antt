-- `readout_parts::put_index` meets its contract.
use Rattle.std.proofs.Common.{◌+◌, ◌*◌, length, drop, map, arith}
use Rattle.readout_spec.specs.File.{value_width, index_width, index, values_start}
use Rattle.survey_laws.specs.Items.{key_in}
use Rattle.survey_laws.specs.FileLaws.{index-none, index-written, all-written}
use Rattle.readout_parts.proofs.put_index.Goals as goal

pub loop-i-preserved : goal.loop-i-preserved
loop-i-preserved c =
    let l = c.loop-i in
    let t = c.args.taken.now in
    let f = key_in c.args.keys.now in
    index-written f t l.part (index (values_start (length t)) (map f t)) c.put_pair.new.part l.i c.key_at-key.result
    (omega arith) c.key_at-key.ensures (values_start (length t)) (omega arith) c.put_pair.ensures l.invariant

pub returns : goal.returns
returns c =
    let l = c.loop-i in
    let t = c.args.taken.now in
    let f = key_in c.args.keys.now in
    let start = values_start (length t) in
    all-written l.part (index start (map f t)) (index (start + value_width * l.i) (map f (drop l.i t))) (index_width * l.i)
    (omega arith) (index-none f t (start + value_width * l.i) l.i (omega arith)) l.invariant
