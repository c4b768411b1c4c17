-- `readout_core::write_file` meets its contract: the parts one after the other.
use Rattle.survey_laws.specs.Items.{items_file}
use Rattle.survey_laws.specs.WriteLaws.{too_short, long-enough, items-length, file-written}
use Rattle.readout_core.proofs.write_file.Goals as goal

pub returns-then-out-end : goal.returns-then-out-end
returns-then-out-end c =
    let a = c.args in
    let t = c.reported in
    too_short (items_file a.tree.now a.waiting.now a.keys.now a.taken.now a.marks.now) a.out.now _
    (items-length a.tree.now a.waiting.now a.keys.now a.taken.now a.marks.now t.result t.ensures.0) c.if-out-end.true

pub returns : goal.returns
returns c =
    let a = c.args in
    let t = c.reported in
    let f = items_file a.tree.now a.waiting.now a.keys.now a.taken.now a.marks.now in
    long-enough f a.out.now _ _
    (items-length a.tree.now a.waiting.now a.keys.now a.taken.now a.marks.now t.result t.ensures.0) c.if-out-end.false
    (file-written a.tree.now a.waiting.now a.keys.now a.taken.now a.marks.now t.result t.ensures.0 a.out.now
    c.put_number.new.part c.put_index.new.part c.put_values.new.part c.put_report.new.part c.if-out-end.false
    c.put_number.ensures c.put_index.ensures c.put_values.ensures c.put_report.ensures)
