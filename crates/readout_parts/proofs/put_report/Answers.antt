-- `readout_parts::put_report` meets its contract.
use Rattle.std.proofs.Common.{◌+◌, ◌≤◌, ◌<◌, ap, length, arith}
use Rattle.readout_spec.specs.File.{report_width, report_part}
use Rattle.survey_laws.specs.Items.{omitted_by}
use Rattle.survey_laws.specs.FileLaws.{omitted_from, omitted-skip, omitted-more, omitted-none, omission-written, report-none, all-written}
use Rattle.readout_parts.proofs.put_report.Goals as goal
use Rattle.readout_parts.proofs.put_report.Goals.{then-mark-ne0, else-mark-ne0}

pub slice_bounds-line-end : goal.slice_bounds-line-end
slice_bounds-line-end c =
    let e = ap length (omitted-more c.args.marks.now c.loop-i.i (omega arith) c.if-mark-ne0.true) in
    omega arith

pub loop-i-preserved : goal.loop-i-preserved
loop-i-preserved c =
    let m = c.args.marks.now in
    let l = c.loop-i in
    let h : l.i < length m = omega arith in
    elim c.if-mark-ne0.branch [
      | then-mark-ne0 w ↦
          let e = ap length (omitted-more m l.i h w.if-mark-ne0.true) in
          let r : l.at + report_width ≤ length l.part = omega arith in
          let k = omission-written m l.part (report_part (omitted_by 0 m)) w.put_pair.new.part l.at l.i h w.if-mark-ne0.true r (rw w.from.ensures at w.put_pair.ensures) l.invariant.1 in
          (omega arith, rw (w.part-is, w.at-is) k)
      | else-mark-ne0 w ↦ let e = omitted-skip m l.i h w.if-mark-ne0.false in rw (w.part-is, w.at-is, ← e) l.invariant
    ]

pub returns : goal.returns
returns c =
    let m = c.args.marks.now in
    let l = c.loop-i in
    let h : length m ≤ l.i = omega arith in
    let e = ap length (omitted-none m l.i h) in
    all-written l.part (report_part (omitted_by 0 m)) (report_part (omitted_from m l.i)) l.at (omega arith) (report-none m l.i h) l.invariant.1
