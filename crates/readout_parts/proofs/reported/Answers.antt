-- `readout_parts::reported` meets its contract.
use Rattle.std.proofs.Common.{ap, ◌<◌, length, arith}
use Rattle.survey_laws.specs.FileLaws.{omitted-skip, omitted-more, omitted-none}
use Rattle.readout_parts.proofs.reported.Goals as goal
use Rattle.readout_parts.proofs.reported.Goals.{then-mark-ne0, else-mark-ne0}

pub loop-mark-preserved : goal.loop-mark-preserved
loop-mark-preserved c =
    let l = c.loop-mark in
    let m = c.args.marks.now in
    let h : l.mark-index < length m = omega arith in
    elim c.if-mark-ne0.branch [
      | then-mark-ne0 w ↦ let e = ap length (omitted-more m l.mark-index h w.if-mark-ne0.true) in omega arith
      | else-mark-ne0 w ↦ let e = ap length (omitted-skip m l.mark-index h w.if-mark-ne0.false) in omega arith
    ]

pub returns : goal.returns
returns c =
    let l = c.loop-mark in
    let e = ap length (omitted-none c.args.marks.now l.mark-index (omega arith)) in
    omega arith
