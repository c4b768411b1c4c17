-- The lines of the items before i are written, and those of the others make it all and fill the part.
use Rattle.std.proofs.Common.{◌≡◌, ◌++◌, ◌+◌, ◌*◌, length, take}
use Rattle.readout_spec.specs.File.{report_width, report_part}
use Rattle.survey_laws.specs.Items.{omitted_by}
use Rattle.survey_laws.specs.FileLaws.{omitted_from}
use Rattle.readout_parts.proofs.put_report.Given as goal

abbrev pub invariant-loop-i : goal.invariant-loop-i
invariant-loop-i l =
    (l.at + report_width * length (omitted_from l.marks l.i) ≡ length l.part)
    × (take l.at l.part ++ report_part (omitted_from l.marks l.i) ≡ report_part (omitted_by 0 l.marks))
