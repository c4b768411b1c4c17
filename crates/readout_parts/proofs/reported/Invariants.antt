-- Those counted, with those reported from the index on, are all.
use Rattle.std.proofs.Common.{◌≡◌, ◌+◌, ◌≤◌, length}
use Rattle.survey_laws.specs.Items.{omitted_by}
use Rattle.survey_laws.specs.FileLaws.{omitted_from}
use Rattle.readout_parts.proofs.reported.Given as goal

abbrev pub invariant-loop-mark : goal.invariant-loop-mark
invariant-loop-mark l =
    (l.count ≤ l.mark-index) × (l.count + length (omitted_from l.marks l.mark-index) ≡ length (omitted_by 0 l.marks))
