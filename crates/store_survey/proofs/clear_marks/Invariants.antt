-- The marks of the items before the index are cleared, those of the others are to be.
use Rattle.std.proofs.Common.{◌≡◌, drop}
use Rattle.survey_laws.specs.Items.{cleared}
use Rattle.store_survey.proofs.clear_marks.Given as goal

abbrev pub invariant-loop-item : goal.invariant-loop-item
invariant-loop-item l = cleared (drop l.item-index l.taken) l.marks ≡ cleared l.taken l.initial.marks
