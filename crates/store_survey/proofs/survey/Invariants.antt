-- The first i keys and marks are noted, the others are to be.
use Rattle.std.proofs.Common.{◌≡◌, ◌++◌, ◌-◌, length, take}
use Rattle.survey_laws.specs.Items.{marks_from, keys_from}
use Rattle.store_survey.proofs.survey.Given as goal

abbrev pub invariant-loop-i : goal.invariant-loop-i
invariant-loop-i l =
    let n = length l.initial.keys in
    (take l.i l.keys ++ keys_from l.slots (n - l.i) l.i ≡ keys_from l.slots n 0)
    × (take l.i l.marks ++ marks_from l.in_tree l.size l.slots (n - l.i) l.i ≡ marks_from l.in_tree l.size l.slots n 0)
