-- The good ones of the items before i are put, those of the others are to be.
use Rattle.std.proofs.Common.{◌≡◌, ◌+◌, ◌≤◌, length, drop}
use Rattle.std.proofs.lemmas.List.Edits.{sets}
use Rattle.survey_laws.specs.Items.{good_from}
use Rattle.store_survey.proofs.good_items.Given as goal

abbrev pub invariant-loop-i : goal.invariant-loop-i
invariant-loop-i l =
    let rest = good_from (l.first + l.i) (drop l.i l.marks) in
    let all = good_from l.first l.marks in
    (l.n ≤ l.i) × (l.n + length rest ≡ length all) × (sets l.order l.n rest ≡ sets l.initial.order 0 all)
