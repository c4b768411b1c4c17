-- Of the items before the index the first of each key are put, those of the others are to be.
use Rattle.std.proofs.Common.{◌≡◌, ◌+◌, ◌≤◌, length, drop}
use Rattle.std.proofs.lemmas.List.Edits.{sets}
use Rattle.survey_laws.specs.Items.{key_in, heads}
use Rattle.survey_laws.specs.ItemLaws.{heads_from}
use Rattle.store_survey.proofs.first_of_each.Given as goal

abbrev pub invariant-loop-item : goal.invariant-loop-item
invariant-loop-item l =
    let rest = heads_from (key_in l.keys) l.last (drop l.item-index l.order) in
    let all = heads (key_in l.keys) l.order in
    (l.n ≤ l.item-index) × (l.n + length rest ≡ length all) × (sets l.taken l.n rest ≡ sets l.initial.taken 0 all)
