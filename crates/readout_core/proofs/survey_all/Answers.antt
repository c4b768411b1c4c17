-- `readout_core::survey_all` meets its contract: the tree's part of keys and marks, then the waiting ones'.
use Rattle.survey_laws.specs.PartLaws.{keys_filled, marks-filled}
use Rattle.readout_core.proofs.survey_all.Goals as goal

pub returns : goal.returns
returns c =
    let b = c in
    let a = b.args in
    let first = c.survey in
    let second = c.survey-2 in
    let keys = first.new.keys in (
      keys_filled a.tree.now a.waiting.now a.keys.now keys b.requires.3 first.ensures.0 second.new.keys second.ensures.0,
      marks-filled a.tree.now a.waiting.now a.keys.now keys b.requires.3 first.ensures.0 a.size a.marks.now
          first.new.marks second.new.marks b.requires.4 first.ensures.1 second.ensures.1,
    )
