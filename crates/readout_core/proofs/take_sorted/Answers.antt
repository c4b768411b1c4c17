-- `readout_core::take_sorted` meets its contract.
use mathlib.Core.Path.{◌∙◌, ap}
use mathlib.Core.List.{List}
use Prim.Native.Nat.{ℕ}
use Rattle.survey_laws.specs.Items.{cleared}
use Rattle.survey_laws.specs.PartLaws.{first-bound, first_count, first-put, first_taken}
use Rattle.readout_core.proofs.take_sorted.Goals as goal

pub returns : goal.returns
returns c =
    let b = c in
    let s = c.sort in
    let f = c.first_of_each-count in (
      first-bound b.args.keys.now b.args.order.now s.new.order b.args.taken.now f.new.taken f.result b.requires.1 s.ensures f.ensures.0 f.ensures.1 f.ensures.2,
      first_count b.args.keys.now b.args.order.now s.new.order b.args.taken.now f.new.taken f.result b.requires.1 s.ensures f.ensures.0 f.ensures.1 f.ensures.2,
      first-put b.args.keys.now b.args.order.now s.new.order b.args.taken.now f.new.taken f.result b.requires.1 s.ensures f.ensures.0 f.ensures.1 f.ensures.2,
      c.clear_marks.ensures ∙ ap (λ (is : List ℕ). cleared is b.args.marks.now) (first_taken b.args.keys.now b.args.order.now s.new.order b.args.taken.now f.new.taken f.result b.requires.1 s.ensures f.ensures.0 f.ensures.1 f.ensures.2),
    )
