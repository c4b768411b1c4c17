-- `readout_core::take_items` meets its contract.
use mathlib.Core.Path.{◌∙◌, ap}
use mathlib.Core.List.{List}
use Prim.Native.Nat.{ℕ, ◌≤◌}
use lib.ListN.{length, replicate}
use lib.Seq.{sets}
use Rattle.readout_spec.specs.Seen.{most_items}
use Rattle.survey_laws.specs.Items.{good_order, first_sorted, cleared}
use Rattle.survey_laws.specs.PartLaws.{put-taken, put_count}
use native.Mathlib.Omega.{arith}
use Rattle.readout_core.proofs.take_items.Goals as goal

pub returns : goal.returns
returns c =
    let b = c in
    let a = b.args in
    let g = c.good_order-good in
    let t = c.take_sorted in
    let low : g.result ≤ length (replicate {A = ℕ} most_items 0) = omega (arith, g.ensures.0, b.requires.1) in
    let n = put_count (replicate most_items 0) g.new.order (good_order a.slots a.marks.now) g.result g.ensures.2 g.ensures.1 low in
    let e = put-taken (replicate most_items 0) g.new.order (good_order a.slots a.marks.now) g.result g.ensures.2 g.ensures.1 low in (
      omega (arith, t.ensures.0, n, g.ensures.0),
      t.ensures.1 ∙ ap (λ (is : List ℕ). length (first_sorted a.keys.now is)) e,
      t.ensures.2 ∙ ap (λ (is : List ℕ). sets a.taken.now 0 (first_sorted a.keys.now is)) e,
      t.ensures.3 ∙ ap (λ (is : List ℕ). cleared (first_sorted a.keys.now is) a.marks.now) e,
    )
