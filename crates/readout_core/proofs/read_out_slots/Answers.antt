-- `readout_core::read_out_slots` meets its contract.
use Rattle.std.proofs.Common.{◌∙◌, ap, ℕ, ◌≤◌, List, length, replicate, length-take, arith}
use Rattle.readout_spec.specs.Seen.{most_items}
use Rattle.survey_laws.specs.Items.{slots_in, taken_items, fitting}
use Rattle.survey_laws.specs.PartLaws.{put-taken}
use Rattle.survey_laws.specs.WriteLaws.{slots-file}
use Rattle.readout_core.proofs.read_out_slots.Goals as goal

pub returns : goal.returns
returns c =
    let a = c.args in
    let s = c.survey_all in
    let t = c.take_items-count in
    let row = replicate {A = ℕ} most_items 0 in
    let items = taken_items (slots_in a.tree.now) s.new.keys s.new.marks in
    let low : t.result ≤ length row = omega (arith, t.ensures.0, length-take {A = ℕ}) in
    c.write_file.ensures
    ∙ ap (λ (f : List ℕ). fitting f a.out.now)
    (slots-file a.size a.tree.now a.waiting.now s.new.keys s.new.marks _ t.new.marks s.ensures.0 s.ensures.1
    (put-taken row t.new.taken items t.result t.ensures.2 t.ensures.1 low) t.ensures.3)
