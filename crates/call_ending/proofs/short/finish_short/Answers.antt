-- `call_ending::short::finish_short` meets its contract: the node of the step, if it made one, joins those waiting, and the put rounds follow.
use mathlib.Core.Path.{◌≡◌, ◌∙◌, ap}
use mathlib.Core.List.{List}
use Prim.Native.Nat.{ℕ}
use Rattle.method_spec.specs.Node.{Node}
use Rattle.method_spec.specs.Outcome.{Outcome}
use Rattle.round_spec.specs.Round.{join}
use Rattle.leaf_spec.specs.Leaf.{leaf_format}
use Rattle.stash_laws.specs.Waiting.{waiting_in}
use Rattle.short_outcomes.specs.OneFetch.{to_one_outcome}
use Rattle.want_rounds.specs.Wanting.{held_one, nodes_held}
use Rattle.call_ending.specs.Ending.{outcome_of, CanPut}
use Rattle.call_ending.specs.EndingLaws.{can-put, finish-ends}
use Rattle.call_ending.specs.ShortLaws.{made-joined, step-one}
use Rattle.call_ending.proofs.short.finish_short.Goals as goal

pub put_rounds-puts-requires : goal.put_rounds-puts-requires
put_rounds-puts-requires c =
    let held : List (Node ℕ) = nodes_held (held_one c.args.r) in
    let made : to_one_outcome c.short_step-o.result ≡ outcome_of c.args.job held = step-one c.args.r c.args.job c.short_step-o.result c.requires.1.0.1 c.short_step-o.ensures in
    let puts-begin : CanPut c.args.job c.join_made-m.result c.join_made-m.new.w c.args.tree.now =
    (let f = c.args.r.fetched in
    let joined = c.join_made-m.ensures in
    can-put c.args.job f held c.requires.0 joined.holds (made-joined f.waiting c.short_step-o.result joined ∙ ap (λ (o : Outcome ℕ). join leaf_format o.nodes (waiting_in f.waiting c.args.w.now)) made)) in
    (puts-begin.after-step, (c.requires.0.some-rounds, c.requires.1.1))

pub returns : goal.returns
returns c =
    let held : List (Node ℕ) = nodes_held (held_one c.args.r) in
    let made : to_one_outcome c.short_step-o.result ≡ outcome_of c.args.job held = step-one c.args.r c.args.job c.short_step-o.result c.requires.1.0.1 c.short_step-o.ensures in
    let f = c.args.r.fetched in
    let joined = c.join_made-m.ensures in
    finish-ends c.args.job f held c.requires.0 joined.holds (made-joined f.waiting c.short_step-o.result joined ∙ ap (λ (o : Outcome ℕ). join leaf_format o.nodes (waiting_in f.waiting c.args.w.now)) made) made
    (c.finished.ensures _ _ _ _ _ _ _ _ _ c.requires.1.1.1 c.put_rounds-puts.ensures)
