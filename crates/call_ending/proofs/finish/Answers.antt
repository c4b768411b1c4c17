-- `call_ending::finish` meets its contract: the nodes of the step join those waiting, and the put rounds follow.
use mathlib.Core.Path.{◌∙◌, ap}
use mathlib.Core.List.{List}
use Prim.Native.Nat.{ℕ}
use Rattle.method_spec.specs.Node.{Node}
use Rattle.method_spec.specs.Outcome.{Outcome}
use Rattle.round_spec.specs.Round.{join}
use Rattle.leaf_spec.specs.Leaf.{leaf_format}
use Rattle.node_rows.specs.Held.{held_in, nodes_of}
use Rattle.stash_laws.specs.Waiting.{waiting_in}
use Rattle.call_ending.specs.Ending.{CanPut}
use Rattle.call_ending.specs.EndingLaws.{can-put, finish-ends}
use Rattle.call_ending.proofs.finish.Goals as goal

pub put_rounds-puts-requires : goal.put_rounds-puts-requires
put_rounds-puts-requires c =
    let held : List (Node ℕ) = nodes_of (held_in c.args.held.now c.args.f.count) in
    let puts-begin : CanPut c.args.job c.join_nodes-m.result c.join_nodes-m.new.w c.args.tree.now =
    (let f = c.args.f in
    let joined = c.join_nodes-m.ensures in
    can-put c.args.job f held c.requires.0 joined.holds (joined.waiting ∙ ap (λ (o : Outcome ℕ). join leaf_format o.nodes (waiting_in f.waiting c.args.w.now)) c.step_of-o.ensures.0)) in
    (puts-begin.after-step, (c.requires.0.some-rounds, c.requires.1.1))

pub returns : goal.returns
returns c =
    let held : List (Node ℕ) = nodes_of (held_in c.args.held.now c.args.f.count) in
    let f = c.args.f in
    let joined = c.join_nodes-m.ensures in
    finish-ends c.args.job f held c.requires.0 joined.holds (joined.waiting ∙ ap (λ (o : Outcome ℕ). join leaf_format o.nodes (waiting_in f.waiting c.args.w.now)) c.step_of-o.ensures.0) c.step_of-o.ensures.0
    (c.finished.ensures _ _ _ _ _ _ _ _ _ c.requires.1.1.1 c.put_rounds-puts.ensures)
