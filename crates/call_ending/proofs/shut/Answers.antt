-- `call_ending::shut` meets its contract: the tags are moved in the row of held nodes, which then joins those waiting.
use mathlib.Core.Path.{◌∙◌, ap}
use mathlib.Core.List.{List}
use Prim.Native.Nat.{ℕ}
use Rattle.method_spec.specs.Node.{Node}
use Rattle.round_spec.specs.Round.{join}
use Rattle.leaf_spec.specs.Leaf.{leaf_format}
use Rattle.node_rows.specs.Held.{held_in}
use Rattle.stash_laws.specs.Waiting.{waiting_in}
use Rattle.want_rounds.specs.Wanting.{held_by}
use Rattle.call_ending.specs.EndingLaws.{shut-ends}
use Rattle.call_ending.proofs.shut.Goals as goal

pub returns : goal.returns
returns c =
    let a = c.args in
    let moved = c.move_tags-root.ensures in
    let joined = c.join_nodes-waiting.ensures in
    shut-ends a.job a.f a.cause (held_by (held_in a.held.now a.f.count) a.froms.now) moved.link joined.holds
    (joined.waiting ∙ ap (λ (ns : List (Node ℕ)). join leaf_format ns (waiting_in a.f.waiting a.w.now)) moved.nodes) c.closed.ensures
