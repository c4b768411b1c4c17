use mathlib.Core.Path.{sym, ◌∙◌}
use mathlib.Core.Bool.{true, false}
use Rattle.node_rows.specs.Held.{held_in}
use Rattle.map_nodes.specs.Method.{to_step, to_sub}
use Rattle.rotations.specs.RaiseLaws.{low_turn, raises-left, raises-right, raises-rest, raises-level-rest}
use Rattle.rotations.proofs.raise.raise.Goals as goal

pub turn-requires : goal.turn-requires
turn-requires c = (
  c.requires.0,
  low_turn (to_step c.args.p) (to_sub c.args.b) true c.place-n.ensures c.near_on-near.ensures c.requires.1.0 c.requires.1.1,
)

pub returns-then-is_tall : goal.returns-then-is_tall
returns-then-is_tall c =
    let a = c.args in
    raises-left (to_step a.p) (to_sub a.b) (held_in a.held.now a.count) a.next c.place-n.ensures c.others_of-others.result c.turn.result
    (sym c.is_tall.ensures ∙ c.if-is_tall.true) c.near_on-near.ensures c.others_of-others.ensures c.turn.ensures

pub turn-requires-then-is_tall-2 : goal.turn-requires-then-is_tall-2
turn-requires-then-is_tall-2 c = (
  c.requires.0,
  low_turn (to_step c.args.p) (to_sub c.args.b) false c.place-n.ensures c.near_on-near-then-is_tall-2.ensures c.requires.1.0 c.requires.1.1,
)

pub returns-then-is_tall-2 : goal.returns-then-is_tall-2
returns-then-is_tall-2 c =
    let a = c.args in
    raises-right (to_step a.p) (to_sub a.b) (held_in a.held.now a.count) a.next c.place-n.ensures c.others_of-others-then-is_tall-2.result c.turn-then-is_tall-2.result
    (sym c.is_tall.ensures ∙ c.if-is_tall.false) (sym c.is_tall-2.ensures ∙ c.if-is_tall-2.true)
    c.near_on-near-then-is_tall-2.ensures c.others_of-others-then-is_tall-2.ensures c.turn-then-is_tall-2.ensures

pub returns : goal.returns
returns c =
    let a = c.args in
    let r = c.rest.ensures in
    raises-level-rest (to_step a.p) (to_sub a.b) (held_in a.held.now a.count) a.next c.place-n.ensures
    (sym c.is_tall.ensures ∙ c.if-is_tall.false) (sym c.is_tall-2.ensures ∙ c.if-is_tall-2.false)
    (raises-rest (to_step a.p) (to_sub a.b) (held_in a.held.now a.count) a.next r.0 r.1 c.requires.0.within)
