use native.Mathlib.Omega.{arith}
use Rattle.operations.specs.ResumeLaws.{handed-on}
use Rattle.node_rows.specs.Held.{held_in}
use Rattle.map_ascent.specs.ClimbLaws.{climb-asks, climb-missing, climb-room, climb-level, climb-end}
use Rattle.map_ascent.proofs.climb.Goals as goal

pub raise_or_rest-requires : goal.raise_or_rest-requires
raise_or_rest-requires c =
    climb-asks c.args.key c.args.root (held_in c.args.held.now c.args.count) c.args.b c.requires.0 c.requires.1 (omega arith) c.loop-i.invariant
    c.step_to-p.result c.step_to-p.ensures

pub returns-in_err-r : goal.returns-in_err-r
returns-in_err-r c =
    handed-on _ _ c.from_residual.result c.from_residual.ensures
    (climb-missing c.args.key c.args.root (held_in c.args.held.now c.args.count) c.args.b c.requires.0 c.requires.1 (omega arith) c.loop-i.invariant
    c.step_to-p.result c.step_to-p.ensures c.in_err-r.field-0.0 c.in_err-r.ensures)

pub list_level-done-requires : goal.list_level-done-requires
list_level-done-requires c = (
  c.loop-i.invariant.long,
  climb-room c.args.key c.args.root (held_in c.args.held.now c.args.count) c.args.b c.requires.0 c.requires.1 (omega arith) c.loop-i.invariant
      c.step_to-p.result c.step_to-p.ensures c.in_ok-r.ensures,
)

pub loop-i-preserved : goal.loop-i-preserved
loop-i-preserved c =
    climb-level c.args.key c.args.root (held_in c.args.held.now c.args.count) c.args.b c.requires.0 c.requires.1 (omega arith) c.loop-i.invariant
    c.step_to-p.result c.step_to-p.ensures c.in_ok-r.ensures c.list_level-done.ensures

pub returns : goal.returns
returns c =
    climb-end c.args.key c.args.root (held_in c.args.held.now c.args.count) c.args.b c.requires.0 c.requires.1 (omega arith) c.loop-i.invariant
