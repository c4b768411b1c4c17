use mathlib.Core.Path.{◌∙◌, ap}
use Rattle.slot_spec.specs.declared.Node as node
use Rattle.leaf_spec.specs.Convert.{to_node}
use Rattle.bucket_call_spec.specs.Fetch.{moved_node}
use Rattle.operation_spec.specs.Method.{to_from}
use Rattle.tag_moves.specs.Moved.{fetch_of}
use Rattle.tag_moves.specs.MoveLaws.{moving-turn}
use native.Mathlib.Omega.{arith}
use Rattle.tag_moves.proofs.move_links.Goals as goal

pub loop-i-preserved : goal.loop-i-preserved
loop-i-preserved c =
    let l = c.loop-i in (
      λ m t. moving-turn (fetch_of (to_from c.args.from) m) c.args.held.now c.requires.0 l.held c.set_node.new.row l.i (l.invariant.0 m t)
          (omega (arith, c.loop-i-test.true, c.requires.1)) (c.moved_in.ensures m t ∙ ap (λ (x : node.Node). moved_node (fetch_of (to_from c.args.from) m) (to_node x)) c.node_at-n.ensures)
          c.set_node.ensures.0 c.set_node.ensures.1,
      c.set_node.ensures.1,
    )
