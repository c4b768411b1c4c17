use mathlib.Core.Path.{subst}
use Rattle.std.specs.Prelude as code
use Rattle.slot_spec.specs.declared.Node as node
use Rattle.node_rows.specs.Held.{held_in}
use Rattle.map_nodes.specs.Method.{to_kid}
use Rattle.map_nodes.specs.Heights.{LowKid}
use Rattle.rotations.specs.RaiseLaws.{opens-here, opens-next, lacks}
use Rattle.rotations.proofs.raise.open_kid.Goals as goal

pub returns-in-Some : goal.returns-in-Some
returns-in-Some c =
    let e = c.in-Some.is in
    rw e (opens-here (held_in c.args.held.now c.args.count) c.args.next c.requires.0 c.in-Some.node
    (subst (λ (k : code.Option node.Node). LowKid 250 (to_kid k)) e c.requires.1))

pub returns-in-None : goal.returns-in-None
returns-in-None c =
    rw c.in-None.is (opens-next (held_in c.args.held.now c.args.count) c.args.next c.requires.0 c.node_at.ensures c.if-next-count.true)

pub returns-in-None-2 : goal.returns-in-None-2
returns-in-None-2 c =
    rw c.in-None-2.is (lacks (held_in c.args.held.now c.args.count) c.args.next c.requires.0 c.if-next-count.false)
