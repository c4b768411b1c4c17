-- `queue_steps::dequeue` meets its contract: an empty queue, and the oldest.
use mathlib.Core.Path.{sym, ◌∙◌, ap}
use Rattle.method_spec.specs.Prog.{done}
use Rattle.leaf_spec.specs.Convert.{to_link, to_node}
use Rattle.queue_steps.specs.QueueLaws.{dequeue-empty, dequeue-oldest}
use Rattle.queue_steps.proofs.dequeue.Goals as goal

pub returns-then-entries-eq0 : goal.returns-then-entries-eq0
returns-then-entries-eq0 c =
    let a = c.args in
    ap done c.none_made.ensures ∙ sym (dequeue-empty a.entries (to_link a.root) (to_node a.oldest) c.if-entries-eq0.true)

pub returns : goal.returns
returns c =
    let a = c.args in
    rw (
      dequeue-oldest a.entries (to_link a.root) (to_node a.oldest) c.if-entries-eq0.false,
      ← c.one_less.ensures,
      ← c.root_after_out.ensures,
    )
    (ap done c.none_made-2.ensures)
