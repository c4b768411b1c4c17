-- `queue_steps::dequeue_wanted` meets its contract: an empty queue, and the oldest wanted.
use mathlib.Core.Path.{sym, ◌∙◌, ap}
use mathlib.Core.Option.{some}
use Rattle.leaf_spec.specs.Convert.{to_link}
use Rattle.queue_steps.specs.QueueLaws.{dequeue-wants-none, dequeue-wants-oldest}
use Rattle.queue_steps.proofs.dequeue_wanted.Goals as goal

pub returns-then-entries-eq0 : goal.returns-then-entries-eq0
returns-then-entries-eq0 c = let a = c.args in sym (dequeue-wants-none a.entries (to_link a.root) c.if-entries-eq0.true)

pub returns : goal.returns
returns c =
    let a = c.args in
    ap some c.start.ensures ∙ sym (dequeue-wants-oldest a.entries (to_link a.root) c.if-entries-eq0.false)
