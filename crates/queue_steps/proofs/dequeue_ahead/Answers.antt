-- `queue_steps::dequeue_ahead` meets its contract: the last one gone, and others left.
use mathlib.Core.Path.{sym}
use Rattle.leaf_spec.specs.Convert.{to_ahead}
use Rattle.queue_steps.specs.QueueLaws.{ahead-last, ahead-kept}
use Rattle.queue_steps.proofs.dequeue_ahead.Goals as goal

pub returns-then-entries-eq1 : goal.returns-then-entries-eq1
returns-then-entries-eq1 c = let a = c.args in sym (ahead-last a.entries (to_ahead a.ahead) c.if-entries-eq1.true)

pub returns : goal.returns
returns c = let a = c.args in sym (ahead-kept a.entries (to_ahead a.ahead) c.if-entries-eq1.false)
