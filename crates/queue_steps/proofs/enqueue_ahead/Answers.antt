-- `queue_steps::enqueue_ahead` meets its contract: a full queue, and one with room.
use mathlib.Core.Path.{sym, ◌∙◌}
use Rattle.leaf_spec.specs.Convert.{to_ahead}
use Rattle.queue_steps.specs.QueueLaws.{ahead-full, ahead-one}
use Rattle.queue_steps.proofs.enqueue_ahead.Goals as goal

pub returns-then-entries-limit : goal.returns-then-entries-limit
returns-then-entries-limit c =
    let a = c.args in
    sym (ahead-full a.spares.second a.entries a.limit (to_ahead a.spares.ahead) c.if-entries-limit.true)

pub returns : goal.returns
returns c =
    let a = c.args in
    c.next_ahead.ensures ∙ sym (ahead-one a.spares.second a.entries a.limit (to_ahead a.spares.ahead) c.if-entries-limit.false)
