-- `queue_steps::enqueue` meets its contract: a full queue, and one with room.
use native.Mathlib.Numerals.{add-one}
use mathlib.Core.Path.{sym, ◌∙◌, ap}
use Rattle.method_spec.specs.Prog.{done}
use Rattle.leaf_spec.specs.Convert.{to_link, to_ahead}
use Rattle.queue_steps.specs.QueueLaws.{enqueue-full, enqueue-one}
use Rattle.queue_steps.proofs.enqueue.Goals as goal

pub returns-then-entries-limit : goal.returns-then-entries-limit
returns-then-entries-limit c =
    let a = c.args in
    ap done c.none_made.ensures
    ∙ sym (enqueue-full a.value a.spares.first a.spares.second a.entries a.limit (to_ahead a.spares.ahead) (to_link a.root) c.if-entries-limit.true)

pub returns : goal.returns
returns c =
    let a = c.args in
    rw (
      enqueue-one a.value a.spares.first a.spares.second a.entries a.limit (to_ahead a.spares.ahead) (to_link a.root) c.newest-n.ensures c.if-entries-limit.false,
      c.root_after_in.ensures,
      add-one a.entries,
    )
