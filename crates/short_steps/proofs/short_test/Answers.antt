-- `short_steps::short_test` meets its contract: the stack's test, and the queue's.
use mathlib.Core.Path.{sym, ◌∙◌}
use Rattle.leaf_spec.specs.Convert.{to_node}
use Rattle.operation_spec.specs.Method.{to_want}
use Rattle.short_steps.specs.ShortLaws.{test-stack, test-queue}
use Rattle.short_steps.proofs.short_test.Goals as goal

pub returns-then-structure-eq2 : goal.returns-then-structure-eq2
returns-then-structure-eq2 c entries =
    let a = c.args in
    c.stack_test.ensures ∙ sym (test-stack a.structure entries (to_want a.want) (to_node a.node) c.if-structure-eq2.true)

pub returns : goal.returns
returns c entries =
    let s = c in
    let a = s.args in
    c.queue_test.ensures ∙ sym (test-queue a.structure entries (to_want a.want) (to_node a.node) c.if-structure-eq2.false s.requires)
