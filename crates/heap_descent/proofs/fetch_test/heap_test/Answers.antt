use mathlib.Core.Path.{sym, ◌∙◌}
use Rattle.leaf_spec.specs.Convert.{to_node}
use Rattle.operation_spec.specs.Method.{to_want}
use Rattle.heap_descent.specs.FetchTestLaws.{left-link-bad, left-link-good}
use Rattle.heap_descent.proofs.fetch_test.heap_test.Goals as goal

pub returns-then-link_good : goal.returns-then-link_good
returns-then-link_good c =
    let a = c.args in
    (rw c.from-position.ensures at c.link_good-then-link_good.ensures)
    ∙ sym (left-link-good a.entries (to_want a.want) (to_node a.n) (sym (rw c.from-position.ensures at c.link_good.ensures) ∙ c.if-link_good.true))

pub returns-else-link_good : goal.returns-else-link_good
returns-else-link_good c =
    let a = c.args in
    c.if-link_good.false
    ∙ sym (left-link-bad a.entries (to_want a.want) (to_node a.n) (sym (rw c.from-position.ensures at c.link_good.ensures) ∙ c.if-link_good.false))
