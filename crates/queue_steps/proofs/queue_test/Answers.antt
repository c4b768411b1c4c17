-- `queue_steps::queue_test` meets its contract, test by test.
use mathlib.Core.Path.{sym}
use borrow.Author.Tests.{ne_eqb}
use native.Mathlib.Numerals.{add-one}
use Rattle.leaf_spec.specs.Convert.{to_node}
use Rattle.operation_spec.specs.Method.{to_want}
use Rattle.queue_steps.specs.FetchTestLaws.{not-one-high, right-link, key-after}
use Rattle.queue_steps.proofs.queue_test.Goals as goal

pub returns-then-n-ne1 : goal.returns-then-n-ne1
returns-then-n-ne1 c = let a = c.args in sym (not-one-high (to_want a.want) (to_node a.n) c.if-n-ne1.true)

pub returns-then-n-eq0 : goal.returns-then-n-eq0
returns-then-n-eq0 c =
    let a = c.args in
    rw (c.from.ensures, c.from-then-n-eq0.ensures, add-one a.n.key)
    (sym (key-after (to_want a.want) (to_node a.n) c.if-n-ne1.false c.if-n-eq0.true))

pub returns-else-n-eq0 : goal.returns-else-n-eq0
returns-else-n-eq0 c =
    let a = c.args in
    rw (ne_eqb a.n.right.height 0 c.if-n-eq0.false) (sym (right-link (to_want a.want) (to_node a.n) c.if-n-ne1.false c.if-n-eq0.false))
