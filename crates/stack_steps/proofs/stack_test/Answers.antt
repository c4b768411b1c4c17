use mathlib.Core.Path.{sym}
use borrow.Author.Tests.{ne_eqb}
use native.Mathlib.Numerals.{add-one}
use Rattle.leaf_spec.specs.Convert.{to_node}
use Rattle.operation_spec.specs.Method.{to_want}
use Rattle.stack_steps.specs.FetchTestLaws.{right-link, last-key, not-one-high, key-before}
use Rattle.stack_steps.proofs.stack_test.Goals as goal

pub returns-then-n-ne0 : goal.returns-then-n-ne0
returns-then-n-ne0 c = let a = c.args in sym (right-link (to_want a.want) (to_node a.n) c.if-n-ne0.true)

pub returns-then-n-eq1 : goal.returns-then-n-eq1
returns-then-n-eq1 c = let a = c.args in sym (last-key (to_want a.want) (to_node a.n) c.if-n-ne0.false c.if-n-eq1.true)

pub returns-then-n-eq1-2 : goal.returns-then-n-eq1-2
returns-then-n-eq1-2 c =
    let a = c.args in
    rw (c.from.ensures, c.from-then-n-eq1-2.ensures, add-one)
    (sym (key-before (to_want a.want) (to_node a.n) c.if-n-ne0.false c.if-n-eq1.false c.if-n-eq1-2.true))

pub returns-else-n-eq1-2 : goal.returns-else-n-eq1-2
returns-else-n-eq1-2 c =
    let a = c.args in
    rw (ne_eqb a.n.left.height 1 c.if-n-eq1-2.false)
    (sym (not-one-high (to_want a.want) (to_node a.n) c.if-n-ne0.false c.if-n-eq1.false c.if-n-eq1-2.false))
