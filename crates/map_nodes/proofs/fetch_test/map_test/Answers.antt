use mathlib.Core.Path.{sym, ◌∙◌}
use borrow.Author.Tests.{ne_eqb}
use native.Mathlib.Numerals.{add-one}
use Rattle.leaf_spec.specs.Convert.{to_node}
use Rattle.operation_spec.specs.Method.{to_want}
use Rattle.map_nodes.specs.FetchTestLaws.{tall-left, tall-right, other-height, same-height}
use Rattle.map_nodes.proofs.fetch_test.map_test.Goals as goal
use Rattle.map_nodes.proofs.fetch_test.map_test.Goals.{then-is_tall-via-then-is_tall, then-is_tall-via-else-is_tall+then-is_tall-2}

pub returns-then-height-from : goal.returns-then-height-from
returns-then-height-from c =
    let a = c.args in
    c.is_between.ensures
    ∙ sym (same-height (to_want a.want) (to_node a.n) (sym c.is_tall.ensures ∙ c.if-is_tall.false)
    (sym c.is_tall-else-is_tall.ensures ∙ c.if-is_tall-2.false) (rw (c.from-height.ensures, c.max.ensures, c.from.ensures, add-one) at c.if-height-from.true))

pub returns-else-height-from : goal.returns-else-height-from
returns-else-height-from c =
    let a = c.args in
    rw (ne_eqb _ _ c.if-height-from.false)
    (sym (other-height (to_want a.want) (to_node a.n) (sym c.is_tall.ensures ∙ c.if-is_tall.false)
    (sym c.is_tall-else-is_tall.ensures ∙ c.if-is_tall-2.false) (λ e. c.if-height-from.false (rw (c.from-height.ensures, c.max.ensures, c.from.ensures, add-one) e))))

pub returns-then-is_tall : goal.returns-then-is_tall
returns-then-is_tall c =
    let a = c.args in
    elim c.then-is_tall.branch [
      | then-is_tall-via-then-is_tall w ↦ sym (tall-left (to_want a.want) (to_node a.n) (sym c.is_tall.ensures ∙ w.if-is_tall.true))
      | then-is_tall-via-else-is_tall+then-is_tall-2 w ↦
          sym (tall-right (to_want a.want) (to_node a.n) (sym c.is_tall.ensures ∙ w.if-is_tall.false)
          (sym w.is_tall-else-is_tall.ensures ∙ w.if-is_tall-2.true))
    ]
