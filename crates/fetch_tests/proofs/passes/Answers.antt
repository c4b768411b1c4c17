-- `fetch_tests::passes` meets its contract: it is the test of the structure that the number says.
use mathlib.Core.Path.{sym, ◌∙◌, ap}
use borrow.Author.Tests.{eq-eqb}
use Rattle.method_spec.specs.Answer.{Structure}
use Rattle.method_spec.specs.Call.{test}
use Rattle.leaf_spec.specs.Convert.{to_node}
use Rattle.operation_spec.specs.Method.{to_want}
use Rattle.short_outcomes.specs.OneFetchLaws.{only-heap}
use Rattle.fetch_tests.proofs.passes.Goals as goal

pub returns-then-structure-eq1 : goal.returns-then-structure-eq1
unfolding test
returns-then-structure-eq1 c = rw (eq-eqb c.args.structure 1 c.if-structure-eq1.true) c.map_test.ensures

pub returns : goal.returns
unfolding test
returns c =
    let s = c in
    let a = s.args in
    c.heap_test.ensures
    ∙ sym (ap (λ (x : Structure). test x a.entries (to_want a.want) (to_node a.n)) (only-heap a.structure c.if-structure-eq1.false s.requires))
