-- `stack_steps::pop` meets its contract: an empty stack, and the top.
use mathlib.Core.Path.{sym, ◌∙◌, ap}
use Rattle.method_spec.specs.Prog.{done}
use Rattle.leaf_spec.specs.Convert.{to_link, to_node}
use Rattle.stack_steps.specs.StackLaws.{pop-empty, pop-top}
use Rattle.stack_steps.proofs.pop.Goals as goal

pub returns-then-root-eq0 : goal.returns-then-root-eq0
returns-then-root-eq0 c =
    let a = c.args in
    ap done c.none_made.ensures ∙ sym (pop-empty a.entries (to_link a.root) (to_node a.top) c.if-root-eq0.true)

pub returns : goal.returns
returns c =
    let a = c.args in
    rw (pop-top a.entries (to_link a.root) (to_node a.top) c.if-root-eq0.false, ← c.one_less.ensures)
    (ap done c.none_made-2.ensures)
