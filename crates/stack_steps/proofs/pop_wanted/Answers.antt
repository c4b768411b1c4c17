-- `stack_steps::pop_wanted` meets its contract: an empty stack, and the top wanted.
use mathlib.Core.Path.{sym, ◌∙◌, ap}
use mathlib.Core.Option.{some}
use Rattle.leaf_spec.specs.Convert.{to_link}
use Rattle.stack_steps.specs.StackLaws.{pop-wants-none, pop-wants-top}
use Rattle.stack_steps.proofs.pop_wanted.Goals as goal

pub returns-then-root-eq0 : goal.returns-then-root-eq0
returns-then-root-eq0 c entries = sym (pop-wants-none entries (to_link c.args.root) c.if-root-eq0.true)

pub returns : goal.returns
returns c entries =
    ap some c.start.ensures ∙ sym (pop-wants-top entries (to_link c.args.root) c.if-root-eq0.false)
