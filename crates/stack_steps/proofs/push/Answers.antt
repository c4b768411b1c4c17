-- `stack_steps::push` meets its contract: a full stack, and one with room.
use native.Mathlib.Numerals.{add-one}
use mathlib.Core.Path.{sym, ◌∙◌, ap}
use Rattle.method_spec.specs.Prog.{done}
use Rattle.leaf_spec.specs.Convert.{to_link}
use Rattle.operations.specs.LinkLaws.{no-link}
use Rattle.stack_steps.specs.StackLaws.{push-full, push-one}
use Rattle.stack_steps.proofs.push.Goals as goal

pub returns-then-entries-limit : goal.returns-then-entries-limit
returns-then-entries-limit c =
    let a = c.args in
    ap done c.none_made.ensures ∙ sym (push-full a.value a.tag a.entries a.limit (to_link a.root) c.if-entries-limit.true)

pub returns : goal.returns
returns c =
    let a = c.args in
    rw (push-one a.value a.tag a.entries a.limit (to_link a.root) c.if-entries-limit.false, c.link_one.ensures, no-link c.default.result c.default.ensures, c.from.ensures, add-one a.entries)
