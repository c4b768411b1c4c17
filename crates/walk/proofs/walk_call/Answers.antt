-- `walk::walk_call` meets its contract: the call is made, and its line is put.
use Rattle.std.proofs.Common.{◌∙◌, ap, ◌*◌}
use Rattle.state_spec.specs.Fetching.{rounds_of}
use Rattle.call_spec.specs.Store.{Ended}
use Rattle.walk_spec.specs.Walk.{call_in}
use Rattle.walk_laws.specs.WalkLaws.{call-keeps, printed}
use Rattle.walk.proofs.walk_call.Goals as goal

pub returns-clause-size_value : goal.returns-clause-size_value
returns-clause-size_value c =
    let kept = call-keeps c.args.state _ _ _ _ in
    (ap (λ (e : Ended). e.state.size) c.call_in-made.ensures ∙ kept.size, c.line-length.ensures.prefix_len)

pub returns-clause-printed : goal.returns-clause-printed
returns-clause-printed c =
    let a = c.args in
    let s = a.state in
    let kept = call-keeps s _ _ _ _ in
    printed (call_in s a.tree.now a.input.now) (2 * rounds_of s.structure s.size) c.call_in-made.new.trace c.call_in-made.ensures kept.leaves
    c.line-length.ensures.value.0 c.line-length.ensures.value.1
