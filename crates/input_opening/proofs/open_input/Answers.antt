-- `input_opening::open_input` meets its contract: a state that is not marked has a size of 1 to 8.
use Rattle.std.proofs.Common.{sym, ◌∙◌, ap}
use Rattle.state_spec.specs.declared.State.{State}
use Rattle.walk_laws.specs.InputLaws.{open-size}
use Rattle.input_opening.proofs.open_input.Goals as goal

pub invariant_of-result : goal.invariant_of-result
invariant_of-result c =
    let e = c.open-state.ensures.0 in
    record { sized = rw e (open-size _ _ _ (sym (ap (λ (s : State). s.mark) e) ∙ c.if-state-ne0.false)) }
