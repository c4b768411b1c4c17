-- A state that is not marked has a size of 1 to 8.
use Rattle.std.proofs.Common.{sym, ◌∙◌, ap}
use Rattle.state_spec.specs.declared.State.{State}
use Rattle.walk_laws.specs.InputLaws.{open-size}
use Rattle.readout.proofs.run.Goals as goal

pub read_calls-state-requires : goal.read_calls-state-requires
read_calls-state-requires g c =
    let e = c.open-opened.ensures.0 in
    rw e (open-size _ _ _ (sym (ap (λ (s : State). s.mark) e) ∙ c.if-opened-ne0.false))
