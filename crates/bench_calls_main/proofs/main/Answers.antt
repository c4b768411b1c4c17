-- `bench_calls_main::main` is safe and ends. A state that is not marked has a size of 1 to 8.
use Rattle.std.proofs.Common.{sym, ◌∙◌, ap}
use Rattle.state_spec.specs.declared.State.{State}
use Rattle.walk_laws.specs.InputLaws.{open-size}
use Rattle.bench_calls_main.proofs.main.Goals as goal

pub run_opened-requires : goal.run_opened-requires
run_opened-requires c =
    let e = c.open-opened.ensures.0 in
    rw e (open-size _ _ _ (sym (ap (λ (s : State). s.mark) e) ∙ c.if-opened-ne0.false))
