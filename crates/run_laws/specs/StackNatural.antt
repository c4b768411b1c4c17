-- The stack's programs are natural in the tags.
use Rattle.std.specs.Prelude.{refl, eqb, ltb}
use Rattle.method_spec.specs.Answer.{stack, push, pop}
use Rattle.method_spec.specs.Stack.{push_prog, pop_prog}
use Rattle.method_spec.specs.Call.{program}
use Rattle.run_laws.specs.Natural.{Natural, both-done, both-want, same-pick}

module _ {T S : Type 0} (f : T → S) where
  pub stack-natural : (nil : T) → Natural f stack nil
  unfolding program push_prog pop_prog
  stack-natural nil (push value) spares limit entries a l =
      same-pick f (ltb entries limit) (both-done refl) (both-done refl)
  stack-natural nil pop spares limit entries a l =
      same-pick f (eqb l.height 0) (both-done refl) (both-want (λ n. both-done refl))
