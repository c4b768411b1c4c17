-- `damaged_calls_main::damaged_call` meets its contract: a call keeps the store's size.
use Rattle.std.proofs.Common.{◌≡◌, ◌∙◌, ap}
use Rattle.call_spec.specs.Store.{Ended}
use Rattle.walk_laws.specs.WalkLaws.{call-keeps}
use Rattle.damaged_calls_main.proofs.damaged_call.Goals as goal

pub invariant_of-store : goal.invariant_of-store
invariant_of-store c =
    let s = c.args.store.now.state in
    let kept : c.call_in-made.result.state.size ≡ s.size =
    ap (λ (e : Ended). e.state.size) c.call_in-made.ensures ∙ (call-keeps s _ _ _ _).size in
    record { sized = rw kept c.args.store.now.sized }

pub returns-then-print : goal.returns-then-print
returns-then-print c = ap (λ (e : Ended). e.state.size) c.call_in-made.ensures ∙ (call-keeps c.args.store.now.state _ _ _ _).size

pub returns-else-written : goal.returns-else-written
returns-else-written c = ap (λ (e : Ended). e.state.size) c.call_in-made.ensures ∙ (call-keeps c.args.store.now.state _ _ _ _).size
