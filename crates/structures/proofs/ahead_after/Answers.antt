-- `structures::ahead_after` meets its contract: the queue's operations, and those that keep what is known ahead.
use Prim.Native.Nat.{ℕ}
use mathlib.Core.Path.{◌≡◌, refl, sym, ◌∙◌}
use Rattle.method_spec.specs.Call.{ahead_after}
use Rattle.leaf_spec.specs.Convert.{to_ahead}
use Rattle.operation_spec.specs.declared.Op.{Op}
use Rattle.operation_spec.specs.declared.Op.TheVariants.{Get, Put, Remove, Push, Pop, Add, Take, Enqueue, Dequeue}
use Rattle.operation_spec.specs.declared.Spares.{Spares}
use Rattle.operation_spec.specs.Method.{ahead_for}
use Rattle.queue_steps.specs.QueueLaws.{in-has-key}
use Rattle.structures.specs.OperationLaws.{ahead-enqueue, ahead-dequeue}
use Rattle.structures.proofs.ahead_after.Goals as goal

pub enqueue_ahead-requires : goal.enqueue_ahead-requires
enqueue_ahead-requires c = in-has-key c.in-Enqueue.is c.requires

pub returns-in-Enqueue : goal.returns-in-Enqueue
returns-in-Enqueue c =
    let a = c.args in
    c.enqueue_ahead.ensures ∙ sym (ahead-enqueue a.spares a.limit a.entries c.in-Enqueue.is)

pub returns-in-Dequeue : goal.returns-in-Dequeue
returns-in-Dequeue c =
    let a = c.args in
    c.dequeue_ahead.ensures ∙ sym (ahead-dequeue a.spares a.limit a.entries c.in-Dequeue.is)

-- Neither an in nor an out.
kept : (op : Op) (spares : Spares) (limit entries : ℕ) → ((v : ℕ) → op ≡ Enqueue v → ⊥) → (op ≡ Dequeue → ⊥)
    → to_ahead spares.ahead ≡ ahead_for op spares limit entries
unfolding ahead_after
kept (Get key) spares limit entries h i = refl
kept (Put key value) spares limit entries h i = refl
kept (Remove key) spares limit entries h i = refl
kept (Push value) spares limit entries h i = refl
kept Pop spares limit entries h i = refl
kept (Add value) spares limit entries h i = refl
kept Take spares limit entries h i = refl
kept (Enqueue value) spares limit entries h i = absurd (h value refl)
kept Dequeue spares limit entries h i = absurd (i refl)

pub returns-in_default : goal.returns-in_default
returns-in_default c = let a = c.args in kept a.op a.spares a.limit a.entries c.in_default.not-Enqueue c.in_default.not-Dequeue
