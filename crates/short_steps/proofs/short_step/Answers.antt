-- `short_steps::short_step` meets its contract, operation by operation.
use mathlib.Core.Path.{◌≡◌, refl}
use mathlib.Core.Bool.{true}
use mathlib.Core.List.{[], ◌∷◌}
use Prim.Native.Nat.{ℕ}
use Rattle.leaf_spec.specs.Convert.{to_link, to_node}
use Rattle.operation_spec.specs.declared.Op.{Op}
use Rattle.operation_spec.specs.declared.Op.TheVariants.{Get, Put, Remove, Push, Pop, Add, Take, Enqueue, Dequeue}
use Rattle.operation_spec.specs.Method.{structure_asked}
use Rattle.short_outcomes.specs.OneFetch.{one_fetch}
use Rattle.short_outcomes.specs.OneFetchLaws.{clash}
use Rattle.queue_steps.specs.QueueLaws.{in-has-key}
use Rattle.short_steps.specs.ShortLaws.{program-push, program-pop, program-enqueue, program-dequeue, ends_by, done-by}
use Rattle.short_steps.proofs.short_step.Goals as goal

pub enqueue-requires : goal.enqueue-requires
enqueue-requires c = in-has-key c.in-Enqueue.is c.requires.1

pub returns-in-Push : goal.returns-in-Push
returns-in-Push c =
    let a = c.args in
    done-by (program-push a.op a.spares a.limit a.entries (to_link a.root) c.in-Push.is) (to_node a.node ∷ []) c.push.ensures

pub returns-in-Pop : goal.returns-in-Pop
returns-in-Pop c =
    let a = c.args in
    ends_by (program-pop a.op a.spares a.limit a.entries (to_link a.root) c.in-Pop.is) (to_node a.node ∷ []) c.pop.ensures

pub returns-in-Enqueue : goal.returns-in-Enqueue
returns-in-Enqueue c =
    let a = c.args in
    done-by (program-enqueue a.op a.spares a.limit a.entries (to_link a.root) c.in-Enqueue.is) (to_node a.node ∷ []) c.enqueue.ensures

-- Of a structure with one fetch round, and none of the three others.
only-dequeue : (op : Op) → ((v : ℕ) → op ≡ Push v → ⊥) → (op ≡ Pop → ⊥) → ((v : ℕ) → op ≡ Enqueue v → ⊥) → one_fetch (structure_asked op) ≡ true → op ≡ Dequeue
only-dequeue (Get key) h i j e = clash e
only-dequeue (Put key value) h i j e = clash e
only-dequeue (Remove key) h i j e = clash e
only-dequeue (Push value) h i j e = absurd (h value refl)
only-dequeue Pop h i j e = absurd (i refl)
only-dequeue (Add value) h i j e = clash e
only-dequeue Take h i j e = clash e
only-dequeue (Enqueue value) h i j e = absurd (j value refl)
only-dequeue Dequeue h i j e = refl

pub returns-in_default : goal.returns-in_default
returns-in_default c =
    let a = c.args in
    let d = c.in_default in
    ends_by (program-dequeue a.op a.spares a.limit a.entries (to_link a.root) (only-dequeue a.op d.not-Push d.not-Pop d.not-Enqueue c.requires.0)) (to_node a.node ∷ []) c.dequeue.ensures
