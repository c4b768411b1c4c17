-- `short_steps::short_wanted` meets its contract: a pop, an out, and those that want no node.
use Prim.Native.Nat.{ℕ}
use mathlib.Core.Path.{◌≡◌, refl, sym, ◌∙◌, ap}
use mathlib.Core.Bool.{true}
use mathlib.Core.Option.{none}
use Rattle.method_spec.specs.Node.{Link}
use Rattle.method_spec.specs.Call.{program}
use Rattle.leaf_spec.specs.Convert.{to_link, to_ahead}
use Rattle.operation_spec.specs.declared.Op.{Op}
use Rattle.operation_spec.specs.declared.Op.TheVariants.{Get, Put, Remove, Push, Pop, Add, Take, Enqueue, Dequeue}
use Rattle.operation_spec.specs.declared.Spares.{Spares}
use Rattle.operation_spec.specs.Method.{structure_asked, program_for, wanted_in}
use Rattle.short_outcomes.specs.OneFetch.{one_fetch}
use Rattle.short_outcomes.specs.OneFetchLaws.{clash}
use Rattle.short_steps.specs.ShortLaws.{program-pop, program-dequeue, push-wants-none, enqueue-wants-none}
use Rattle.short_steps.proofs.short_wanted.Goals as goal

pub returns-in-Pop : goal.returns-in-Pop
returns-in-Pop c spares limit =
    let a = c.args in
    c.pop_wanted.ensures a.entries ∙ sym (ap wanted_in (program-pop a.op spares limit a.entries (to_link a.root) c.in-Pop.is))

pub returns-in-Dequeue : goal.returns-in-Dequeue
returns-in-Dequeue c spares limit =
    let a = c.args in
    c.dequeue_wanted.ensures ∙ sym (ap wanted_in (program-dequeue a.op spares limit a.entries (to_link a.root) c.in-Dequeue.is))

-- Neither a pop nor an out.
wants-none : (op : Op) (spares : Spares) (limit entries : ℕ) (l : Link ℕ) → (op ≡ Pop → ⊥) → (op ≡ Dequeue → ⊥)
    → one_fetch (structure_asked op) ≡ true → none ≡ wanted_in (program_for op spares limit entries l)
unfolding program
wants-none (Get key) spares limit entries l h i e = clash e
wants-none (Put key value) spares limit entries l h i e = clash e
wants-none (Remove key) spares limit entries l h i e = clash e
wants-none (Push value) spares limit entries l h i e = push-wants-none value spares.first entries limit l
wants-none Pop spares limit entries l h i e = absurd (h refl)
wants-none (Add value) spares limit entries l h i e = clash e
wants-none Take spares limit entries l h i e = clash e
wants-none (Enqueue value) spares limit entries l h i e = enqueue-wants-none value spares.first spares.second entries limit (to_ahead spares.ahead) l
wants-none Dequeue spares limit entries l h i e = absurd (i refl)

pub returns-in_default : goal.returns-in_default
returns-in_default c spares limit = let s = c in let a = s.args in wants-none a.op spares limit a.entries (to_link a.root) c.in_default.not-Pop c.in_default.not-Dequeue s.requires
