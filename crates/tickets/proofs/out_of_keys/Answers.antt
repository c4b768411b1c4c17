-- `tickets::out_of_keys` meets its contract: only an in needs a key.
use mathlib.Core.Path.{◌≡◌, refl, sym, ap}
use mathlib.Core.Bool.{false}
use Prim.Native.Nat.{ℕ}
use Rattle.operation_spec.specs.declared.Op.{Op}
use Rattle.operation_spec.specs.declared.Op.TheVariants.{Get, Put, Remove, Push, Pop, Add, Take, Enqueue, Dequeue}
use Rattle.operation_spec.specs.Method.{to_op}
use Rattle.state_spec.specs.Ticket.{out_of_keys}
use Rattle.tickets.proofs.out_of_keys.Goals as goal

pub returns-in-Enqueue : goal.returns-in-Enqueue
returns-in-Enqueue c = sym (ap (λ (o : Op). out_of_keys (to_op o) c.args.next) c.in-Enqueue.is)

keyless : (op : Op) (next : ℕ) → ((v : ℕ) → op ≡ Enqueue v → ⊥) → false ≡ out_of_keys (to_op op) next
keyless (Get k) next other = refl
keyless (Put k v) next other = refl
keyless (Remove k) next other = refl
keyless (Push v) next other = refl
keyless Pop next other = refl
keyless (Add v) next other = refl
keyless Take next other = refl
keyless (Enqueue v) next other = absurd (other v refl)
keyless Dequeue next other = refl

pub returns-in_default : goal.returns-in_default
returns-in_default c = keyless c.args.op c.args.next c.in_default.not-Enqueue
