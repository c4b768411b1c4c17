-- `steps_main::playing::short_end` meets its contract: nothing is known ahead, so that there is a key for any operation.
use Prim.Native.Nat.{ℕ}
use mathlib.Core.Path.{◌≡◌}
use native.Mathlib.Omega.{arith}
use Rattle.leaf_spec.specs.Entries.{KeyLeft}
use Rattle.operation_spec.specs.declared.Op.{Op}
use Rattle.operation_spec.specs.declared.Op.TheVariants.{Get, Put, Remove, Push, Pop, Add, Take, Enqueue, Dequeue}
use Rattle.operation_spec.specs.Method.{to_op}
use Rattle.steps_main.proofs.playing.short_end.Goals as goal

first_key : (op : Op) (next : ℕ) → next ≡ 0 → KeyLeft (to_op op) next
first_key (Get key) next e = tt
first_key (Put key value) next e = tt
first_key (Remove key) next e = tt
first_key (Push value) next e = tt
first_key Pop next e = tt
first_key (Add value) next e = tt
first_key Take next e = tt
first_key (Enqueue value) next e = omega arith
first_key Dequeue next e = tt

pub short_step-o-requires : goal.short_step-o-requires
short_step-o-requires c =
    let s = c in
    let spares = c.spares_of-spares in
    (s.requires.0, first_key s.args.op spares.result.ahead.key spares.ensures)
