-- What is left of a map's and a heap's operations when it is none of a get, a put, a remove and an add.
use Prim.Native.Nat.{ℕ}
use mathlib.Core.Path.{◌≡◌, refl, sym}
use mathlib.Core.Bool.{false}
use Rattle.operation_spec.specs.declared.Op.{Op}
use Rattle.operation_spec.specs.declared.Op.TheVariants.{Get, Put, Remove, Push, Pop, Add, Take, Enqueue, Dequeue}
use Rattle.operation_spec.specs.Method.{structure_asked}
use Rattle.short_outcomes.specs.OneFetch.{one_fetch}
use Rattle.short_outcomes.specs.OneFetchLaws.{clash}

pub only-take : (op : Op) → ((k : ℕ) → op ≡ Get k → ⊥) → ((k v : ℕ) → op ≡ Put k v → ⊥) → ((k : ℕ) → op ≡ Remove k → ⊥)
    → ((v : ℕ) → op ≡ Add v → ⊥) → one_fetch (structure_asked op) ≡ false → op ≡ Take
only-take (Get key) g p r a e = absurd (g key refl)
only-take (Put key value) g p r a e = absurd (p key value refl)
only-take (Remove key) g p r a e = absurd (r key refl)
only-take (Push value) g p r a e = clash (sym e)
only-take Pop g p r a e = clash (sym e)
only-take (Add value) g p r a e = absurd (a value refl)
only-take Take g p r a e = refl
only-take (Enqueue value) g p r a e = clash (sym e)
only-take Dequeue g p r a e = clash (sym e)
