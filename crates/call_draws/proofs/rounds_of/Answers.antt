-- `call_draws::rounds_of` meets its contract: for the map by the greatest height, for the heap by the size, for stack and queue 1.
use mathlib.Core.Path.{◌≡◌, refl}
use mathlib.Core.Bool.{Bool, true, false}
use Prim.Native.Nat.{ℕ, ◌*◌}
use native.Mathlib.Omega.{arith}
use lib.Dec.{eqb}
use borrow.Author.Tests.{ne_eqb}
use Rattle.state_laws.specs.FetchingLaws.{rounds-most, rounds-map, rounds-stack, rounds-heap, rounds-queue}
use Rattle.state_spec.specs.Fetching.{rounds_of}
use Rattle.state_spec.specs.Ticket.{structure_of}
use Rattle.method_spec.specs.Answer.{map, heap}
use Rattle.call_draws.proofs.rounds_of.Goals as goal

pub returns-in-1 : goal.returns-in-1
returns-in-1 c =
    let a = c.args in
    let m : structure_of a.structure ≡ map = rw c.in-1.is in
    let r : 3 * c.from-in-1.result ≡ rounds_of a.structure a.size = rw (c.from-in-1.ensures, c.greatest_height.ensures, c.from.ensures, m, rounds-map a.size) in
    (r, omega (arith, r, rounds-most (structure_of a.structure) a.size c.requires.1))

pub returns-in-3 : goal.returns-in-3
returns-in-3 c =
    let a = c.args in
    let m : structure_of a.structure ≡ heap = rw c.in-3.is in
    (rw (m, rounds-heap a.size, c.from-in-3.ensures), omega arith)

-- A number that is not a map's or a heap's.
rounds_one : (n size : ℕ) → (n ≡ 1 → ⊥) → (n ≡ 3 → ⊥) → 1 ≡ rounds_of n size
rounds_one n size x y = go (eqb n 2) refl
  where
    go : (b : Bool) → eqb n 2 ≡ b → 1 ≡ rounds_of n size
    go true e = rw (ne_eqb n 1 x, e, rounds-stack size)
    go false e = rw (ne_eqb n 1 x, e, ne_eqb n 3 y, rounds-queue size)

pub returns-in_default : goal.returns-in_default
returns-in_default c = (rounds_one c.args.structure c.args.size (λ e. omega arith) (λ e. omega arith), omega arith)
