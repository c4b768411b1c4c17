-- Which structures have one fetch round, by their rounds and by their numbers; and programs that want no node.
use Rattle.std.specs.Prelude.{ℕ, ◌≡◌, refl, Bool, true, false, List, eqb}
use Rattle.std.proofs.Common.{arith, sym, ne_eqb}
use Rattle.std.proofs.Math.Option.{none}
use Rattle.list_spec.specs.Choice.{pick}
use Rattle.method_spec.specs.Node.{Node}
use Rattle.method_spec.specs.Prog.{Prog, done, want, after}
use Rattle.method_spec.specs.Answer.{Structure, map, stack, heap, queue}
use Rattle.method_spec.specs.Rounds.{rounds}
use Rattle.state_spec.specs.Ticket.{structure_of}
use Rattle.operation_spec.specs.Method.{wanted_in}
use Rattle.short_outcomes.specs.OneFetch.{one_fetch}

pub clash : {A : Type 0} → false ≡ true → A
clash e = let z : ◌≡◌ {A = ℕ} 0 1 = cc in absurd (omega arith)

-- ---- by their rounds
pub one-round : (s : Structure) (k : ℕ) → one_fetch s ≡ true → rounds s k ≡ 1
unfolding rounds
one-round map k e = clash e
one-round stack k e = refl
one-round heap k e = clash e
one-round queue k e = refl

-- Three times any number is not one.
pub round-one : (s : Structure) (k : ℕ) → rounds s k ≡ 1 → one_fetch s ≡ true
unfolding rounds
round-one map k e = absurd (omega arith)
round-one stack k e = refl
round-one heap k e = absurd (omega arith)
round-one queue k e = refl

pub more-rounds : (s : Structure) (k : ℕ) → (rounds s k ≡ 1 → ⊥) → one_fetch s ≡ false
unfolding rounds
more-rounds map k e = refl
more-rounds stack k e = absurd (e refl)
more-rounds heap k e = refl
more-rounds queue k e = absurd (e refl)

-- ---- by their numbers
module _ (n : ℕ) where
  pub only-queue : (n ≡ 2 → ⊥) → one_fetch (structure_of n) ≡ true → structure_of n ≡ queue
  only-queue d = rw (ne_eqb n 2 d) (go (eqb n 1) (eqb n 3))
    where
      go : (a b : Bool) → one_fetch (pick a map (pick false stack (pick b heap queue))) ≡ true → pick a map (pick false stack (pick b heap queue)) ≡ queue
      go true b e = clash e
      go false true e = clash e
      go false false e = refl

  pub only-heap : (n ≡ 1 → ⊥) → one_fetch (structure_of n) ≡ false → structure_of n ≡ heap
  only-heap d = rw (ne_eqb n 1 d) (go (eqb n 2) (eqb n 3))
    where
      go : (a b : Bool) → one_fetch (pick a stack (pick b heap queue)) ≡ false → pick a stack (pick b heap queue) ≡ heap
      go true b e = clash (sym e)
      go false true e = refl
      go false false e = clash (sym e)

-- ---- a program that wants no node
-- It is the same after any nodes.
pub done-stays : {A : Type 0} (p : Prog ℕ A) (ns : List (Node ℕ)) → wanted_in p ≡ none → after p ns ≡ p
unfolding after
done-stays (done a) ns e = refl
done-stays (want w k) ns e = let z : ◌≡◌ {A = ℕ} 0 1 = cc in absurd (omega arith)
