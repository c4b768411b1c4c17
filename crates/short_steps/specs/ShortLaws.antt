-- The stack's and the queue's operations by their programs, and their fetch tests.
use Prim.Native.Nat.{ℕ, ◌<◌}
use Rattle.std.specs.Prelude.{◌≡◌, refl, true, List}
use Rattle.std.proofs.Common.{sym, ◌∙◌, arith}
use Rattle.std.proofs.Math.Path.{ap}
use Rattle.std.proofs.Math.Option.{none}
use Rattle.std.proofs.Math.Decide.{dec_lt}
use Rattle.method_spec.specs.Node.{Link, Ahead, Node}
use Rattle.method_spec.specs.Prog.{Want, Prog, done, after}
use Rattle.method_spec.specs.Answer.{Structure}
use Rattle.method_spec.specs.Outcome.{Outcome}
use Rattle.method_spec.specs.Stack.{push_prog, pop_prog, stack_test}
use Rattle.method_spec.specs.Queue.{enqueue_prog, dequeue_prog, queue_test}
use Rattle.method_spec.specs.Call.{program, test}
use Rattle.leaf_spec.specs.Convert.{to_ahead}
use Rattle.state_spec.specs.Ticket.{structure_of}
use Rattle.operation_spec.specs.declared.Op.{Op}
use Rattle.operation_spec.specs.declared.Op.TheVariants.{Push, Pop, Enqueue, Dequeue}
use Rattle.operation_spec.specs.declared.Spares.{Spares}
use Rattle.operation_spec.specs.Method.{program_for, wanted_in}
use Rattle.short_outcomes.specs.OneFetch.{one_fetch}
use Rattle.short_outcomes.specs.OneFetchLaws.{only-queue}
use Rattle.stack_steps.specs.StackLaws.{push-full, push-one}
use Rattle.queue_steps.specs.QueueLaws.{enqueue-full, enqueue-one}

module _ (op : Op) (spares : Spares) (limit entries : ℕ) (l : Link ℕ) where
  abbrev program_of : Prog ℕ (Outcome ℕ)
  program_of = program_for op spares limit entries l

  abbrev at : Op → Prog ℕ (Outcome ℕ)
  at o = program_for o spares limit entries l

  pub program-push : {value : ℕ} → op ≡ Push value → program_of ≡ push_prog 0 value spares.first entries limit l
  unfolding program
  program-push e = ap at e

  pub program-pop : op ≡ Pop → program_of ≡ pop_prog entries l
  unfolding program
  program-pop e = ap at e

  pub program-enqueue : {value : ℕ} → op ≡ Enqueue value
      → program_of ≡ enqueue_prog 0 value spares.first spares.second entries limit (to_ahead spares.ahead) l
  unfolding program
  program-enqueue e = ap at e

  pub program-dequeue : op ≡ Dequeue → program_of ≡ dequeue_prog 0 entries l
  unfolding program
  program-dequeue e = ap at e

-- What a program comes to after some nodes, by another that is the same.
module _ {p q : Prog ℕ (Outcome ℕ)} (e : p ≡ q) (ns : List (Node ℕ)) {o : Outcome ℕ} where
  pub ends_by : done o ≡ after q ns → done o ≡ after p ns
  ends_by f = f ∙ ap (λ (x : Prog ℕ (Outcome ℕ)). after x ns) (sym e)

  pub done-by : done o ≡ q → done o ≡ after p ns
  unfolding after
  done-by f = ends_by (ap (λ (x : Prog ℕ (Outcome ℕ)). after x ns) f)

-- A push and an in want no node.
pub push-wants-none : (value tag entries limit : ℕ) (l : Link ℕ) → none ≡ wanted_in (push_prog 0 value tag entries limit l)
push-wants-none value tag entries limit l = go (dec_lt entries limit)
  where
    go : Dec (entries < limit) → none ≡ wanted_in (push_prog 0 value tag entries limit l)
    go (yes k) = sym (ap wanted_in (push-one value tag entries limit l k))
    go (no k) = sym (ap wanted_in (push-full value tag entries limit l (omega arith)))

pub enqueue-wants-none : (value draw1 draw2 entries limit : ℕ) (a : Ahead ℕ) (l : Link ℕ) → none ≡ wanted_in (enqueue_prog 0 value draw1 draw2 entries limit a l)
enqueue-wants-none value draw1 draw2 entries limit a l = go (dec_lt entries limit)
  where
    go : Dec (entries < limit) → none ≡ wanted_in (enqueue_prog 0 value draw1 draw2 entries limit a l)
    go (yes k) = sym (ap wanted_in (enqueue-one value draw1 draw2 entries limit a l refl k))
    go (no k) = sym (ap wanted_in (enqueue-full value draw1 draw2 entries limit a l (omega arith)))

-- The fetch tests, by a structure's number.
module _ (structure entries : ℕ) (w : Want ℕ) (n : Node ℕ) where
  pub test-stack : structure ≡ 2 → test (structure_of structure) entries w n ≡ stack_test w n
  unfolding test
  test-stack e = rw e

  pub test-queue : (structure ≡ 2 → ⊥) → one_fetch (structure_of structure) ≡ true → test (structure_of structure) entries w n ≡ queue_test w n
  unfolding test
  test-queue d e = ap (λ (s : Structure). test s entries w n) (only-queue structure d e)
