-- The map's and the heap's operations by their programs, and what is known ahead after any structure's.
use Rattle.std.specs.Prelude.{ℕ, ◌≡◌, List, Result, Ok, Err, IfOk}
use Rattle.std.proofs.Common.{sym, ◌∙◌, arith}
use Rattle.std.proofs.Math.Path.{ap}
use Rattle.std.proofs.Math.Option.{Option}
use Rattle.method_spec.specs.Node.{Link}
use Rattle.method_spec.specs.Prog.{Want, Prog, after}
use Rattle.method_spec.specs.Outcome.{Outcome}
use Rattle.method_spec.specs.Map.{get_prog, put_prog, remove_prog}
use Rattle.method_spec.specs.Heap.{add_prog, take_prog}
use Rattle.method_spec.specs.Queue.{enqueue_ahead, dequeue_ahead}
use Rattle.method_spec.specs.Call.{program, ahead_after}
use Rattle.slot_spec.specs.declared.Link as link
use Rattle.leaf_spec.specs.Convert.{to_ahead}
use Rattle.operation_spec.specs.declared.Want as want
use Rattle.operation_spec.specs.declared.Op.{Op}
use Rattle.operation_spec.specs.declared.Op.TheVariants.{Get, Put, Remove, Add, Take, Enqueue, Dequeue}
use Rattle.operation_spec.specs.declared.Spares.{Spares}
use Rattle.operation_spec.specs.Method.{program_for, ahead_for, wanted_in, outcome_in}
use Rattle.operations.specs.Resume.{resume, wanted_of, outcome_of}
use Rattle.operations.specs.ResumeLaws.{wanted-after, outcome-after}
use Rattle.node_rows.specs.Held.{Held, held_in, nodes_of}
use Rattle.node_rows.specs.HeldLaws.{row-places}
use Rattle.map_changes.specs.declared.Bottom.{Bottom}
use Rattle.map_descent.specs.Walk.{Walks}
use Rattle.map_changes.specs.Bottom.{BottomReady, StartsIfHeld}
use Rattle.map_steps.specs.Outcome.{from_bottom}
use Rattle.structures.specs.Operation.{LowHeld}

-- What the map's ways down and up ask.
pub walks-of : {root : link.Link} {row : List ℕ} {count : ℕ} → LowHeld root row count → Walks root (held_in row count)
walks-of {row = row} low =
    record {
      held = record { places = row-places row low.sized; few = low.few; within = omega arith; low = low.low };
      root-low = low.root-low;
    }

-- What the way up asks of where it starts, and what comes of it.
module _ (key : ℕ) (root : link.Link) (h : Held) (p : Prog ℕ (Outcome ℕ)) where
  pub ready-of : (b : Result Bottom want.Want) → StartsIfHeld key root h p b → IfOk b (BottomReady key root h)
  ready-of (Ok b) starts = starts.ready
  ready-of (Err w) starts = tt

  pub from-starts : (b : Result Bottom want.Want) → StartsIfHeld key root h p b → resume p (nodes_of h) ≡ from_bottom key root h b
  from-starts (Ok b) starts = starts.resumes
  from-starts (Err w) misses = misses

module _ (op : Op) (spares : Spares) (limit entries : ℕ) (l : Link ℕ) where
  abbrev pub program_of : Prog ℕ (Outcome ℕ)
  program_of = program_for op spares limit entries l

  abbrev at : Op → Prog ℕ (Outcome ℕ)
  at o = program_for o spares limit entries l

  pub program-get : {key : ℕ} → op ≡ Get key → program_of ≡ get_prog key entries l
  unfolding program
  program-get e = ap at e

  pub program-put : {key value : ℕ} → op ≡ Put key value → program_of ≡ put_prog 0 key value spares.first entries limit l
  unfolding program
  program-put e = ap at e

  pub program-remove : {key : ℕ} → op ≡ Remove key → program_of ≡ remove_prog key entries l
  unfolding program
  program-remove e = ap at e

  pub program-add : {value : ℕ} → op ≡ Add value → program_of ≡ add_prog 0 value spares.first entries limit l
  unfolding program
  program-add e = ap at e

  pub program-take : op ≡ Take → program_of ≡ take_prog 0 entries l
  unfolding program
  program-take e = ap at e

-- What is known ahead after the step.
module _ {op : Op} (spares : Spares) (limit entries : ℕ) where
  pub ahead-enqueue : {value : ℕ} → op ≡ Enqueue value → ahead_for op spares limit entries ≡ enqueue_ahead spares.second entries limit (to_ahead spares.ahead)
  unfolding ahead_after
  ahead-enqueue e = ap (λ (o : Op). ahead_for o spares limit entries) e

  pub ahead-dequeue : op ≡ Dequeue → ahead_for op spares limit entries ≡ dequeue_ahead 0 entries (to_ahead spares.ahead)
  unfolding ahead_after
  ahead-dequeue e = ap (λ (o : Op). ahead_for o spares limit entries) e

-- The next wanted node and the outcome of a program, by any other that is the same.
module _ {p q : Prog ℕ (Outcome ℕ)} (e : p ≡ q) (h : Held) where
  pub wanted_by : {w : Option (Want ℕ)} → w ≡ wanted_of (resume q (nodes_of h)) → w ≡ wanted_in (after p (nodes_of h))
  wanted_by f = f ∙ sym (wanted-after q (nodes_of h)) ∙ ap (λ (x : Prog ℕ (Outcome ℕ)). wanted_in (after x (nodes_of h))) (sym e)

  module _ (l : Link ℕ) (entries : ℕ) where
    pub outcome-by : {o : Outcome ℕ} → o ≡ outcome_of l entries (resume q (nodes_of h)) → o ≡ outcome_in l entries (after p (nodes_of h))
    outcome-by f =
        f ∙ sym (outcome-after l entries q (nodes_of h)) ∙ ap (λ (x : Prog ℕ (Outcome ℕ)). outcome_in l entries (after x (nodes_of h))) (sym e)

  module _ (key : ℕ) (root : link.Link) (b : Result Bottom want.Want) (starts : StartsIfHeld key root h q b) where
    pub wanted_up : {w : Option (Want ℕ)} → w ≡ wanted_of (from_bottom key root h b) → w ≡ wanted_in (after p (nodes_of h))
    wanted_up f = wanted_by (f ∙ ap wanted_of (sym (from-starts key root h q b starts)))

    pub outcome-up : (l : Link ℕ) (entries : ℕ) {o : Outcome ℕ} → o ≡ outcome_of l entries (from_bottom key root h b)
        → o ≡ outcome_in l entries (after p (nodes_of h))
    outcome-up l entries f = outcome-by l entries (f ∙ ap (outcome_of l entries) (sym (from-starts key root h q b starts)))
