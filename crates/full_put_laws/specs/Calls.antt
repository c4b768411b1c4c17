-- Whole calls: what document 02's change 2 changes of what a call brings and leaves. Any state, tree, ticket, tape and trace buffer.
use Rattle.std.proofs.Math.Path.{◌≡◌}
use Rattle.std.specs.Prelude.{refl, false, List, ℕ, ◌≤◌, eqb, length}
use Rattle.std.proofs.Math.Bool.{true}
use Rattle.std.proofs.Math.Option.{none, some}
use Rattle.std.proofs.Math.Nat.{mod-lt}
use Rattle.std.proofs.Common.{arith, pow_pos}
use borrow.Author.Tests.{eqb-true, not-false}
use Rattle.slot_spec.specs.LittleEndian.{Bytes}
use Rattle.slot_spec.specs.Tree.{tree_length}
use Rattle.method_spec.specs.Answer.{Structure, Op, get, put, remove, push, pop, add, take, enqueue, dequeue}
use Rattle.method_spec.specs.Rounds.{rounds}
use Rattle.leaf_spec.specs.Entries.{OpFits}
use Rattle.bucket_call_spec.specs.Call.{draw_of}
use Rattle.state_spec.specs.declared.State.{State}
use Rattle.state_spec.specs.Fit.{fits}
use Rattle.state_spec.specs.Ticket.{op_in, structure_of}
use Rattle.state_spec.specs.Widths.{Widths}
use Rattle.call_spec.specs.Store.{Ended, store_of, by_rounds, checks, first_met, called}
use Rattle.promise_spec.specs.AsBefore.{earlier_programs, by_rounds_with, called_with, called_before_full_put}
use Rattle.promise_spec.specs.FullPut.{full_put, present_on_full, full_put_call, asks-put, Compares, both-refused, other-value}
use Rattle.check_laws.specs.Causes.{none-met}
use Rattle.check_laws.specs.Decided.{decided-both, causes, asks-some}
use Rattle.none_lost_laws.specs.Ends.{FitStore}
use Rattle.fitness_laws.specs.FitState.{fit-state}
use Rattle.fitness_laws.specs.FitStores.{fit-store}
use Rattle.fitness_laws.specs.Tickets.{op_fits}
use Rattle.full_put_laws.specs.FullPut.{same-call, same-peak, only-value, put-peak}

module _ (s : State) (tree ticket tape trace : List ℕ) where
  abbrev st : Structure
  st = structure_of s.structure

  -- ---- every other call
  rounds-same : (op : Op st) → present_on_full s tree tape st (some op) ≡ false
      → by_rounds st op s tree tape trace ≡ by_rounds_with earlier_programs st op s tree tape trace
  unfolding present_on_full
  rounds-same op e =
      rw (
        same-call s.size (rounds st s.size) op (draw_of s.size tape) (store_of s tree) e,
        same-peak s.size (rounds st s.size) op (draw_of s.size tape) (store_of s tree) e,
      )

  -- A call is as it was, every byte, unless it is a put of a present key on a full map.
  pub as_before : full_put_call s tree ticket tape ≡ false → called s tree ticket tape trace ≡ called_before_full_put s tree ticket tape trace
  unfolding called called_with
  as_before e =
      decided-both (λ (x y : Ended). x ≡ y) (first_met (causes s tree ticket tape trace)) (op_in st ticket) (asks-some s tree ticket tape trace) (λ n first. refl)
      (λ op first asked. rounds-same op (rw asked at e))

  -- ---- a put of a present key on a full map
  rounds-compare : (op : Op st) → FitStore st s.size (store_of s tree) → OpFits op → 1 ≤ s.size → s.size ≤ 16
      → present_on_full s tree tape st (some op) ≡ true
      → Compares s tree ticket tape trace st (some op) (by_rounds_with earlier_programs st op s tree tape trace) (by_rounds st op s tree tape trace)
  unfolding present_on_full full_put
  rounds-compare op fit fits some_size small present = of st op fit fits present
    where
      of : (x : Structure) (o : Op x) → FitStore x s.size (store_of s tree) → OpFits o → present_on_full s tree tape x (some o) ≡ true
          → Compares s tree ticket tape trace x (some o) (by_rounds_with earlier_programs x o s tree tape trace) (by_rounds x o s tree tape trace)
      of x (put key value) f w here =
          other-value key value asks-put
          (only-value s.size some_size small key value w (draw_of s.size tape) (λ d. mod-lt _ (pow_pos s.size)) (store_of s tree) f here)
          (put-peak s.size some_size small key value w (draw_of s.size tape) (λ d. mod-lt _ (pow_pos s.size)) (store_of s tree) f)
      of x (get key) f w here = let z : ◌≡◌ {A = ℕ} 0 1 = cc in absurd (omega arith)
      of x (remove key) f w here = let z : ◌≡◌ {A = ℕ} 0 1 = cc in absurd (omega arith)
      of x (push value) f w here = let z : ◌≡◌ {A = ℕ} 0 1 = cc in absurd (omega arith)
      of x pop f w here = let z : ◌≡◌ {A = ℕ} 0 1 = cc in absurd (omega arith)
      of x (add value) f w here = let z : ◌≡◌ {A = ℕ} 0 1 = cc in absurd (omega arith)
      of x take f w here = let z : ◌≡◌ {A = ℕ} 0 1 = cc in absurd (omega arith)
      of x (enqueue value) f w here = let z : ◌≡◌ {A = ℕ} 0 1 = cc in absurd (omega arith)
      of x dequeue f w here = let z : ◌≡◌ {A = ℕ} 0 1 = cc in absurd (omega arith)

  -- Where no cause is met, the state is fit and the tree has its length.
  fit_is : first_met (causes s tree ticket tape trace) ≡ none → fits s ≡ true
  unfolding checks
  fit_is first = not-false (fits s) (none-met 2 (causes s tree ticket tape trace) first)

  sized-is : first_met (causes s tree ticket tape trace) ≡ none → length tree ≡ tree_length s.size
  unfolding checks
  sized-is first =
      eqb-true (length tree) (tree_length s.size) (not-false (eqb (length tree) (tree_length s.size)) (none-met 3 (causes s tree ticket tape trace) first))

  -- A put of a present key on a full map: but for the one value and the answer all is as it was. The premises hold of everything that a machine can lend.
  pub on-full-map : Bytes tree → Bytes ticket → Widths s → full_put_call s tree ticket tape ≡ true
      → Compares s tree ticket tape trace st (op_in st ticket) (called_before_full_put s tree ticket tape trace) (called s tree ticket tape trace)
  unfolding called called_with
  on-full-map tree-bytes ticket-bytes widths present =
      decided-both (Compares s tree ticket tape trace st (op_in st ticket)) (first_met (causes s tree ticket tape trace)) (op_in st ticket)
      (asks-some s tree ticket tape trace) both-refused
      (λ op first asked.
      let size = (fit-state s (fit_is first)).size in
      rw asked
      (rounds-compare op (fit-store s tree (fit_is first) (sized-is first) tree-bytes widths) (op_fits st ticket ticket-bytes op asked) size.0 (omega arith)
      (rw asked at present)))
