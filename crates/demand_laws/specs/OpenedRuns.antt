-- A list of calls from a good opening: it is a run over buckets, its trace is the leaves of the named draws, and its state and tree keep the
-- nodes of the method's memory.
use Rattle.std.specs.Prelude.{ℕ, suc, ◌+◌, ◌*◌, ◌≤◌, ◌≡◌, true, length, get_or}
use Rattle.std.proofs.Common.{sym, ◌∙◌, inl, inr, arith}
use Rattle.std.proofs.Math.Path.{ap, subst⁻¹}
use mathlib.Core.List.{List, [], ◌++◌, map, map-map, append-nil}
use Rattle.std.proofs.Math.Option.{some}
use Rattle.std.proofs.lemmas.List.{length-map}
use Rattle.list_spec.specs.Distinct.{All}
use Rattle.slot_spec.specs.Tree.{tree_length}
use Rattle.slot_spec.specs.LittleEndian.{Bytes}
use Rattle.method_spec.specs.Answer.{Structure, Op}
use Rattle.method_spec.specs.Plain.{plain_contents, plain_answers, nothing}
use Rattle.method_spec.specs.Rounds.{rounds}
use Rattle.method_spec.specs.Call.{capacity, empty_memory}
use Rattle.method_spec.specs.Origin.{drawn, tape_of, names, leaf_of, leaf_run}
use Rattle.run_laws.specs.Leaves.{leaf-get_d}
use Rattle.method_laws.specs.Represented.{Held, held-empty}
use Rattle.method_laws.specs.Theorems.{names-counted, held}
use Rattle.bucket_call_spec.specs.Call.{Store, draw_of}
use Rattle.bucket_call_spec.specs.Simulates.{Simulates}
use Rattle.simulation_laws.specs.Relation.{empty_store}
use Rattle.simulation_laws.specs.CallSim.{simulate-start}
use Rattle.simulation_laws.specs.BucketRun.{BucketRan}
use Rattle.simulation_laws.specs.ListSim.{tape_run, TapeKeys, answers-plain, leaves-named, RunMatches, RunSimulates, tapes-simulate}
use Rattle.state_spec.specs.Fit.{fits}
use Rattle.call_spec.specs.Store.{replied, reply_of, store_of}
use Rattle.demand_spec.specs.History.{Brought, StateAndTree, history, finally, counted, replies, trace_of, ops_in, tapes_of}
use Rattle.demand_spec.specs.Demands.{opened_store, method, Follows, names_for, leaf_at}
use Rattle.demand_laws.specs.OpenStates.{kept_of, store-back}
use Rattle.demand_laws.specs.FitKept.{state-fits}
use Rattle.demand_laws.specs.Fresh.{opened-empty}
use Rattle.demand_laws.specs.ListRuns.{Runs, Asking, Drawn, list-runs}

-- ---- from a good opening

not-both : {n : ℕ} → n ≡ 0 → n ≡ 9 → ⊥
not-both p q = omega arith

-- The draws of call c are those of the tape with number c.
drawn-tapes : (st : Structure) (k : ℕ) (cs : List Brought) → Drawn st k (λ c d. leaf_of k (tapes_of cs) (drawn c d)) 1 cs
unfolding leaf_of
drawn-tapes st k cs i =
    let same : 1 + i ≡ suc i = omega arith in
    ap (λ (n : ℕ). draw_of k (tape_of (tapes_of cs) n)) same

module _ (st : Structure) (k : ℕ) (positive : 1 ≤ k) (small : k ≤ 8) (tree : List ℕ) (sized : length tree ≡ tree_length k)
    (bs : List Brought) (bytes : All (λ b. Bytes b.ticket) bs) where
  abbrev start : StateAndTree
  start = opened_store st k tree

  abbrev ops : List (Op st)
  ops = ops_in st (counted start bs)

  abbrev tapes : List (List ℕ)
  tapes = tapes_of (counted start bs)

  abbrev ran : BucketRan
  ran = tape_run k tapes ops

  -- The list is a run over buckets from the empty store.
  pub opened-runs : Asking st k (counted start bs) × (Runs st k ran (history start bs) (finally start bs) × TapeKeys k tapes ops)
  opened-runs =
      subst⁻¹
      (λ (s : StateAndTree). Asking st k (counted s bs)
      × (Runs st k (tape_run k (tapes_of (counted s bs)) (ops_in st (counted s bs))) (history s bs) (finally s bs)
      × TapeKeys k (tapes_of (counted s bs)) (ops_in st (counted s bs))))
      (opened-empty st k positive small tree sized)
      (let r = list-runs st k positive small bs bytes (empty_store k) (empty_memory 0) (simulate-start k) (nothing st) (held-empty 0 st (capacity k)) in
      (r.0, r.1 _ 1 (drawn-tapes st k (counted (kept_of st k (empty_store k)) bs))))

  runs : Runs st k ran (history start bs) (finally start bs)
  runs = opened-runs.1.0

  -- The answers are the plain machine's.
  pub answered : (finally start bs).state.mark ≡ 0 → replies (history start bs) ≡ map reply_of (plain_answers (capacity k) ops (nothing st))
  unfolding replied
  answered m =
      runs.answers
      ∙ ap (map (replied 9)) (answers-plain k positive (omega arith) tapes ops opened-runs.0.fit opened-runs.1.1 (sym runs.mark ∙ m))
      ∙ map-map (replied 9) some (plain_answers (capacity k) ops (nothing st))

  -- The trace is the leaves of the named draws.
  pub trace-named : (finally start bs).state.mark ≡ 0 → trace_of (history start bs) ≡ map (leaf_of k tapes) (names (rounds st k) k ops)
  trace-named m =
      let n = leaves-named k positive (omega arith) tapes ops opened-runs.0.fit opened-runs.1.1 in
      let none : n.0 ≡ [] = n.2 (sym runs.mark ∙ m) in
      runs.leaves ∙ sym (append-nil ran.leaves) ∙ ap (λ (ls : List ℕ). ran.leaves ++ ls) (sym none) ∙ sym n.1

  -- ---- the method's definition

  -- The method's memory holds what the plain machine holds.
  pub method-held : Held 0 st (capacity k) (plain_contents (capacity k) ops (nothing st)) (method st k start bs).memory
  unfolding leaf_run
  method-held = held 0 k (λ c d. leaf_of k tapes (drawn c d)) ops

  -- Until it closes, the list is the method's run, and leaves the open state of that run's store.
  module _ (m : (finally start bs).state.mark ≡ 0) where
    pub matches : RunMatches k ran (method st k start bs)
    matches = go (tapes-simulate k positive (omega arith) tapes ops opened-runs.0.fit opened-runs.1.1)
      where
        go : RunSimulates k ran (method st k start bs) → RunMatches k ran (method st k start bs)
        go (inl x) = absurd (not-both (sym runs.mark ∙ m) x.mark)
        go (inr x) = x

    pub left-store : finally start bs ≡ kept_of st k ran.store
    left-store = runs.store (sym runs.mark ∙ m)

    pub follows : Follows st k start bs
    follows =
        record {
          trace = runs.leaves ∙ matches.leaves;
          kept =
              subst⁻¹ (λ (s : Store). Simulates k s (method st k start bs).memory)
              (ap (λ (s : StateAndTree). store_of s.state s.tree) left-store ∙ store-back st k ran.store) matches.simulates;
          fit =
              subst⁻¹ (λ (s : StateAndTree). fits s.state ≡ true) left-store
              (state-fits st k positive small ran.store (method st k start bs).memory matches.simulates _ method-held);
        }

  -- ---- places

  pub trace-count : (finally start bs).state.mark ≡ 0 → length (trace_of (history start bs)) ≡ length (names_for st k start bs)
  trace-count m = ap (λ (ls : List ℕ). length ls) (trace-named m) ∙ length-map (names_for st k start bs) (leaf_of k tapes)

  -- There are 2F places for each call that counts.
  pub trace-length : (finally start bs).state.mark ≡ 0 → length (trace_of (history start bs)) ≡ length (counted start bs) * (2 * rounds st k)
  trace-length m =
      trace-count m ∙ names-counted k ops ∙ ap (λ (n : ℕ). n * (2 * rounds st k)) opened-runs.0.each

  pub leaf-in-trace : (finally start bs).state.mark ≡ 0 → (place : ℕ)
      → leaf_at st k start bs place ≡ get_or (trace_of (history start bs)) place 0
  leaf-in-trace m place =
      sym (leaf-get_d k tapes (names_for st k start bs) place)
      ∙ ap (λ (ls : List ℕ). get_or ls place 0) (sym (trace-named m))
