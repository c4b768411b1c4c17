-- A list of calls over a bucket store from the empty one: the answers, leaves and nodes are those of the method at leaves, up to the first
-- call that meets overflow. So the answers are the plain machine's, and the leaves those of the draws that the origin rule names.
use Rattle.std.specs.Prelude.{◌≡◌, refl, ◌⊎◌, ℕ, suc, ◌^◌, ◌≤◌, ◌<◌}
use Rattle.std.proofs.Common.{sym, ◌∙◌, ap, ap₂, inl, arith, pow_pos}
use Rattle.std.proofs.Math.Logic.{inr}
use mathlib.Core.List.Memᴰ
use mathlib.Core.List.{List, [], ◌∷◌, ◌++◌, map, append-nil, append_assoc}
use Rattle.std.proofs.Math.Option.{Option, none, some}
use Rattle.std.proofs.Math.Nat.{mod-lt}
use Rattle.list_spec.specs.Distinct.{All}
use Rattle.method_spec.specs.Answer.{Structure, Op, Answer}
use Rattle.method_spec.specs.Plain.{Contents, nothing, plain, plain_answers}
use Rattle.method_spec.specs.Outcome.{Outcome}
use Rattle.method_spec.specs.Rounds.{rounds}
use Rattle.method_spec.specs.Call.{capacity, Memory, empty_memory, Called, call, Ran, run}
use Rattle.method_spec.specs.Origin.{drawn, names, leaf_of, leaf_run}
use Rattle.run_laws.specs.Leaves.{leaves-revealed}
use Rattle.method_laws.specs.Represented.{Held, held-empty}
use Rattle.method_laws.specs.Theorems as theorems
use Rattle.method_spec.specs.Call as method
use Rattle.bucket_call_spec.specs.Fetch.{CallLeft, Round}
use Rattle.bucket_call_spec.specs.Call.{Store, fetched_by, bucket_call}
use Rattle.leaf_spec.specs.Entries.{OpFits, KeyLeft}
use Rattle.simulation_laws.specs.ProperCall.{call-held}
use Rattle.bucket_call_spec.specs.Simulates.{Simulates}
use Rattle.simulation_laws.specs.Relation.{empty_store, left_by, Matches, Overflowed}
use Rattle.simulation_laws.specs.CallSim.{simulate, simulate-start}
use Rattle.simulation_laws.specs.BucketRun.{BucketRan, last, and_then, bucket_run, KeysLeft}

-- All calls did what the method's calls did.
pub record RunMatches (k : ℕ) (b : BucketRan) (r : Ran ℕ) : Type 0 where
  pub mark : b.mark ≡ 0
  pub answers : b.answers ≡ r.answers
  pub leaves : b.leaves ≡ r.revealed
  pub simulates : Simulates k b.store r.memory

-- A call met overflow. The calls before it answered as the method's did, and the leaves are the first of the method's.
pub record RunOverflowed (b : BucketRan) (r : Ran ℕ) : Type 0 where
  pub mark : b.mark ≡ 9
  pub before : List (Option Answer)
  pub answers : b.answers ≡ before ++ (none ∷ [])
  pub later : List (Option Answer)
  pub answered : r.answers ≡ before ++ later
  pub rest : List ℕ
  pub leaves : r.revealed ≡ b.leaves ++ rest

abbrev pub RunSimulates : ℕ → BucketRan → Ran ℕ → Type 0
RunSimulates k b r = RunOverflowed b r ⊎ RunMatches k b r

-- ---- a call, and then others

module _ {s : Structure} (k F : ℕ) (draw : ℕ → ℕ → ℕ) (c : ℕ) (op : Op s) (ops : List (Op s)) (st : Store) where
  abbrev first : CallLeft
  first = bucket_call k F op (draw c) st

  run-goes : first.mark ≡ 0 → bucket_run k F draw c (op ∷ ops) st ≡ and_then first (bucket_run k F draw (suc c) ops (left_by first))
  unfolding bucket_run
  run-goes e = rw e

  run-stops : first.mark ≡ 9 → bucket_run k F draw c (op ∷ ops) st ≡ last first
  unfolding bucket_run
  run-stops e = rw e

-- The end of a list of calls from that of its first call and that of the others.
module _ {k : ℕ} {l : CallLeft} {r : Called ℕ} where
  goes_on : {b : BucketRan} {q : Ran ℕ} → Matches k l r → RunSimulates k b q → RunSimulates k (and_then l b) (method.and_then r q)
  goes_on {b} {q} x (inl y) =
      inl (record {
        mark = y.mark;
        before = l.answer ∷ y.before;
        answers = ap (λ (more : List (Option Answer)). l.answer ∷ more) y.answers;
        later = y.later;
        answered = ap₂ (λ (a : Option Answer) (more : List (Option Answer)). a ∷ more) (sym x.answer) y.answered;
        rest = y.rest;
        leaves =
            ap₂ (λ (xs ys : List ℕ). xs ++ ys) (sym x.leaves) y.leaves
            ∙ sym (append_assoc l.leaves b.leaves y.rest);
      })
  goes_on x (inr y) =
      inr (record {
        mark = y.mark;
        answers = ap₂ (λ (a : Option Answer) (more : List (Option Answer)). a ∷ more) x.answer y.answers;
        leaves = ap₂ (λ (xs ys : List ℕ). xs ++ ys) x.leaves y.leaves;
        simulates = y.simulates;
      })

  stops : {m : Memory ℕ} {x : Round (Outcome ℕ)} → Overflowed k m x l r → (q : Ran ℕ) → RunOverflowed (last l) (method.and_then r q)
  stops x q =
      record {
        mark = x.mark;
        before = [];
        answers = ap (λ (a : Option Answer). a ∷ []) x.answer;
        later = (method.and_then r q).answers;
        answered = refl;
        rest = x.rest ++ q.revealed;
        leaves = ap (λ (xs : List ℕ). xs ++ q.revealed) x.leaves ∙ append_assoc l.leaves x.rest q.revealed;
      }

-- ---- a list of calls

module _ {s : Structure} (k : ℕ) (positive : 1 ≤ k) (small : k ≤ 16) (draw : ℕ → ℕ → ℕ) (leaves : (c d : ℕ) → draw c d < 2 ^ k) where
  -- Each list of calls, from a store that simulates a memory that holds what the plain machine holds.
  pub run-simulates : (c : ℕ) (ops : List (Op s)) → All (λ op. OpFits op) ops → (t : Contents s) (m : Memory ℕ) → Held 0 s (capacity k) t m
      → (st : Store) → Simulates k st m → KeysLeft k (rounds s k) draw c ops st
      → RunSimulates k (bucket_run k (rounds s k) draw c ops st) (run 0 (rounds s k) (capacity k) draw c ops m)
  unfolding run bucket_run
  run-simulates c [] fit t m held st sim keys = inr (record { mark = refl; answers = refl; leaves = refl; simulates = sim })
  run-simulates c (op ∷ ops) fit t m held st sim keys =
      go (simulate k positive small t m held st sim op op_fits key_left (draw c) (leaves c))
      (λ x. run-simulates (suc c) ops (λ o i. fit o (Memᴰ.tail i)) (plain (capacity k) op t).contents r.memory
      (call-held k small t m held op (draw c)) (left_by l) x.simulates keys.1)
    where
      op_fits : OpFits op
      op_fits = fit op (Memᴰ.head refl)

      key_left : KeyLeft op m.ahead.key
      key_left = rw (← sim.ahead) keys.0

      F : ℕ
      F = rounds s k

      l : CallLeft
      l = bucket_call k F op (draw c) st

      r : Called ℕ
      r = call 0 F (capacity k) op (draw c) m

      go : Overflowed k m (fetched_by k F op (draw c) st) l r ⊎ Matches k l r
          → (Matches k l r → RunSimulates k (bucket_run k F draw (suc c) ops (left_by l)) (run 0 F (capacity k) draw (suc c) ops r.memory))
          → RunSimulates k (bucket_run k F draw c (op ∷ ops) st) (run 0 F (capacity k) draw c (op ∷ ops) m)
      go (inl x) later = rw (run-stops k F draw c op ops st x.mark) (inl (stops x (run 0 F (capacity k) draw (suc c) ops r.memory)))
      go (inr x) later = rw (run-goes k F draw c op ops st x.mark) (goes_on x (later x))

  -- From the empty store.
  pub run-from-start : (ops : List (Op s)) → All (λ op. OpFits op) ops → KeysLeft k (rounds s k) draw 1 ops (empty_store k)
      → RunSimulates k (bucket_run k (rounds s k) draw 1 ops (empty_store k)) (run 0 (rounds s k) (capacity k) draw 1 ops (empty_memory 0))
  run-from-start ops fit keys =
      run-simulates 1 ops fit (nothing s) (empty_memory 0) (held-empty 0 s (capacity k)) (empty_store k)
      (simulate-start k) keys

-- ---- the same with the tapes that the calls bring

not-both : {n : ℕ} → n ≡ 0 → n ≡ 9 → ⊥
not-both p q = omega arith

-- A list of calls over buckets from the empty store: call c has the draws of the c-th tape.
abbrev pub tape_run : {s : Structure} → ℕ → List (List ℕ) → List (Op s) → BucketRan
tape_run {s} k tapes ops = bucket_run k (rounds s k) (λ c d. leaf_of k tapes (drawn c d)) 1 ops (empty_store k)

-- There is a key for each of these calls.
abbrev pub TapeKeys : {s : Structure} → ℕ → List (List ℕ) → List (Op s) → Type 0
TapeKeys {s} k tapes ops = KeysLeft k (rounds s k) (λ c d. leaf_of k tapes (drawn c d)) 1 ops (empty_store k)

module _ {s : Structure} (k : ℕ) (positive : 1 ≤ k) (small : k ≤ 16) (tapes : List (List ℕ)) (ops : List (Op s)) (fit : All (λ op. OpFits op) ops)
    (keys : TapeKeys k tapes ops) where
  leaf-below : (c d : ℕ) → leaf_of k tapes (drawn c d) < 2 ^ k
  unfolding leaf_of
  leaf-below c d = mod-lt _ (pow_pos k)

  pub tapes-simulate : RunSimulates k (tape_run k tapes ops) (leaf_run (rounds s k) k tapes ops)
  unfolding leaf_run
  tapes-simulate = run-from-start k positive small (λ c d. leaf_of k tapes (drawn c d)) leaf-below ops fit keys

  -- Without overflow the answers are the plain machine's.
  pub answers-plain : (tape_run k tapes ops).mark ≡ 0 → (tape_run k tapes ops).answers ≡ map some (plain_answers (capacity k) ops (nothing s))
  unfolding leaf_run
  answers-plain e = go tapes-simulate
    where
      go : RunSimulates k (tape_run k tapes ops) (leaf_run (rounds s k) k tapes ops) → (tape_run k tapes ops).answers ≡ map some (plain_answers (capacity k) ops (nothing s))
      go (inl x) = absurd (not-both e x.mark)
      go (inr x) = x.answers ∙ theorems.answers 0 k (λ c d. leaf_of k tapes (drawn c d)) ops

  -- The leaves revealed are the leaves of the draws that the origin rule names: of all, without overflow, and else of the first of them.
  pub leaves-named : (rest : List ℕ) × (map (leaf_of k tapes) (names (rounds s k) k ops) ≡ (tape_run k tapes ops).leaves ++ rest)
      × ((tape_run k tapes ops).mark ≡ 0 → rest ≡ [])
  leaves-named = go tapes-simulate
    where
      go : RunSimulates k (tape_run k tapes ops) (leaf_run (rounds s k) k tapes ops)
          → (rest : List ℕ) × (map (leaf_of k tapes) (names (rounds s k) k ops) ≡ (tape_run k tapes ops).leaves ++ rest)
          × ((tape_run k tapes ops).mark ≡ 0 → rest ≡ [])
      go (inl x) = (
        x.rest,
        sym (leaves-revealed (rounds s k) k tapes ops) ∙ x.leaves,
        λ e. absurd (not-both e x.mark),
      )
      go (inr x) =
          ([], sym (leaves-revealed (rounds s k) k tapes ops) ∙ sym x.leaves ∙ sym (append-nil (tape_run k tapes ops).leaves), λ e. refl)
