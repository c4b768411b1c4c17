-- A list of calls over a bucket store, each with what the one before it left, up to the first that closes the store.
use Rattle.std.specs.Prelude.{ℕ, suc, List, [], ◌∷◌, ◌++◌, eqb}
use Rattle.std.proofs.Math.Option.{Option}
use Rattle.list_spec.specs.Choice.{pick}
use Rattle.method_spec.specs.Answer.{Structure, Op, Answer}
use Rattle.bucket_call_spec.specs.Fetch.{CallLeft}
use Rattle.bucket_call_spec.specs.Call.{Store, bucket_call}
use Rattle.leaf_spec.specs.Entries.{KeyLeft}
use Rattle.simulation_laws.specs.Relation.{left_by}

-- The mark of the last call, what each call answered (none where it closed the store), all leaves revealed, and the store that is left.
pub record BucketRan : Type 0 where
  pub mark : ℕ
  pub answers : List (Option Answer)
  pub leaves : List ℕ
  pub store : Store

abbrev pub last : CallLeft → BucketRan
last l = record { mark = l.mark; answers = l.answer ∷ []; leaves = l.leaves; store = left_by l }

abbrev pub and_then : CallLeft → BucketRan → BucketRan
and_then l q =
    record {
      mark = q.mark;
      answers = l.answer ∷ q.answers;
      leaves = l.leaves ++ q.leaves;
      store = q.store;
    }

-- The calls are numbered from c; call c has the draws `draw c`.
unfoldable pub bucket_run : {s : Structure} → (size rounds : ℕ) → (draw : ℕ → ℕ → ℕ) → (c : ℕ) → List (Op s) → Store → BucketRan
bucket_run k F draw c [] st = record { mark = 0; answers = []; leaves = []; store = st }
bucket_run k F draw c (op ∷ ops) st =
    let l = bucket_call k F op (draw c) st in
    pick (eqb l.mark 0) (and_then l (bucket_run k F draw (suc c) ops (left_by l))) (last l)

-- There is a key for each call of the list that stores one.
abbrev pub KeysLeft : {s : Structure} → (size rounds : ℕ) → (draw : ℕ → ℕ → ℕ) → (c : ℕ) → List (Op s) → Store → Type 0
KeysLeft k F draw c [] st = Unit {0}
KeysLeft k F draw c (op ∷ ops) st =
    KeyLeft op st.ahead.key × KeysLeft k F draw (suc c) ops (left_by (bucket_call k F op (draw c) st))
