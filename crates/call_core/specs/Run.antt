-- What the code of a call returns and leaves, as the definition of a call says it.
use Rattle.std.specs.Prelude.{◌≡◌, true, Result, Ok, Err, List, ℕ, ◌+◌}
use Rattle.slot_spec.specs.declared.Link.{Link}
use Rattle.slot_spec.specs.declared.Ahead.{Ahead}
use Rattle.method_spec.specs.Call.{capacity}
use Rattle.bucket_call_spec.specs.Call.{draw_of}
use Rattle.operation_spec.specs.declared.Op.{Op}
use Rattle.operation_spec.specs.Method.{to_op}
use Rattle.state_spec.specs.declared.State.{State}
use Rattle.state_spec.specs.Fit.{fits}
use Rattle.state_spec.specs.Fetching.{spare_of}
use Rattle.call_spec.specs.declared.Refusal.{Refusal}
use Rattle.call_spec.specs.Reply.{number_of}
use Rattle.call_spec.specs.Store.{Ended, refusing, called}
use Rattle.stash.specs.Stash.{Loaded}
use Rattle.stash_laws.specs.Waiting.{Holds}
use Rattle.want_rounds.specs.declared.Job.{Job}
use Rattle.want_rounds.specs.Wanting.{store_at, Begins, LongEnough}
use Rattle.fitness.specs.declared.Head.{Head}
use Rattle.call_ending.specs.declared.Ran.{Ran}
use Rattle.call_ending.specs.Ending.{left_by, ending_call}

-- ---- the core's promise

-- The head of a state: all of it but the mark and the places.
abbrev pub head_of : State → Head
head_of s = record { structure = s.structure; size = s.size; entries = s.entries; root = s.root; ahead = s.ahead; waiting = s.count }

-- A state that is open and fits, with this head and with its waiting nodes in the row.
pub record StandsFor (s : State) (h : Head) (row : List ℕ) : Type 0 where
  pub head : h ≡ head_of s
  pub not-closed : s.mark ≡ 0
  pub fit : fits s ≡ true
  pub loaded : Loaded s row s.count

-- There is such a state.
pub record Stands (h : Head) (row : List ℕ) : Type 0 where
  pub state : State
  pub for : StandsFor state h row

-- What the core leaves of a state: all as it came, where it refused, else a state with what waits then.
abbrev pub left_of : State → Result Ran Refusal → (row tree trace : List ℕ) → Ended
left_of s (Err n) row tree trace = refusing (number_of n) s tree trace
left_of s (Ok r) row tree trace = left_by s.structure s.size r row tree trace

-- Where it refused the row is as it was; else what waits then is in it.
abbrev pub row_left : Result Ran Refusal → (row row' : List ℕ) → Type 0
row_left (Err n) row row' = row' ≡ row
row_left (Ok r) row row' = Holds r.waiting row'

-- The core's promise: for every state that the head and the row stand for it is the call.
pub record CallsAs (h : Head) (row tree ticket tape trace row' tree' trace' : List ℕ) (r : Result Ran Refusal) : Type 0 where
  pub calls : (s : State) → StandsFor s h row → left_of s r row' tree' trace' ≡ called s tree ticket tape trace
  pub waits : row_left r row row'

-- ---- its parts

-- The job of a call: a new node's tags come from the two draws after those of the fetch rounds, and from what is known ahead.
abbrev pub job_for : (structure size entries : ℕ) → Link → Ahead → Op → (rounds : ℕ) → List ℕ → Job
job_for structure size entries root ahead op F tape =
    record {
      op = op;
      structure = structure;
      size = size;
      rounds = F;
      limit = capacity size;
      entries = entries;
      root = root;
      spares = record { first = draw_of size tape F; second = draw_of size tape (F + 1); ahead = ahead };
      puts = F + spare_of structure;
    }

-- What the rounds and the step of a call need: the rounds can begin, and the tape and the trace buffer are long enough.
pub record Runs (j : Job) (n : ℕ) (row tree tape trace : List ℕ) : Type 0 where
  pub begins : Begins j (draw_of j.size tape) n row tree
  pub long : LongEnough j tape trace

-- What they leave is what the definition of a call leaves.
pub record RanAs (j : Job) (n : ℕ) (row tree tape trace row' tree' trace' : List ℕ) (r : Ran) : Type 0 where
  pub holds : Holds r.waiting row'
  pub ends : left_by j.structure j.size r row' tree' trace'
      ≡ ending_call j.structure j.size trace j.rounds (to_op j.op) (draw_of j.size tape) (store_at j n row tree)
