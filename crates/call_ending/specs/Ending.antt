-- What the end of a call needs and leaves, as the definition of a call says it.
use Rattle.std.specs.Prelude.{◌≡◌, true, List, [], ◌++◌, ℕ, max, ◌+◌, ◌*◌, ◌≤◌, length, take, drop}
use Rattle.std.specs.Prelude as code
use Rattle.list_spec.specs.Distinct.{All}
use Rattle.method_spec.specs.Node.{Ahead, Node}
use Rattle.method_spec.specs.Prog.{done, after}
use Rattle.method_spec.specs.Answer.{Structure, Op}
use Rattle.method_spec.specs.Outcome.{Outcome}
use Rattle.round_spec.specs.Round.{join}
use Rattle.round_spec.specs.Whole.{IsTree, Ascending}
use Rattle.slot_spec.specs.declared.Link as link
use Rattle.leaf_spec.specs.Convert.{from_link, to_link, from_ahead, to_ahead}
use Rattle.leaf_spec.specs.Entries.{KeyLeft}
use Rattle.leaf_spec.specs.Leaf.{leaf_format, ProperLeaf}
use Rattle.bucket_call_spec.specs.Fetch as fetch
use Rattle.bucket_call_spec.specs.Fetch.{CallLeft, Going, Round, closing}
use Rattle.bucket_call_spec.specs.Call.{Store, after_puts, put_rounds, stepped, bucket_call}
use Rattle.bucket_call_spec.specs.Peak.{rounds_from, peak_of, call_peak}
use Rattle.operation_spec.specs.Method.{to_op, to_step_answer, ahead_for, outcome_in}
use Rattle.node_rows.specs.Row.{words as rowWords, fetches}
use Rattle.word_round_laws.specs.SlotRow.{places}
use Rattle.call_spec.specs.declared.Refusal.{Refusal}
use Rattle.call_spec.specs.Reply.{number_of, to_reply}
use Rattle.call_spec.specs.Store.{Ended, replied}
use Rattle.stash.specs.Stash.{saved}
use Rattle.stash_laws.specs.Waiting.{waiting_in, Holds}
use Rattle.one_round.specs.OneRound.{going}
use Rattle.idle_rounds.specs.declared.idle.Idle.{Idle}
use Rattle.put_rounds.specs.Put.{Stepped, Puts}
use Rattle.want_rounds.specs.declared.Job.{Job}
use Rattle.want_rounds.specs.declared.Fetched.{Fetched}
use Rattle.want_rounds.specs.Wanting.{structure_in, program_of, LongEnough}
use Rattle.call_ending.specs.declared.Ran.{Ran}
use Rattle.operation_spec.specs.declared.Answer as answer
use Rattle.operation_spec.specs.declared.Full.{Full}

-- What the rounds and the step of a call leave, of a store of that structure and size, with the waiting nodes' row, the tree and
-- the trace buffer as they are then.
abbrev pub left_by : (structure size : ℕ) → Ran → (row tree trace : List ℕ) → Ended
left_by structure size r row tree trace =
    record {
      state = saved structure size r.mark r.entries r.root r.ahead (waiting_in r.waiting row);
      reply = to_reply r.reply;
      leaves = r.leaves;
      peak = r.peak;
      tree = tree;
      trace = trace;
    }

-- The end of a call of a store of that structure and size, of what it leaves: `ending` of call_spec.
abbrev pub ending_with : (structure size : ℕ) → List ℕ → CallLeft → (peak : ℕ) → Ended
ending_with structure size trace l peak =
    record {
      state = saved structure size l.mark l.entries (from_link l.root) (from_ahead l.ahead) l.waiting;
      reply = replied l.mark l.answer;
      leaves = length l.leaves;
      peak = peak;
      tree = l.tree;
      trace = l.leaves ++ drop (length l.leaves) trace;
    }

-- The same of a whole call over buckets.
abbrev pub ending_call : {s : Structure} → (structure size : ℕ) → List ℕ → (rounds : ℕ) → Op s → (draw : ℕ → ℕ) → Store → Ended
ending_call structure k trace F op draw st = ending_with structure k trace (bucket_call k F op draw st) (call_peak k F op draw st)

-- ---- a fetch round closed the store
-- A call after its fetch rounds, with the leaves that these revealed.
abbrev pub going_by : List fetch.Held → Fetched → (row tree trace : List ℕ) → Going
going_by hs f row tree trace = going f.waiting row tree hs (take f.leaves trace)

-- What closing needs: the waiting nodes are in the row, and there is room for the held ones beside them.
pub record Shuts (f : Fetched) (row : List ℕ) : Type 0 where
  pub holds : Holds f.waiting row
  pub room : f.waiting + f.count ≤ places

-- The held nodes and where their links stood, in rows.
abbrev pub HeldRows : Fetched → (held froms : List ℕ) → Type 0
HeldRows f held froms = (f.count ≤ fetches) × ((length held ≡ rowWords) × (length froms ≡ fetches))

-- The store is closed for that cause, with its number as the mark and with what was known ahead, whatever the tree and the trace are then.
pub record ShutAs (j : Job) (f : Fetched) (cause : Refusal) (hs : List fetch.Held) (row row' : List ℕ) (r : Ran) : Type 0 where
  pub holds : Holds r.waiting row'
  pub ends : (tree trace : List ℕ) → f.leaves ≤ length trace
      → left_by j.structure j.size r row' tree trace
      ≡ ending_with j.structure j.size trace (closing (number_of cause) j.entries (to_link j.root) (to_ahead j.spares.ahead) (going_by hs f row tree trace)) f.peak

-- ---- all fetch rounds went on
-- The step's outcome with these nodes, and the store after it.
abbrev pub outcome_of : Job → List (Node ℕ) → Outcome ℕ
outcome_of j ns = outcome_in (to_link j.root) j.entries (after (program_of j) ns)

abbrev pub stepped_by : Job → List (Node ℕ) → Fetched → (row tree trace : List ℕ) → Going
stepped_by j ns f row tree trace = stepped (outcome_of j ns) (going_by [] f row tree trace)

-- An outcome by its parts.
abbrev pub outcome_with : link.Link → ℕ → code.Result answer.Answer Full → List (Node ℕ) → Outcome ℕ
outcome_with l entries answer ns = record { nodes = ns; root = to_link l; entries = entries; answer = to_step_answer answer }

-- What is known ahead after the step.
abbrev pub ahead_of : Job → Ahead ℕ
ahead_of j = ahead_for j.op j.spares j.limit j.entries

-- The call is finished as the definition says it: after the step the put rounds; and these one by one.
abbrev pub finished_by : Job → (ℕ → ℕ) → Outcome ℕ → Going → CallLeft
finished_by j draw o g = after_puts (ahead_of j) o (put_rounds j.size draw j.rounds j.puts o g)

abbrev pub listed_puts : Job → (ℕ → ℕ) → Outcome ℕ → Going → List (Round (Outcome ℕ))
listed_puts j draw o g = rounds_from (structure_in j) j.entries j.size draw j.rounds j.puts (done o) g

-- What the put rounds of a call need.
pub record CanPut (j : Job) (m : ℕ) (row tree : List ℕ) : Type 0 where
  pub some-rounds : 1 ≤ j.rounds
  pub few-rounds : j.rounds ≤ 33
  pub key_left : KeyLeft (to_op j.op) j.spares.ahead.key
  pub after-step : Stepped j.size m row tree

-- What the step and the put rounds need: the nodes that wait then are proper and have room.
pub record Finishes (j : Job) (f : Fetched) (ns : List (Node ℕ)) (row tree : List ℕ) : Type 0 where
  pub small : j.size ≤ 8
  pub some-rounds : 1 ≤ j.rounds
  pub few-rounds : j.rounds ≤ 33
  pub holds : Holds f.waiting row
  pub order : Ascending leaf_format (waiting_in f.waiting row)
  pub key_left : KeyLeft (to_op j.op) j.spares.ahead.key
  pub is-tree : IsTree j.size tree
  pub proper : All (ProperLeaf j.size) (join leaf_format (outcome_of j ns).nodes (waiting_in f.waiting row))
  pub room : f.waiting + length (outcome_of j ns).nodes ≤ 65
  pub leaves-are : f.leaves ≡ j.rounds

-- The call is finished so from a store after the step, where the fetch rounds had that peak; at least their leaves are revealed.
pub record FinishedAs (j : Job) (draw : ℕ → ℕ) (peak : ℕ) (o : Outcome ℕ) (g : Going) (trace row' tree' trace' : List ℕ) (r : Ran) : Type 0 where
  pub holds : Holds r.waiting row'
  pub enough : j.rounds ≤ r.leaves
  pub ends : left_by j.structure j.size r row' tree' trace'
      ≡ ending_with j.structure j.size trace (finished_by j draw o g) (max peak (peak_of (listed_puts j draw o g)))

-- What is left by a call whose step came to these, after put rounds that came to p: whatever store they were made on, the call is finished so.
abbrev pub EndsPuts : Job → (peak : ℕ) → link.Link → (entries : ℕ) → code.Result answer.Answer Full → Idle → Ran → Type 0
EndsPuts j peak l entries answer p r =
    (draw : ℕ → ℕ) (m : ℕ) (row tree trace row' tree' trace' : List ℕ) (ns : List (Node ℕ)) → 2 * j.rounds ≤ length trace
    → Puts j.size m draw j.rounds j.puts row tree trace row' tree' trace' p
    → FinishedAs j draw peak (outcome_with l entries answer ns) (going m row tree [] (take j.rounds trace)) trace row' tree' trace' r
