-- The fetch rounds of a call in code: what they need, and what they came to.
use Rattle.std.specs.Prelude.{◌≡◌, false, List, [], ◌∷◌, map, ℕ, max, ◌+◌, ◌-◌, ◌*◌, ◌≤◌, eqb, length, take, drop}
use Rattle.std.proofs.Math.Option.{none}
use Rattle.list_spec.specs.Choice.{pick}
use Rattle.method_spec.specs.Node.{Node}
use Rattle.method_spec.specs.Prog.{root, Prog, after}
use Rattle.method_spec.specs.Answer.{Structure}
use Rattle.method_spec.specs.Outcome.{Outcome}
use Rattle.method_spec.specs.Rounds.{rounds, put_draw}
use Rattle.method_spec.specs.Call.{capacity}
use Rattle.bucket_call_spec.specs.Fetch as fetch
use Rattle.bucket_call_spec.specs.Fetch.{Round, on, fetch_rounds}
use Rattle.bucket_call_spec.specs.Call.{Store, draw_of}
use Rattle.bucket_call_spec.specs.Peak.{rounds_from, peak_of}
use Rattle.none_lost_laws.specs.Ends.{FitStore}
use Rattle.leaf_spec.specs.Entries.{OpFits, KeyLeft}
use Rattle.state_spec.specs.Ticket as ticket
use Rattle.leaf_spec.specs.Convert.{to_link, to_ahead, to_node}
use Rattle.operation_spec.specs.Method.{to_op, structure_asked, program_for, wanted_in}
use Rattle.node_rows.specs.Row.{froms_in}
use Rattle.node_rows.specs.Held.{Held, nodes_of}
use Rattle.node_rows.specs.Heights.{Lows}
use Rattle.tag_moves.specs.Moved.{held_of}
use Rattle.stash_laws.specs.Waiting.{waiting_in}
use Rattle.short_outcomes.specs.OneFetch.{one_fetch}
use Rattle.one_round.specs.OneRound.{going, ended_with, Rests}
use Rattle.round_close.specs.Fault.{mark_of}
use Rattle.want_rounds.specs.declared.Job.{Job}
use Rattle.want_rounds.specs.declared.Fetched.{Fetched}
use Rattle.want_rounds.specs.declared.FetchedOne.{FetchedOne}
use Rattle.idle_rounds.specs.Idle.{keys_held}

-- ---- the held nodes, each with where its link stood
-- In rows, and one by value, if it is held.
abbrev pub held_by : Held → List ℕ → List fetch.Held
held_by h froms = held_of (froms_in h.count froms) (nodes_of h)

abbrev pub held_one : FetchedOne → List fetch.Held
held_one f = pick (eqb f.fetched.count 0) [] (record { from = root; node = to_node f.node } ∷ [])

abbrev pub nodes_held : List fetch.Held → List (Node ℕ)
nodes_held hs = map (λ (h : fetch.Held). h.node) hs

-- ---- the call
abbrev pub structure_in : Job → Structure
structure_in j = structure_asked j.op

abbrev pub program_of : Job → Prog ℕ (Outcome ℕ)
program_of j = program_for j.op j.spares j.limit j.entries (to_link j.root)

abbrev pub store_at : Job → ℕ → (row tree : List ℕ) → Store
store_at j n row tree =
    record {
      entries = j.entries;
      root = to_link j.root;
      ahead = to_ahead j.spares.ahead;
      waiting = waiting_in n row;
      tree = tree;
    }

-- The first i fetch rounds.
abbrev pub fetched : Job → (ℕ → ℕ) → ℕ → ℕ → (row tree : List ℕ) → Round (Outcome ℕ)
fetched j draw i n row tree = fetch_rounds (structure_in j) j.entries j.size draw i 0 (program_of j) (going n row tree [] [])

-- The fetch rounds one by one, and of them those after the first i, which came to that program and store.
abbrev pub listed_from : Job → (ℕ → ℕ) → ℕ → Prog ℕ (Outcome ℕ) → fetch.Going → List (Round (Outcome ℕ))
listed_from j draw i q g = rounds_from (structure_in j) j.entries j.size draw (j.rounds - i) i q g

abbrev pub listed_by : Job → (ℕ → ℕ) → ℕ → (row tree : List ℕ) → List (Round (Outcome ℕ))
listed_by j draw n row tree = rounds_from (structure_in j) j.entries j.size draw j.rounds 0 (program_of j) (going n row tree [] [])

-- What the rounds need: all that the checks of a call make sure of, and that the waiting nodes are in the row.
pub record Begins (j : Job) (draw : ℕ → ℕ) (n : ℕ) (row tree : List ℕ) : Type 0 where
  pub some_size : 1 ≤ j.size
  pub small : j.size ≤ 8
  pub rounds-are : j.rounds ≡ rounds (structure_in j) j.size
  pub structure-is : ticket.structure_of j.structure ≡ structure_in j
  pub limit_is : j.limit ≡ capacity j.size
  pub first-is : j.spares.first ≡ draw j.rounds
  pub second_is : j.spares.second ≡ draw (j.rounds + 1)
  pub puts-are : j.puts ≡ put_draw (structure_in j) j.rounds 0
  pub op_fits : OpFits (to_op j.op)
  pub key_left : KeyLeft (to_op j.op) j.spares.ahead.key
  pub fit : FitStore (structure_in j) j.size (store_at j n row tree)
  pub rests : Rests n row []

-- The tape and the trace buffer are long enough for all rounds of the call.
abbrev pub LongEnough : Job → (tape trace : List ℕ) → Type 0
LongEnough j tape trace = (j.puts + j.rounds ≤ length tape) × (2 * j.rounds ≤ length trace)

-- What the fetch rounds of a map or a heap need.
pub record CanFetch (j : Job) (n : ℕ) (row tree tape trace : List ℕ) : Type 0 where
  pub begins : Begins j (draw_of j.size tape) n row tree
  pub more-fetches : one_fetch (structure_in j) ≡ false
  pub long : LongEnough j tape trace

-- ---- what rounds came to, with these nodes held, and their peak
-- After as many rounds as nodes are held, each of which wanted one. Their leaves are the trace's first numbers, and the others are as they were.
pub record Walked (j : Job) (draw : ℕ → ℕ) (n : ℕ) (row₀ tree₀ trace₀ : List ℕ) (hs : List fetch.Held) (m peak : ℕ) (row tree trace : List ℕ) : Type 0 where
  pub upto : length hs ≤ j.rounds
  pub so_far : fetched j draw (length hs) n row₀ tree₀
      ≡ on (going m row tree hs (take (length hs) trace)) (after (program_of j) (nodes_held hs))
  pub peaks : peak_of (listed_by j draw n row₀ tree₀)
      ≡ max peak (peak_of (listed_from j draw (length hs) (after (program_of j) (nodes_held hs)) (going m row tree hs (take (length hs) trace))))
  pub rests : Rests m row (keys_held hs)
  pub low : Lows 100 (nodes_held hs)
  pub trace-sized : length trace ≡ length trace₀
  pub untouched : drop (length hs) trace ≡ drop (length hs) trace₀

-- After all fetch rounds, or after one that closed the store.
pub record FetchedAs (j : Job) (draw : ℕ → ℕ) (n : ℕ) (row tree trace : List ℕ) (hs : List fetch.Held) (row' tree' trace' : List ℕ) (r : Fetched) : Type 0 where
  pub outcome : fetched j draw j.rounds n row tree
      ≡ ended_with (mark_of r.fault) (going r.waiting row' tree' hs (take r.leaves trace')) (after (program_of j) (nodes_held hs))
  pub peaked : peak_of (listed_by j draw n row tree) ≡ r.peak
  pub finished : mark_of r.fault ≡ 0 → wanted_in (after (program_of j) (nodes_held hs)) ≡ none
  pub counted : r.count ≡ length hs
  pub upto : length hs ≤ j.rounds
  pub rests : Rests r.waiting row' (keys_held hs)
  pub low : Lows 100 (nodes_held hs)
  pub no_more : r.leaves ≤ j.rounds
  pub all_shown : mark_of r.fault ≡ 0 → r.leaves ≡ j.rounds
  pub trace-sized : length trace' ≡ length trace
  pub untouched : drop r.leaves trace' ≡ drop r.leaves trace

-- ---- of nodes in rows
-- The first places of the rows have the held nodes and their keys.
pub record InRows (h : Held) (froms keys : List ℕ) : Type 0 where
  pub counted : length (held_by h froms) ≡ h.count
  pub nodes-are : nodes_held (held_by h froms) ≡ nodes_of h
  pub keys-are : keys_held (held_by h froms) ≡ take h.count keys

pub record Fetches (j : Job) (draw : ℕ → ℕ) (n : ℕ) (row tree trace : List ℕ) (h : Held) (froms row' tree' trace' : List ℕ) (r : Fetched) : Type 0 where
  pub came : FetchedAs j draw n row tree trace (held_by h froms) row' tree' trace' r
  pub nodes-are : nodes_held (held_by h froms) ≡ nodes_of h

-- The rounds that want a node: if they go on none is wanted any more, else they came to what all of them come to.
pub record Walks (j : Job) (draw : ℕ → ℕ) (n : ℕ) (row tree trace : List ℕ) (h : Held) (froms row' tree' keys' trace' : List ℕ) (r : Fetched) : Type 0 where
  pub goes : mark_of r.fault ≡ 0 → Walked j draw n row tree trace (held_by h froms) r.waiting r.peak row' tree' trace' × InRows h froms keys'
  pub finished : mark_of r.fault ≡ 0 → wanted_in (after (program_of j) (nodes_held (held_by h froms))) ≡ none
  pub stops : (mark_of r.fault ≡ 0 → ⊥) → Fetches j draw n row tree trace h froms row' tree' trace' r
