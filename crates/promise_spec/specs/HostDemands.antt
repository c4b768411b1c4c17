-- The three demands for a C host, in their own words: of byte states, lent buffers and returned numbers. `Demands` (demand_spec) has them for states.
use Rattle.std.specs.Prelude.{ℕ, ◌*◌, ◌≤◌, ◌<◌, ◌≡◌, true, ◌↔◌, ◌⊎◌, List, [], ◌∷◌, ◌++◌, map, length, get_or}
use Rattle.std.proofs.Math.Option.{some}
use Rattle.list_spec.specs.Distinct.{Distinct, All}
use Rattle.method_spec.specs.Answer.{Structure, Op, meaning}
use Rattle.method_spec.specs.Plain.{Pair, Contents, Entries, plain, plain_contents, plain_answers, nothing}
use Rattle.method_spec.specs.Rounds.{rounds, draws}
use Rattle.method_spec.specs.Call.{capacity, Memory, call, Ran}
use Rattle.method_spec.specs.Origin.{Origin, no_draw, DrawOnTape, names, leaf_of, leaf_run}
use Rattle.bucket_call_spec.specs.Call.{draw_of}
use Rattle.bucket_call_spec.specs.Simulates.{Simulates, Remains}
use Rattle.state_spec.specs.declared.State.{State}
use Rattle.state_spec.specs.Ticket.{op_in, structure_of}
use Rattle.call_spec.specs.Store.{Ended, called, reply_of, store_of}
use Rattle.readout_spec.specs.Taken.{pair_of_entry, entries, report}
use Rattle.readout_spec.specs.ReadOut.{file_of, writing}
use Rattle.readout_spec.specs.ReadBack.{read_back}
use Rattle.lent_bytes_spec.specs.Numbers.{numbers_of}
use Rattle.lent_bytes_spec.specs.StateBytes.{state_length, state_in, fit_bytes}
use Rattle.host_spec.specs.Result.{reply_value, result_bytes}
use Rattle.host_spec.specs.Host.{HostEnded, lengths_good, host_leaving, host_called, host_opened, read_as, host_read_out}
use Rattle.demand_spec.specs.History.{ops_in, tapes_of, pairs_in, structure_number}
use Rattle.demand_spec.specs.Demands.{NoneLost, RoundTrip, fetching}
use Rattle.promise_spec.specs.HostHistory.{HostBrought, brought_by, HostStore, mark_in, host_call_on, host_history, host_finally, host_until_closed, changes_no_byte, host_counted, host_replies, host_reply_of, ValueFits, host_trace_of}

-- ---- demand 1: any bytes of a state, with any tree, ticket, tape, trace and result buffer
module _ (state tree ticket tape trace result : List ℕ) where
  abbrev pub host_ends : HostEnded
  host_ends = host_called state tree ticket tape trace result

  -- The state that the bytes are read as, and the existing call on it.
  abbrev pub read : State
  read = state_in state

  abbrev pub existing : Ended
  existing = called read tree ticket (numbers_of tape) (numbers_of trace)

  -- After 8 or 9 the state's mark is that number, and every later call, whatever it brings, gives 1 and leaves every byte; or 18, where its lengths
  -- do not pass.
  pub record HostStaysClosed (n : ℕ) : Type 0 where
    pub marked : mark_in host_ends.state ≡ n
    pub long : length host_ends.state ≡ state_length
    pub later : (tree' ticket' tape' trace' result' : List ℕ)
        → lengths_good state_length (length tape') (length trace') (length result') ≡ true
        → host_called host_ends.state tree' ticket' tape' trace' result' ≡ host_leaving 1 host_ends.state tree' trace' result'

  -- The result bytes say all of what the existing call brings: leaves and peak fit their bytes.
  pub record ResultSays : Type 0 where
    pub some-leaf : 1 ≤ existing.leaves
    pub leaves-fit : existing.leaves < 256
    pub peak-fits : existing.peak < 256
    pub filled : host_ends.result ≡ result_bytes (reply_value existing.reply) existing.leaves existing.peak

  pub record HostDemand1 : Type 0 where
    -- 0, or one refusal 1 to 10, 17, 18 or 19.
    pub one_number : (host_ends.number ≤ 10) ⊎ ((host_ends.number ≡ 17) ⊎ ((host_ends.number ≡ 18) ⊎ (host_ends.number ≡ 19)))
    pub unchanged : 1 ≤ host_ends.number → changes_no_byte host_ends.number ≡ true → host_ends ≡ host_leaving host_ends.number state tree trace result
    pub stays_closed : (n : ℕ) → host_ends.number ≡ n → (n ≡ 8) ⊎ (n ≡ 9) → HostStaysClosed n
    -- An answer, 8, 9 and 10.
    pub says : (host_ends.number ≡ 0) ⊎ ((8 ≤ host_ends.number) × (host_ends.number ≤ 10)) → ResultSays
    pub none-lost : (host_ends.number ≡ 8) ⊎ (host_ends.number ≡ 9)
        → (op : Op (structure_of read.structure)) → op_in (structure_of read.structure) ticket ≡ some op
        → NoneLost read tree ticket (numbers_of tape) (numbers_of trace) (structure_of read.structure) op (pairs_in (state_in host_ends.state) host_ends.tree)

-- ---- demands 2 and 3: lists of calls from a good opening
-- The bytes that an opening of a state buffer and a tree leaves.
abbrev pub host_start : Structure → ℕ → (state tree : List ℕ) → HostStore
host_start st k state tree =
    record { state = (host_opened (structure_number st) k state tree).state; tree = (host_opened (structure_number st) k state tree).tree }

module _ (st : Structure) (k : ℕ) (s : HostStore) (cs : List HostBrought) where
  -- The tickets and the tapes of the calls that count, and the method run on them.
  abbrev pub host_asked : List (Op st)
  host_asked = ops_in st (map brought_by (host_counted s cs))

  abbrev pub host_tapes : List (List ℕ)
  host_tapes = tapes_of (map brought_by (host_counted s cs))

  abbrev pub host_method : Ran ℕ
  host_method = leaf_run (rounds st k) k host_tapes host_asked

  -- The trace is what the method reveals, the bytes at the end keep the nodes of the method's memory, and they fit.
  pub record HostFollows : Type 0 where
    pub trace : host_trace_of (host_history s cs) ≡ host_method.revealed
    pub kept : Simulates k (store_of (state_in (host_finally s cs).state) (host_finally s cs).tree) host_method.memory
    pub fit : fit_bytes (host_finally s cs).state ≡ true

-- A call closed a byte store that keeps the memory m and the contents t: as `ClosedBy`.
pub record HostClosedBy (st : Structure) (k : ℕ) (s : HostStore) (m : Memory ℕ) (t : Contents st) (c : HostBrought) : Type 0 where
  pub op : Op st
  pub asks : op_in st c.ticket ≡ some op
  pub overflow : (host_call_on s c).number ≡ 9
  pub rest : List ℕ
  pub reveals : (call 0 (rounds st k) (capacity k) op (draw_of k (numbers_of c.tape)) m).revealed ≡ host_trace_of (host_call_on s c ∷ []) ++ rest
  pub contents : Remains (Entries st t) (Entries st (plain (capacity k) op t).contents) (pairs_in (state_in (host_call_on s c).state) (host_call_on s c).tree)
      (fetching (state_in s.state) s.tree c.ticket (numbers_of c.tape) (numbers_of c.trace) st op)

module _ (st : Structure) (k : ℕ) (state tree : List ℕ) (cs : List HostBrought) where
  -- The calls before the one that closed the store, and the bytes that they left.
  abbrev pub host_before : List HostBrought
  host_before = host_until_closed (host_start st k state tree) cs

  abbrev pub host_left : HostStore
  host_left = host_finally (host_start st k state tree) host_before

  abbrev pub host_end : HostStore
  host_end = host_finally (host_start st k state tree) cs

  -- What the plain machine holds after them.
  abbrev pub host_holds : Contents st
  host_holds = plain_contents (capacity k) (host_asked st k (host_start st k state tree) host_before) (nothing st)

  -- No call closed the store, or the one after those before it did.
  pub data HostEnding : Type 0 where
    host-stays-open : host_before ≡ cs → mark_in host_end.state ≡ 0 → HostEnding
    host-closes : (c : HostBrought) (after : List HostBrought) → cs ≡ host_before ++ (c ∷ after) → mark_in host_end.state ≡ 9
        → HostClosedBy st k host_left (host_method st k (host_start st k state tree) host_before).memory host_holds c → HostEnding

  pub record HostDemand2 : Type 0 where
    pub slots : RoundTrip k
    pub opens : (host_opened (structure_number st) k state tree).number ≡ 0
    -- Until the store closes every answer is the plain machine's, and trace and bytes are those of the method.
    pub answers : host_replies (host_history (host_start st k state tree) host_before)
        ≡ map (λ a. host_reply_of (reply_of a)) (plain_answers (capacity k) (host_asked st k (host_start st k state tree) host_before) (nothing st))
    pub values-fit : All (λ a. ValueFits (meaning a).value) (plain_answers (capacity k) (host_asked st k (host_start st k state tree) host_before) (nothing st))
    pub follows : HostFollows st k (host_start st k state tree) host_before
    pub ends : HostEnding
    -- No call meets 2, 3 or 8.
    pub never : All (λ (e : HostEnded). (e.number ≡ 2 → ⊥) × ((e.number ≡ 3 → ⊥) × (e.number ≡ 8 → ⊥))) (host_history (host_start st k state tree) cs)

-- After a 9 the read-out holds everything: as `ReadsOut`, from the bytes.
module _ (st : Structure) (k : ℕ) (state tree : List ℕ) (cs : List HostBrought) where
  abbrev pub host_closed : State
  host_closed = state_in (host_end st k state tree cs).state

  abbrev pub host_file : List ℕ
  host_file = file_of host_closed (host_end st k state tree cs).tree

  abbrev pub host_entries : List Pair
  host_entries = map pair_of_entry (entries host_closed (host_end st k state tree cs).tree)

  pub record HostReadsOut : Type 0 where
    pub c : HostBrought
    pub after : List HostBrought
    pub then-closed : cs ≡ host_before st k state tree cs ++ (c ∷ after)
    pub op : Op st
    pub asks : op_in st c.ticket ≡ some op
    pub overflow : (host_call_on (host_left st k state tree cs) c).number ≡ 9
    pub written : (out : List ℕ) → length host_file ≤ length out
        → host_read_out (host_end st k state tree cs).state (host_end st k state tree cs).tree out ≡ read_as (writing host_file out)
    pub nothing-left-out : report host_closed (host_end st k state tree cs).tree ≡ []
    pub contents : Remains (Entries st (host_holds st k state tree cs)) (Entries st (plain (capacity k) op (host_holds st k state tree cs)).contents) host_entries
        (fetching (state_in (host_left st k state tree cs).state) (host_left st k state tree cs).tree c.ticket (numbers_of c.tape) (numbers_of c.trace) st op)
    pub reads-back : (out : List ℕ) → length host_file ≤ length out
        → read_back (length host_file) (host_read_out (host_end st k state tree cs).state (host_end st k state tree cs).tree out).out
        ≡ record { entries = host_entries; report = [] }

-- Two whole lists.
module _ (st : Structure) (k : ℕ) where
  abbrev pub host_names : HostStore → List HostBrought → List Origin
  host_names s cs = names (rounds st k) k (host_asked st k s cs)

  abbrev pub host_leaf_at : HostStore → List HostBrought → ℕ → ℕ
  host_leaf_at s cs place = leaf_of k (host_tapes st k s cs) (get_or (host_names s cs) place no_draw)

  pub record HostDemand3 (state state' tree tree' : List ℕ) (cs ds : List HostBrought) : Type 0 where
    pub traces : mark_in (host_end st k state tree cs).state ≡ 0 → mark_in (host_end st k state' tree' ds).state ≡ 0
        → length (host_counted (host_start st k state tree) cs) ≡ length (host_counted (host_start st k state' tree') ds)
        → (host_trace_of (host_history (host_start st k state tree) cs) ≡ host_trace_of (host_history (host_start st k state' tree') ds))
        ↔ ((place : ℕ) → place < length (host_counted (host_start st k state tree) cs) * (2 * rounds st k)
        → host_leaf_at (host_start st k state tree) cs place ≡ host_leaf_at (host_start st k state' tree') ds place)
    pub by-tickets : host_asked st k (host_start st k state tree) cs ≡ host_asked st k (host_start st k state' tree') ds
        → host_names (host_start st k state tree) cs ≡ host_names (host_start st k state' tree') ds
    pub one_each : mark_in (host_end st k state tree cs).state ≡ 0
        → length (host_names (host_start st k state tree) cs) ≡ length (host_trace_of (host_history (host_start st k state tree) cs))
    pub names-draws : All (DrawOnTape (draws st k) (host_tapes st k (host_start st k state tree) cs)) (host_names (host_start st k state tree) cs)
    pub none-twice : Distinct (host_names (host_start st k state tree) cs)
