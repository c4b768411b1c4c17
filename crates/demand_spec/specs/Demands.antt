-- The three demands, in terms of the definitions that the contracts of `open` and `call` cite: `opened` (state_spec) and `called`
-- (call_spec). A reader opens this file first.
use Rattle.std.specs.Prelude.{ℕ, ◌*◌, ◌≤◌, ◌<◌, ◌≡◌, true, ◌↔◌, ◌⊎◌, List, [], ◌∷◌, ◌++◌, map, length, get_or}
use Rattle.std.proofs.Math.Option.{none, some}
use Rattle.list_spec.specs.Perm.{Perm}
use Rattle.list_spec.specs.Distinct.{Distinct, All}
use Rattle.slot_spec.specs.LittleEndian.{Bytes}
use Rattle.slot_spec.specs.Slot.{Ranged, encode, well_formed, read_slot}
use Rattle.slot_spec.specs.Tree.{passes, slot_length}
use Rattle.slot_spec.specs.declared.Node as slot
use Rattle.slot_spec.specs.declared.Reading.TheVariants.{Full}
use Rattle.method_spec.specs.Answer.{Structure, Op}
use Rattle.method_spec.specs.Plain.{Pair, Contents, plain, plain_contents, plain_answers, nothing, Entries}
use Rattle.method_spec.specs.Node.{Node}
use Rattle.method_spec.specs.Changes.{key_asked, value_asked, taken_out, brought_in, Answers, tracked_in}
use Rattle.method_spec.specs.Call.{capacity, Memory, call, Ran}
use Rattle.bucket_call_spec.specs.Simulates.{Simulates, Remains}
use Rattle.state_spec.specs.Fit.{fits}
use Rattle.method_spec.specs.Rounds.{rounds, draws}
use Rattle.method_spec.specs.Origin.{Origin, no_draw, DrawOnTape, names, leaf_of, leaf_run}
use Rattle.method_spec.specs.Prog.{Prog, Want, done, want}
use Rattle.method_spec.specs.Outcome.{Outcome}
use Rattle.round_spec.specs.Round.{join}
use Rattle.round_spec.specs.Whole.{contents}
use Rattle.leaf_spec.specs.Convert.{to_link}
use Rattle.leaf_spec.specs.Leaf.{leaf_format}
use Rattle.bucket_call_spec.specs.Fetch.{Going, Round, on, shut}
use Rattle.bucket_call_spec.specs.Call.{draw_of, fetched_by}
use Rattle.state_spec.specs.declared.State.{State}
use Rattle.state_spec.specs.Opening.{opened}
use Rattle.state_spec.specs.Ticket.{op_in, structure_of}
use Rattle.call_spec.specs.Reply.{Refused}
use Rattle.call_spec.specs.Store.{Ended, called, refusing, store_of, reply_of}
use Rattle.state_spec.specs.Widths.{Widths}
use Rattle.leaf_spec.specs.Entries.{pair_of}
use Rattle.demand_spec.specs.History.{Brought, StateAndTree, call_on, history, finally, until_closed, changes_nothing, counted, replies, trace_of, ops_in, tapes_of, pairs_in, structure_number}

-- ---- demand 1: any state, tree, ticket, tape and trace buffer
module _ (s : State) (tree ticket tape trace : List ℕ) where
  -- One answer, or one refusal 1 to 10, 17 or 19.
  abbrev pub OneReply : Type 0
  OneReply = (n : ℕ) → (called s tree ticket tape trace).reply ≡ Refused n → ((1 ≤ n) × (n ≤ 10)) ⊎ ((n ≡ 17) ⊎ (n ≡ 19))

  -- Refusals 1 to 7, 17 and 19 change nothing and reveal no leaf.
  abbrev pub Unchanged : Type 0
  Unchanged = (n : ℕ) → (called s tree ticket tape trace).reply ≡ Refused n → changes_nothing n ≡ true → called s tree ticket tape trace ≡ refusing n s tree trace

  -- After 8 or 9 the mark is set, and every later call, whatever it brings, gives 1 and changes nothing.
  abbrev pub StaysClosed : Type 0
  StaysClosed =
      (n : ℕ) → (called s tree ticket tape trace).reply ≡ Refused n → (n ≡ 8) ⊎ (n ≡ 9)
      → ((called s tree ticket tape trace).state.mark ≡ n)
      × ((tree' ticket' tape' trace' : List ℕ)
      → called (called s tree ticket tape trace).state tree' ticket' tape' trace'
      ≡ refusing 1 (called s tree ticket tape trace).state tree' trace')

  -- Where the fetch rounds of the call came to: a round that closed the store, or the step.
  abbrev pub fetching : (st : Structure) → Op st → Round (Outcome ℕ)
  fetching st op =
      fetched_by s.size (rounds st s.size) op (draw_of s.size tape) (store_of s tree)

  -- A fit state's call comes to one of the two: its walk is never longer than its fetch rounds.
  abbrev pub ComesTo : (st : Structure) → Op st → Type 0
  ComesTo st op = (g : Going) (w : Want ℕ) (c : Node ℕ → Prog ℕ (Outcome ℕ)) → fetching st op ≡ on g (want w c) → ⊥

  -- The key that the ticket is about, on this store.
  abbrev pub key_for : {st : Structure} → Op st → ℕ
  key_for op = key_asked op s.entries s.ahead.key (to_link s.root)

  -- The pairs after the step: those of good slots, of waiting nodes and of the nodes that the step made.
  abbrev pub pairs_after_step : Going → Outcome ℕ → List Pair
  pairs_after_step g o = map pair_of (contents leaf_format s.size g.tree ++ join leaf_format o.nodes g.waiting)

  -- The step loses none: its answer is one of the ticket's kind, and what it leaves is what was there before the call, but for the one change that
  -- the answer tells.
  pub record StepKeeps (st : Structure) (op : Op st) (g : Going) (o : Outcome ℕ) : Type 0 where
    pub kind : Answers op o.answer
    pub changed : Perm (tracked_in st (taken_out (key_for op) o.answer ++ pairs_after_step g o))
        (tracked_in st (brought_in (key_for op) (value_asked op) o.answer ++ pairs_in s tree))

  -- No node is lost, of the pairs left in the end: the key and value pairs that waiting nodes and good slots hold are, with repeats, those before the
  -- call where the closing round was a fetch round; where it was a put round they are those after the step, which loses none either.
  pub record NoneLost (st : Structure) (op : Op st) (left : List Pair) : Type 0 where
    pub comes-to : ComesTo st op
    pub in-fetch : (m : ℕ) (g : Going) → fetching st op ≡ shut m g → Perm (pairs_in s tree) left
    pub in_step : (g : Going) (o : Outcome ℕ) → fetching st op ≡ on g (done o) → StepKeeps st op g o
    pub in-put : (g : Going) (o : Outcome ℕ) → fetching st op ≡ on g (done o) → Perm (pairs_after_step g o) left

  pub record Demand1 : Type 0 where
    pub one-reply : OneReply
    pub unchanged : Unchanged
    pub stays_closed : StaysClosed
    pub none-lost : Bytes tree → Bytes ticket → Widths s → (n : ℕ) → (called s tree ticket tape trace).reply ≡ Refused n → (n ≡ 8) ⊎ (n ≡ 9)
        → (op : Op (structure_of s.structure)) → op_in (structure_of s.structure) ticket ≡ some op
        → NoneLost (structure_of s.structure) op (pairs_in (called s tree ticket tape trace).state (called s tree ticket tape trace).tree)

-- ---- demands 2 and 3: lists of calls from a good opening
-- A node written to its slot reads back as that node, and no other slot bytes read as it.
pub record RoundTrip (k : ℕ) : Type 0 where
  pub reads-back : (b : ℕ) (n : slot.Node) → Ranged n → well_formed k n ≡ true → passes k n.tag b ≡ true → read_slot k b (encode n) ≡ Full n
  pub none_other : (b : ℕ) (bytes : List ℕ) (n : slot.Node) → Bytes bytes → length bytes ≡ slot_length → read_slot k b bytes ≡ Full n → bytes ≡ encode n

-- The store that a good opening of a tree leaves.
abbrev pub opened_store : Structure → ℕ → List ℕ → StateAndTree
opened_store st k tree =
    record { state = (opened (structure_number st) k tree).state; tree = (opened (structure_number st) k tree).tree }

module _ (st : Structure) (k : ℕ) (s : StateAndTree) (bs : List Brought) where
  -- The method at leaves, run on the tickets and the tapes of the calls that count.
  abbrev pub method : Ran ℕ
  method = leaf_run (rounds st k) k (tapes_of (counted s bs)) (ops_in st (counted s bs))

  -- The trace is what the method reveals, state and tree at the end keep the nodes of the method's memory, and the state fits.
  pub record Follows : Type 0 where
    pub trace : trace_of (history s bs) ≡ method.revealed
    pub kept : Simulates k (store_of (finally s bs).state (finally s bs).tree) method.memory
    pub fit : fits (finally s bs).state ≡ true

-- A call closed a store that keeps the memory m and the contents t: it met 9, revealed the first part of what the method's call reveals,
-- and left, as pairs of a key and a value, t where a fetch round closed the store, and t after the plain machine's call where a put round
-- did: see `Remains`.
pub record ClosedBy (st : Structure) (k : ℕ) (s : StateAndTree) (m : Memory ℕ) (t : Contents st) (b : Brought) : Type 0 where
  pub op : Op st
  pub asks : op_in st b.ticket ≡ some op
  pub overflow : (call_on s b).reply ≡ Refused 9
  pub rest : List ℕ
  pub reveals : (call 0 (rounds st k) (capacity k) op (draw_of k b.tape) m).revealed ≡ trace_of (call_on s b ∷ []) ++ rest
  pub contents : Remains (Entries st t) (Entries st (plain (capacity k) op t).contents) (pairs_in (call_on s b).state (call_on s b).tree)
      (fetching s.state s.tree b.ticket b.tape b.trace st op)

module _ (st : Structure) (k : ℕ) (tree : List ℕ) (bs : List Brought) where
  abbrev pub start : StateAndTree
  start = opened_store st k tree

  -- The calls before the one that closed the store, the tickets of those that count, and the store that they left.
  abbrev pub before : List Brought
  before = until_closed start bs

  abbrev pub asked : List (Op st)
  asked = ops_in st (counted start before)

  abbrev pub left : StateAndTree
  left = finally start before

  -- How the list ends: no call closed the store, or the one after those before it did. The calls after that one are refused with 1 (demand 1).
  pub data Ending : Type 0 where
    stays_open : before ≡ bs → (finally start bs).state.mark ≡ 0 → Ending
    closes : (b : Brought) (after : List Brought) → bs ≡ before ++ (b ∷ after) → (finally start bs).state.mark ≡ 9
        → ClosedBy st k left (method st k start before).memory (plain_contents (capacity k) asked (nothing st)) b → Ending

  pub record Demand2 : Type 0 where
    pub slots : RoundTrip k
    -- Until the store closes every answer is the plain machine's, and trace, state and tree are those of the method: see `Follows`.
    pub answers : replies (history start before) ≡ map reply_of (plain_answers (capacity k) asked (nothing st))
    pub follows : Follows st k start before
    pub ends : Ending
    -- No call meets 2, 3 or 8.
    pub never : (i : ℕ) → i < length bs → (n : ℕ) → get_or (map (λ (e : Ended). e.reply) (history start bs)) i (Refused 0) ≡ Refused n
        → (n ≡ 2 → ⊥) × ((n ≡ 3 → ⊥) × (n ≡ 8 → ⊥))

-- Two whole lists, neither closed at the end, with equally many counted calls: the traces are equal exactly when at each place the
-- leaves of the draws named for the two lists are equal.
module _ (st : Structure) (k : ℕ) where
  abbrev pub names_for : StateAndTree → List Brought → List Origin
  names_for s bs = names (rounds st k) k (ops_in st (counted s bs))

  abbrev pub leaf_at : StateAndTree → List Brought → ℕ → ℕ
  leaf_at s bs place = leaf_of k (tapes_of (counted s bs)) (get_or (names_for s bs) place no_draw)

  pub record Demand3 (tree tree' : List ℕ) (bs cs : List Brought) : Type 0 where
    pub traces : (finally (opened_store st k tree) bs).state.mark ≡ 0 → (finally (opened_store st k tree') cs).state.mark ≡ 0
        → length (counted (opened_store st k tree) bs) ≡ length (counted (opened_store st k tree') cs)
        → (trace_of (history (opened_store st k tree) bs) ≡ trace_of (history (opened_store st k tree') cs))
        ↔ ((place : ℕ) → place < length (counted (opened_store st k tree) bs) * (2 * rounds st k)
        → leaf_at (opened_store st k tree) bs place ≡ leaf_at (opened_store st k tree') cs place)
    -- The rule sees tickets, never the tape: that is the type of `names`, which is given the counted tickets alone; so the same tickets have the same
    -- names.
    pub by-tickets : ops_in st (counted (opened_store st k tree) bs) ≡ ops_in st (counted (opened_store st k tree') cs)
        → names_for (opened_store st k tree) bs ≡ names_for (opened_store st k tree') cs
    -- One draw for each place: as many names as places, each a draw of a call that counts, which its tape has; none twice.
    pub one_each : (finally (opened_store st k tree) bs).state.mark ≡ 0
        → length (names_for (opened_store st k tree) bs) ≡ length (trace_of (history (opened_store st k tree) bs))
    pub names-draws : All (DrawOnTape (draws st k) (tapes_of (counted (opened_store st k tree) bs))) (names_for (opened_store st k tree) bs)
    pub none-twice : Distinct (names_for (opened_store st k tree) bs)
