-- Calls from a C host: what document 02, change 7 promises beyond the entries' contracts, which are equations with `host_opened`, `host_called` and
-- `host_read_out` (host_spec).
use Rattle.std.specs.Prelude.{◌≡◌, Bool, not, ◌||◌, ◌⊎◌, List, ℕ, ◌/◌, ◌^◌, ◌≤◌, ◌<◌, eqb, length}
use Rattle.std.proofs.Math.Path.{refl, ap}
use Rattle.std.proofs.Common.{◌∙◌, inl, inr, arith, eqb-true}
use Rattle.std.proofs.Math.Bool.{true, false}
use Rattle.std.proofs.Math.Option.{none, some}
use Rattle.std.proofs.lemmas.Bool.{eqb-false}
use Rattle.list_spec.specs.Choice.{pick}
use Rattle.list_spec.specs.Distinct.{All}
use Rattle.slot_spec.specs.LittleEndian.{Bytes}
use Rattle.slot_spec.specs.Tree.{tree_length}
use Rattle.method_spec.specs.Answer.{Structure}
use Rattle.state_spec.specs.declared.State.{State}
use Rattle.state_spec.specs.Fit.{fits}
use Rattle.state_spec.specs.Opening.{opened}
use Rattle.fitness_laws.specs.FitState.{fit-state}
use Rattle.call_spec.specs.Reply.{Reply, Answered, Refused}
use Rattle.call_spec.proofs.Meanings.{answered-number}
use Rattle.call_spec.specs.Store.{Ended, refusing, called}
use Rattle.readout_spec.specs.ReadOut.{read_out}
use Rattle.lent_bytes_spec.specs.Numbers.{numbers_of}
use Rattle.lent_bytes_spec.specs.StateBytes.{state_length, head_in, state_in, state_bytes, fit_bytes, state_read}
use Rattle.lent_bytes_laws.specs.NumbersLaws.{numbers-written}
use Rattle.lent_bytes_laws.specs.StateLaws.{StateKept, state-length, state-back, kept-fits, bytes_back, fit-bytes, one_each}
use Rattle.demand_spec.specs.History.{Brought, changes_nothing}
use Rattle.demand_spec.specs.Demands.{Demand1}
use Rattle.demand_laws.specs.Checks.{Later}
use Rattle.demand_laws.specs.Proved.{demand1}
use Rattle.demand_laws.specs.Refusals.{same_number}
use Rattle.host_spec.specs.Result.{reply_number}
use Rattle.host_spec.specs.Host.{HostEnded, host_leaving, lengths_good, host_ended_as, host_called, read_as, host_read_out}
use Rattle.promise_spec.specs.HostHistory.{changes_no_byte}
use Rattle.host_laws.specs.LengthLaws.{good-lengths}
use Rattle.host_laws.specs.KeptStates.{opened-kept, grown, grown-kept}
use Rattle.host_laws.specs.ClosedStates.{grown-whole}
use Rattle.host_laws.specs.LeftStates.{LeftKept, called-left, called-shown, called-peak, reads-out, stays_closed}

-- ---- the byte state
-- Every 3,248 bytes read as one state, or as unfit. That it is no more than one is the type of `state_read`, a function; this names the two cases by the
-- test. What is not in the type is `none-as-one`, below.
pub one-or-unfit : (bs : List ℕ) → ((fit_bytes bs ≡ true) × (state_read bs ≡ some (state_in bs))) ⊎ ((fit_bytes bs ≡ false) × (state_read bs ≡ none))
unfolding state_read
one-or-unfit bs = go (fit_bytes bs)
  where
    go : (b : Bool) → ((b ≡ true) × (pick b (some (state_in bs)) none ≡ some (state_in bs))) ⊎ ((b ≡ false) × (pick b (some (state_in bs)) none ≡ none))
    go true = inl (refl, refl)
    go false = inr (refl, refl)

-- No two fit byte states read as one state.
pub none-as-one : (a b : List ℕ) → Bytes a → Bytes b → length a ≡ state_length → length b ≡ state_length → (s : State) → state_read a ≡ some s → state_read b ≡ some s → a ≡ b
none-as-one a b ba bb la lb s ea eb = go (one-or-unfit a) (one-or-unfit b)
  where
    go : ((fit_bytes a ≡ true) × (state_read a ≡ some (state_in a))) ⊎ ((fit_bytes a ≡ false) × (state_read a ≡ none))
        → ((fit_bytes b ≡ true) × (state_read b ≡ some (state_in b))) ⊎ ((fit_bytes b ≡ false) × (state_read b ≡ none)) → a ≡ b
    go (inl x) (inl y) = one_each a b ba bb la lb x.0 y.0 cc
    go (inl x) (inr y) = let z : ◌≡◌ {A = ℕ} 0 1 = cc in absurd (omega arith)
    go (inr x) y = let z : ◌≡◌ {A = ℕ} 0 1 = cc in absurd (omega arith)

-- ---- the refusals
module _ (state tree ticket tape trace result : List ℕ) (state-bytes : Bytes state) (trace-bytes : Bytes trace) where
  abbrev left : HostEnded
  left = host_called state tree ticket tape trace result

  abbrev good : Bool
  good = lengths_good (length state) (length tape) (length trace) (length result)

  abbrev e : Ended
  e = called (state_in state) tree ticket (numbers_of tape) (numbers_of trace)

  one : Demand1 (state_in state) tree ticket (numbers_of tape) (numbers_of trace)
  one = demand1 (state_in state) tree ticket (numbers_of tape) (numbers_of trace)

  -- The existing call refused with such a number.
  quiet-refusal : (n : ℕ) → 1 ≤ n → (r : Reply) → e.reply ≡ r → reply_number r ≡ n → changes_no_byte n ≡ true → e ≡ refusing n (state_in state) tree (numbers_of trace)
  quiet-refusal n some_number (Answered a) er is quiet = let z : ⊥ = omega (arith, is, answered-number a, some_number) in absurd z
  quiet-refusal n some_number (Refused m) er is quiet = go (changes_nothing n) refl (eqb n 18) refl quiet
    where
      number : e.reply ≡ Refused n
      number = er ∙ ap Refused is

      not_there : n ≡ 18 → ((1 ≤ n) × (n ≤ 10)) ⊎ Later n → ⊥
      not_there z (inl x) = omega (arith, z, x)
      not_there z (inr (inl x)) = omega (arith, z, x)
      not_there z (inr (inr x)) = omega (arith, z, x)

      go : (a : Bool) → changes_nothing n ≡ a → (b : Bool) → eqb n 18 ≡ b → (a || b) ≡ true → e ≡ refusing n (state_in state) tree (numbers_of trace)
      go true ea b eb q = one.unchanged n number ea
      go false ea true eb q = absurd (not_there (eqb-true n 18 eb) (one.one-reply n number))
      go false ea false eb q = let z : ◌≡◌ {A = ℕ} 0 1 = cc in absurd (omega arith)

  -- Over bytes that leaves every byte.
  refusal-ends : (n : ℕ) → good ≡ true → fit_bytes state ≡ true → e ≡ refusing n (state_in state) tree (numbers_of trace) → host_ended_as result e ≡ host_leaving n state tree trace result
  refusal-ends n lengths fit q =
      let g = good-lengths (length state) (length tape) (length trace) (length result) lengths in
      ap (host_ended_as result) q
      ∙ rw (bytes_back state state-bytes g.state-long (fit-bytes state fit).sound, numbers-written (length trace / 2) trace trace-bytes (omega (arith, g.trace-even)))

  -- A refusal with one of these numbers leaves every lent byte as it came, whatever was lent.
  pub refused-unchanged : (n : ℕ) → 1 ≤ n → left.number ≡ n → changes_no_byte n ≡ true → left ≡ host_leaving n state tree trace result
  unfolding host_called
  refused-unchanged n some_number is quiet = go good refl (eqb (head_in state).mark 0) (fit_bytes state) refl is
    where
      go : (a : Bool) → good ≡ a → (b c : Bool) → fit_bytes state ≡ c
          → (pick (not a) (host_leaving 18 state tree trace result) (pick (not b) (host_leaving 1 state tree trace result) (pick (not c) (host_leaving 2 state tree trace result) (host_ended_as result e)))).number ≡ n
          → pick (not a) (host_leaving 18 state tree trace result) (pick (not b) (host_leaving 1 state tree trace result) (pick (not c) (host_leaving 2 state tree trace result) (host_ended_as result e)))
          ≡ host_leaving n state tree trace result
      go false ea b c ec h = ap (λ (m : ℕ). host_leaving m state tree trace result) h
      go true ea false c ec h = ap (λ (m : ℕ). host_leaving m state tree trace result) h
      go true ea true false ec h = ap (λ (m : ℕ). host_leaving m state tree trace result) h
      go true ea true true ec h = refusal-ends n ea ec (quiet-refusal n some_number e.reply refl h quiet)

-- ---- openings
-- What an opening leaves reads back as written, whatever its structure, size and tree: also a state with mark 11, 12 or 3.
pub opened-reads-back : (structure size : ℕ) (tree : List ℕ) → state_in (state_bytes (opened structure size tree).state) ≡ (opened structure size tree).state
opened-reads-back structure size tree = state-back (opened structure size tree).state (opened-kept structure size tree)

-- ---- calls on grown stores
module _ (st : Structure) (k : ℕ) (positive : 1 ≤ k) (small : k ≤ 8) (tree : List ℕ) (sized : length tree ≡ tree_length k) (bs : List Brought)
    (bytes : All (λ b. Bytes b.ticket) bs) where
  abbrev s : State
  s = grown st k positive small tree sized bs bytes

  -- A state grown by opening and calls, closed or not, reads back as written.
  pub reads-back : state_in (state_bytes s) ≡ s
  reads-back = state-back s (grown-whole st k positive small tree sized bs bytes)

  module _ (open-still : s.mark ≡ 0) where
    facts : (StateKept s × (fits s ≡ true)) × (s.ahead.key < 2 ^ 32)
    facts = grown-kept st k positive small tree sized bs bytes open-still

    pub fit-whole : fit_bytes (state_bytes s) ≡ true
    fit-whole = kept-fits s facts.0.0 (omega (arith, facts.1)) facts.0.1

    -- While it is open, its bytes fit.
    pub reads-as-fit : state_read (state_bytes s) ≡ some s
    unfolding state_read
    reads-as-fit = rw (fit-whole, reads-back)

    mark-read : (head_in (state_bytes s)).mark ≡ 0
    unfolding state_in
    mark-read = ap (λ (x : State). x.mark) reads-back ∙ open-still

    -- Each call on its bytes means what the existing one means, on any tree, ticket, tape and trace with lengths that pass.
    pub means-call : (tree' ticket tape trace result : List ℕ) → lengths_good state_length (length tape) (length trace) (length result) ≡ true
        → host_called (state_bytes s) tree' ticket tape trace result ≡ host_ended_as result (called s tree' ticket (numbers_of tape) (numbers_of trace))
    unfolding host_called
    means-call tree' ticket tape trace result good =
        rw (state-length s facts.0.0, good, mark-read, fit-whole, reads-back)

    -- What that call leaves, closed stores among them.
    module _ (tree' ticket tape trace : List ℕ) (tree-bytes : Bytes tree') (ticket-bytes : Bytes ticket) where
      abbrev after : State
      after = (called s tree' ticket tape trace).state

      left-kept : LeftKept after
      left-kept = called-left s facts.0.0 facts.1 (omega (arith, (fit-state s facts.0.1).few)) tree' ticket tape trace tree-bytes ticket-bytes

      -- What the result bytes say of leaves and peak is all of them: each fits its byte.
      pub result_says : ((called s tree' ticket tape trace).leaves < 256) × ((called s tree' ticket tape trace).peak < 256)
      result_says =
          let shown = called-shown s facts.0.0 facts.1 (omega (arith, (fit-state s facts.0.1).few)) tree' ticket tape trace tree-bytes ticket-bytes in
          (omega (arith, shown), called-peak s facts.0.0 facts.1 (omega (arith, (fit-state s facts.0.1).few)) tree' ticket tape trace tree-bytes ticket-bytes)

      -- Read out from its bytes it gives what it gives as a state.
      pub means-read-out : (tree'' out : List ℕ) → host_read_out (state_bytes after) tree'' out ≡ read_as (read_out after tree'' out)
      means-read-out = reads-out after left-kept

      -- Where it is closed, each later call means what the existing one means: 1.
      pub means-closed : (after.mark ≡ 0 → ⊥) → (tree'' ticket'' tape'' trace'' result : List ℕ) → Bytes trace''
          → lengths_good state_length (length tape'') (length trace'') (length result) ≡ true
          → host_called (state_bytes after) tree'' ticket'' tape'' trace'' result ≡ host_ended_as result (called after tree'' ticket'' (numbers_of tape'') (numbers_of trace''))
      means-closed = stays_closed after left-kept
