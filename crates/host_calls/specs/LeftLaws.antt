-- The numbers of a call, cut to what it takes; and the state that is left.
use Rattle.std.specs.Prelude.{◌≡◌, refl, Bool, true, false, ◌&&◌, Ok, Err, List, [], ◌∷◌, ◌++◌, ℕ, zero, suc, min, ◌+◌, ◌-◌, ◌*◌, ◌/◌, ◌≤◌, ◌<◌, length, get_or, take, drop}
use Rattle.std.proofs.Common.{sym, ◌∙◌, ap, ap₂, arith, take_all}
use Rattle.std.proofs.Math.Decide.{dec_lt}
use Rattle.list_spec.specs.Choice.{pick}
use Rattle.slot_spec.specs.LittleEndian.{Bytes}
use Rattle.slot_laws.specs.LittleEndianLaws.{bytes_drop}
use Rattle.state_spec.specs.declared.State.{State}
use Rattle.state_spec.specs.Fit.{largest_size}
use Rattle.state_spec.specs.Fetching.{rounds_of, draws_of}
use Rattle.state_laws.specs.FitLaws.{fit_parts}
use Rattle.call_spec.specs.Store.{Ended, called}
use Rattle.tape_laws.specs.CutLaws.{on_trace, called-cut, leaves-within}
use Rattle.stash_laws.specs.Waiting.{waiting_in, Holds}
use Rattle.stash_laws.specs.WaitingLaws.{waiting-length}
use Rattle.stash.specs.Stash.{saved}
use Rattle.lent_bytes_spec.specs.declared.StateHead.{StateHead}
use Rattle.lent_bytes_spec.specs.Numbers.{numbers_in, numbers_of}
use Rattle.lent_bytes_spec.specs.StateBytes.{head_length, head_bytes, head_for, state_bytes}
use Rattle.lent_bytes_laws.specs.NumbersLaws.{numbers-length, numbers-take}
use Rattle.byte_states.specs.RowLaws.{row-places}
use Rattle.fitness.specs.declared.Head.{Head}
use Rattle.call_spec.specs.declared.Refusal.{Refusal}
use Rattle.call_core.specs.Run.{StandsFor, Stands, left_of, CallsAs}
use Rattle.call_ending.specs.declared.Ran.{Ran}
use Rattle.host_calls.specs.Left.{head_left}

-- ---- the tape and the trace
-- The first numbers of a tape, as many as are taken.
pub numbers-cut : (bs : List ℕ) (most : ℕ) → numbers_in (min (length bs / 2) most) bs ≡ take most (numbers_of bs)
numbers-cut bs most = go (dec_lt most (length bs / 2))
  where
    go : Dec (most < length bs / 2) → numbers_in (min (length bs / 2) most) bs ≡ take most (numbers_of bs)
    go (yes h) =
        let e : min (length bs / 2) most ≡ most = omega (arith, h) in
        let f : most + (length bs / 2 - most) ≡ length bs / 2 = omega (arith, h) in
        rw e (sym (numbers-take most (length bs / 2 - most) bs) ∙ ap (λ (n : ℕ). take most (numbers_in n bs)) f)
    go (no h) =
        let e : min (length bs / 2) most ≡ length bs / 2 = omega (arith, h) in
        rw e (sym (take_all most (numbers_of bs) (omega (arith, numbers-length (length bs / 2) bs, h))))

pub take-low : (n : ℕ) (ns : List ℕ) → ((i : ℕ) → get_or ns i 0 < 65536) → (i : ℕ) → get_or (take n ns) i 0 < 65536
take-low zero ns h i = omega arith
take-low (suc n) [] h i = omega arith
take-low (suc n) (m ∷ ns) h zero = h 0
take-low (suc n) (m ∷ ns) h (suc i) = take-low n ns (λ j. h (suc j)) i

-- What the core promises of the cut tape and of a trace of its own, it promises of the lent ones.
module _ {head : Head} (own tape trace : List ℕ)
    (sized : length own ≡ min (length (numbers_of trace)) (2 * rounds_of head.structure head.size)) where
  cut-as : (tree ticket : List ℕ) {row : List ℕ} (s : State) → StandsFor s head row
      → on_trace (numbers_of trace) (called s tree ticket (take (draws_of head.structure head.size) tape) own) ≡ called s tree ticket tape (numbers_of trace)
  cut-as tree ticket s for =
      let a : head.structure ≡ s.structure = ap (λ (h : Head). h.structure) for.head in
      let b : head.size ≡ s.size = ap (λ (h : Head). h.size) for.head in
      let cut : take (draws_of head.structure head.size) tape ≡ take (draws_of s.structure s.size) tape = rw (a, b) in
      let long : length own ≡ min (length (numbers_of trace)) (2 * rounds_of s.structure s.size) = rw (a, b) at sized in
      called-cut s tree ticket tape (take (draws_of head.structure head.size) tape) (numbers_of trace) own cut long

  -- It refused.
  pub refused-lent : {n : Refusal} {row tree ticket row' tree' own' : List ℕ} → CallsAs head row tree ticket (take (draws_of head.structure head.size) tape) own row' tree' own' (Err n)
      → CallsAs head row tree ticket tape (numbers_of trace) row' tree' (numbers_of trace) (Err n)
  refused-lent {tree = tree} {ticket = ticket} made = record { calls = λ s for. ap (on_trace (numbers_of trace)) (made.calls s for) ∙ cut-as tree ticket s for; waits = made.waits }

  -- It made its rounds.
  module _ {r : Ran} {row tree ticket row' tree' own' : List ℕ} (st : Stands head row) (made : CallsAs head row tree ticket (take (draws_of head.structure head.size) tape) own row' tree' own' (Ok r))
      (same : length own' ≡ length own) where
    ended : left_of st.state (Ok r) row' tree' own' ≡ called st.state tree ticket (take (draws_of head.structure head.size) tape) own
    ended = made.calls st.state st.for

    -- No more leaves than places.
    pub shown-within : r.leaves ≤ length own
    shown-within =
        let few = leaves-within st.state tree ticket (take (draws_of head.structure head.size) tape) own (sym (ap (λ (e : Ended). length e.trace) ended) ∙ same) in
        omega (arith, few, ap (λ (e : Ended). e.leaves) ended)

    pub made-lent : (trace' : List ℕ) → numbers_of trace' ≡ take r.leaves own' ++ drop r.leaves (numbers_of trace)
        → CallsAs head row tree ticket tape (numbers_of trace) row' tree' (numbers_of trace') (Ok r)
    made-lent trace' left =
        record {
          calls = λ s for. ap (left_of s (Ok r) row' tree') left ∙ ap (on_trace (numbers_of trace)) (made.calls s for) ∙ cut-as tree ticket s for;
          waits = made.waits;
        }

-- The head of a state that stands has a size.
pub head-size : {head : Head} {row : List ℕ} → Stands head row → (1 ≤ head.size) × (head.size ≤ largest_size)
head-size st =
    let s = st.state in
    let k = (fit_parts s st.for.fit).0.sizes in
    let e = ap (λ (h : Head). h.size) st.for.head in
    (omega (arith, k, e), omega (arith, k, e))

-- ---- the state that is left
pub no_change : (b : Bool) (x y : ℕ) → y ≡ pick (b && false) x y
no_change true x y = refl
no_change false x y = refl

-- The head is written over a row that holds the nodes that wait.
pub state-left : (h : StateHead) (r : Ran) (state : List ℕ) → Holds r.waiting (drop head_length state) → Bytes state
    → (head : StateHead) (left : List ℕ) → head ≡ head_left h r → left ≡ head_bytes head ++ drop head_length state
    → left ≡ state_bytes (saved h.structure h.size r.mark r.entries r.root r.ahead (waiting_in r.waiting (drop head_length state)))
unfolding state_bytes
state-left h r state holds bytes head left eh el =
    let row = drop head_length state in
    let nodes = waiting_in r.waiting row in
    let is-head : head ≡ head_for (saved h.structure h.size r.mark r.entries r.root r.ahead nodes) = eh ∙ rw (waiting-length holds) in
    el ∙ ap₂ (λ (xs ys : List ℕ). xs ++ ys) (ap head_bytes is-head) (row-places r.waiting row holds (bytes_drop head_length state bytes))
