-- `puzlorig::calls::answered` meets its contract: the head is refused, or the slots, or the core makes the call.
use Rattle.std.proofs.Common.{◌≡◌, ◌≤◌, ◌-◌, refl, sym, ◌∙◌, ap, ap₂, subst, Bool, true, false, ◌&&◌, List, ℕ, length, take, drop, arith, rules}
use Rattle.std.specs.Prelude.{Result, Ok, Err, IsErr, IsErrAnd}
use Rattle.slot_spec.specs.LittleEndian.{Bytes}
use Rattle.slot_laws.specs.LittleEndianLaws.{bytes-from}
use Rattle.state_spec.specs.Fit.{places, places_fit}
use Rattle.state_laws.specs.FitLaws.{head-true}
use Rattle.call_spec.specs.declared.Refusal.{Refusal}
use Rattle.call_spec.specs.Reply.{number_of, refusal_number}
use Rattle.call_ending.specs.declared.Ran.{Ran}
use Rattle.stash_laws.specs.Waiting.{waiting_in, Holds}
use Rattle.stash.specs.Stash.{saved}
use Rattle.lent_bytes_spec.specs.declared.StateHead.{StateHead}
use Rattle.lent_bytes_spec.specs.StateBytes.{head_in, root_in, ahead_in, state_bytes, slots_sound}
use Rattle.byte_states.specs.Refusal.{bytes_refusal, core_head}
use Rattle.byte_states.specs.PlacesFit.{state_of}
use Rattle.fitness.specs.declared.Head.{Head}
use Rattle.call_core.specs.Run.{StandsFor, Stands, CallsAs}
use Rattle.call_core.specs.RunLaws.{number-some}
use Rattle.host_spec.specs.Host.{host_leaving, host_called, lengths_good}
use Rattle.host_laws.specs.LengthLaws.{Lengths, good-lengths}
use Rattle.puzlorig.specs.CallLaws.{slots-whole, slots-sized, lent, lent_row, refused-head, Passed, head_passed, refused-slots, stands, core-refuses, call_ends}
use Rattle.puzlorig.proofs.calls.answered.Goals as goal

-- What is known of the bytes lent.
module _ (state tree ticket tape trace result : List ℕ) (lengths : lengths_good (length state) (length tape) (length trace) (length result) ≡ true) where
  sized : Lengths (length state) (length tape) (length trace) (length result)
  sized = good-lengths (length state) (length tape) (length trace) (length result) lengths

  -- ---- of the head
  module _ {h : StateHead} (x : Result Head Refusal) (read : h ≡ head_in state) (number : refusal_number x ≡ bytes_refusal h) where
    number_is : refusal_number x ≡ bytes_refusal (head_in state)
    number_is = number ∙ ap bytes_refusal read

    refused : (n : Refusal) → x ≡ Err n → host_leaving (number_of n) state tree trace result ≡ host_called state tree ticket tape trace result
    refused n is =
        let same : number_of n ≡ bytes_refusal (head_in state) = sym (ap refusal_number is) ∙ number_is in
        ap (λ (m : ℕ). host_leaving m state tree trace result) same
        ∙ refused-head state tree ticket tape trace result lengths (λ z. number-some n (same ∙ z))

    module _ {head : Head} (is : x ≡ Ok head) where
      passed : Passed state tree ticket tape trace result lengths
      passed = head_passed state tree ticket tape trace result lengths (sym number_is ∙ ap refusal_number is)

      bounds : (h.waiting ≤ 64) × (h.size ≤ 16)
      bounds =
          let s = head_in state in
          let b = head-true s.structure s.size s.entries s.waiting (root_in s) (ahead_in s) passed.head in
          (rw read (omega (arith, b.waiting)), rw read (omega (arith, b.sizes)))

      -- ---- of the slots
      module _ {f : Bool}
          (fit : f ≡ (slots_sound places (take (length state - 16) (drop 16 state)) && places_fit (state_of h (take (length state - 16) (drop 16 state))))) where
        fit_is : f ≡ (slots_sound places (drop 16 state) && places_fit (state_of (head_in state) (drop 16 state)))
        fit_is = fit ∙ ap₂ (λ (x : StateHead) (xs : List ℕ). slots_sound places xs && places_fit (state_of x xs)) read (slots-whole state)

        unfit : f ≡ false → host_leaving 2 state tree trace result ≡ host_called state tree ticket tape trace result
        unfit e = refused-slots state tree ticket tape trace result lengths passed (sym fit_is ∙ e)

        module _ (fits : f ≡ true) (bytes : Bytes state) (cored : head ≡ core_head h) where
          core_is : head ≡ core_head (head_in state)
          core_is = cored ∙ ap core_head read

          -- Head and slots stand for the state that they are read as.
          handed : Stands head (take (length state - 16) (drop 16 state))
          handed =
              let standing = stands state tree ticket tape trace result lengths passed bytes (sym fit_is ∙ fits) in
              record {
                state = state_of (head_in state) (drop 16 state);
                for =
                    subst (λ (x : Head). StandsFor (state_of (head_in state) (drop 16 state)) x (take (length state - 16) (drop 16 state)))
                    (sym core_is)
                    (subst (StandsFor (state_of (head_in state) (drop 16 state)) (core_head (head_in state))) (sym (slots-whole state)) standing);
              }

  -- What the core makes of the lent slots, it makes of the state's.
  module _ {h : StateHead} {head : Head} (read : h ≡ head_in state) (cored : head ≡ core_head h) {numbers trace₀ w' tree' trace' : List ℕ} {x : Result Ran Refusal}
      (ran : CallsAs head (take (length state - 16) (drop 16 state)) tree ticket numbers trace₀ w' tree' trace' x) where
    made : CallsAs (core_head (head_in state)) (drop 16 state) tree ticket numbers trace₀ w' tree' trace' x
    made =
        subst (λ (c : Head). CallsAs c (drop 16 state) tree ticket numbers trace₀ w' tree' trace' x) (cored ∙ ap core_head read)
        (subst (λ (xs : List ℕ). CallsAs head xs tree ticket numbers trace₀ w' tree' trace' x) (slots-whole state) ran)

-- What `?` hands on.
as-err : {A : Type 0} {n : Refusal} (x : Result A Refusal) → IsErr x → IsErrAnd x (λ (e : Refusal). e ≡ n) → x ≡ Err n
as-err (Ok a) none same = let z : ◌≡◌ {A = ℕ} 0 1 = cc in absurd (omega (arith, z))
as-err (Err e) some same = ap Err same

pub read_head-h-requires : goal.read_head-h-requires
read_head-h-requires c =
    let a = c.args in
    omega (arith, (sized a.state.now a.tree.now a.ticket.now a.tape.now a.trace.now a.res.now c.requires).state-long)

pub returns-in_err-head : goal.returns-in_err-head
returns-in_err-head c =
    let a = c.args in
    let f = c.from_residual in
    rw (as-err f.result f.ensures.0 f.ensures.1)
    (refused a.state.now a.tree.now a.ticket.now a.tape.now a.trace.now a.res.now c.requires c.head_of.result c.read_head-h.ensures c.head_of.ensures.number _ c.in_err-head.was)

pub slice_bounds-places_fit-count : goal.slice_bounds-places_fit-count
slice_bounds-places_fit-count c =
    let a = c.args in
    omega (arith, (sized a.state.now a.tree.now a.ticket.now a.tape.now a.trace.now a.res.now c.requires).state-long)

pub slice_bounds-places_fit-start : goal.slice_bounds-places_fit-start
slice_bounds-places_fit-start c =
    let a = c.args in
    omega (arith, (sized a.state.now a.tree.now a.ticket.now a.tape.now a.trace.now a.res.now c.requires).state-long)

pub places_fit-requires : goal.places_fit-requires
places_fit-requires c =
    let a = c.args in
    let b = bounds a.state.now a.tree.now a.ticket.now a.tape.now a.trace.now a.res.now c.requires c.head_of.result c.read_head-h.ensures c.head_of.ensures.number c.in_ok-head.was in
    let long = (sized a.state.now a.tree.now a.ticket.now a.tape.now a.trace.now a.res.now c.requires).state-long in
    (b.0, (ap length (slots-whole a.state.now) ∙ slots-sized a.state.now long, b.1))

pub returns-then-not-places_fit : goal.returns-then-not-places_fit
returns-then-not-places_fit c =
    let a = c.args in
    unfit a.state.now a.tree.now a.ticket.now a.tape.now a.trace.now a.res.now c.requires c.head_of.result c.read_head-h.ensures c.head_of.ensures.number c.in_ok-head.was
    c.places_fit.ensures c.if-not-places_fit.true

pub slice_bounds-call_numbers-count : goal.slice_bounds-call_numbers-count
slice_bounds-call_numbers-count c =
    let a = c.args in
    omega (arith, (sized a.state.now a.tree.now a.ticket.now a.tape.now a.trace.now a.res.now c.requires).state-long)

pub slice_bounds-call_numbers-start : goal.slice_bounds-call_numbers-start
slice_bounds-call_numbers-start c =
    let a = c.args in
    omega (arith, (sized a.state.now a.tree.now a.ticket.now a.tape.now a.trace.now a.res.now c.requires).state-long)

pub call_numbers-requires : goal.call_numbers-requires
call_numbers-requires c =
    let a = c.args in
    handed a.state.now a.tree.now a.ticket.now a.tape.now a.trace.now a.res.now c.requires c.head_of.result c.read_head-h.ensures c.head_of.ensures.number c.in_ok-head.was
    c.places_fit.ensures c.if-not-places_fit.false (bytes-from a.state.now (λ i g. search rules)) (rw c.in_ok-head.was at c.head_of.ensures.head)

pub returns-in_err-r : goal.returns-in_err-r
returns-in_err-r c =
    let a = c.args in
    let f = c.from_residual-in_err-r in
    let x = c.call_numbers in
    let number = c.head_of.ensures.number in
    rw (as-err f.result f.ensures.0 f.ensures.1)
    (core-refuses a.state.now a.tree.now a.ticket.now a.tape.now a.trace.now a.res.now c.requires
    (passed a.state.now a.tree.now a.ticket.now a.tape.now a.trace.now a.res.now c.requires c.head_of.result c.read_head-h.ensures number c.in_ok-head.was)
    (bytes-from a.state.now (λ i g. search rules))
    (sym (fit_is a.state.now a.tree.now a.ticket.now a.tape.now a.trace.now a.res.now c.requires c.head_of.result c.read_head-h.ensures number c.in_ok-head.was c.places_fit.ensures) ∙ c.if-not-places_fit.false)
    x.new.trace
    (rw c.in_err-r.was at (made a.state.now a.tree.now a.ticket.now a.tape.now a.trace.now a.res.now c.requires c.read_head-h.ensures (rw c.in_ok-head.was at c.head_of.ensures.head) x.ensures.0))
    (bytes-from x.new.trace (λ i g. search rules)) x.ensures.1)

pub leave_state-requires : goal.leave_state-requires
leave_state-requires c =
    let a = c.args in
    let x = c.call_numbers in
    let so : CallsAs _ _ _ _ _ _ _ _ _ (Ok c.in_ok-r.r) =
    (rw c.in_ok-r.was at (made a.state.now a.tree.now a.ticket.now a.tape.now a.trace.now a.res.now c.requires c.read_head-h.ensures (rw c.in_ok-head.was at c.head_of.ensures.head) x.ensures.0)) in
    subst (Holds c.in_ok-r.r.waiting) (sym (lent_row a.state.now (sized a.state.now a.tree.now a.ticket.now a.tape.now a.trace.now a.res.now c.requires).state-long x.new.w)) so.waits

pub leave_result-requires : goal.leave_result-requires
leave_result-requires c =
    let a = c.args in
    (sized a.state.now a.tree.now a.ticket.now a.tape.now a.trace.now a.res.now c.requires).result-long

pub returns : goal.returns
returns c =
    let a = c.args in
    let r : Ran = c.in_ok-r.r in
    let x = c.call_numbers in
    let left = c.leave_state in
    let new = lent a.state.now x.new.w in
    let number = c.head_of.ensures.number in
    call_ends a.state.now a.tree.now a.ticket.now a.tape.now a.trace.now a.res.now c.requires
    (passed a.state.now a.tree.now a.ticket.now a.tape.now a.trace.now a.res.now c.requires c.head_of.result c.read_head-h.ensures number c.in_ok-head.was)
    (bytes-from a.state.now (λ i g. search rules))
    (sym (fit_is a.state.now a.tree.now a.ticket.now a.tape.now a.trace.now a.res.now c.requires c.head_of.result c.read_head-h.ensures number c.in_ok-head.was c.places_fit.ensures) ∙ c.if-not-places_fit.false)
    x.new.trace
    (rw c.in_ok-r.was at (made a.state.now a.tree.now a.ticket.now a.tape.now a.trace.now a.res.now c.requires c.read_head-h.ensures (rw c.in_ok-head.was at c.head_of.ensures.head) x.ensures.0))
    (bytes-from x.new.trace (λ i g. search rules)) x.ensures.1
    left.new.state c.leave_result.new.res
    (left.ensures
    ∙ ap (λ (h : StateHead). state_bytes (saved h.structure h.size r.mark r.entries r.root r.ahead (waiting_in r.waiting (drop 16 new))))
    c.read_head-h.ensures)
    c.leave_result.ensures
