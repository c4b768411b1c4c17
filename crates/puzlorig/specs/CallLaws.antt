-- A call over bytes: refused by lengths, head or slots, or made by the core over the state that the bytes are read as.
use Rattle.std.specs.Prelude.{◌≡◌, Bool, true, false, ◌&&◌, Ok, Err, List, [], ◌++◌, ℕ, ◌-◌, ◌*◌, ◌/◌, ◌%◌, eqb, length, take, drop}
use Rattle.std.proofs.Math.Path.{refl, ap}
use Rattle.std.proofs.Common.{sym, ◌∙◌, append-nil, arith, length-drop, take-append-drop, drop_of_length-le, take_all, drop_at, length-take-le}
use Rattle.std.proofs.Math.Bool.{and-false, and-eq-true_iff}
use borrow.Author.Tests.{eq-eqb, ne_eqb}
use Rattle.list_spec.specs.Choice.{pick}
use Rattle.slot_spec.specs.LittleEndian.{Bytes}
use Rattle.slot_spec.specs.Tree.{slot_length}
use Rattle.slot_laws.specs.LittleEndianLaws.{bytes_drop}
use Rattle.state_spec.specs.declared.State.{State}
use Rattle.state_spec.specs.Fit.{places, fits, places_fit, head_fits}
use Rattle.state_laws.specs.FitLaws.{fits-parts, head-true}
use Rattle.call_spec.specs.declared.Refusal.{Refusal}
use Rattle.call_spec.specs.Reply.{number_of, to_reply}
use Rattle.call_spec.specs.Store.{refusing, called}
use Rattle.stash_laws.specs.Waiting.{waiting_in}
use Rattle.stash.specs.Stash.{saved}
use Rattle.lent_bytes_spec.specs.declared.StateHead.{StateHead}
use Rattle.lent_bytes_spec.specs.Numbers.{number_length, numbers_of, numbers_bytes}
use Rattle.lent_bytes_spec.specs.StateBytes.{head_length, state_length, head_in, root_in, ahead_in, state_in, state_bytes, key_fits, slots_sound, fit_bytes}
use Rattle.lent_bytes_laws.specs.NumbersLaws.{numbers-written}
use Rattle.lent_bytes_laws.specs.StateLaws.{bytes_back}
use Rattle.host_laws.specs.LengthLaws.{good-lengths}
use Rattle.byte_states.specs.Refusal.{bytes_refusal, core_head}
use Rattle.byte_states.specs.PlacesFit.{state_of}
use Rattle.byte_states.specs.HeadLaws.{Refuses, closed, unfit, neither, refuses}
use Rattle.byte_states.specs.RowLaws.{fit-loaded}
use Rattle.call_ending.specs.declared.Ran.{Ran}
use Rattle.call_core.specs.Run.{StandsFor, left_of, CallsAs}
use Rattle.host_spec.specs.Result.{reply_number, reply_value, result_bytes}
use Rattle.host_spec.specs.Host.{host_leaving, lengths_good, host_ended_as, host_called}

-- ---- the slots of a state, lent as they stand
module _ (state : List ℕ) where
  pub slots-whole : take (length state - head_length) (drop head_length state) ≡ drop head_length state
  slots-whole = take_all (length state - head_length) (drop head_length state) (omega (arith, length-drop head_length state))

  -- The state with another row in their place.
  abbrev pub lent : List ℕ → List ℕ
  lent row = take head_length state ++ (row ++ drop (length state - head_length) (drop head_length state))

  lent-whole : (row : List ℕ) → lent row ≡ take head_length state ++ row
  lent-whole row =
      let none : drop (length state - head_length) (drop head_length state) ≡ [] =
      drop_of_length-le (drop head_length state) {i = length state - head_length} (omega (arith, length-drop head_length state)) in
      ap (λ (xs : List ℕ). take head_length state ++ (row ++ xs)) none ∙ ap (λ (xs : List ℕ). take head_length state ++ xs) (append-nil row)

  pub lent_back : lent (drop head_length state) ≡ state
  lent_back = lent-whole (drop head_length state) ∙ take-append-drop head_length state

  module _ (sized : length state ≡ state_length) where
    pub slots-sized : length (drop head_length state) ≡ slot_length * places
    slots-sized = length-drop head_length state ∙ omega (arith, sized)

    pub lent_row : (row : List ℕ) → drop head_length (lent row) ≡ row
    lent_row row = ap (drop head_length) (lent-whole row) ∙ drop_at (take head_length state) row head_length (length-take-le head_length state (omega (arith, sized)))

-- ---- the refusals
module _ (state tree ticket tape trace result : List ℕ) where
  abbrev good : Bool
  good = lengths_good (length state) (length tape) (length trace) (length result)

  abbrev h : StateHead
  h = head_in state

  abbrev slots : List ℕ
  slots = drop head_length state

  -- The state that the bytes are read as is that of head and slots.
  pub same-state : state_of h slots ≡ state_in state
  unfolding state_in
  same-state = refl

  abbrev head-fit : Bool
  head-fit = head_fits h.structure h.size h.entries h.waiting (root_in h) (ahead_in h)

  fit_parts : fit_bytes state ≡ (key_fits h && (slots_sound places slots && (head-fit && places_fit (state_of h slots))))
  unfolding fit_bytes
  fit_parts = ap (λ (b : Bool). key_fits h && (slots_sound places slots && b)) (ap fits (sym same-state) ∙ fits-parts (state_of h slots))

  unfit-head : (key_fits h && head-fit) ≡ false → fit_bytes state ≡ false
  unfit-head e = fit_parts ∙ go (key_fits h) head-fit (slots_sound places slots) e
    where
      go : (k f s : Bool) → (k && f) ≡ false → (k && (s && (f && places_fit (state_of h slots)))) ≡ false
      go false f s e = refl
      go true false s e = and-false s
      go true true s e = let z : ◌≡◌ {A = ℕ} 0 1 = cc in absurd (omega arith)

  unfit-slots : (slots_sound places slots && places_fit (state_of h slots)) ≡ false → fit_bytes state ≡ false
  unfit-slots e = fit_parts ∙ go (key_fits h) head-fit (slots_sound places slots) (places_fit (state_of h slots)) e
    where
      go : (k f s p : Bool) → (s && p) ≡ false → (k && (s && (f && p))) ≡ false
      go false f s p e = refl
      go true f false p e = refl
      go true f true false e = and-false f
      go true f true true e = let z : ◌≡◌ {A = ℕ} 0 1 = cc in absurd (omega arith)

  pub refused-18 : good ≡ false → host_leaving 18 state tree trace result ≡ host_called state tree ticket tape trace result
  unfolding host_called
  refused-18 e = rw e

  module _ (lengths : good ≡ true) where
    sizes : length state ≡ state_length
    sizes = (good-lengths (length state) (length tape) (length trace) (length result) lengths).state-long

    refused-1 : (h.mark ≡ 0 → ⊥) → host_leaving 1 state tree trace result ≡ host_called state tree ticket tape trace result
    unfolding host_called
    refused-1 n = rw (lengths, ne_eqb h.mark 0 n)

    refused-2 : h.mark ≡ 0 → fit_bytes state ≡ false → host_leaving 2 state tree trace result ≡ host_called state tree ticket tape trace result
    unfolding host_called
    refused-2 m e = rw (lengths, eq-eqb h.mark 0 m, e)

    -- The head is refused, with its number.
    pub refused-head : (bytes_refusal h ≡ 0 → ⊥) → host_leaving (bytes_refusal h) state tree trace result ≡ host_called state tree ticket tape trace result
    refused-head n = go (bytes_refusal h) (refuses h) n
      where
        go : (number : ℕ) → Refuses h number → (number ≡ 0 → ⊥) → host_leaving number state tree trace result ≡ host_called state tree ticket tape trace result
        go _ (closed m) n = refused-1 m
        go _ (unfit m e) n = refused-2 m (unfit-head e)
        go _ (neither m k f) n = absurd (n refl)

    -- ---- the head passed
    pub record Passed : Type 0 where
      pub unmarked : h.mark ≡ 0
      pub key : key_fits h ≡ true
      pub head : head-fit ≡ true

    pub head_passed : bytes_refusal h ≡ 0 → Passed
    head_passed z = go (bytes_refusal h) (refuses h) z
      where
        go : (number : ℕ) → Refuses h number → number ≡ 0 → Passed
        go _ (closed m) z = let y : ⊥ = omega (arith, z) in absurd y
        go _ (unfit m e) z = let y : ⊥ = omega (arith, z) in absurd y
        go _ (neither m k f) z = record { unmarked = m; key = k; head = f }

    module _ (p : Passed) where
      abbrev places-fit : Bool
      places-fit = slots_sound places slots && places_fit (state_of h slots)

      pub refused-slots : places-fit ≡ false → host_leaving 2 state tree trace result ≡ host_called state tree ticket tape trace result
      refused-slots e = refused-2 p.unmarked (unfit-slots e)

      module _ (bytes : Bytes state) (ok : places-fit ≡ true) where
        both : (slots_sound places slots ≡ true) × (places_fit (state_of h slots) ≡ true)
        both = (and-eq-true_iff (slots_sound places slots) (places_fit (state_of h slots))).0 ok

        fits_whole : fit_bytes state ≡ true
        fits_whole = fit_parts ∙ rw (p.key, both.0, p.head, both.1)

        -- The slots are the row of the state's waiting nodes.
        pub stands : StandsFor (state_of h slots) (core_head h) slots
        stands =
            let few = (head-true h.structure h.size h.entries h.waiting (root_in h) (ahead_in h) p.head).waiting in
            record {
              head = refl;
              not-closed = p.unmarked;
              fit = fits-parts (state_of h slots) ∙ rw (p.head, both.1);
              loaded = fit-loaded h slots few (slots-sized state sizes) (bytes_drop head_length state bytes) both.0 both.1;
            }

        same-called : (trace' : List ℕ) → called (state_of h slots) tree ticket (numbers_of tape) trace' ≡ called (state_in state) tree ticket (numbers_of tape) trace'
        same-called trace' = ap (λ (x : State). called x tree ticket (numbers_of tape) trace') same-state

        -- Where the core refuses, all is as it came.
        pub core-refuses : {n : Refusal} {row' tree' : List ℕ} (trace' : List ℕ) → CallsAs (core_head h) slots tree ticket (numbers_of tape) (numbers_of trace) row' tree' (numbers_of trace') (Err n)
            → Bytes trace' → length trace' ≡ length trace
            → host_leaving (number_of n) (lent state row') tree' trace' result ≡ host_called state tree ticket tape trace result
        unfolding host_called
        core-refuses {n} {row'} {tree'} trace' made trace-bytes same =
            let s = state_of h slots in
            let row-back : lent state row' ≡ state_bytes s =
            ap (lent state) made.waits ∙ lent_back state ∙ sym (ap state_bytes same-state ∙ bytes_back state bytes sizes both.0) in
            let g = good-lengths (length state) (length tape) (length trace) (length result) lengths in
            let back : trace' ≡ numbers_bytes (numbers_of trace') = sym (numbers-written (length trace' / 2) trace' trace-bytes (omega (arith, same, g.trace-even))) in
            let made_so : host_leaving (number_of n) (lent state row') tree' trace' result ≡ host_ended_as result (refusing (number_of n) s tree' (numbers_of trace')) =
            rw (row-back, ← back) in
            made_so ∙ ap (host_ended_as result) (made.calls s stands ∙ same-called (numbers_of trace)) ∙ rw (lengths, eq-eqb h.mark 0 p.unmarked, fits_whole)

        -- What the core left is what the call leaves.
        module _ {r : Ran} {row' tree' : List ℕ} (trace' : List ℕ) (made : CallsAs (core_head h) slots tree ticket (numbers_of tape) (numbers_of trace) row' tree' (numbers_of trace') (Ok r))
            (trace-bytes : Bytes trace') (same : length trace' ≡ length trace) where
          abbrev s : State
          s = state_of h slots

          abbrev saving : List ℕ → State
          saving row = saved h.structure h.size r.mark r.entries r.root r.ahead (waiting_in r.waiting row)

          ended : called (state_in state) tree ticket (numbers_of tape) (numbers_of trace) ≡ left_of s (Ok r) row' tree' (numbers_of trace')
          ended = sym (made.calls s stands ∙ same-called (numbers_of trace))

          trace-left-so : length trace % number_length ≡ 0 → trace' ≡ numbers_bytes (numbers_of trace')
          trace-left-so even = sym (numbers-written (length trace' / 2) trace' trace-bytes (omega (arith, same, even)))

          pub call_ends : (left filled : List ℕ)
              → left ≡ state_bytes (saving (drop head_length (lent state row')))
              → filled ≡ pick (eqb r.leaves 0) result (result_bytes (reply_value (to_reply r.reply)) r.leaves r.peak)
              → host_leaving (reply_number (to_reply r.reply)) left tree' trace' filled ≡ host_called state tree ticket tape trace result
          unfolding host_called
          call_ends left filled el ef =
              let g = good-lengths (length state) (length tape) (length trace) (length result) lengths in
              let made_so : host_leaving (reply_number (to_reply r.reply)) left tree' trace' filled ≡ host_ended_as result (left_of s (Ok r) row' tree' (numbers_of trace')) =
              rw (el ∙ ap (λ (row : List ℕ). state_bytes (saving row)) (lent_row state sizes row'), ef, ← trace-left-so g.trace-even) in
              made_so ∙ ap (host_ended_as result) (sym ended) ∙ rw (lengths, eq-eqb h.mark 0 p.unmarked, fits_whole)
