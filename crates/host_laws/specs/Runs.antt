-- Lists of calls from a C host, whatever their lengths: from a good opening each outcome is that of the existing call, byte for byte, or 18, which
-- changes nothing; and what a C host reads of the calls that count is what the existing calls say.
use Rattle.std.specs.Prelude.{◌≡◌, Bool, ◌&&◌, ◌||◌, ◌⊎◌, ℕ, ◌/◌, ◌≤◌, ◌<◌, ltb, length, take}
use Rattle.std.proofs.Math.Path.{refl, sym, subst⁻¹}
use Rattle.std.proofs.Common.{◌∙◌, ap, subst, inl, inr, mod-eq_of_lt, arith, eqb-true, eq-eqb, ne_eqb, lt-ltb}
use Rattle.std.proofs.Math.Bool.{true, false}
use mathlib.Core.List.Memᴰ
use mathlib.Core.List.{List, [], ◌∷◌, ◌++◌, map, append-nil}
use Rattle.std.proofs.Math.Dec.{eqb}
use Rattle.std.proofs.lemmas.Bool.{eqb-false}
use Rattle.list_spec.specs.Choice.{pick}
use Rattle.list_spec.specs.Distinct.{All}
use Rattle.list_laws.specs.DistinctLaws.{all_nil, all_cons, all_append}
use Rattle.slot_spec.specs.LittleEndian.{Bytes, bytes}
use Rattle.slot_spec.specs.Layout.{pack}
use Rattle.slot_spec.specs.Tree.{tree_length}
use Rattle.method_spec.specs.Answer.{Structure}
use Rattle.state_spec.specs.Opening.{opened}
use Rattle.call_spec.specs.Reply.{Reply, Answered, Refused}
use Rattle.call_spec.proofs.Meanings.{answered-number}
use Rattle.call_spec.specs.Store.{Ended, refusing}
use Rattle.fitness_laws.specs.FitState.{fit-state}
use Rattle.lent_bytes_spec.specs.Numbers.{numbers_of}
use Rattle.lent_bytes_spec.specs.StateBytes.{state_length, state_bytes}
use Rattle.lent_bytes_laws.specs.NumbersLaws.{numbers-low, numbers-back}
use Rattle.lent_bytes_laws.specs.StateLaws.{state-length}
use Rattle.demand_spec.specs.History.{Brought, StateAndTree, call_on, left_by, history, finally, until_closed, changes_nothing, early, counted, replies, trace_of, structure_number}
use Rattle.demand_spec.specs.Demands.{Demand1, opened_store}
use Rattle.demand_laws.specs.Checks.{Later}
use Rattle.demand_laws.specs.Proved.{demand1}
use Rattle.demand_laws.specs.Fresh.{opened-empty}
use Rattle.demand_laws.specs.OpenedRuns.{follows}
use Rattle.demand_laws.specs.HistorySteps.{closed-call}
use Rattle.host_spec.specs.Result.{result_bytes}
use Rattle.host_spec.specs.Result as result
use Rattle.host_spec.specs.Host.{HostEnded, HostOpened, lengths_good, host_leaving, host_ended_as, host_called, host_opened, opened_as}
use Rattle.promise_spec.specs.HostHistory.{HostBrought, brought_by, LentBytes, HostStore, bytes_of, mark_in, host_call_on, host_left_by, host_history, host_finally, host_until_closed, host_early, host_counted, host_reply_in, host_reply_of, host_replies, leaves_read, host_trace_of, lengths_pass, heard, host_outcomes, HostAs}
use Rattle.promise_spec.specs.HostDemands.{host_start}
use Rattle.host_laws.specs.LengthLaws.{good-lengths}
use Rattle.host_laws.specs.KeptStates.{grown-kept}
use Rattle.host_laws.specs.LeftStates.{LeftKept, called-left, called-shown, called-trace, stays_closed, left-length, mark-is}
use Rattle.host_laws.specs.Theorems.{means-call}
use Rattle.host_laws.specs.ByteCalls.{counted-shows}

-- One call more.
finally-more : (s : StateAndTree) (bs : List Brought) (b : Brought) → finally s (bs ++ (b ∷ [])) ≡ left_by (call_on (finally s bs) b)
unfolding finally
finally-more s [] b = refl
finally-more s (c ∷ bs) b = finally-more (left_by (call_on s c)) bs b

-- ---- one call
-- What a C host reads of the outcome of an existing call: nothing of one that does not count; of the others the reply and the leaves.
pub data Reads (c : HostBrought) (e : Ended) : Type 0 where
  quiet : early e.reply ≡ true → host_early (host_ended_as c.result e) ≡ true → e.leaves ≡ 0 → Reads c e
  tells : early e.reply ≡ false → host_early (host_ended_as c.result e) ≡ false → host_reply_in (host_ended_as c.result e) ≡ host_reply_of e.reply
      → leaves_read (host_ended_as c.result e) ≡ take e.leaves e.trace → Reads c e

-- A call counts for a C host exactly where it counts.
early-as : (r : Reply) → ((n : ℕ) → r ≡ Refused n → ((1 ≤ n) × (n ≤ 10)) ⊎ Later n)
    → (ltb 0 (result.reply_number r) && (changes_nothing (result.reply_number r) || eqb (result.reply_number r) 18)) ≡ early r
unfolding early
early-as (Answered a) one = rw (answered-number a)
early-as (Refused n) one = rw (lt-ltb 0 n (some (one n refl)), ne_eqb n 18 (other (one n refl))) (or-false (changes_nothing n))
  where
    some : ((1 ≤ n) × (n ≤ 10)) ⊎ Later n → 0 < n
    some (inl x) = omega (arith, x)
    some (inr (inl x)) = omega arith
    some (inr (inr x)) = omega arith

    other : ((1 ≤ n) × (n ≤ 10)) ⊎ Later n → n ≡ 18 → ⊥
    other (inl x) z = omega (arith, x)
    other (inr (inl x)) z = omega arith
    other (inr (inr x)) z = omega arith

    or-false : (b : Bool) → (b || false) ≡ b
    or-false true = refl
    or-false false = refl

-- The result bytes, where they are filled.
result-reads : (c : HostBrought) (e : Ended) → 1 ≤ e.leaves → e.leaves < 256 → All (λ (t : ℕ). t < 65536) e.trace
    → (host_reply_in (host_ended_as c.result e) ≡ host_reply_of e.reply) × (leaves_read (host_ended_as c.result e) ≡ take e.leaves e.trace)
unfolding result_bytes pack bytes
result-reads c e at_least_lem few low =
    let shown : eqb e.leaves 0 ≡ false = ne_eqb e.leaves 0 (λ z. omega arith) in
    (rw shown, rw (shown, mod-eq_of_lt few, numbers-back e.trace low))

module _ (st : Structure) (k : ℕ) (positive : 1 ≤ k) (small : k ≤ 8) (tree : List ℕ) (sized : length tree ≡ tree_length k) where
  abbrev start : StateAndTree
  start = opened_store st k tree

  abbrev at : List Brought → StateAndTree
  at ps = finally start ps

  -- A store that calls left: open, or closed and read back in all that is still asked of it.
  abbrev pub Fine : StateAndTree → Type 0
  Fine s = (s.state.mark ≡ 0) ⊎ ((s.state.mark ≡ 0 → ⊥) × LeftKept s.state)

  module _ (ps : List Brought) (bytes : All (λ b. Bytes b.ticket) ps) where
    tree-bytes : (at ps).state.mark ≡ 0 → Bytes (at ps).tree
    tree-bytes m = (follows st k positive small tree sized ps bytes m).kept.kept.is-tree.bytes

    by-mark : (s : StateAndTree) → LeftKept s.state → Fine s
    by-mark s l = go (eqb s.state.mark 0) refl
      where
        go : (b : Bool) → eqb s.state.mark 0 ≡ b → Fine s
        go true e = inl (eqb-true s.state.mark 0 e)
        go false e = inr (eqb-false s.state.mark 0 e, l)

    pub fine-length : Fine (at ps) → length (state_bytes (at ps).state) ≡ state_length
    fine-length (inl m) = state-length (at ps).state (grown-kept st k positive small tree sized ps bytes m).0.0
    fine-length (inr x) = left-length (at ps).state x.1

    pub fine-mark : Fine (at ps) → mark_in (state_bytes (at ps).state) ≡ (at ps).state.mark
    fine-mark (inl m) = mark-is (at ps).state (open-left m)
      where
        open-left : (at ps).state.mark ≡ 0 → LeftKept (at ps).state
        open-left m =
            let f = grown-kept st k positive small tree sized ps bytes m in
            record {
              mark = f.0.0.head.mark;
              structure = f.0.0.head.structure;
              size = f.0.0.head.size;
              count = omega (arith, (fit-state (at ps).state f.0.1).few);
              sized = f.0.0.sized;
              kept = f.0.0.kept;
            }
    fine-mark (inr x) = mark-is (at ps).state x.1

    module _ (c : HostBrought) (lent : LentBytes c) where
      abbrev e : Ended
      e = call_on (at ps) (brought_by c)

      -- What an open store gives.
      module _ (m : (at ps).state.mark ≡ 0) where
        pub step_left : LeftKept e.state
        step_left =
            let f = grown-kept st k positive small tree sized ps bytes m in
            called-left (at ps).state f.0.0 f.1 (omega (arith, (fit-state (at ps).state f.0.1).few)) (at ps).tree c.ticket (numbers_of c.tape) (numbers_of c.trace) (tree-bytes m) lent.ticket

        step-reads : lengths_pass c ≡ true → early e.reply ≡ false
            → (host_reply_in (host_ended_as c.result e) ≡ host_reply_of e.reply) × (leaves_read (host_ended_as c.result e) ≡ take e.leaves e.trace)
        step-reads pass late =
            let f = grown-kept st k positive small tree sized ps bytes m in
            let fit = fit-state (at ps).state f.0.1 in
            let even = (good-lengths state_length (length c.tape) (length c.trace) (length c.result) pass).trace-even in
            let most = called-shown (at ps).state f.0.0 f.1 (omega (arith, fit.few)) (at ps).tree c.ticket (numbers_of c.tape) (numbers_of c.trace) (tree-bytes m) lent.ticket in
            let low = called-trace (at ps).state f.0.0 f.1 (omega (arith, fit.few)) (at ps).tree c.ticket (numbers_of c.tape) (numbers_of c.trace) (tree-bytes m) lent.ticket
            (numbers-low (length c.trace / 2) c.trace lent.trace (omega (arith, even))) in
            result-reads c e (counted-shows (at ps).state (at ps).tree c.ticket (numbers_of c.tape) (numbers_of c.trace) late fit.size.0) (omega (arith, most)) low

      -- A call on a closed store changes nothing.
      module _ (x : ((at ps).state.mark ≡ 0 → ⊥) × LeftKept (at ps).state) where
        unchanged : e ≡ refusing 1 (at ps).state (at ps).tree (numbers_of c.trace)
        unchanged = closed-call (at ps) x.0 (brought_by c)

      -- The outcome over bytes, and the store that the call leaves.
      pub step : Fine (at ps) → lengths_pass c ≡ true → host_call_on (bytes_of (at ps)) c ≡ host_ended_as c.result e
      step (inl m) pass =
          means-call st k positive small tree sized ps bytes m (at ps).tree c.ticket c.tape c.trace c.result pass
      step (inr x) pass =
          stays_closed (at ps).state x.1 x.0 (at ps).tree c.ticket c.tape c.trace c.result lent.trace pass

      pub step-fine : Fine (at ps) → Fine (left_by e)
      step-fine (inl m) = by-mark (left_by e) (step_left m)
      step-fine (inr x) = subst⁻¹ (λ (y : Ended). Fine (left_by y)) (unchanged x) (inr x)

      -- What is read of it.
      pub step-tells : Fine (at ps) → lengths_pass c ≡ true → Reads c e
      unfolding early
      step-tells fine pass = go (early e.reply) refl fine
        where
          one : Demand1 (at ps).state (at ps).tree c.ticket (numbers_of c.tape) (numbers_of c.trace)
          one = demand1 (at ps).state (at ps).tree c.ticket (numbers_of c.tape) (numbers_of c.trace)

          same : host_early (host_ended_as c.result e) ≡ early e.reply
          same = early-as e.reply one.one-reply

          no-leaf : (r : Reply) → e.reply ≡ r → early r ≡ true → e.leaves ≡ 0
          no-leaf (Answered a) er q = let z : ◌≡◌ {A = ℕ} 0 1 = cc in absurd (omega arith)
          no-leaf (Refused n) er q = ap (λ (y : Ended). y.leaves) (one.unchanged n er q)

          go : (b : Bool) → early e.reply ≡ b → Fine (at ps) → Reads c e
          go true q f = quiet q (same ∙ q) (no-leaf e.reply refl q)
          go false q (inl m) = let r = step-reads m pass q in tells q (same ∙ q) r.0 r.1
          go false q (inr x) =
              let z : true ≡ false = ap (λ (y : Ended). early y.reply) (sym (unchanged x)) ∙ q in
              let y : ◌≡◌ {A = ℕ} 0 1 = cc in absurd (omega arith)

      -- One whose lengths do not pass.
      pub step-eighteen : Fine (at ps) → lengths_pass c ≡ false
          → host_call_on (bytes_of (at ps)) c ≡ host_leaving 18 (state_bytes (at ps).state) (at ps).tree c.trace c.result
      unfolding host_called
      step-eighteen fine not-pass = rw (fine-length fine, not-pass)

-- ---- lists
none-as : (s : StateAndTree) → HostAs (bytes_of s) s []
unfolding host_history host_finally host_until_closed host_counted host_replies host_trace_of host_outcomes heard finally until_closed counted replies trace_of history
none-as s = record { outcomes = refl; end = refl; until = refl; counts = refl; answers = refl; trace = refl }

-- A store that is closed stays so.
closed-until : (s : StateAndTree) → (s.state.mark ≡ 0 → ⊥) → (bs : List Brought) → until_closed s bs ≡ []
unfolding until_closed
closed-until s shut [] = refl
closed-until s shut (b ∷ bs) = rw (closed-call s shut b, ne_eqb s.state.mark 0 shut)

module _ (s : StateAndTree) (c : HostBrought) (cs : List HostBrought) (marked : mark_in (state_bytes s.state) ≡ s.state.mark) where
  -- 18 adds an outcome and nothing else.
  after-eighteen : lengths_pass c ≡ false → host_call_on (bytes_of s) c ≡ host_leaving 18 (state_bytes s.state) s.tree c.trace c.result
      → HostAs (bytes_of s) s cs → HostAs (bytes_of s) s (c ∷ cs)
  unfolding host_history host_finally host_until_closed host_counted host_replies host_trace_of host_outcomes heard
  after-eighteen not-pass q later =
      record {
        outcomes = rw (q, not-pass) (ap (λ (es : List HostEnded). host_leaving 18 (state_bytes s.state) s.tree c.trace c.result ∷ es) later.outcomes);
        end = rw (q, not-pass) later.end;
        until = rw (q, marked, not-pass) (go (eqb s.state.mark 0) refl);
        counts = rw (q, not-pass) later.counts;
        answers = rw (q, not-pass) later.answers;
        trace = rw (q, not-pass) later.trace;
      }
    where
      go : (b : Bool) → eqb s.state.mark 0 ≡ b → heard (pick b (c ∷ host_until_closed (bytes_of s) cs) []) ≡ until_closed s (heard cs)
      go true e = rw not-pass later.until
      go false e = sym (closed-until s (eqb-false s.state.mark 0 e) (heard cs))

  -- One that is heard.
  after-heard : lengths_pass c ≡ true → host_call_on (bytes_of s) c ≡ host_ended_as c.result (call_on s (brought_by c)) → Reads c (call_on s (brought_by c))
      → mark_in (state_bytes (call_on s (brought_by c)).state) ≡ (call_on s (brought_by c)).state.mark
      → HostAs (bytes_of (left_by (call_on s (brought_by c)))) (left_by (call_on s (brought_by c))) cs → HostAs (bytes_of s) s (c ∷ cs)
  unfolding host_history host_finally host_until_closed host_counted host_replies host_trace_of host_outcomes heard finally until_closed counted replies trace_of history
  after-heard pass q reads left-marked later =
      record {
        outcomes = rw (q, pass) (ap (λ (es : List HostEnded). host_ended_as c.result (call_on s (brought_by c)) ∷ es) later.outcomes);
        end = rw (q, pass) later.end;
        until = rw (q, left-marked, pass) (closing (eqb (call_on s (brought_by c)).state.mark 0));
        counts = rw (q, pass) (counting reads);
        answers = rw (q, pass) (answering reads);
        trace = rw (q, pass) (tracing reads);
      }
    where
      closing : (b : Bool) → heard (pick b (c ∷ host_until_closed (bytes_of (left_by (call_on s (brought_by c)))) cs) [])
          ≡ pick b (brought_by c ∷ until_closed (left_by (call_on s (brought_by c))) (heard cs)) []
      closing true = rw pass (ap (λ (xs : List Brought). brought_by c ∷ xs) later.until)
      closing false = refl

      counting : Reads c (call_on s (brought_by c))
          → map brought_by (pick (host_early (host_ended_as c.result (call_on s (brought_by c)))) (host_counted (bytes_of (left_by (call_on s (brought_by c)))) cs) (c ∷ host_counted (bytes_of (left_by (call_on s (brought_by c)))) cs))
          ≡ pick (early (call_on s (brought_by c)).reply) (counted (left_by (call_on s (brought_by c))) (heard cs)) (brought_by c ∷ counted (left_by (call_on s (brought_by c))) (heard cs))
      counting (quiet q1 q2 z) = rw (q1, q2) later.counts
      counting (tells q1 q2 r l) = rw (q1, q2) (ap (λ (xs : List Brought). brought_by c ∷ xs) later.counts)

      answering : Reads c (call_on s (brought_by c))
          → host_replies (host_ended_as c.result (call_on s (brought_by c)) ∷ host_history (bytes_of (left_by (call_on s (brought_by c)))) cs) ≡ map host_reply_of (replies (call_on s (brought_by c) ∷ history (left_by (call_on s (brought_by c))) (heard cs)))
      answering (quiet q1 q2 z) = rw (q1, q2) later.answers
      answering (tells q1 q2 r l) = rw (q1, q2, r) (ap (λ xs. host_reply_of (call_on s (brought_by c)).reply ∷ xs) later.answers)

      tracing : Reads c (call_on s (brought_by c))
          → host_trace_of (host_ended_as c.result (call_on s (brought_by c)) ∷ host_history (bytes_of (left_by (call_on s (brought_by c)))) cs) ≡ trace_of (call_on s (brought_by c) ∷ history (left_by (call_on s (brought_by c))) (heard cs))
      tracing (quiet q1 q2 z) = rw (q2, z) later.trace
      tracing (tells q1 q2 r l) = rw (q2, l) (ap (λ (xs : List ℕ). take (call_on s (brought_by c)).leaves (call_on s (brought_by c)).trace ++ xs) later.trace)

module _ (st : Structure) (k : ℕ) (positive : 1 ≤ k) (small : k ≤ 8) (tree : List ℕ) (sized : length tree ≡ tree_length k) where
  abbrev after : List Brought → StateAndTree
  after ps = finally (opened_store st k tree) ps

  -- Calls after some others.
  runs_on : (ps : List Brought) → All (λ b. Bytes b.ticket) ps → Fine st k positive small tree sized (after ps) → (cs : List HostBrought) → All LentBytes cs
      → HostAs (bytes_of (after ps)) (after ps) cs
  runs_on ps bytes fine [] lent = none-as (after ps)
  runs_on ps bytes fine (c ∷ cs) lent =
      go (lengths_pass c) refl (runs_on ps bytes fine cs (λ d m. lent d (Memᴰ.tail m)))
      (λ more fine'. runs_on (ps ++ (brought_by c ∷ [])) more fine' cs (λ d m. lent d (Memᴰ.tail m)))
    where
      here : LentBytes c
      here = lent c (Memᴰ.head refl)

      next : after (ps ++ (brought_by c ∷ [])) ≡ left_by (call_on (after ps) (brought_by c))
      next = finally-more (opened_store st k tree) ps (brought_by c)

      more : All (λ b. Bytes b.ticket) (ps ++ (brought_by c ∷ []))
      more =
          all_append {P = λ (b : Brought). Bytes b.ticket} ps bytes
          (all_cons {P = λ (b : Brought). Bytes b.ticket} here.ticket (all_nil (λ (b : Brought). Bytes b.ticket)))

      fine-next : Fine st k positive small tree sized (after (ps ++ (brought_by c ∷ [])))
      fine-next = subst⁻¹ (Fine st k positive small tree sized) next (step-fine st k positive small tree sized ps bytes c here fine)

      go : (b : Bool) → lengths_pass c ≡ b → HostAs (bytes_of (after ps)) (after ps) cs
          → (All (λ b. Bytes b.ticket) (ps ++ (brought_by c ∷ [])) → Fine st k positive small tree sized (after (ps ++ (brought_by c ∷ []))) → HostAs (bytes_of (after (ps ++ (brought_by c ∷ [])))) (after (ps ++ (brought_by c ∷ []))) cs)
          → HostAs (bytes_of (after ps)) (after ps) (c ∷ cs)
      go false q same later =
          after-eighteen (after ps) c cs (fine-mark st k positive small tree sized ps bytes fine) q (step-eighteen st k positive small tree sized ps bytes c here fine q) same
      go true q same later =
          after-heard (after ps) c cs (fine-mark st k positive small tree sized ps bytes fine) q (step st k positive small tree sized ps bytes c here fine q)
          (step-tells st k positive small tree sized ps bytes c here fine q)
          (subst (λ (s : StateAndTree). mark_in (state_bytes s.state) ≡ s.state.mark) next
          (fine-mark st k positive small tree sized (ps ++ (brought_by c ∷ [])) more fine-next))
          (subst (λ (s : StateAndTree). HostAs (bytes_of s) s cs) next (later more fine-next))

  module _ (state : List ℕ) (long : length state ≡ state_length) where
    -- What a good opening leaves is the bytes of a fresh store.
    pub opens_as : host_opened (structure_number st) k state tree ≡ opened_as (opened (structure_number st) k tree)
    unfolding host_opened
    opens_as = rw (eq-eqb (length state) state_length long)

    pub start-as : host_start st k state tree ≡ bytes_of (opened_store st k tree)
    start-as = ap (λ (o : HostOpened). record { state = o.state; tree = o.tree }) opens_as

    -- From a good opening: every number and every byte that a list of calls from C leaves, whatever their lengths, is that of the existing calls or of 18;
    -- the calls that count, their replies and their trace are those of the existing calls that were heard.
    pub host-run : (cs : List HostBrought) → All LentBytes cs → HostAs (host_start st k state tree) (opened_store st k tree) cs
    unfolding finally
    host-run cs lent =
        subst⁻¹ (λ (h : HostStore). HostAs h (opened_store st k tree) cs) start-as
        (runs_on [] (all_nil (λ (b : Brought). Bytes b.ticket)) (inl (ap (λ (s : StateAndTree). s.state.mark) (opened-empty st k positive small tree sized))) cs lent)
