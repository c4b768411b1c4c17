-- Demands 2 and 3 for a C host, and its read-out after a 9: lists of calls from a good opening, of any lengths.
use Rattle.std.specs.Prelude.{◌≡◌, refl, Bool, true, false, ◌⊎◌, List, [], ◌∷◌, ◌++◌, map, ℕ, suc, ◌+◌, ◌*◌, ◌≤◌, ◌<◌, eqb, length}
use Rattle.std.proofs.Common.{sym, ◌∙◌, subst, inl, inr, arith, length-append, eq-eqb}
use Rattle.std.proofs.Math.Path.{ap, subst⁻¹}
use mathlib.Core.List.Memᴰ
use Rattle.std.proofs.lemmas.Simd.{map-map}
use Rattle.std.proofs.lemmas.List.{append_cancel_left, length-map}
use Rattle.std.proofs.lemmas.Bool.{eqb-false}
use Rattle.list_spec.specs.Choice.{pick}
use Rattle.list_spec.specs.Distinct.{All}
use Rattle.list_laws.specs.DistinctLaws.{all_nil, all_cons, all_left, all_right}
use Rattle.slot_spec.specs.LittleEndian.{Bytes}
use Rattle.slot_spec.specs.Tree.{tree_length}
use Rattle.method_spec.specs.Answer.{Structure, Answer, Op}
use Rattle.method_spec.specs.Plain.{Contents, Entries, plain, plain_contents, plain_answers, nothing}
use Rattle.method_spec.specs.Call.{capacity, Memory}
use Rattle.method_spec.specs.Rounds.{rounds}
use Rattle.std.proofs.Math.Option.{some}
use Rattle.state_spec.specs.declared.State.{State}
use Rattle.state_spec.specs.Ticket.{op_in}
use Rattle.lent_bytes_laws.specs.StateLaws.{state-length}
use Rattle.call_spec.specs.Reply.{Reply, Answered, Refused}
use Rattle.call_spec.proofs.Meanings.{answered-number}
use Rattle.call_spec.specs.Store.{Ended, reply_of}
use Rattle.readout_spec.specs.Taken.{pair_of_entry, entries}
use Rattle.readout_spec.specs.ReadOut.{read_out}
use Rattle.readout_laws.specs.AfterOverflow.{after-overflow}
use Rattle.bucket_call_spec.specs.Simulates.{Remains}
use Rattle.lent_bytes_spec.specs.StateBytes.{state_length, state_in, state_bytes, fit_bytes}
use Rattle.demand_spec.specs.History.{Brought, StateAndTree, call_on, left_by, history, finally, until_closed, counted, replies, trace_of, ops_in, pairs_in}
use Rattle.demand_spec.specs.Demands.{fetching, opened_store, before, method, Follows, ClosedBy, Ending, stays_open, closes, Demand2}
use Rattle.demand_laws.specs.SoundReplies.{Neither, Sound}
use Rattle.demand_laws.specs.Fresh.{opened-empty}
use Rattle.demand_laws.specs.OpenedRuns.{opened-runs}
use Rattle.demand_laws.specs.UntilClosed.{before-open}
use Rattle.demand_laws.specs.Proved.{demand2, demand3}
use Rattle.host_spec.specs.Result as result
use Rattle.host_spec.specs.Host.{HostEnded, HostOpened, host_leaving, host_ended_as, read_as, host_read_out}
use Rattle.promise_spec.specs.HostHistory.{HostBrought, brought_by, LentBytes, HostStore, bytes_of, mark_in, host_call_on, host_left_by, host_history, host_finally, host_until_closed, host_counted, host_reply_of, host_replies, host_trace_of, lengths_pass, heard, host_outcomes, HostAs}
use Rattle.promise_spec.specs.HostDemands.{host_start, host_before, host_left, host_end, host_asked, host_method, host_holds, HostFollows, HostClosedBy, HostEnding, host-stays-open, host-closes, HostDemand2, HostReadsOut, HostDemand3}
use Rattle.promise_spec.specs.ReadsOut.{ReadsOut}
use Rattle.host_laws.specs.ClosedStates.{grown-whole}
use Rattle.host_laws.specs.Theorems.{reads-back, fit-whole}
use Rattle.host_laws.specs.LeftStates.{same-pairs}
use Rattle.host_laws.specs.PlainValues.{answers-fit}
use Rattle.host_laws.specs.Runs.{Reads, quiet, tells, Fine, step_left, step, step-tells, step-eighteen, fine-mark, opens_as, host-run}

-- ---- lists
heard-bytes : (cs : List HostBrought) → All LentBytes cs → All (λ b. Bytes b.ticket) (heard cs)
unfolding heard
heard-bytes [] lent = all_nil (λ (b : Brought). Bytes b.ticket)
heard-bytes (c ∷ cs) lent = go (lengths_pass c) (heard-bytes cs (λ d m. lent d (Memᴰ.tail m)))
  where
    go : (b : Bool) → All (λ b. Bytes b.ticket) (heard cs) → All (λ b. Bytes b.ticket) (pick b (brought_by c ∷ heard cs) (heard cs))
    go true later = all_cons {P = λ (b : Brought). Bytes b.ticket} (lent c (Memᴰ.head refl)).ticket later
    go false later = later

heard-append : (xs ys : List HostBrought) → heard (xs ++ ys) ≡ heard xs ++ heard ys
unfolding heard
heard-append [] ys = refl
heard-append (x ∷ xs) ys = go (lengths_pass x) (heard-append xs ys)
  where
    go : (b : Bool) → heard (xs ++ ys) ≡ heard xs ++ heard ys
        → pick b (brought_by x ∷ heard (xs ++ ys)) (heard (xs ++ ys)) ≡ pick b (brought_by x ∷ heard xs) (heard xs) ++ heard ys
    go true later = ap (λ (zs : List Brought). brought_by x ∷ zs) later
    go false later = later

-- The first calls of a list are all of them, or the next one closed the store.
data Split (h : HostStore) (cs xs : List HostBrought) : Type 0 where
  whole : xs ≡ cs → Split h cs xs
  next : (c : HostBrought) (after : List HostBrought) → cs ≡ xs ++ (c ∷ after) → (mark_in (host_call_on (host_finally h xs) c).state ≡ 0 → ⊥) → Split h cs xs

split-cons : (h : HostStore) (c : HostBrought) {cs xs : List HostBrought} → Split (host_left_by (host_call_on h c)) cs xs → Split h (c ∷ cs) (c ∷ xs)
unfolding host_finally
split-cons h c (whole e) = whole (ap (λ (ys : List HostBrought). c ∷ ys) e)
split-cons h c (next d after e shut) = next d after (ap (λ (ys : List HostBrought). c ∷ ys) e) shut

split : (h : HostStore) (cs : List HostBrought) → Split h cs (host_until_closed h cs)
unfolding host_until_closed host_finally
split h [] = whole refl
split h (c ∷ cs) = go (eqb (mark_in (host_call_on h c).state) 0) refl (split-cons h c (split (host_left_by (host_call_on h c)) cs))
  where
    go : (same : Bool) → eqb (mark_in (host_call_on h c).state) 0 ≡ same → Split h (c ∷ cs) (c ∷ host_until_closed (host_left_by (host_call_on h c)) cs)
        → Split h (c ∷ cs) (pick same (c ∷ host_until_closed (host_left_by (host_call_on h c)) cs) [])
    go true e later = later
    go false e later = next c cs refl (eqb-false (mark_in (host_call_on h c).state) 0 e)

-- Two ways to say where a list was cut.
same-cut : {A : Type 0} {a b : A} (xs us vs : List A) → xs ++ (a ∷ us) ≡ xs ++ (b ∷ vs) → a ≡ b
same-cut {A} {a} {b} xs us vs q = let r : a ∷ us ≡ b ∷ vs = append_cancel_left xs (a ∷ us) (b ∷ vs) q in cc

not-longer : {A : Type 0} (xs us : List A) (a : A) → xs ≡ xs ++ (a ∷ us) → ⊥
not-longer xs us a q = omega (arith, ap (λ ys. length ys) q, length-append xs (a ∷ us))

-- ---- no call meets 2, 3 or 8
number-sound : (r : Reply) → ((n : ℕ) → r ≡ Refused n → Neither n) → Neither (result.reply_number r)
number-sound (Answered a) h = rw (answered-number a) (λ z. omega arith, (λ z. omega arith, λ z. omega arith))
number-sound (Refused n) h = h n refl

outcomes-sound : (s : StateAndTree) (cs : List HostBrought) → All Sound (history s (heard cs)) → All (λ (e : HostEnded). Neither e.number) (host_outcomes s cs)
unfolding host_outcomes heard history
outcomes-sound s [] h = all_nil (λ (e : HostEnded). Neither e.number)
outcomes-sound s (c ∷ cs) h =
    go (lengths_pass c) refl (outcomes-sound s cs) (outcomes-sound (left_by (call_on s (brought_by c))) cs) h
  where
    go : (b : Bool) → lengths_pass c ≡ b
        → (All Sound (history s (heard cs)) → All (λ (e : HostEnded). Neither e.number) (host_outcomes s cs))
        → (All Sound (history (left_by (call_on s (brought_by c))) (heard cs)) → All (λ (e : HostEnded). Neither e.number) (host_outcomes (left_by (call_on s (brought_by c))) cs))
        → All Sound (history s (pick b (brought_by c ∷ heard cs) (heard cs)))
        → All (λ (e : HostEnded). Neither e.number)
        (pick b (host_ended_as c.result (call_on s (brought_by c)) ∷ host_outcomes (left_by (call_on s (brought_by c))) cs)
        (host_leaving 18 (state_bytes s.state) s.tree c.trace c.result ∷ host_outcomes s cs))
    go true q same later h =
        all_cons {P = λ (e : HostEnded). Neither e.number} (number-sound (call_on s (brought_by c)).reply (h _ (Memᴰ.head refl)))
        (later (λ e m. h e (Memᴰ.tail m)))
    go false q same later h =
        all_cons {P = λ (e : HostEnded). Neither e.number} (λ z. omega arith, (λ z. omega arith, λ z. omega arith)) (same h)

-- ---- from a good opening
module _ (st : Structure) (k : ℕ) (positive : 1 ≤ k) (small : k ≤ 8) (state : List ℕ) (long : length state ≡ state_length) (tree : List ℕ)
    (sized : length tree ≡ tree_length k) (cs : List HostBrought) (lent : All LentBytes cs) where
  abbrev s₀ : StateAndTree
  s₀ = opened_store st k tree

  abbrev h₀ : HostStore
  h₀ = host_start st k state tree

  -- The calls before the one that closed the store, those of them that were heard, and the store that they left.
  abbrev ds : List HostBrought
  ds = host_before st k state tree cs

  abbrev xs : List Brought
  xs = heard ds

  lent-before : All LentBytes ds
  lent-before = go (split h₀ cs)
    where
      go : Split h₀ cs ds → All LentBytes ds
      go (whole e) = rw e lent
      go (next c after e shut) = all_left {P = LentBytes} (c ∷ after) (rw e at lent)

  pub all-as : HostAs h₀ s₀ cs
  all-as = host-run st k positive small tree sized state long cs lent

  before-as : HostAs h₀ s₀ ds
  before-as = host-run st k positive small tree sized state long ds lent-before

  bytes : All (λ b. Bytes b.ticket) (heard cs)
  bytes = heard-bytes cs lent

  two : Demand2 st k tree (heard cs)
  two = demand2 st k positive small tree sized (heard cs) bytes

  -- They are the calls before the one that closed the existing store.
  same-before : before st k tree (heard cs) ≡ xs
  same-before = sym all-as.until

  of-before : (P : List Brought → Type 0) → P (before st k tree (heard cs)) → P xs
  of-before P h = subst P same-before h

  open-mark : (finally s₀ xs).state.mark ≡ 0
  open-mark = of-before (λ ys. (finally s₀ ys).state.mark ≡ 0) (before-open st k positive small tree sized (heard cs) bytes)

  state-read : state_in (host_left st k state tree cs).state ≡ (finally s₀ xs).state
  state-read =
      ap (λ (h : HostStore). state_in h.state) before-as.end
      ∙ reads-back st k positive small tree sized xs (heard-bytes ds lent-before)

  host-answers : host_replies (host_history h₀ ds) ≡ map (λ a. host_reply_of (reply_of a)) (plain_answers (capacity k) (host_asked st k h₀ ds) (nothing st))
  host-answers =
      rw before-as.counts
      (before-as.answers
      ∙ ap (map host_reply_of) (of-before (λ ys. replies (history s₀ ys) ≡ map reply_of (plain_answers (capacity k) (ops_in st (counted s₀ ys)) (nothing st))) two.answers)
      ∙ map-map host_reply_of reply_of (plain_answers (capacity k) (ops_in st (counted s₀ xs)) (nothing st)))

  follows-before : Follows st k s₀ xs
  follows-before = of-before (Follows st k s₀) two.follows

  host-follows : HostFollows st k h₀ ds
  host-follows =
      record {
        trace = rw before-as.counts (before-as.trace ∙ follows-before.trace);
        kept =
            rw (before-as.counts, state-read, ap (λ (h : HostStore). h.tree) before-as.end) follows-before.kept;
        fit =
            ap (λ (h : HostStore). fit_bytes h.state) before-as.end
            ∙ fit-whole st k positive small tree sized xs (heard-bytes ds lent-before) open-mark;
      }

  -- ---- how the list ends
  -- A call that closes the store was heard: it is the existing call, over bytes.
  module _ (c : HostBrought) (after : List HostBrought) (e : cs ≡ ds ++ (c ∷ after)) (shut : mark_in (host_call_on (host_finally h₀ ds) c).state ≡ 0 → ⊥) where
    abbrev s₁ : StateAndTree
    s₁ = finally s₀ xs

    lent-here : LentBytes c
    lent-here = all_right {P = LentBytes} ds (rw e at lent) c (Memᴰ.head refl)

    fine : Fine st k positive small tree sized s₁
    fine = inl open-mark

    xs-bytes : All (λ b. Bytes b.ticket) xs
    xs-bytes = heard-bytes ds lent-before

    was-heard : lengths_pass c ≡ true
    was-heard = go (lengths_pass c) refl
      where
        go : (b : Bool) → lengths_pass c ≡ b → b ≡ true
        go true q = refl
        go false q =
            absurd
            (shut
            (ap (λ (h : HostStore). mark_in (host_call_on h c).state) before-as.end
            ∙ ap (λ (x : HostEnded). mark_in x.state) (step-eighteen st k positive small tree sized xs xs-bytes c lent-here fine q)
            ∙ fine-mark st k positive small tree sized xs xs-bytes fine ∙ open-mark))

    ended_so : host_call_on (host_finally h₀ ds) c ≡ host_ended_as c.result (call_on s₁ (brought_by c))
    ended_so =
        ap (λ (h : HostStore). host_call_on h c) before-as.end
        ∙ step st k positive small tree sized xs xs-bytes c lent-here fine was-heard

    -- The existing call after those before it.
    heard-so : heard cs ≡ xs ++ (brought_by c ∷ heard after)
    unfolding heard
    heard-so = ap heard e ∙ heard-append ds (c ∷ after) ∙ rw was-heard

    -- What it left.
    pairs-so : pairs_in (state_in (host_call_on (host_finally h₀ ds) c).state) (host_call_on (host_finally h₀ ds) c).tree
        ≡ pairs_in (call_on s₁ (brought_by c)).state (call_on s₁ (brought_by c)).tree
    pairs-so =
        ap (λ (x : HostEnded). pairs_in (state_in x.state) x.tree) ended_so
        ∙ same-pairs (call_on s₁ (brought_by c)).state (step_left st k positive small tree sized xs xs-bytes c lent-here open-mark) (call_on s₁ (brought_by c)).tree

    -- Its leaves.
    trace-so : host_trace_of (host_call_on (host_finally h₀ ds) c ∷ []) ≡ trace_of (call_on s₁ (brought_by c) ∷ [])
    unfolding host_trace_of trace_of
    trace-so = ap (λ (x : HostEnded). host_trace_of (x ∷ [])) ended_so ∙ read (step-tells st k positive small tree sized xs xs-bytes c lent-here fine was-heard)
      where
        read : Reads c (call_on s₁ (brought_by c)) → host_trace_of (host_ended_as c.result (call_on s₁ (brought_by c)) ∷ []) ≡ trace_of (call_on s₁ (brought_by c) ∷ [])
        read (quiet q1 q2 z) = rw (q2, z)
        read (tells q1 q2 r l) = rw (q2, l)

    closed-so : (m : Memory ℕ) (t : Contents st) → ClosedBy st k s₁ m t (brought_by c) → HostClosedBy st k (host_finally h₀ ds) m t c
    closed-so m t by =
        record {
          op = by.op;
          asks = by.asks;
          overflow = ap (λ (x : HostEnded). x.number) ended_so ∙ ap result.reply_number by.overflow;
          rest = by.rest;
          reveals = rw trace-so by.reveals;
          contents = rw (pairs-so, state-read, ap (λ (h : HostStore). h.tree) before-as.end) by.contents;
        }

  end_mark : mark_in (host_end st k state tree cs).state ≡ (finally s₀ (heard cs)).state.mark
  unfolding state_in
  end_mark =
      ap (λ (h : HostStore). mark_in h.state) all-as.end
      ∙ ap (λ (x : State). x.mark) (reads-back st k positive small tree sized (heard cs) bytes)

  host-ends : HostEnding st k state tree cs
  host-ends = go (split h₀ cs) two.ends
    where
      go : Split h₀ cs ds → Ending st k tree (heard cs) → HostEnding st k state tree cs
      go (whole e) (stays_open q m) = host-stays-open e (end_mark ∙ m)
      go (whole e) (closes b after q m by) =
          absurd (not-longer xs after b (ap heard e ∙ q ∙ ap (λ (ys : List Brought). ys ++ (b ∷ after)) same-before))
      go (next c after e shut) (stays_open q m) =
          absurd (not-longer xs (heard after) (brought_by c) (sym same-before ∙ q ∙ heard-so c after e shut))
      go (next c after e shut) (closes b later q m by) =
          let cut : b ≡ brought_by c = same-cut xs later (heard after) (ap (λ (ys : List Brought). ys ++ (b ∷ later)) (sym same-before) ∙ sym q ∙ heard-so c after e shut) in
          let by-xs = of-before (λ ys. ClosedBy st k (finally s₀ ys) (method st k s₀ ys).memory (plain_contents (capacity k) (ops_in st (counted s₀ ys)) (nothing st)) b) by in
          let by-c = subst (λ x. ClosedBy st k (finally s₀ xs) (method st k s₀ xs).memory (plain_contents (capacity k) (ops_in st (counted s₀ xs)) (nothing st)) x) cut by-xs in
          host-closes c after e (end_mark ∙ m) (rw before-as.counts (closed-so c after e shut _ _ by-c))

  pub host-demand2 : HostDemand2 st k state tree cs
  host-demand2 =
      record {
        slots = two.slots;
        opens = ap (λ (o : HostOpened). o.number) (opens_as st k positive small tree sized state long)
            ∙ ap (λ (s : StateAndTree). s.state.mark) (opened-empty st k positive small tree sized);
        answers = host-answers;
        values-fit = rw before-as.counts (answers-fit (capacity k) (ops_in st (counted s₀ xs)) (opened-runs st k positive small tree sized xs (heard-bytes ds lent-before)).0.fit);
        follows = host-follows;
        ends = host-ends;
        never = rw all-as.outcomes (outcomes-sound s₀ cs (opened-runs st k positive small tree sized (heard cs) bytes).1.0.sound);
      }

  -- ---- reading out after a 9
  module _ (mark : mark_in (host_end st k state tree cs).state ≡ 9) where
    abbrev s₉ : StateAndTree
    s₉ = finally s₀ (heard cs)

    out_of : ReadsOut st k tree (heard cs)
    out_of = after-overflow st k positive small tree sized (heard cs) bytes (sym end_mark ∙ mark)

    closed-state : state_in (host_end st k state tree cs).state ≡ s₉.state
    closed-state = ap (λ (h : HostStore). state_in h.state) all-as.end ∙ reads-back st k positive small tree sized (heard cs) bytes

    closed-tree : (host_end st k state tree cs).tree ≡ s₉.tree
    closed-tree = ap (λ (h : HostStore). h.tree) all-as.end

    closed-long : length (host_end st k state tree cs).state ≡ state_length
    closed-long =
        ap (λ (h : HostStore). length h.state) all-as.end
        ∙ state-length s₉.state (grown-whole st k positive small tree sized (heard cs) bytes)

    reads_as : (out : List ℕ) → host_read_out (host_end st k state tree cs).state (host_end st k state tree cs).tree out ≡ read_as (read_out s₉.state s₉.tree out)
    unfolding host_read_out
    reads_as out = rw (eq-eqb (length (host_end st k state tree cs).state) state_length closed-long, closed-state, closed-tree)

    -- What the plain machine held before the call that met 9.
    abbrev holds : List Brought → Contents st
    holds ys = plain_contents (capacity k) (ops_in st (counted s₀ ys)) (nothing st)

    pub host-after-overflow : HostReadsOut st k state tree cs
    host-after-overflow = go (split h₀ cs)
      where
        r : ReadsOut st k tree (heard cs)
        r = out_of

        go : Split h₀ cs ds → HostReadsOut st k state tree cs
        go (whole e) =
            absurd (not-longer xs r.after r.b (ap heard e ∙ r.then-closed ∙ ap (λ (ys : List Brought). ys ++ (r.b ∷ r.after)) same-before))
        go (next c after e shut) =
            let cut : r.b ≡ brought_by c =
            same-cut xs r.after (heard after) (ap (λ (ys : List Brought). ys ++ (r.b ∷ r.after)) (sym same-before) ∙ sym r.then-closed ∙ heard-so c after e shut) in
            let nine : (call_on (finally s₀ xs) (brought_by c)).reply ≡ Refused 9 =
            subst (λ (b : Brought). (call_on (finally s₀ xs) b).reply ≡ Refused 9) cut
            (of-before (λ ys. (call_on (finally s₀ ys) r.b).reply ≡ Refused 9) r.overflow) in
            let remains =
            subst
            (λ (b : Brought). Remains (Entries st (holds xs)) (Entries st (plain (capacity k) r.op (holds xs)).contents) (map pair_of_entry (entries s₉.state s₉.tree))
            (fetching (finally s₀ xs).state (finally s₀ xs).tree b.ticket b.tape b.trace st r.op)) cut
            (of-before
            (λ ys. Remains (Entries st (holds ys)) (Entries st (plain (capacity k) r.op (holds ys)).contents) (map pair_of_entry (entries s₉.state s₉.tree))
            (fetching (finally s₀ ys).state (finally s₀ ys).tree r.b.ticket r.b.tape r.b.trace st r.op)) r.contents) in
            record {
              c = c;
              after = after;
              then-closed = e;
              op = r.op;
              asks = subst (λ (b : Brought). op_in st b.ticket ≡ some r.op) cut r.asks;
              overflow = ap (λ (x : HostEnded). x.number) (ended_so c after e shut) ∙ ap result.reply_number nine;
              written = λ out room.
                  reads_as out ∙ rw (closed-state, closed-tree) (ap read_as (r.written out (rw (closed-state, closed-tree) at room)));
              nothing-left-out = rw (closed-state, closed-tree) r.nothing-left-out;
              contents = rw (closed-state, closed-tree, state-read, ap (λ (h : HostStore). h.tree) before-as.end, before-as.counts) remains;
              reads-back = λ out room.
                  rw (reads_as out, closed-state, closed-tree) (r.reads-back out (rw (closed-state, closed-tree) at room));
            }

-- ---- two lists
module _ (st : Structure) (k : ℕ) (positive : 1 ≤ k) (small : k ≤ 8) (state state' : List ℕ) (long : length state ≡ state_length) (long' : length state' ≡ state_length)
    (tree tree' : List ℕ) (sized : length tree ≡ tree_length k) (sized' : length tree' ≡ tree_length k)
    (cs ds : List HostBrought) (lent : All LentBytes cs) (lent' : All LentBytes ds) where
  pub host-demand3 : HostDemand3 st k state state' tree tree' cs ds
  host-demand3 =
      let one = all-as st k positive small state long tree sized cs lent in
      let other = all-as st k positive small state' long' tree' sized' ds lent' in
      let three = demand3 st k positive small tree tree' sized sized' (heard cs) (heard ds) (heard-bytes cs lent) (heard-bytes ds lent') in
      let mark = end_mark st k positive small state long tree sized cs lent in
      let mark' = end_mark st k positive small state' long' tree' sized' ds lent' in
      record {
        traces = λ m m' count. rw (one.trace, other.trace, one.counts, other.counts, count_of one)
            (three.traces (sym mark ∙ m) (sym mark' ∙ m') (sym (count_of one) ∙ count ∙ count_of other));
        by-tickets = rw (one.counts, other.counts) three.by-tickets;
        one_each = λ m. rw (one.counts, one.trace) (three.one_each (sym mark ∙ m));
        names-draws = rw one.counts three.names-draws;
        none-twice = rw one.counts three.none-twice;
      }
    where
      count_of : {h : HostStore} {s : StateAndTree} {es : List HostBrought} → HostAs h s es → length (host_counted h es) ≡ length (counted s (heard es))
      count_of {h} {s} {es} hears = sym (length-map (host_counted h es) brought_by) ∙ ap (λ (ys : List Brought). length ys) hears.counts
