-- A list of calls, refused ones among them, is a run over buckets of the ops and tapes of the calls that count.
use Prim.Native.Nat.{ℕ, suc, ◌+◌, ◌≤◌}
use Rattle.std.specs.Prelude.{◌≡◌, refl, ◌⊎◌, length, get_or}
use Rattle.std.proofs.Common.{sym, ◌∙◌, ap, ap₂, subst, inl, inr, pow_pos}
use Rattle.std.proofs.Math.Path.{subst⁻¹}
use mathlib.Core.List.Memᴰ
use mathlib.Core.List.{List, [], ◌∷◌, ◌++◌, append-nil}
use mathlib.Core.List as list
use Rattle.std.proofs.Math.Option.{some}
use Rattle.std.proofs.Math.Nat.{mod-lt}
use native.Mathlib.Omega.{arith}
use Rattle.list_spec.specs.Distinct.{All}
use Rattle.list_laws.specs.DistinctLaws.{all_nil, all_cons}
use Rattle.slot_spec.specs.LittleEndian.{Bytes}
use Rattle.method_spec.specs.Answer.{Structure, Op}
use Rattle.method_spec.specs.Plain.{Contents, plain}
use Rattle.method_spec.specs.Rounds.{rounds}
use Rattle.method_spec.specs.Call.{capacity, Memory, Called, call}
use Rattle.method_laws.specs.Represented.{Held}
use Rattle.bucket_call_spec.specs.Fetch.{CallLeft}
use Rattle.bucket_call_spec.specs.Call.{Store, draw_of, fetched_by, bucket_call}
use Rattle.leaf_spec.specs.Entries.{OpFits, KeyLeft}
use Rattle.simulation_laws.specs.ProperCall.{call-held}
use Rattle.bucket_call_spec.specs.Simulates.{Simulates}
use Rattle.simulation_laws.specs.Relation.{Matches, Overflowed}
use Rattle.simulation_laws.specs.Relation as relation
use Rattle.simulation_laws.specs.CallSim.{simulate}
use Rattle.simulation_laws.specs.BucketRun.{BucketRan, last, and_then, bucket_run, KeysLeft}
use Rattle.state_spec.specs.Ticket.{op_in}
use Rattle.call_spec.specs.Reply.{Reply}
use Rattle.call_spec.specs.Store.{Ended, ending, replied}
use Rattle.demand_spec.specs.History.{Brought, StateAndTree, call_on, history, finally, counted, replies, trace_of, ops_in, tapes_of}
use Rattle.demand_laws.specs.Marks.{Ends, call_ends}
use Rattle.demand_laws.specs.Checks.{IllBrought, ill-changes}
use Rattle.demand_laws.specs.OpenStates.{state_of, kept_of}
use Rattle.demand_laws.specs.HistorySteps.{Refuses, early-finally, early-history, early-counted, early-replies, early-trace, next, late-finally, late-history, late-counted, late-replies, late-trace, closed-finally, closed-counted, closed-replies, closed-trace}
use Rattle.demand_laws.specs.SoundReplies.{Sound, Undamaged, early-sound, late-sound, reply-of-answer, closed-sound}
use Rattle.demand_laws.specs.ListSteps.{leaving, peaking, Step, refused, runs, left_open, step}

-- ---- runs over buckets

module _ {st : Structure} (k F : ℕ) (draw : ℕ → ℕ → ℕ) (c : ℕ) (op : Op st) (ops : List (Op st)) (s : Store) (l : CallLeft)
    (e : bucket_call k F op (draw c) s ≡ l) where
  run-goes : l.mark ≡ 0 → bucket_run k F draw c (op ∷ ops) s ≡ and_then l (bucket_run k F draw (suc c) ops (relation.left_by l))
  unfolding bucket_run
  run-goes m = rw (e, m)

  run-stops : l.mark ≡ 9 → bucket_run k F draw c (op ∷ ops) s ≡ last l
  unfolding bucket_run
  run-stops m = rw (e, m)

module _ (st : Structure) (k : ℕ) where
  -- The outcomes of calls and the store at their end, against a run over buckets: 9 stands for the mark of a call without an answer.
  pub record Runs (r : BucketRan) (es : List Ended) (end : StateAndTree) : Type 0 where
    pub mark : end.state.mark ≡ r.mark
    pub answers : replies es ≡ list.map (replied 9) r.answers
    pub leaves : trace_of es ≡ r.leaves
    pub store : r.mark ≡ 0 → end ≡ kept_of st k r.store
    pub sound : All Sound es

  -- A closed store runs no more.
  closed-runs : (s : StateAndTree) → (s.state.mark ≡ 0 → ⊥) → (bs : List Brought) (st : Store)
      → Runs (record { mark = s.state.mark; answers = []; leaves = []; store = st }) (history s bs) (finally s bs)
  closed-runs s shut bs st =
      record {
        mark = ap (λ (x : StateAndTree). x.state.mark) (closed-finally s shut bs);
        answers = closed-replies s shut bs;
        leaves = closed-trace s shut bs;
        store = λ m. absurd (shut m);
        sound = closed-sound s shut bs;
      }

  -- The tickets of calls all ask something, within the widths of its fields.
  pub record Asking (cs : List Brought) : Type 0 where
    pub each : length (ops_in st cs) ≡ length cs
    pub fit : All (λ op. OpFits op) (ops_in st cs)

  -- From call number c on, the draws are those of the tapes that the calls brought.
  abbrev pub Drawn : (ℕ → ℕ → ℕ) → ℕ → List Brought → Type 0
  Drawn draw c cs = (i : ℕ) → draw (c + i) ≡ draw_of k (get_or (tapes_of cs) i [])

  -- A list of calls from an open state, with what the calls that count brought.
  abbrev RunsOf : Store → List Brought → List Brought → Type 0
  RunsOf s bs cs =
      Asking cs
      × ((draw : ℕ → ℕ → ℕ) (c : ℕ) → Drawn draw c cs
      → Runs (bucket_run k (rounds st k) draw c (ops_in st cs) s) (history (kept_of st k s) bs) (finally (kept_of st k s) bs)
      × KeysLeft k (rounds st k) draw c (ops_in st cs) s)

  abbrev pub ListRuns : Store → List Brought → Type 0
  ListRuns s bs = RunsOf s bs (counted (kept_of st k s) bs)

  asking-none : Asking []
  unfolding ops_in
  asking-none = record { each = refl; fit = all_nil (λ o. OpFits o) }

  module _ (b : Brought) (cs : List Brought) (op : Op st) (asks : op_in st b.ticket ≡ some op) where
    ops-cons : ops_in st (b ∷ cs) ≡ op ∷ ops_in st cs
    unfolding ops_in
    ops-cons = rw (asks, ops_in)

    asking-cons : OpFits op → Asking cs → Asking (b ∷ cs)
    asking-cons fits a =
        record {
          each = rw ops-cons (ap suc a.each);
          fit = subst (All (λ o. OpFits o)) (sym ops-cons) (all_cons {P = λ o. OpFits o} fits a.fit);
        }

  module _ (s : Store) (b : Brought) (bs : List Brought) where
    abbrev here : StateAndTree
    here = kept_of st k s

    -- A refused call adds nothing.
    after-refused : (n : ℕ) → IllBrought n → Refuses here b n → ListRuns s bs → ListRuns s (b ∷ bs)
    after-refused n ill e a =
        let early = ill-changes n ill in
        rw (early-counted here b bs n early e) (
          a.0,
          λ draw c drawn.
              let r = (a.1 draw c drawn).0 in (
                record {
                  mark = rw (early-finally here b bs n early e) r.mark;
                  answers = early-replies here b bs n early e ∙ r.answers;
                  leaves = early-trace here b bs n early e ∙ r.leaves;
                  store = λ m. early-finally here b bs n early e ∙ r.store m;
                  sound =
                      subst (All Sound) (sym (early-history here b bs n early e))
                      (all_cons {P = Sound} (early-sound n (inr ill) here b) r.sound);
                },
                (a.1 draw c drawn).1,
              ),
        )

    module _ (op : Op st) (asks : op_in st b.ticket ≡ some op) (fits : OpFits op) (keyed : KeyLeft op s.ahead.key)
        (e : call_on here b ≡ ending (state_of st k s) b.trace (leaving st k s b op) (peaking st k s b op)) where
      abbrev left : CallLeft
      left = leaving st k s b op

      ends : Ends left
      ends = call_ends k (rounds st k) op (draw_of k b.tape) s

      -- The rounds of the call have its draws.
      same-call : (draw : ℕ → ℕ → ℕ) (c : ℕ) (cs : List Brought) → Drawn draw c (b ∷ cs) → bucket_call k (rounds st k) op (draw c) s ≡ left
      same-call draw c cs drawn =
          let first : draw c ≡ draw_of k b.tape = subst (λ (i : ℕ). draw i ≡ draw_of k b.tape) (omega arith) (drawn 0) in
          ap (λ (f : ℕ → ℕ). bucket_call k (rounds st k) op f s) first

      -- A call that counts, and then others.
      then_runs : Undamaged left → {r : BucketRan} → Runs r (history (next here b left) bs) (finally (next here b left) bs)
          → Runs (and_then left r) (history here (b ∷ bs)) (finally here (b ∷ bs))
      then_runs mark {r} later =
          record {
            mark = rw (late-finally here b bs left ends e) later.mark;
            answers =
                late-replies here b bs left ends e
                ∙ ap₂ (λ (a : Reply) (rs : List Reply). a ∷ rs) (reply-of-answer left ends mark) later.answers;
            leaves =
                late-trace here b bs left ends e ∙ ap (λ (ls : List ℕ). left.leaves ++ ls) later.leaves;
            store = λ m. late-finally here b bs left ends e ∙ later.store m;
            sound =
                subst (All Sound) (sym (late-history here b bs left ends e))
                (all_cons {P = Sound} (late-sound here b left (peaking st k s b op) ends mark) later.sound);
          }

      -- The list with that call first, from what the others brought that count.
      list_of : (cs : List Brought) → counted (next here b left) bs ≡ cs → Asking cs
          → ((draw : ℕ → ℕ → ℕ) (c : ℕ) → Drawn draw c (b ∷ cs)
          → Runs (bucket_run k (rounds st k) draw c (op ∷ ops_in st cs) s) (history here (b ∷ bs)) (finally here (b ∷ bs))
          × KeysLeft k (rounds st k) draw c (op ∷ ops_in st cs) s)
          → ListRuns s (b ∷ bs)
      list_of cs others asking ran =
          subst (RunsOf s (b ∷ bs))
          (sym (late-counted here b bs left ends e ∙ ap (λ (cs : List Brought). b ∷ cs) others))
          (asking-cons b cs op asks fits asking, λ draw c drawn. rw (ops-cons b cs op asks) (ran draw c drawn))

      -- After a call that met overflow no other counts.
      after-overflow : left.mark ≡ 9 → ListRuns s (b ∷ bs)
      unfolding ops_in
      after-overflow m =
          list_of [] (closed-counted (next here b left) shut bs) asking-none
          (λ draw c drawn. (
            rw (run-stops k (rounds st k) draw c op (ops_in st []) s left (same-call draw c [] drawn) m, ← append-nil left.leaves)
                (then_runs (inr m) (closed-runs (next here b left) shut bs (relation.left_by left))),
            (keyed, tt),
          ))
        where
          shut : left.mark ≡ 0 → ⊥
          shut z = omega arith

      -- After a call that left the store open the others go on.
      after-match : left.mark ≡ 0 → ListRuns (relation.left_by left) bs → ListRuns s (b ∷ bs)
      after-match m later =
          list_of others (ap (λ (x : StateAndTree). counted x bs) same) later.0
          (λ draw c drawn. (
            rw (run-goes k (rounds st k) draw c op (ops_in st others) s left (same-call draw c others drawn) m)
                (then_runs (inl m)
                (subst⁻¹ (λ (x : StateAndTree). Runs (bucket_run k (rounds st k) draw (suc c) (ops_in st others) (relation.left_by left)) (history x bs) (finally x bs)) same
                (later.1 draw (suc c) (λ i. others-drawn draw c drawn i)).0)),
            (
              keyed,
              rw (same-call draw c others drawn) (later.1 draw (suc c) (λ i. others-drawn draw c drawn i)).1,
            ),
          ))
        where
          same : next here b left ≡ kept_of st k (relation.left_by left)
          same = left_open st k s b left m

          others : List Brought
          others = counted (kept_of st k (relation.left_by left)) bs

          others-drawn : (draw : ℕ → ℕ → ℕ) (c : ℕ) → Drawn draw c (b ∷ others) → Drawn draw (suc c) others
          others-drawn draw c drawn i =
              subst (λ (n : ℕ). draw n ≡ draw_of k (get_or (tapes_of others) i [])) (omega arith) (drawn (suc i))

  -- ---- a list

  module _ (positive : 1 ≤ k) (small : k ≤ 8) where
    pub list-runs : (bs : List Brought) → All (λ b. Bytes b.ticket) bs → (s : Store) (m : Memory ℕ) → Simulates k s m
        → (t : Contents st) → Held 0 st (capacity k) t m → ListRuns s bs
    unfolding counted history finally replies trace_of bucket_run ops_in
    list-runs [] bytes s m sim t held = (
      asking-none,
      λ draw c drawn.
          (record { mark = refl; answers = refl; leaves = refl; store = λ z. refl; sound = all_nil Sound }, tt),
    )
    list-runs (b ∷ bs) bytes s m sim t held =
        go (step st k positive small s m sim t held b (bytes b (Memᴰ.head refl)))
        (λ s m sim t held. list-runs bs (λ b i. bytes b (Memᴰ.tail i)) s m sim t held)
      where
        go : Step st k s b
            → ((s : Store) (m : Memory ℕ) → Simulates k s m → (t : Contents st) → Held 0 st (capacity k) t m → ListRuns s bs)
            → ListRuns s (b ∷ bs)
        go (refused n ill e) later = after-refused s b bs n ill e (later s m sim t held)
        go (runs op asks fits keyed e) later =
            which (simulate k positive (omega arith) t m held s sim op fits (rw (← sim.ahead) keyed) (draw_of k b.tape) (λ d. mod-lt _ (pow_pos k)))
          where
            r : Called ℕ
            r = call 0 (rounds st k) (capacity k) op (draw_of k b.tape) m

            which : Overflowed k m (fetched_by k (rounds st k) op (draw_of k b.tape) s) (leaving st k s b op) r ⊎ Matches k (leaving st k s b op) r
                → ListRuns s (b ∷ bs)
            which (inl x) = after-overflow s b bs op asks fits keyed e x.mark
            which (inr x) =
                after-match s b bs op asks fits keyed e x.mark
                (later (relation.left_by (leaving st k s b op)) r.memory x.simulates (plain (capacity k) op t).contents
                (call-held k (omega arith) t m held op (draw_of k b.tape)))
