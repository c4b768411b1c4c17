-- The rounds and the step of a call, together: what the code leaves is what the definition leaves.
use Rattle.std.specs.Prelude.{◌≡◌, refl, Option, Some, None, List, [], take}
use Rattle.std.proofs.Common.{sym, ◌∙◌, inl, inr}
use Rattle.std.proofs.Math.Decide.{ℕ_discrete}
use Rattle.std.proofs.Math.Path.{ap, ap₂}
use Prim.Native.Nat.{ℕ, max, ◌+◌, ◌-◌, ◌^◌, ◌≤◌, ◌<◌}
use native.Mathlib.Omega.{arith}
use Rattle.std.proofs.Math.ListN.{length, drop, length-map}
use Rattle.method_spec.specs.Node.{Node}
use Rattle.method_spec.specs.Prog.{Prog, done, after}
use Rattle.method_spec.specs.Answer as answer
use Rattle.method_spec.specs.Outcome.{Outcome}
use Rattle.method_spec.specs.Call.{capacity}
use Rattle.run_laws.specs.RoundsLaws.{some-rounds}
use Rattle.round_spec.specs.Round.{join}
use Rattle.leaf_spec.specs.Leaf.{leaf_format}
use Rattle.bucket_call_spec.specs.Fetch as fetch
use Rattle.bucket_call_spec.specs.Fetch.{CallLeft, Going, Round, on, shut, closing, fetch_rounds}
use Rattle.bucket_call_spec.specs.Call.{Store, draw_of, begun, program_by, fetched_by, bucket_call}
use Rattle.bucket_call_spec.specs.Peak.{rounds_from, peak_of, puts_after, call_peak}
use Rattle.peak_laws.specs.PeakLaws.{peak-append, peak-none}
use Rattle.none_lost_laws.specs.Sound.{places_for}
use Rattle.none_lost_laws.specs.Lost.{left-shut, left-on, fetch-closing, stepping}
use Rattle.slot_spec.specs.declared.Link.{Link}
use Rattle.slot_spec.specs.declared.Ahead.{Ahead}
use Rattle.state_spec.specs.Fetching.{spare_of}
use Rattle.leaf_spec.specs.Convert.{to_link, to_ahead}
use Rattle.operation_spec.specs.declared.Op.{Op}
use Rattle.operation_spec.specs.Method.{to_op, outcome_in}
use Rattle.node_rows.specs.Held.{Held, nodes_of}
use Rattle.node_rows.specs.Heights.{Lows}
use Rattle.call_spec.specs.declared.Refusal.{Refusal}
use Rattle.call_spec.specs.declared.Refusal.TheVariants.{Closed, Unfit, TreeLength, TicketLength, UnknownKind, ShortTape, ShortTrace, Damage, Overflow, Full, NoKeyLeft, StrayField}
use Rattle.call_spec.specs.Reply.{number_of}
use Rattle.call_spec.specs.Store.{Ended}
use Rattle.replies.specs.Answered.{mark_of}
use Rattle.round_close.specs.Fault.{mark_of as fault_mark}
use Rattle.stash_laws.specs.WaitingLaws.{waiting-length}
use Rattle.one_round.specs.OneRound.{going}
use Rattle.want_rounds.specs.declared.Job.{Job}
use Rattle.want_rounds.specs.declared.Fetched.{Fetched}
use Rattle.idle_rounds.specs.IdleLaws.{draw-leaf, goes_on_lem, stops-here}
use Rattle.want_rounds.specs.Wanting.{nodes_held, structure_in, program_of, store_at, fetched, Begins, LongEnough, FetchedAs, Fetches}
use Rattle.want_rounds.specs.WantingLaws.{at_most, root-low, same-program, same_ahead}
use Rattle.fetch_rounds.specs.FetchLaws.{Done, is-done, drop-on}
use Rattle.call_ending.specs.declared.Ran.{Ran}
use Rattle.call_ending.specs.Ending.{ending_with, going_by, outcome_of, stepped_by, Shuts, ShutAs, Finishes, finished_by, listed_puts, FinishedAs}
use Rattle.call_core.specs.Run.{job_for, Runs, RanAs}
use Rattle.call_ending.specs.EndingLaws.{joined_length, numbers-first}

-- What follows the leaves in the trace buffer is all that an end takes from it.
ending-on : (structure size : ℕ) (trace trace' : List ℕ) (l : CallLeft) (peak : ℕ) → drop (length l.leaves) trace' ≡ drop (length l.leaves) trace
    → ending_with structure size trace' l peak ≡ ending_with structure size trace l peak
ending-on structure size trace trace' l peak e = rw e

-- ---- the cause for which a round closed the store
pub number-some : (r : Refusal) → number_of r ≡ 0 → ⊥
number-some Closed e = omega (arith, e)
number-some Unfit e = omega (arith, e)
number-some TreeLength e = omega (arith, e)
number-some TicketLength e = omega (arith, e)
number-some UnknownKind e = omega (arith, e)
number-some ShortTape e = omega (arith, e)
number-some ShortTrace e = omega (arith, e)
number-some Damage e = omega (arith, e)
number-some Overflow e = omega (arith, e)
number-some Full e = omega (arith, e)
number-some NoKeyLeft e = omega (arith, e)
number-some StrayField e = omega (arith, e)

pub marked : {found : Option Refusal} {cause : Refusal} {mark : ℕ} → found ≡ Some cause → mark_of found ≡ mark → (mark ≡ 0 → ⊥) × (number_of cause ≡ mark)
marked {cause = cause} is e =
    let met : number_of cause ≡ _ = sym (ap mark_of is) ∙ e in
    (λ z. number-some cause (met ∙ z), met)

pub went_on : {found : Option Refusal} {mark : ℕ} → ((cause : Refusal) → found ≡ Some cause → ⊥) → mark_of found ≡ mark → mark ≡ 0
went_on {found = None} none e = sym e
went_on {found = Some cause} none e = absurd (none cause refl)

-- The job, by its parts.
pub same-job : (structure size entries : ℕ) (root : Link) (ahead : Ahead) (op : Op) (F : ℕ) (tape : List ℕ) {limit first second puts : ℕ}
    → limit ≡ capacity size → first ≡ draw_of size tape F → second ≡ draw_of size tape (F + 1) → puts ≡ F + spare_of structure
    → ◌≡◌ {A = Job}
    (record {
      op = op;
      structure = structure;
      size = size;
      rounds = F;
      limit = limit;
      entries = entries;
      root = root;
      spares = record { first = first; second = second; ahead = ahead };
      puts = puts;
    })
    (job_for structure size entries root ahead op F tape)
same-job structure size entries root ahead op F tape a b c d = rw (a, b, c, d)

module _ {j : Job} {n : ℕ} {row tree tape trace : List ℕ} (ok : Runs j n row tree tape trace) where
  abbrev draw : ℕ → ℕ
  draw = draw_of j.size tape

  abbrev k : ℕ
  k = j.size

  abbrev F : ℕ
  F = j.rounds

  abbrev op : answer.Op (structure_in j)
  op = to_op j.op

  abbrev store : Store
  store = store_at j n row tree

  is_leaf : (d : ℕ) → draw d < 2 ^ k
  is_leaf = draw-leaf k tape

  begins : Begins j draw n row tree
  begins = ok.begins

  small : k ≤ 16
  small = omega (arith, begins.small)

  module _ {hs : List fetch.Held} {row' tree' trace' : List ℕ} {f : Fetched} (came : FetchedAs j draw n row tree trace hs row' tree' trace' f) where
    abbrev mid : Going
    mid = going_by hs f row' tree' trace'

    abbrev ns : List (Node ℕ)
    ns = nodes_held hs

    program-is : program_by k F op draw store ≡ program_of j
    program-is = rw begins.rounds-are (sym (same-program j draw is_leaf begins))

    all-fetched : fetched_by k F op draw store ≡ fetched j draw F n row tree
    all-fetched = ap (λ (p : Prog ℕ (Outcome ℕ)). fetch_rounds (structure_in j) j.entries k draw F 0 p (going n row tree [] [])) program-is

    -- The call's peak, by its fetch rounds and its put rounds.
    abbrev puts : List (Round (Outcome ℕ))
    puts = puts_after (structure_in j) k F draw store (fetched_by k F op draw store)

    peak-is : call_peak k F op draw store ≡ max f.peak (peak_of puts)
    peak-is =
        peak-append (rounds_from (structure_in j) j.entries k draw F 0 (program_by k F op draw store) (begun store)) puts
        ∙ ap (λ (x : ℕ). max x (peak_of puts))
        (ap (λ (p : Prog ℕ (Outcome ℕ)). peak_of (rounds_from (structure_in j) j.entries k draw F 0 p (begun store))) program-is ∙ came.peaked)

    long : F ≤ length trace
    long = omega (arith, ok.long.1)

    -- The trace buffer is as long as it was.
    pub still-long : LongEnough j tape trace'
    still-long = (ok.long.0, omega (arith, ok.long.1, came.trace-sized))

    pub run-few : f.count ≤ 33
    run-few = omega (arith, came.counted, came.upto, at_most j draw is_leaf begins)

    -- ---- a fetch round closed the store
    module _ (marked : fault_mark f.fault ≡ 0 → ⊥) where
      closed-by : fetched_by k F op draw store ≡ shut (fault_mark f.fault) mid
      closed-by = all-fetched ∙ came.outcome ∙ stops-here (fault_mark f.fault) mid (after (program_of j) ns) marked

      left_is : bucket_call k F op draw store ≡ closing (fault_mark f.fault) j.entries (to_link j.root) (to_ahead j.spares.ahead) mid
      left_is = left-shut k F op draw store (fault_mark f.fault) mid closed-by

      peak-shut : call_peak k F op draw store ≡ f.peak
      unfolding puts_after
      peak-shut =
          let none : peak_of puts ≡ 0 = ap (λ (x : Round (Outcome ℕ)). peak_of (puts_after (structure_in j) k F draw store x)) closed-by ∙ peak-none (Outcome ℕ) in
          peak-is ∙ omega arith

      pub run-shuts : Shuts f row'
      unfolding closing
      run-shuts =
          let keeps = (fetch-closing k begins.some_size small op begins.op_fits draw is_leaf store begins.fit begins.key_left (fault_mark f.fault) mid (rw (← begins.rounds-are) closed-by)).2 in
          let room : length (join leaf_format (fetch.moved_nodes hs) mid.waiting) ≤ places_for k = rw (← begins.rounds-are, left_is, closing) at keeps.room in
          let a = joined_length (fetch.moved_nodes hs) mid.waiting in
          let b = length-map hs (λ (h : fetch.Held). fetch.moved_node hs h.node) in
          record {
            holds = came.rests.holds;
            room = omega (arith, room, a, b, waiting-length came.rests.holds, begins.small, came.counted);
          }

      pub run-ends-shut : {cause : Refusal} → number_of cause ≡ fault_mark f.fault → {r : Ran} {row'' : List ℕ} → ShutAs j f cause hs row' row'' r → RanAs j n row tree tape trace row'' tree' trace' r
      unfolding closing
      run-ends-shut {cause} met {r} e =
          let fits : f.leaves ≤ length trace' = omega (arith, came.no_more, came.trace-sized, long) in
          let l = closing (fault_mark f.fault) j.entries (to_link j.root) (to_ahead j.spares.ahead) mid in
          let rest : drop (length (take f.leaves trace')) trace' ≡ drop (length (take f.leaves trace')) trace =
          rw (numbers-first f.leaves trace' fits) came.untouched in
          record {
            holds = e.holds;
            ends =
                e.ends tree' trace' fits
                ∙ ap (λ (m : ℕ). ending_with j.structure k trace' (closing m j.entries (to_link j.root) (to_ahead j.spares.ahead) mid) f.peak) met
                ∙ ending-on j.structure k trace trace' l f.peak rest
                ∙ ap₂ (ending_with j.structure k trace) (sym left_is) (sym peak-shut);
          }

    -- ---- all fetch rounds went on
    module _ (went : fault_mark f.fault ≡ 0) where
      over : Done (after (program_of j) ns)
      over = is-done (after (program_of j) ns) (came.finished went)

      abbrev O : Outcome ℕ
      O = outcome_of j ns

      made : over.outcome ≡ O
      made = sym (ap (outcome_in (to_link j.root) j.entries) over.is)

      fetched-all : fetched_by k F op draw store ≡ on mid (done O)
      fetched-all =
          all-fetched ∙ came.outcome ∙ goes_on_lem (fault_mark f.fault) mid (after (program_of j) ns) went
          ∙ ap (on mid) (over.is ∙ ap done made)

      pub run-finishes : Finishes j f (nodes_held hs) row' tree'
      run-finishes =
          let st = stepping k begins.some_size small op begins.op_fits draw is_leaf store begins.fit begins.key_left mid O (rw (← begins.rounds-are) fetched-all) in
          let a = joined_length O.nodes mid.waiting in
          record {
            small = begins.small;
            some-rounds = rw begins.rounds-are (some-rounds (structure_in j) k begins.some_size);
            few-rounds = at_most j draw is_leaf begins;
            holds = came.rests.holds;
            order = came.rests.order;
            key_left = begins.key_left;
            is-tree = st.sound.is-tree;
            proper = st.sound.waiting;
            room = omega (arith, st.few, a, waiting-length came.rests.holds);
            leaves-are = came.all_shown went;
          }

      abbrev g : Going
      g = stepped_by j ns f row' tree' trace'

      left-finished : bucket_call k F op draw store ≡ finished_by j draw O g
      left-finished = rw (begins.puts-are, same_ahead j draw is_leaf begins) (left-on k F op draw store mid O fetched-all)

      peak-finished : call_peak k F op draw store ≡ max f.peak (peak_of (listed_puts j draw O g))
      unfolding puts_after
      peak-finished =
          peak-is
          ∙ ap (λ (x : Round (Outcome ℕ)). max f.peak (peak_of (puts_after (structure_in j) k F draw store x))) fetched-all
          ∙ ap (λ (d : ℕ). max f.peak (peak_of (rounds_from (structure_in j) j.entries k draw F d (done O) g))) (sym begins.puts-are)

      pub run-ends-finished : {r : Ran} {row'' tree'' trace'' : List ℕ}
          → FinishedAs j draw f.peak (outcome_of j (nodes_held hs)) (stepped_by j (nodes_held hs) f row' tree' trace') trace' row'' tree'' trace'' r
          → RanAs j n row tree tape trace row'' tree'' trace'' r
      run-ends-finished {r} e =
          let l = finished_by j draw O g in
          let many : r.leaves ≡ length l.leaves = ap (λ (x : Ended). x.leaves) e.ends in
          let at-fetched : drop F trace' ≡ drop F trace = rw (← came.all_shown went) came.untouched in
          let all : length l.leaves ≡ F + (length l.leaves - F) = omega (arith, e.enough) in
          record {
            holds = e.holds;
            ends =
                e.ends
                ∙ ending-on j.structure k trace trace' l (max f.peak (peak_of (listed_puts j draw O g))) (rw all (drop-on F (length l.leaves - F) trace' trace at-fetched))
                ∙ ap₂ (ending_with j.structure k trace) (sym left-finished) (sym peak-finished);
          }

  -- ---- the held nodes in rows: the step can be made of them
  pub run-low : {h : Held} {froms row' tree' trace' : List ℕ} {f : Fetched} → Fetches j draw n row tree trace h froms row' tree' trace' f
      → Lows 100 (nodes_of h) × (j.root.height ≤ 100)
  run-low came = (rw came.nodes-are at came.came.low, root-low j draw is_leaf begins)
