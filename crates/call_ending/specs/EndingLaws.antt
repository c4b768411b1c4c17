-- What a call leaves after its fetch rounds.
use Rattle.std.specs.Prelude.{◌≡◌, ◌⊎◌, Bool, true, false, Result, Ok, Err, List, [], ◌++◌, ℕ, zero, suc, max, ◌+◌, ◌*◌, ◌≤◌, length, take, drop}
use Rattle.std.proofs.Math.Path.{refl, ap}
use Rattle.std.proofs.Common.{sym, ◌∙◌, ap₂, inl, inr, arith, eq-eqb, ne_eqb, length-take, length-append, take-append-drop}
use Rattle.std.proofs.Math.Option.{Option, none, some}
use Rattle.list_spec.specs.Choice.{pick}
use Rattle.std.proofs.Math.Decide.{ℕ_discrete}
use Rattle.std.proofs.lemmas.List.Edits.{sets-eq}
use Rattle.list_laws.specs.PermLaws.{perm-length}
use Rattle.method_spec.specs.Node.{Link, Ahead, Node}
use Rattle.method_spec.specs.Prog.{Prog, done, root}
use Rattle.method_spec.specs.Outcome.{Outcome}
use Rattle.method_spec.specs.Call.{draws_from}
use Rattle.run_laws.specs.Calls.{draws-length}
use Rattle.round_spec.specs.Round.{Hand, join, read_half}
use Rattle.round_laws.specs.Lists.{join-perm}
use Rattle.leaf_spec.specs.Convert.{from_link, to_link, from_ahead, to_ahead}
use Rattle.leaf_spec.specs.Leaf.{leaf_format}
use Rattle.bucket_call_spec.specs.Fetch as fetch
use Rattle.bucket_call_spec.specs.Fetch.{Going, Round, on, shut, closing, revealing, written, too_many, held_keys, at_close, idle_round}
use Rattle.bucket_call_spec.specs.Call.{after_puts, put_rounds}
use Rattle.bucket_call_spec.specs.Peak.{peak_of}
use Rattle.slot_spec.specs.declared.Link as link
use Rattle.slot_spec.specs.declared.Ahead as ahead
use Rattle.state_spec.specs.declared.State.{State}
use Rattle.operation_spec.specs.Method.{to_step_answer}
use Rattle.operation_spec.specs.declared.Answer as told
use Rattle.call_spec.specs.declared.Refusal.{Refusal}
use Rattle.call_spec.specs.Reply.{Reply, Refused, number_of, to_reply}
use Rattle.call_spec.specs.Store.{Ended, replied, reply_of}
use Rattle.stash.specs.Stash.{saved}
use Rattle.stash_laws.specs.Waiting.{waiting_in, Holds}
use Rattle.stash_laws.specs.WaitingLaws.{waiting-length}
use Rattle.one_round.specs.TwiceLaws.{join-twice}
use Rattle.one_round.specs.OneRound.{going, ended_with}
use Rattle.idle_rounds.specs.declared.idle.Idle.{Idle}
use Rattle.want_rounds.specs.declared.Job.{Job}
use Rattle.want_rounds.specs.declared.Fetched.{Fetched}
use Rattle.put_rounds.specs.Put.{Puts}
use Rattle.idle_rounds.specs.IdleLaws.{goes_on_lem, stops-here}
use Rattle.call_ending.specs.declared.Ran.{Ran}
use Rattle.call_ending.specs.Ending.{left_by, ending_with, outcome_of, outcome_with, stepped_by, ahead_of, ShutAs, CanPut, Finishes, finished_by, listed_puts, FinishedAs}
use Rattle.replies.specs.Answered.{answered}
use Rattle.round_close.specs.Fault.{mark_of}
use Rattle.operation_spec.specs.declared.Full.{Full}

-- ---- parts alike
saved-same : {structure size m m' n n' : ℕ} {l l' : link.Link} {a a' : ahead.Ahead} {ws ws' : List (Node ℕ)} → m ≡ m' → n ≡ n' → l ≡ l' → a ≡ a' → ws ≡ ws'
    → saved structure size m n l a ws ≡ saved structure size m' n' l' a' ws'
saved-same a b c d e = rw (a, b, c, d, e)

ended_same : {s s' : State} {p p' : Reply} {n n' q q' : ℕ} {tree tree' trace trace' : List ℕ} → s ≡ s' → p ≡ p' → n ≡ n' → q ≡ q' → tree ≡ tree' → trace ≡ trace'
    → ◌≡◌ {A = Ended} (record { state = s; reply = p; leaves = n; peak = q; tree = tree; trace = trace })
    (record { state = s'; reply = p'; leaves = n'; peak = q'; tree = tree'; trace = trace' })
ended_same a b c d e f = rw (a, b, c, d, e, f)

-- ---- the trace
-- The first n numbers, and the rest.
first-and-rest : (n : ℕ) (trace : List ℕ) → n ≤ length trace → trace ≡ take n trace ++ drop (length (take n trace)) trace
first-and-rest n trace h =
    let many : length (take n trace) ≡ n = length-take n trace ∙ omega arith in
    sym (take-append-drop n trace) ∙ ap (λ (m : ℕ). take n trace ++ drop m trace) (sym many)

pub numbers-first : (n : ℕ) (trace : List ℕ) → n ≤ length trace → length (take n trace) ≡ n
numbers-first n trace h = length-take n trace ∙ omega arith

-- ---- a fetch round closed the store
-- The held nodes, with their tags moved, joined those waiting, and the root link's tag was moved.
pub shut-ends : (j : Job) (f : Fetched) (cause : Refusal) (hs : List fetch.Held) {row row' : List ℕ} {l : link.Link} {m : ℕ} → to_link l ≡ fetch.moved_link hs root (to_link j.root) → Holds m row'
    → waiting_in m row' ≡ join leaf_format (fetch.moved_nodes hs) (waiting_in f.waiting row) → {r : Ran}
    → r ≡ record { mark = number_of cause; entries = j.entries; root = l; ahead = j.spares.ahead; waiting = m; reply = Err cause; leaves = f.leaves; peak = f.peak }
    → ShutAs j f cause hs row row' r
unfolding closing replied
shut-ends j f cause hs moved holds joined e =
    rw e
    (record {
      holds = holds;
      ends = λ tree trace h.
          ended_same (saved-same {a = j.spares.ahead} refl refl (ap from_link moved) refl joined) refl (sym (numbers-first f.leaves trace h)) refl refl (first-and-rest f.leaves trace h);
    })

-- ---- the step and the put rounds
pub joined_length : (ns ws : List (Node ℕ)) → length (join leaf_format ns ws) ≡ length ns + length ws
joined_length ns ws = perm-length (join-perm leaf_format ns ws) ∙ length-append ns ws

-- With nothing held, closing moves nothing.
closing-none : (mark entries : ℕ) (l : Link ℕ) (a : Ahead ℕ) (n : ℕ) (row tree leaves : List ℕ)
    → closing mark entries l a (going n row tree [] leaves)
    ≡ record { mark = mark; entries = entries; root = l; ahead = a; waiting = waiting_in n row; tree = tree; leaves = leaves; answer = none }
unfolding closing join fetch.moved_link
closing-none mark entries l a n row tree leaves = refl

-- The put rounds, of the m nodes that wait after a step that came to such an outcome.
module _ (j : Job) (draw : ℕ → ℕ) (l : link.Link) (entries : ℕ) (answer : Result told.Answer Full) (ns : List (Node ℕ)) (m : ℕ) {row tree : List ℕ} (trace : List ℕ)
    (long : 2 * j.rounds ≤ length trace) (a : ahead.Ahead) (known : to_ahead a ≡ ahead_of j)
    {row' tree' trace' : List ℕ} {r : Idle} (puts : Puts j.size m draw j.rounds j.puts row tree trace row' tree' trace' r) where
  abbrev O : Outcome ℕ
  O = outcome_with l entries answer ns

  abbrev g : Going
  g = going m row tree [] (take j.rounds trace)

  abbrev draws : List ℕ
  draws = draws_from draw r.shown j.puts

  abbrev leaves' : List ℕ
  leaves' = take j.rounds trace ++ draws

  abbrev end : Going
  end = going r.waiting row' tree' [] leaves'

  many : length draws ≡ r.shown
  many = draws-length draw r.shown j.puts

  leaves-many : length leaves' ≡ j.rounds + r.shown
  leaves-many = length-append (take j.rounds trace) draws ∙ omega (arith, many, numbers-first j.rounds trace (omega arith))

  -- The trace is the leaves, and what it was after them.
  trace-is : trace' ≡ leaves' ++ drop (length leaves') trace
  trace-is =
      puts.revealed
      ∙ sets-eq draws trace j.rounds (omega (arith, many, puts.no_more))
      ∙ ap (λ (d : ℕ). leaves' ++ drop d trace) (ap (λ (n : ℕ). j.rounds + n) many ∙ sym leaves-many)

  kept-as : {mark : ℕ} → mark ≡ mark_of r.fault
      → saved j.structure j.size (mark_of r.fault) entries l a (waiting_in r.waiting row')
      ≡ saved j.structure j.size mark entries l (from_ahead (ahead_of j)) (waiting_in r.waiting row')
  kept-as e = saved-same {ws = waiting_in r.waiting row'} (sym e) refl refl (ap from_ahead known) refl

  module _ (peak : ℕ) {peak' : ℕ} (raised : peak' ≡ max peak r.peak) where
    abbrev most : ℕ
    most = max peak (peak_of (listed_puts j draw O g))

    same-peak : peak' ≡ most
    same-peak = raised ∙ ap (max peak) (sym (puts.peaked _ j.entries (take j.rounds trace) O))

    abbrev ran : Result told.Answer Refusal → Ran
    ran p = record { mark = mark_of r.fault; entries = entries; root = l; ahead = a; waiting = r.waiting; reply = p; leaves = j.rounds + r.shown; peak = peak' }

    abbrev EndsAs : Result told.Answer Refusal → Type 0
    EndsAs p = left_by j.structure j.size (ran p) row' tree' trace' ≡ ending_with j.structure j.size trace (finished_by j draw O g) most

    -- A put round closed the store.
    put-shuts : (p : Result told.Answer Refusal) → (mark_of r.fault ≡ 0 → ⊥) → to_reply p ≡ Refused (mark_of r.fault) → EndsAs p
    unfolding after_puts replied
    put-shuts p marked q =
        ended_same (kept-as refl) q (sym leaves-many) same-peak refl trace-is
        ∙ ap (λ (x : fetch.CallLeft). ending_with j.structure j.size trace x most)
        (sym
        (ap (after_puts (ahead_of j) O) (puts.rounds (take j.rounds trace) O ∙ stops-here (mark_of r.fault) end (done O) marked)
        ∙ closing-none (mark_of r.fault) entries (to_link l) (ahead_of j) r.waiting row' tree' leaves'))

    -- They all went on.
    put-answers : (p : Result told.Answer Refusal) → mark_of r.fault ≡ 0 → to_reply p ≡ reply_of (to_step_answer answer) → EndsAs p
    unfolding after_puts replied
    put-answers p went q =
        ended_same (kept-as (sym went)) q (sym leaves-many) same-peak refl trace-is
        ∙ ap (λ (x : fetch.CallLeft). ending_with j.structure j.size trace x most) (sym (ap (after_puts (ahead_of j) O) (puts.rounds (take j.rounds trace) O ∙ goes_on_lem (mark_of r.fault) end (done O) went)))

    pub put-ends : (p : Result told.Answer Refusal) → to_reply p ≡ answered (mark_of r.fault) (to_step_answer answer)
        → FinishedAs j draw peak (outcome_with l entries answer ns) (going m row tree [] (take j.rounds trace)) trace row' tree' trace' (ran p)
    put-ends p q = record { holds = puts.holds; enough = omega arith; ends = go (ℕ_discrete (mark_of r.fault) 0) }
      where
        go : Dec (mark_of r.fault ≡ 0) → EndsAs p
        go (yes e) = put-answers p e (q ∙ rw (eq-eqb (mark_of r.fault) 0 e))
        go (no d) = put-shuts p d (q ∙ rw (ne_eqb (mark_of r.fault) 0 d))

-- The nodes of the step, which came to that outcome, joined those waiting.
module _ (j : Job) (f : Fetched) (ns : List (Node ℕ)) {row tree : List ℕ} (b : Finishes j f ns row tree) {row' : List ℕ} {m : ℕ} (holds : Holds m row')
    (joined : waiting_in m row' ≡ join leaf_format (outcome_of j ns).nodes (waiting_in f.waiting row)) where
  -- The put rounds can begin.
  pub can-put : CanPut j m row' tree
  can-put =
      let made = (outcome_of j ns).nodes in
      record {
        some-rounds = b.some-rounds;
        few-rounds = b.few-rounds;
        key_left = b.key_left;
        after-step =
            record {
              small = b.small;
              is-tree = b.is-tree;
              holds = holds;
              proper = rw joined b.proper;
              few = omega (arith, waiting-length holds, ap length joined, joined_length made (waiting_in f.waiting row), waiting-length b.holds, b.room);
              twice = λ e. rw joined (join-twice leaf_format made (waiting_in f.waiting row) b.order (rw joined at e));
            };
      }

  pub finish-ends : {draw : ℕ → ℕ} {peak : ℕ} {o : Outcome ℕ} {trace row'' tree'' trace'' : List ℕ} {r : Ran} → o ≡ outcome_of j ns
      → FinishedAs j draw peak o (going m row' tree [] (take j.rounds trace)) trace row'' tree'' trace'' r
      → FinishedAs j draw peak (outcome_of j ns) (stepped_by j ns f row tree trace) trace row'' tree'' trace'' r
  finish-ends {draw} {peak} {o} {trace} {row''} {tree''} {trace''} {r} made done-so =
      let after-it : stepped_by j ns f row tree trace ≡ going m row' tree [] (take j.rounds trace) =
      ap₂ (λ (ws : List (Node ℕ)) (n : ℕ). record { tree = tree; waiting = ws; held = []; leaves = take n trace }) (sym joined) b.leaves-are in
      rw (after-it, ← made) done-so
