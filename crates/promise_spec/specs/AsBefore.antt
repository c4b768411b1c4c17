-- The calls as they were before document 02's changes 2, 6 and 8: each is `called_by` (call_spec) with one part as it was, so that it can be said what the
-- change changed. What a later change adds to the checks, it adds to all of them. Nothing of it is in code.
use Rattle.std.specs.Prelude.{ℕ, suc, List, [], ◌∷◌, ◌++◌, eqb, ltb, length, drop}
use Rattle.std.proofs.Math.Option.{none}
use Rattle.list_spec.specs.Choice.{pick}
use Rattle.method_spec.specs.Node.{Link, Ahead, absent, with_value}
use Rattle.method_spec.specs.Prog.{Prog, done, bind}
use Rattle.method_spec.specs.Answer.{Structure, Op, get, put, remove, push, pop, add, take, enqueue, dequeue, replaced, new, full}
use Rattle.method_spec.specs.Map.{top, Spot, gap, hit, walk, climb, unwind, unwound, finish}
use Rattle.method_spec.specs.Outcome.{Outcome}
use Rattle.method_spec.specs.Prog.{start}
use Rattle.method_spec.specs.Rounds.{rounds}
use Rattle.method_spec.specs.Call.{capacity, program, spare_tags}
use Rattle.bucket_call_spec.specs.Fetch.{CallLeft, Round, fetch_rounds}
use Rattle.bucket_call_spec.specs.Call.{Store, begun, ahead_then, after_fetches, draw_of, bucket_call}
use Rattle.bucket_call_spec.specs.Peak.{peak_of, rounds_with}
use Rattle.state_spec.specs.declared.State.{State}
use Rattle.call_spec.specs.Reply.{Reply, Refused}
use Rattle.call_spec.specs.Store.{Ended, replied, store_of, state_left, refusing, ending, by_rounds, Check, called_by, every}

-- ---- change 2: an earlier put
module _ {T : Type 0} where
  -- The full rule came first: a put on a full store walked as any put does and stored nothing.
  unfoldable pub earlier_put_step : (nil : T) (key value : ℕ) (tag : T) (entries limit : ℕ) → Spot T → Prog T (Outcome T)
  earlier_put_step nil key value tag entries limit (gap l path) =
      pick (ltb entries limit)
      (bind
      (climb path
      (top (record { key = key; value = value; tag = tag; left = absent nil; right = absent nil }) none none) [])
      (λ b. done (finish (suc entries) new b)))
      (done (finish entries full (unwound (gap l path))))
  earlier_put_step nil key value tag entries limit (hit w n path) =
      pick (ltb entries limit)
      (done (finish entries (replaced n.value) (unwind path (top (with_value value n) none none) [])))
      (done (finish entries full (unwound (hit w n path))))

  unfoldable pub earlier_put_prog : (nil : T) (key value : ℕ) (tag : T) (entries limit : ℕ) → Link T → Prog T (Outcome T)
  earlier_put_prog nil key value tag entries limit l =
      bind (walk key l.height (start l) []) (earlier_put_step nil key value tag entries limit)

-- Calls with any programs.
-- The program of each ticket, as `program` is: for the spare draws, the capacity, the entries, what is known ahead and the root link.
abbrev pub Programs : Type 0
Programs = (s : Structure) → Op s → (spares : ℕ → ℕ) → (limit entries : ℕ) → Ahead ℕ → Link ℕ → Prog ℕ (Outcome ℕ)

abbrev pub current_programs : Programs
current_programs s op = program 0 op

-- But for put they are the current ones.
unfoldable pub earlier_programs : Programs
earlier_programs s (put key value) spares limit entries a l = earlier_put_prog 0 key value (spares 0) entries limit l
earlier_programs s (get key) spares limit entries a l = program 0 (get key) spares limit entries a l
earlier_programs s (remove key) spares limit entries a l = program 0 (remove key) spares limit entries a l
earlier_programs s (push value) spares limit entries a l = program 0 (push value) spares limit entries a l
earlier_programs s pop spares limit entries a l = program 0 pop spares limit entries a l
earlier_programs s (add value) spares limit entries a l = program 0 (add value) spares limit entries a l
earlier_programs s take spares limit entries a l = program 0 take spares limit entries a l
earlier_programs s (enqueue value) spares limit entries a l = program 0 (enqueue value) spares limit entries a l
earlier_programs s dequeue spares limit entries a l = program 0 dequeue spares limit entries a l

module _ (programs : Programs) where
  -- The call's program, as `program_by`.
  abbrev pub program_with : {s : Structure} → (size rounds : ℕ) → Op s → (draw : ℕ → ℕ) → Store → Prog ℕ (Outcome ℕ)
  program_with {s} k F op draw st = programs s op (spare_tags F draw) (capacity k) st.entries st.ahead st.root

  -- Where the fetch rounds come to, as `fetched_by` says it of the current programs.
  abbrev pub fetched_with : {s : Structure} → (size rounds : ℕ) → Op s → (draw : ℕ → ℕ) → Store → Round (Outcome ℕ)
  fetched_with {s} k F op draw st = fetch_rounds s st.entries k draw F 0 (program_with k F op draw st) (begun st)

  -- A call over buckets, as `bucket_call`.
  abbrev pub bucket_call_with : {s : Structure} → (size rounds : ℕ) → Op s → (draw : ℕ → ℕ) → Store → CallLeft
  bucket_call_with {s} k F op draw st = after_fetches s k F draw st (ahead_then k F op draw st) (fetched_with k F op draw st)

  -- Its peak, as `call_peak`.
  abbrev pub peak_with : {s : Structure} → (size rounds : ℕ) → Op s → (draw : ℕ → ℕ) → Store → ℕ
  peak_with {s} k F op draw st = peak_of (rounds_with s k F draw st (program_with k F op draw st))

  -- What the rounds of an operation end in, as `by_rounds`.
  abbrev pub by_rounds_with : (st : Structure) → Op st → State → (tree tape trace : List ℕ) → Ended
  by_rounds_with st op s tree tape trace =
      ending s trace (bucket_call_with s.size (rounds st s.size) op (draw_of s.size tape) (store_of s tree))
      (peak_with s.size (rounds st s.size) op (draw_of s.size tape) (store_of s tree))

  unfoldable pub called_with : State → (tree ticket tape trace : List ℕ) → Ended
  called_with s tree ticket tape trace = called_by every refusing by_rounds_with s tree ticket tape trace

-- The same checks and refusals; the earlier programs.
abbrev pub called_before_full_put : State → (tree ticket tape trace : List ℕ) → Ended
called_before_full_put = called_with earlier_programs

-- ---- change 6: no peak
pub record EarlierEnded : Type 0 where
  pub state : State
  pub reply : Reply
  pub leaves : ℕ
  pub tree : List ℕ
  pub trace : List ℕ

abbrev pub earlier_refusing : ℕ → State → (tree trace : List ℕ) → EarlierEnded
earlier_refusing n s tree trace = record { state = s; reply = Refused n; leaves = 0; tree = tree; trace = trace }

abbrev pub earlier_ending : State → List ℕ → CallLeft → EarlierEnded
earlier_ending s trace l =
    record {
      state = state_left s l;
      reply = replied l.mark l.answer;
      leaves = length l.leaves;
      tree = l.tree;
      trace = l.leaves ++ drop (length l.leaves) trace;
    }

abbrev pub earlier_by_rounds : (st : Structure) → Op st → State → (tree tape trace : List ℕ) → EarlierEnded
earlier_by_rounds st op s tree tape trace =
    earlier_ending s trace (bucket_call s.size (rounds st s.size) op (draw_of s.size tape) (store_of s tree))

-- The same checks; an outcome without a peak.
unfoldable pub called_before_peak : State → (tree ticket tape trace : List ℕ) → EarlierEnded
called_before_peak s tree ticket tape trace = called_by every earlier_refusing earlier_by_rounds s tree ticket tape trace

-- What a call brings and leaves, without its peak.
abbrev pub without_peak : Ended → EarlierEnded
without_peak e = record { state = e.state; reply = e.reply; leaves = e.leaves; tree = e.tree; trace = e.trace }

-- ---- change 8: no check 19
-- The causes but the one of that number.
unfoldable pub without : ℕ → List Check → List Check
without n [] = []
without n (c ∷ cs) = pick (eqb c.number n) cs (c ∷ without n cs)

-- The same refusals and programs; no check 19.
unfoldable pub called_before_unused_fields : State → (tree ticket tape trace : List ℕ) → Ended
called_before_unused_fields s tree ticket tape trace = called_by (without 19) refusing by_rounds s tree ticket tape trace
