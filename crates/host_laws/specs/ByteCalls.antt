-- Demand 1 for a C host: one call on any bytes of a state.
use Rattle.std.specs.Prelude.{◌≡◌, Bool, not, ◌⊎◌, List, ◌++◌, ℕ, zero, suc, ◌^◌, ◌≤◌, ◌<◌}
use Rattle.std.proofs.Math.Path.{refl, ap, subst⁻¹}
use Rattle.std.proofs.Common.{sym, ◌∙◌, inl, inr, length-append}
use Rattle.std.proofs.Math.Bool.{true, false}
use Rattle.std.proofs.Math.Option.{some}
use native.Mathlib.Omega.{arith}
use Rattle.std.proofs.Math.Dec.{eqb}
use Rattle.std.proofs.Math.ListN.{length}
use borrow.Author.Tests.{ne_eqb, lt-leb}
use Rattle.list_spec.specs.Choice.{pick}
use Rattle.slot_spec.specs.LittleEndian.{Bytes}
use Rattle.method_spec.specs.Answer.{Structure, Op}
use Rattle.method_spec.specs.Outcome.{Outcome}
use Rattle.method_spec.specs.Prog.{Prog}
use Rattle.method_spec.specs.Rounds.{rounds}
use Rattle.run_laws.specs.RoundsLaws.{some-rounds}
use Rattle.bucket_call_spec.specs.Fetch.{Going, Round, on, shut}
use Rattle.bucket_call_spec.specs.Call.{draw_of, begun, program_by, fetched_by}
use Rattle.bucket_call_spec.specs.Peak.{then_rounds, rounds_from, puts_after}
use Rattle.state_spec.specs.declared.State.{State}
use Rattle.state_spec.specs.Fit.{places}
use Rattle.state_spec.specs.Ticket.{op_in, structure_of}
use Rattle.fitness_laws.specs.FitState.{fit-state}
use Rattle.call_spec.specs.Reply.{Reply, Answered, Refused}
use Rattle.call_spec.proofs.Meanings.{answered-number}
use Rattle.call_spec.specs.Store.{Ended, called, store_of}
use Rattle.promise_spec.specs.Peaks.{Made, none_made, made}
use Rattle.call_peak_laws.specs.Theorems.{peak-is-largest}
use Rattle.lent_bytes_spec.specs.Numbers.{numbers_of}
use Rattle.lent_bytes_spec.specs.StateBytes.{state_length, head_in, state_in, state_bytes, fit_bytes}
use Rattle.lent_bytes_laws.specs.StateLaws.{StateKept, fit-bytes}
use Rattle.lent_bytes_laws.specs.KeptBytes.{bytes-kept, key-low}
use Rattle.demand_spec.specs.History.{changes_nothing, early, pairs_in}
use Rattle.demand_spec.specs.Demands.{NoneLost, Demand1}
use Rattle.demand_laws.specs.Proved.{demand1}
use Rattle.host_spec.specs.Result.{reply_number, reply_value, result_bytes}
use Rattle.host_spec.specs.Host.{HostEnded, lengths_good, host_leaving, host_ended_as, host_called}
use Rattle.promise_spec.specs.HostHistory.{mark_in, changes_no_byte}
use Rattle.promise_spec.specs.HostDemands.{HostStaysClosed, ResultSays, HostDemand1}
use Rattle.host_laws.specs.LengthLaws.{good-lengths}
use Rattle.host_laws.specs.LeftStates.{LeftKept, kept-widths, called-left, called-shown, called-peak, left-length, mark-is, same-pairs}
use Rattle.host_laws.specs.Theorems.{refused-unchanged}

-- ---- a call that counts reveals a leaf
some-round : {A : Type 0} (r : Round A) (f : Going → Prog ℕ A → List (Round A)) → 1 ≤ length (then_rounds r f)
unfolding then_rounds
some-round (shut m g) f = omega arith
some-round (on g q) f = omega arith

more_left : {A : Type 0} (xs ys : List A) → 1 ≤ length xs → 1 ≤ length (xs ++ ys)
more_left xs ys h = omega (arith, length-append xs ys)

first_round : (st : Structure) (F : ℕ) → 1 ≤ F → (entries k : ℕ) (draw : ℕ → ℕ) (i : ℕ) (p : Prog ℕ (Outcome ℕ)) (g : Going)
    → 1 ≤ length (rounds_from st entries k draw F i p g)
unfolding rounds_from
first_round st zero at_least_lem entries k draw i p g = let z : ⊥ = omega arith in absurd z
first_round st (suc n) at_least_lem entries k draw i p g = some-round _ _

pub counted-shows : (s : State) (tree ticket tape trace : List ℕ) → early (called s tree ticket tape trace).reply ≡ false
    → 1 ≤ s.size → 1 ≤ (called s tree ticket tape trace).leaves
unfolding early
counted-shows s tree ticket tape trace late positive =
    let peaks = peak-is-largest s tree ticket tape trace in
    omega (arith, peaks.one_each, go peaks.listed peaks.made_so)
  where
    st : Structure
    st = structure_of s.structure

    go : (rs : List (Round (Outcome ℕ))) → Made s tree ticket tape trace rs → 1 ≤ length rs
    go rs (none_made n quiet r) =
        let z : true ≡ false = sym quiet ∙ ap early (sym r) ∙ late in
        let y : ◌≡◌ {A = ℕ} 0 1 = cc in absurd (omega arith)
    go rs (made op asks q) =
        let F = rounds st s.size in
        let draw = draw_of s.size tape in
        let store = store_of s tree in
        more_left (rounds_from st s.entries s.size draw F 0 (program_by s.size F op draw store) (begun store))
        (puts_after st s.size F draw store (fetched_by s.size F op draw store))
        (first_round st F (some-rounds st s.size positive) s.entries s.size draw 0 (program_by s.size F op draw store) (begun store))

-- ---- the numbers of replies
-- A number other than 0 is a refusal's.
pub refused-with : (r : Reply) (n : ℕ) → reply_number r ≡ n → 1 ≤ n → r ≡ Refused n
refused-with (Answered a) n e at_least_lem = let z : ⊥ = omega (arith, e, answered-number a) in absurd z
refused-with (Refused m) n e at_least_lem = ap Refused e

-- Answers, 8, 9 and 10 count.
late-number : (r : Reply) → (reply_number r ≡ 0) ⊎ ((8 ≤ reply_number r) × (reply_number r ≤ 10)) → ((n : ℕ) → r ≡ Refused n → 1 ≤ n) → early r ≡ false
unfolding early
late-number (Answered a) h positive = refl
late-number (Refused n) (inl z) positive = let y : ⊥ = omega (arith, positive n refl) in absurd y
late-number (Refused n) (inr h) positive = rw (lt-leb n 7 (omega arith), ne_eqb n 17 (λ z. omega arith), ne_eqb n 19 (λ z. omega arith))

-- ---- one call
module _ (state tree ticket tape trace result : List ℕ) (state-bytes : Bytes state) (tree-bytes : Bytes tree) (ticket-bytes : Bytes ticket)
    (trace-bytes : Bytes trace) where
  abbrev left : HostEnded
  left = host_called state tree ticket tape trace result

  abbrev s : State
  s = state_in state

  abbrev e : Ended
  e = called s tree ticket (numbers_of tape) (numbers_of trace)

  abbrev one : Demand1 s tree ticket (numbers_of tape) (numbers_of trace)
  one = demand1 s tree ticket (numbers_of tape) (numbers_of trace)

  -- 18, 1 and 2 come before the existing call.
  data HostVerdict (h : HostEnded) : Type 0 where
    not_made : (n : ℕ) → (n ≡ 18) ⊎ ((n ≡ 1) ⊎ (n ≡ 2)) → h ≡ host_leaving n state tree trace result → HostVerdict h
    made-on : length state ≡ state_length → fit_bytes state ≡ true → h ≡ host_ended_as result e → HostVerdict h

  verdict : HostVerdict left
  unfolding host_called
  verdict = go (lengths_good (length state) (length tape) (length trace) (length result)) refl (eqb (head_in state).mark 0) (fit_bytes state) refl
    where
      go : (a : Bool) → lengths_good (length state) (length tape) (length trace) (length result) ≡ a → (b c : Bool) → fit_bytes state ≡ c
          → HostVerdict (pick (not a) (host_leaving 18 state tree trace result)
          (pick (not b) (host_leaving 1 state tree trace result) (pick (not c) (host_leaving 2 state tree trace result) (host_ended_as result e))))
      go false ea b c ec = not_made 18 (inl refl) refl
      go true ea false c ec = not_made 1 (inr (inl refl)) refl
      go true ea true false ec = not_made 2 (inr (inr refl)) refl
      go true ea true true ec = made-on (good-lengths (length state) (length tape) (length trace) (length result) ea).state-long ec refl

  -- The number is none of 18, 1 and 2.
  abbrev Counts : ℕ → Type 0
  Counts n = (n ≡ 0) ⊎ ((8 ≤ n) × (n ≤ 10))

  not-these : {n m : ℕ} → (m ≡ 18) ⊎ ((m ≡ 1) ⊎ (m ≡ 2)) → n ≡ m → Counts n → ⊥
  not-these (inl z) e (inl c) = omega arith
  not-these (inl z) e (inr c) = omega arith
  not-these (inr (inl z)) e (inl c) = omega arith
  not-these (inr (inl z)) e (inr c) = omega arith
  not-these (inr (inr z)) e (inl c) = omega arith
  not-these (inr (inr z)) e (inr c) = omega arith

  closing-counts : {n : ℕ} → (n ≡ 8) ⊎ (n ≡ 9) → Counts n
  closing-counts (inl z) = inr (omega arith, omega arith)
  closing-counts (inr z) = inr (omega arith, omega arith)

  -- What a fit byte state gives.
  module _ (long : length state ≡ state_length) (fit : fit_bytes state ≡ true) where
    kept : StateKept s
    kept = bytes-kept state state-bytes long

    low : s.ahead.key < 2 ^ 32
    low = key-low state state-bytes long (fit-bytes state fit).key

    few : s.count ≤ places
    few = omega (arith, (fit-state s (fit-bytes state fit).fit).few)

    left-kept : LeftKept e.state
    left-kept = called-left s kept low few tree ticket (numbers_of tape) (numbers_of trace) tree-bytes ticket-bytes

    closed-by : (n : ℕ) → left ≡ host_ended_as result e → e.reply ≡ Refused n → (n ≡ 8) ⊎ (n ≡ 9) → HostStaysClosed state tree ticket tape trace result n
    unfolding host_called
    closed-by n q r c =
        let m : e.state.mark ≡ n = (one.stays_closed n r c).0 in
        let marked : (head_in (state_bytes e.state)).mark ≡ n = mark-is e.state left-kept ∙ m in
        let shut : eqb (head_in (state_bytes e.state)).mark 0 ≡ false = ne_eqb _ 0 (λ z. closes c (sym marked ∙ z)) in
        record {
          marked = ap (λ (h : HostEnded). (head_in h.state).mark) q ∙ marked;
          long = ap (λ (h : HostEnded). length h.state) q ∙ left-length e.state left-kept;
          later = λ tree' ticket' tape' trace' result' good.
              subst⁻¹ (λ (h : HostEnded). host_called h.state tree' ticket' tape' trace' result' ≡ host_leaving 1 h.state tree' trace' result') q
              (rw (left-length e.state left-kept, good, shut));
        }
      where
        closes : (n ≡ 8) ⊎ (n ≡ 9) → n ≡ 0 → ⊥
        closes (inl z) y = omega arith
        closes (inr z) y = omega arith

    says_all : left ≡ host_ended_as result e → early e.reply ≡ false → ResultSays state tree ticket tape trace result
    says_all q late =
        let shows = counted-shows s tree ticket (numbers_of tape) (numbers_of trace) late (fit-state s (fit-bytes state fit).fit).size.0 in
        let most = called-shown s kept low few tree ticket (numbers_of tape) (numbers_of trace) tree-bytes ticket-bytes in
        let shown : eqb e.leaves 0 ≡ false = ne_eqb e.leaves 0 (λ z. omega (arith, z, shows)) in
        record {
          some-leaf = shows;
          leaves-fit = omega (arith, most);
          peak-fits = called-peak s kept low few tree ticket (numbers_of tape) (numbers_of trace) tree-bytes ticket-bytes;
          filled = ap (λ (h : HostEnded). h.result) q ∙ rw shown;
        }

    keeps-all : left ≡ host_ended_as result e → (n : ℕ) → e.reply ≡ Refused n → (n ≡ 8) ⊎ (n ≡ 9) → (op : Op (structure_of s.structure))
        → op_in (structure_of s.structure) ticket ≡ some op
        → NoneLost s tree ticket (numbers_of tape) (numbers_of trace) (structure_of s.structure) op (pairs_in (state_in left.state) left.tree)
    keeps-all q n r c op asks =
        let same : pairs_in (state_in left.state) left.tree ≡ pairs_in e.state e.tree =
        ap (λ (h : HostEnded). pairs_in (state_in h.state) h.tree) q ∙ same-pairs e.state left-kept e.tree in
        rw same (one.none-lost tree-bytes ticket-bytes (kept-widths s kept low) n r c op asks)

  -- Where the call was made and returned n, its reply says it.
  made-number : left ≡ host_ended_as result e → left.number ≡ reply_number e.reply
  made-number q = ap (λ (h : HostEnded). h.number) q

  some_number : (n : ℕ) → e.reply ≡ Refused n → 1 ≤ n
  some_number n r = go (one.one-reply n r)
    where
      go : ((1 ≤ n) × (n ≤ 10)) ⊎ ((n ≡ 17) ⊎ (n ≡ 19)) → 1 ≤ n
      go (inl x) = x.0
      go (inr (inl x)) = omega arith
      go (inr (inr x)) = omega arith

  pub host-demand1 : HostDemand1 state tree ticket tape trace result
  host-demand1 =
      record {
        one_number = number verdict;
        unchanged = λ at_least_lem quiet. refused-unchanged state tree ticket tape trace result state-bytes trace-bytes left.number at_least_lem refl quiet;
        stays_closed = λ n is c. closed n is c verdict;
        says = λ c. says c verdict;
        none-lost = λ c op asks. none-lost c op asks verdict;
      }
    where
      of-reply : (r : Reply) → e.reply ≡ r → (reply_number r ≤ 10) ⊎ ((reply_number r ≡ 17) ⊎ ((reply_number r ≡ 18) ⊎ (reply_number r ≡ 19)))
      of-reply (Answered a) er = inl (omega (arith, answered-number a))
      of-reply (Refused n) er = by (one.one-reply n er)
        where
          by : ((1 ≤ n) × (n ≤ 10)) ⊎ ((n ≡ 17) ⊎ (n ≡ 19)) → (n ≤ 10) ⊎ ((n ≡ 17) ⊎ ((n ≡ 18) ⊎ (n ≡ 19)))
          by (inl x) = inl x.1
          by (inr (inl x)) = inr (inl x)
          by (inr (inr x)) = inr (inr (inr x))

      number : HostVerdict left → (left.number ≤ 10) ⊎ ((left.number ≡ 17) ⊎ ((left.number ≡ 18) ⊎ (left.number ≡ 19)))
      number (not_made n (inl z) q) = inr (inr (inl (ap (λ (h : HostEnded). h.number) q ∙ z)))
      number (not_made n (inr (inl z)) q) = inl (omega (arith, ap (λ (h : HostEnded). h.number) q, z))
      number (not_made n (inr (inr z)) q) = inl (omega (arith, ap (λ (h : HostEnded). h.number) q, z))
      number (made-on long fit q) = rw (made-number q) (of-reply e.reply refl)

      closed : (n : ℕ) → left.number ≡ n → (n ≡ 8) ⊎ (n ≡ 9) → HostVerdict left → HostStaysClosed state tree ticket tape trace result n
      closed n is c (not_made m h q) = absurd (not-these h (sym is ∙ ap (λ (h : HostEnded). h.number) q) (closing-counts c))
      closed n is c (made-on long fit q) =
          closed-by long fit n q (refused-with e.reply n (sym (made-number q) ∙ is) (positive c)) c
        where
          positive : (n ≡ 8) ⊎ (n ≡ 9) → 1 ≤ n
          positive (inl z) = omega arith
          positive (inr z) = omega arith

      says : Counts left.number → HostVerdict left → ResultSays state tree ticket tape trace result
      says c (not_made m h q) = absurd (not-these h (ap (λ (h : HostEnded). h.number) q) c)
      says c (made-on long fit q) = says_all long fit q (late-number e.reply (rw (made-number q) at c) some_number)

      none-lost : (left.number ≡ 8) ⊎ (left.number ≡ 9) → (op : Op (structure_of s.structure)) → op_in (structure_of s.structure) ticket ≡ some op
          → HostVerdict left
          → NoneLost s tree ticket (numbers_of tape) (numbers_of trace) (structure_of s.structure) op (pairs_in (state_in left.state) left.tree)
      none-lost c op asks (not_made m h q) = absurd (not-these h (ap (λ (h : HostEnded). h.number) q) (closing-counts c))
      none-lost c op asks (made-on long fit q) = by c
        where
          number_is : (n : ℕ) → left.number ≡ n → 1 ≤ n → e.reply ≡ Refused n
          number_is n is at_least_lem = refused-with e.reply n (sym (made-number q) ∙ is) at_least_lem

          by : (left.number ≡ 8) ⊎ (left.number ≡ 9)
              → NoneLost s tree ticket (numbers_of tape) (numbers_of trace) (structure_of s.structure) op (pairs_in (state_in left.state) left.tree)
          by (inl z) = keeps-all long fit q 8 (number_is 8 z (omega arith)) (inl refl) op asks
          by (inr z) = keeps-all long fit q 9 (number_is 9 z (omega arith)) (inr refl) op asks
