-- A call looks at no more of its tape than its draws, and at no more of its trace buffer than the length and what it writes.
use Rattle.std.specs.Prelude.{◌≡◌, refl, Bool, true, false, List, ◌++◌, ℕ, ◌*◌, ◌^◌, ◌%◌, ◌≤◌, min, ltb, length, take, drop}
use Rattle.std.proofs.Common.{ap, arith, ltb-true, ltb-false, lt-ltb, le-ltb, length-append, length-drop, get_or-take}
use Rattle.std.proofs.Math.ListN.{length-take}
use Rattle.std.proofs.Math.Seq.{take-append_seam}
use Rattle.method_spec.specs.Answer.{Structure, Op}
use Rattle.method_spec.specs.Rounds.{rounds, draws}
use Rattle.bucket_call_spec.specs.Fetch.{CallLeft}
use Rattle.bucket_call_spec.specs.Call.{draw_of, bucket_call}
use Rattle.bucket_call_spec.specs.Peak.{call_peak}
use Rattle.state_spec.specs.declared.State.{State}
use Rattle.state_spec.specs.Fetching.{rounds_of, draws_of}
use Rattle.state_spec.specs.Ticket.{op_in, structure_of}
use Rattle.call_spec.specs.Store.{Ended, store_of, refusing, ending, by_rounds, checks, first_met, called}
use Rattle.check_laws.specs.Decided.{decided-both, causes, asks-some}
use Rattle.tape_laws.specs.SameDraws.{AgreeBelow, same-draws-call, same-draws-peak}

-- What a call would leave of another trace buffer.
abbrev pub on_trace : List ℕ → Ended → Ended
on_trace trace e =
    record {
      state = e.state;
      reply = e.reply;
      leaves = e.leaves;
      peak = e.peak;
      tree = e.tree;
      trace = take e.leaves e.trace ++ drop e.leaves trace;
    }

-- ---- what is cut is not looked at

-- A tape cut to its draws has them still.
cut-draws : (k most : ℕ) (tape : List ℕ) → AgreeBelow most (draw_of k (take most tape)) (draw_of k tape)
cut-draws k most tape d h = ap (λ (n : ℕ). n % 2 ^ k) (get_or-take most tape d 0 h)

-- A length cut to a number is below it where the length was.
cut_below : (a b n : ℕ) → a ≡ min b n → ltb a n ≡ ltb b n
cut_below a b n h = go (ltb b n) refl
  where
    go : (t : Bool) → ltb b n ≡ t → ltb a n ≡ t
    go true e = let below = ltb-true b n e in lt-ltb a n (omega arith)
    go false e = let above = ltb-false b n e in le-ltb a n (omega arith)

-- ---- by the tests of a call

-- A call's ending with a cut tape and buffer, and with the whole ones.
record Cuts (trace : List ℕ) (e whole : Ended) : Type 0 where
  same : on_trace trace e ≡ whole
  within : length whole.trace ≡ length trace → whole.leaves ≤ length trace

module _ (s : State) (tree trace trace' : List ℕ) where
  refuses : (n : ℕ) → Cuts trace (refusing n s tree trace') (refusing n s tree trace)
  refuses n = record { same = refl; within = λ h. omega arith }

  ends : (l : CallLeft) (peak : ℕ) → Cuts trace (ending s trace' l peak) (ending s trace l peak)
  ends l peak =
      let n = length l.leaves in
      record {
        same = rw (take-append_seam l.leaves (drop n trace'));
        within = λ h. omega (arith, length-append l.leaves (drop n trace), length-drop n trace);
      }

  module _ (ticket tape : List ℕ) (enough : length trace' ≡ min (length trace) (2 * rounds_of s.structure s.size)) where
    abbrev st : Structure
    st = structure_of s.structure

    abbrev cut : List ℕ
    cut = take (draws st s.size) tape

    -- The same cause is the first that is met.
    same-causes : causes s tree ticket cut trace' ≡ causes s tree ticket tape trace
    unfolding checks
    same-causes =
        rw (
          cut_below (length cut) (length tape) (draws st s.size) (omega (arith, length-take (draws st s.size) tape)),
          cut_below (length trace') (length trace) (2 * rounds st s.size) enough,
        )

    rounds-cut : (op : Op st) → Cuts trace (by_rounds st op s tree cut trace') (by_rounds st op s tree tape trace)
    rounds-cut op =
        let k = s.size in
        let F = rounds st k in
        let x = draw_of k cut in
        let y = draw_of k tape in
        let store = store_of s tree in
        let agree = cut-draws k (draws st k) tape in
        rw (same-draws-call k F op x y store agree, same-draws-peak k F op x y store agree) (ends (bucket_call k F op y store) (call_peak k F op y store))

    called-cuts : Cuts trace (called s tree ticket cut trace') (called s tree ticket tape trace)
    unfolding called
    called-cuts =
        rw same-causes
        (decided-both (Cuts trace) (first_met (causes s tree ticket tape trace)) (op_in st ticket) (asks-some s tree ticket tape trace) (λ n e. refuses n)
        (λ op e asked. rounds-cut op))

-- A call with its tape cut to its draws, and with another buffer that is as long or has room for its leaves, is the same call.
pub called-cut : (s : State) (tree ticket tape tape' trace trace' : List ℕ)
    → tape' ≡ take (draws_of s.structure s.size) tape
    → length trace' ≡ min (length trace) (2 * rounds_of s.structure s.size)
    → on_trace trace (called s tree ticket tape' trace') ≡ called s tree ticket tape trace
called-cut s tree ticket tape tape' trace trace' cut enough =
    rw cut (called-cuts s tree trace trace' ticket tape enough).same

-- A call that keeps the buffer's length reveals no more leaves than the buffer has numbers.
pub leaves-within : (s : State) (tree ticket tape trace : List ℕ)
    → length (called s tree ticket tape trace).trace ≡ length trace → (called s tree ticket tape trace).leaves ≤ length trace
leaves-within s tree ticket tape trace =
    let most = 2 * rounds_of s.structure s.size in
    (called-cuts s tree trace (take most trace) ticket tape (omega (arith, length-take most trace))).within
