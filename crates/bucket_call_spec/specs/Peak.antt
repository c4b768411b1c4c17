-- Document 02, change 6, how near to overflow: the rounds of a call, one by one; how many nodes wait and are held at the close of each; and the
-- largest of these numbers, the call's peak (the paper's figure; in the field, peak stash occupancy).
use Rattle.std.specs.Prelude.{ℕ, zero, suc, List, [], ◌∷◌, ◌++◌}
use Rattle.list_spec.specs.Largest.{largest}
use Rattle.method_spec.specs.Prog.{Prog, done, want}
use Rattle.method_spec.specs.Answer.{Structure, Op}
use Rattle.method_spec.specs.Rounds.{put_draw}
use Rattle.method_spec.specs.Outcome.{Outcome}
use Rattle.round_spec.specs.Whole.{listed}
use Rattle.bucket_call_spec.specs.Fetch.{Going, Round, on, shut, count_at_close, fetch_round, fetch_rounds}
use Rattle.bucket_call_spec.specs.Call.{Store, stepped, begun, program_by}

module _ {A : Type 0} where
  -- A round and, if it went on, those that follow it.
  unfoldable pub then_rounds : Round A → (Going → Prog ℕ A → List (Round A)) → List (Round A)
  then_rounds (shut m g) f = shut m g ∷ []
  then_rounds (on g q) f = on g q ∷ f g q

  -- n rounds from draw i on, each as it came out, up to one that closes the store. A put round is one of a program that is done.
  unfoldable pub rounds_from : Structure → (entries size : ℕ) → (draw : ℕ → ℕ) → (n i : ℕ) → Prog ℕ A → Going → List (Round A)
  rounds_from s e k draw zero i p g = []
  rounds_from s e k draw (suc n) i p g =
      then_rounds (fetch_round s e k (draw i) p g) (λ g q. rounds_from s e k draw n (suc i) q g)

  -- The numbers at the closes of those that closed.
  unfoldable pub counts_of : List (Round A) → List ℕ
  counts_of [] = []
  counts_of (r ∷ rs) = listed (count_at_close r) ++ counts_of rs

  -- The largest of these numbers, 0 if none closed.
  abbrev pub peak_of : List (Round A) → ℕ
  peak_of rs = largest (counts_of rs)

  -- The peak of one round: its number, 0 if it did not close.
  abbrev pub peak_at : Round A → ℕ
  peak_at r = peak_of (r ∷ [])

-- The put rounds of a call, by where its fetch rounds came to.
unfoldable pub puts_after : Structure → (size rounds : ℕ) → (draw : ℕ → ℕ) → Store → Round (Outcome ℕ) → List (Round (Outcome ℕ))
puts_after s k F draw st (shut m g) = []
puts_after s k F draw st (on g (want w c)) = []
puts_after s k F draw st (on g (done o)) =
    rounds_from s st.entries k draw F (put_draw s F 0) (done o) (stepped o g)

-- The rounds of a call with that program: fetch rounds, then put rounds.
abbrev pub rounds_with : Structure → (size rounds : ℕ) → (draw : ℕ → ℕ) → Store → Prog ℕ (Outcome ℕ) → List (Round (Outcome ℕ))
rounds_with s k F draw st p =
    rounds_from s st.entries k draw F 0 p (begun st)
    ++ puts_after s k F draw st (fetch_rounds s st.entries k draw F 0 p (begun st))

abbrev pub call_rounds : {s : Structure} → (size rounds : ℕ) → Op s → (draw : ℕ → ℕ) → Store → List (Round (Outcome ℕ))
call_rounds {s} k F op draw st = rounds_with s k F draw st (program_by k F op draw st)

-- What a call returns.
abbrev pub call_peak : {s : Structure} → (size rounds : ℕ) → Op s → (draw : ℕ → ℕ) → Store → ℕ
call_peak k F op draw st = peak_of (call_rounds k F op draw st)
