-- A call depends on its own draws alone: two that agree on them come to the same, round by round.
use Rattle.std.specs.Prelude.{◌≡◌}
use Rattle.std.proofs.Math.Path.{refl, ap}
use Rattle.std.proofs.Common.{◌∙◌, arith}
use Prim.Native.Nat.{ℕ, zero, suc, ◌+◌, ◌*◌, ◌≤◌, ◌<◌}
use Rattle.method_spec.specs.Node.{Ahead}
use Rattle.method_spec.specs.Prog.{Prog, done, want}
use Rattle.method_spec.specs.Answer.{Structure, Op}
use Rattle.method_spec.specs.Rounds.{spare, put_draw}
use Rattle.method_spec.specs.Outcome.{Outcome}
use Rattle.method_spec.specs.Call.{capacity, spare_tags}
use Rattle.run_laws.specs.Calls.{AgreeOn, program-agrees, ahead-agrees}
use Rattle.bucket_call_spec.specs.Fetch.{Going, Round, on, shut, idle_round, fetch_round, fetch_rounds}
use Rattle.bucket_call_spec.specs.Call.{Store, stepped, begun, put_rounds, after_puts, after_fetches, program_by, fetched_by, ahead_then, bucket_call}
use Rattle.bucket_call_spec.specs.Peak.{then_rounds, rounds_from, puts_after, call_rounds, peak_of, call_peak}

-- Two sequences of draws that agree below a number.
abbrev pub AgreeBelow : (most : ℕ) (x y : ℕ → ℕ) → Type 0
AgreeBelow most x y = (d : ℕ) → d < most → x d ≡ y d

module _ (most : ℕ) (x y : ℕ → ℕ) (same : AgreeBelow most x y) where
  module _ {A : Type 0} (s : Structure) (e k : ℕ) where
    fetches-same : (n i : ℕ) (p : Prog ℕ A) (g : Going) → i + n ≤ most → fetch_rounds s e k x n i p g ≡ fetch_rounds s e k y n i p g
    unfolding fetch_rounds
    fetches-same zero i p g within = refl
    fetches-same (suc n) i p g within =
        go (fetch_round s e k (y i) p g) refl (λ h q. fetches-same n (suc i) q h (omega arith))
      where
        go : (r : Round A) → fetch_round s e k (y i) p g ≡ r
            → ((h : Going) (q : Prog ℕ A) → fetch_rounds s e k x n (suc i) q h ≡ fetch_rounds s e k y n (suc i) q h)
            → fetch_rounds s e k x (suc n) i p g ≡ fetch_rounds s e k y (suc n) i p g
        go (on h q) came later = rw (same i (omega arith), came) (later h q)
        go (shut m h) came later = rw (same i (omega arith), came)

    rounds-same : (n i : ℕ) (p : Prog ℕ A) (g : Going) → i + n ≤ most → rounds_from s e k x n i p g ≡ rounds_from s e k y n i p g
    unfolding rounds_from then_rounds
    rounds-same zero i p g within = refl
    rounds-same (suc n) i p g within =
        go (fetch_round s e k (y i) p g) refl (λ h q. rounds-same n (suc i) q h (omega arith))
      where
        go : (r : Round A) → fetch_round s e k (y i) p g ≡ r
            → ((h : Going) (q : Prog ℕ A) → rounds_from s e k x n (suc i) q h ≡ rounds_from s e k y n (suc i) q h)
            → rounds_from s e k x (suc n) i p g ≡ rounds_from s e k y (suc n) i p g
        go (on h q) came later = rw (same i (omega arith), came, later h q)
        go (shut m h) came later = rw (same i (omega arith), came)

  puts-same : (k n d : ℕ) (o : Outcome ℕ) (g : Going) → d + n ≤ most → put_rounds k x n d o g ≡ put_rounds k y n d o g
  unfolding put_rounds
  puts-same k zero d o g within = refl
  puts-same k (suc n) d o g within =
      go (idle_round k (y d) (done o) g) refl (λ h. puts-same k n (suc d) o h (omega arith))
    where
      go : (r : Round (Outcome ℕ)) → idle_round k (y d) (done o) g ≡ r
          → ((h : Going) → put_rounds k x n (suc d) o h ≡ put_rounds k y n (suc d) o h)
          → put_rounds k x (suc n) d o g ≡ put_rounds k y (suc n) d o g
      go (on h q) came later = rw (same d (omega arith), came) (later h)
      go (shut m h) came later = rw (same d (omega arith), came)

-- ---- a call with F fetch and F put rounds
module _ {s : Structure} (k F : ℕ) (op : Op s) (x y : ℕ → ℕ) (st : Store) (same : AgreeBelow (2 * F + spare s) x y) where
  spares-same : AgreeOn s (spare_tags F x) (spare_tags F y)
  spares-same i h = same (F + i) (omega arith)

  program-same : program_by k F op x st ≡ program_by k F op y st
  program-same = program-agrees 0 op (spare_tags F x) (spare_tags F y) (capacity k) st.entries st.ahead st.root spares-same

  ahead-same : ahead_then k F op x st ≡ ahead_then k F op y st
  ahead-same = ahead-agrees 0 op (spare_tags F x) (spare_tags F y) (capacity k) st.entries st.ahead spares-same

  fetched-same : fetched_by k F op x st ≡ fetched_by k F op y st
  fetched-same =
      fetches-same (2 * F + spare s) x y same s st.entries k F 0 (program_by k F op x st) (begun st) (omega arith)
      ∙ ap (λ (p : Prog ℕ (Outcome ℕ)). fetch_rounds s st.entries k y F 0 p (begun st)) program-same

  after_same : (a : Ahead ℕ) (r : Round (Outcome ℕ)) → after_fetches s k F x st a r ≡ after_fetches s k F y st a r
  unfolding after_fetches
  after_same a (shut m g) = refl
  after_same a (on g (want w c)) = refl
  after_same a (on g (done o)) =
      ap (after_puts a o) (puts-same (2 * F + spare s) x y same k F (put_draw s F 0) o (stepped o g) (omega arith))

  pub same-draws-call : bucket_call k F op x st ≡ bucket_call k F op y st
  unfolding bucket_call
  same-draws-call = rw (ahead-same, fetched-same) (after_same (ahead_then k F op y st) (fetched_by k F op y st))

  puts-after-same : (r : Round (Outcome ℕ)) → puts_after s k F x st r ≡ puts_after s k F y st r
  unfolding puts_after
  puts-after-same (shut m g) = refl
  puts-after-same (on g (want w c)) = refl
  puts-after-same (on g (done o)) =
      rounds-same (2 * F + spare s) x y same s st.entries k F (put_draw s F 0) (done o) (stepped o g) (omega arith)

  pub same-draws-rounds : call_rounds k F op x st ≡ call_rounds k F op y st
  same-draws-rounds =
      let first = rounds-same (2 * F + spare s) x y same s st.entries k F 0 (program_by k F op y st) (begun st) (omega arith) in
      rw (fetched-same, program-same, first, puts-after-same (fetched_by k F op y st))

  pub same-draws-peak : call_peak k F op x st ≡ call_peak k F op y st
  same-draws-peak = ap peak_of same-draws-rounds
