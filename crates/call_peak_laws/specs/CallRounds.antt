-- The rounds of a call over buckets, listed: one for each leaf that it revealed, and a peak above the limit exactly where it left the mark 9; then it is the
-- number that it left waiting.
use Rattle.std.specs.Prelude.{◌≡◌, refl, ◌⊎◌, List, [], ◌++◌, ℕ}
use Rattle.std.proofs.Common.{sym, ◌∙◌, inl, inr, append-nil, arith}
use Rattle.std.proofs.Math.Path.{ap}
use Rattle.std.proofs.Math.ListN.{length, length-append}
use Rattle.std.proofs.lemmas.List.{length-map}
use Rattle.list_laws.specs.PermLaws.{perm-length}
use Rattle.method_spec.specs.Node.{Link, Ahead}
use Rattle.method_spec.specs.Prog.{done, want}
use Rattle.method_spec.specs.Answer.{Structure, Op}
use Rattle.method_spec.specs.Rounds.{put_draw}
use Rattle.method_spec.specs.Outcome.{Outcome}
use Rattle.bucket_call_spec.specs.Fetch.{Held, Going, CallLeft, moved_node, moved_nodes, total, Round, on, shut, closing}
use Rattle.round_laws.specs.Lists.{join-perm}
use Rattle.leaf_spec.specs.Leaf.{leaf_format}
use Rattle.bucket_call_spec.specs.Call.{Store, put_rounds, after_puts, stepped, after_fetches, begun, program_by, fetched_by, ahead_then, bucket_call}
use Rattle.bucket_call_spec.specs.Peak.{rounds_from, peak_of, puts_after, call_rounds}
use Rattle.peak_laws.specs.PeakLaws.{peak-append}
use Rattle.call_peak_laws.specs.Listed.{ByMark, Within, leaves_in, within-max, fetches-listed, puts-listed}

-- What holds of the rounds of a call that left that.
pub record Rounds (l : CallLeft) (rs : List (Round (Outcome ℕ))) : Type 0 where
  pub one_each : length rs ≡ length l.leaves
  pub by-mark : ByMark l.mark (peak_of rs) (length l.waiting)

-- A fetch round was the last.
no-puts : {l : CallLeft} (rs : List (Round (Outcome ℕ))) → length rs ≡ length l.leaves → ByMark l.mark (peak_of rs) (length l.waiting) → Rounds l (rs ++ [])
no-puts rs one by = record { one_each = rw (append-nil rs) one; by-mark = rw (append-nil rs) by }

-- A store that is closed lets all its nodes wait.
all-wait : (m entries : ℕ) (l : Link ℕ) (a : Ahead ℕ) (g : Going) → length (closing m entries l a g).waiting ≡ total g
unfolding closing
all-wait m entries l a g =
    perm-length (join-perm leaf_format (moved_nodes g.held) g.waiting)
    ∙ length-append (moved_nodes g.held) g.waiting
    ∙ omega (arith, length-map g.held (λ (h : Held). moved_node g.held h.node))

put-ends : (a : Ahead ℕ) (o : Outcome ℕ) (y : Round (Outcome ℕ)) {n : ℕ} → Within y n
    → ByMark (after_puts a o y).mark n (length (after_puts a o y).waiting) × ((after_puts a o y).leaves ≡ leaves_in y)
unfolding after_puts closing
put-ends a o (shut m g) h = (rw (all-wait m o.entries o.root a g) h, refl)
put-ends a o (on g p) h = (inr ((λ e. omega arith), h), refl)

module _ (s : Structure) (k F : ℕ) (draw : ℕ → ℕ) (st : Store) (a : Ahead ℕ) where
  then-rounds : (x : Round (Outcome ℕ)) (rs : List (Round (Outcome ℕ))) → length (leaves_in x) ≡ length rs → Within x (peak_of rs)
      → Rounds (after_fetches s k F draw st a x) (rs ++ puts_after s k F draw st x)
  unfolding after_fetches puts_after closing
  then-rounds (shut m g) rs shown within = no-puts rs (sym shown) (rw (all-wait m st.entries st.root st.ahead g) within)
  then-rounds (on g (want w c)) rs shown within = no-puts rs (sym shown) (inr ((λ e. omega arith), within))
  then-rounds (on g (done o)) rs shown within =
      let puts = rounds_from s st.entries k draw F (put_draw s F 0) (done o) (stepped o g) in
      let y = put_rounds k draw F (put_draw s F 0) o (stepped o g) in
      let l = puts-listed s st.entries k draw F (put_draw s F 0) o (stepped o g) in
      let most = within-max y (peak_of rs) (peak_of puts) within (peak-append rs puts) l.within in
      let ends = put-ends a o y {n = peak_of (rs ++ puts)} most in
      record {
        one_each = length-append rs puts ∙ omega (arith, shown, l.shown) ∙ ap length (sym ends.1);
        by-mark = ends.0;
      }

pub call-rounds : {s : Structure} (k F : ℕ) (op : Op s) (draw : ℕ → ℕ) (st : Store) → Rounds (bucket_call k F op draw st) (call_rounds k F op draw st)
unfolding bucket_call
call-rounds {s} k F op draw st =
    let fetches = fetches-listed s st.entries k draw F 0 (program_by k F op draw st) (begun st) in
    then-rounds s k F draw st (ahead_then k F op draw st) (fetched_by k F op draw st) (rounds_from s st.entries k draw F 0 (program_by k F op draw st) (begun st))
    (omega (arith, fetches.shown)) fetches.within
