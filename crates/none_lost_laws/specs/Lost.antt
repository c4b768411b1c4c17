-- A call on any tree content and any waiting nodes that a fit state has loses no node: whether it answers or closes the store, the entries left
-- are those before the call, but for what the step's answer says; and it always has an answer, or damage, or overflow.
use Rattle.std.specs.Prelude.{◌≡◌, refl, Bool, List, [], ◌++◌, ℕ, suc, ◌+◌, ◌*◌, ◌^◌, ◌≤◌, ◌<◌, length}
use Rattle.std.proofs.Common.{sym, ap, subst, append-nil, arith, pow_mono}
use mathlib.Core.List.Memᴰ
use Rattle.list_spec.specs.Perm.{Perm}
use Rattle.list_laws.specs.PermLaws.{perm-refl, perm-of-eq}
use Rattle.list_laws.specs.DistinctLaws.{all_nil}
use Rattle.balance_spec.specs.Least.{least}
use Rattle.balance_spec.specs.Shape.{shaped}
use Rattle.balance_spec.specs.Greatest.{tallest, greatest}
use Rattle.balance_laws.specs.GreatestLaws.{greatest-mono}
use Rattle.method_spec.specs.Node.{Node}
use Rattle.method_spec.specs.Prog.{Want, Prog, done, want}
use Rattle.method_spec.specs.Answer as answer
use Rattle.method_spec.specs.Answer.{Structure, Op}
use Rattle.method_spec.specs.Outcome.{Outcome}
use Rattle.method_spec.specs.Plain.{Pair}
use Rattle.method_spec.specs.Rounds.{rounds, spare_draw, put_draw}
use Rattle.run_laws.specs.Safe.{Within, stops, asks}
use Rattle.method_spec.specs.Call.{capacity, program, spare_tags}
use Rattle.run_laws.specs.SafeLaws.{within_more}
use Rattle.run_laws.specs.RoundsLaws.{some-rounds}
use Rattle.run_laws.specs.HeapWithin.{heap-rounds}
use Rattle.run_laws.specs.EnoughRounds.{most_wanted, program-within}
use Rattle.round_spec.specs.Round.{join, stash_limit}
use Rattle.leaf_spec.specs.Leaf.{leaf_format, ProperLeaf}
use Rattle.bucket_call_spec.specs.Fetch.{Going, closing, Round, on, shut, fetch_rounds, total}
use Rattle.bucket_call_spec.specs.Call.{fetched_by, ahead_then, Store, put_rounds, after_puts, stepped, after_fetches, bucket_call}
use Rattle.none_lost_laws.specs.Fitting.{LinkFits, link-of-fit}
use Rattle.none_lost_laws.specs.Yields.{yields-done, yields-map, yields_both}
use Rattle.leaf_spec.specs.Entries.{OpFits, KeyLeft}
use Rattle.method_spec.specs.Changes.{value_asked, Answers, taken_out, brought_in, tracked_in}
use Rattle.none_lost_laws.specs.Changes.{most_high, Made}
use Rattle.none_lost_laws.specs.ProgramYields.{program-yields}
use Rattle.none_lost_laws.specs.Present.{program-seeks}
use Rattle.none_lost_laws.specs.Sound.{entries_with, Sound, After, goes, closes}
use Rattle.none_lost_laws.specs.Fetching.{Fetching, fetches-after}
use Rattle.none_lost_laws.specs.Putting.{Resting, puts-after, step-entries, step-total, step-sound}
use Rattle.none_lost_laws.specs.Ends.{highest, FitStore, entries_before, key_of, Keeps, Closed, StepEnds, Ends, before-step, after-step}
use Rattle.none_lost_laws.specs.Leaving.{closing-keeps, closing-mark, closing-closed, puts-end}

-- ---- sizes and rounds
-- A byte has room for the heights of every step.
high-bound : (s : Structure) (k : ℕ) → k ≤ 16 → suc (most_high (highest s k)) < 256
unfolding highest least shaped tallest greatest
high-bound answer.map k small = let most : greatest k ≤ 22 = greatest-mono small in omega arith
high-bound answer.stack k small = omega arith
high-bound answer.heap k small = omega arith
high-bound answer.queue k small = omega arith

-- A call has as many fetch rounds as its program may want nodes.
enough-rounds : (s : Structure) (k entries h : ℕ) → entries < 2 ^ k → h ≤ highest s k → most_wanted s entries h ≤ rounds s k
unfolding highest rounds
enough-rounds answer.map k entries h few low = omega arith
enough-rounds answer.stack k entries h few low = omega arith
enough-rounds answer.heap k entries h few low = heap-rounds k entries few
enough-rounds answer.queue k entries h few low = omega arith

-- ---- a call
-- The entries after the step.
abbrev pub entries_after : ℕ → Going → Outcome ℕ → List Pair
entries_after k g o = entries_with k g.tree (join leaf_format o.nodes g.waiting)

-- Where n fetch rounds end, of which so many are left.
abbrev pub FetchEnds : {s : Structure} → (k n left : ℕ) → Op s → Store → Round (Outcome ℕ) → Type 0
FetchEnds {s} k n left op st =
    After k st.root (entries_before k st) (0 + n)
    (Fetching s st.entries k st.root (Made s k (highest s k) (key_of op st) (value_asked op) (Answers op)) left)

-- Where a call stands after the step: the nodes of the outcome wait too, and none is held.
pub record Stepping {s : Structure} (k F : ℕ) (op : Op s) (st : Store) (g : Going) (o : Outcome ℕ) : Type 0 where
  pub sound : Sound k o.root (entries_after k g o) (stepped o g)
  pub few : total (stepped o g) ≤ stash_limit + 1
  pub root : LinkFits k (suc (most_high (highest s k))) o.root
  pub leaves : length g.leaves ≡ F
  pub kind : Answers op o.answer
  pub changed : Perm (tracked_in s (taken_out (key_of op st) o.answer ++ entries_after k g o)) (tracked_in s (brought_in (key_of op st) (value_asked op) o.answer ++ entries_before k st))

-- No program is left with a want where none is left to it.
within_none : {A : Type 0} {t : Want ℕ → Node ℕ → Bool} {n : ℕ} {p : Prog ℕ A} → Within t n p → n ≡ 0 → (w : Want ℕ) (c : Node ℕ → Prog ℕ A) → p ≡ want w c → ⊥
within_none stops e w c q = let z : ◌≡◌ {A = ℕ} 0 1 = cc in omega arith
within_none (asks {n = n} more) e w c q = let z : suc n ≡ 0 = e in omega arith

module _ {s : Structure} (k F : ℕ) (op : Op s) (draw : ℕ → ℕ) (st : Store) where
  pub left-shut : (m : ℕ) (g : Going) → fetched_by k F op draw st ≡ shut m g → bucket_call k F op draw st ≡ closing m st.entries st.root st.ahead g
  unfolding bucket_call after_fetches
  left-shut m g e = rw e

  pub left-on : (g : Going) (o : Outcome ℕ) → fetched_by k F op draw st ≡ on g (done o)
      → bucket_call k F op draw st ≡ after_puts (ahead_then k F op draw st) o (put_rounds k draw F (put_draw s F 0) o (stepped o g))
  unfolding bucket_call after_fetches
  left-on g o e = rw e

module _ {s : Structure} (k : ℕ) (some_size : 1 ≤ k) (small : k ≤ 16) (op : Op s) (op_fits : OpFits op) (draw : ℕ → ℕ) (leaves : (d : ℕ) → draw d < 2 ^ k)
    (st : Store) (fit : FitStore s k st) (key_left : KeyLeft op st.ahead.key) where
  root-fits : LinkFits k (highest s k) st.root
  root-fits = link-of-fit fit.low fit.root

  -- After any number of its fetch rounds a call has closed the store, or all entries are there and at most 64 nodes wait or are held.
  pub fetch-rounds : (n left : ℕ) → n + left ≡ rounds s k
      → FetchEnds k n left op st
      (fetch_rounds s st.entries k draw n 0
      (program 0 op (spare_tags (rounds s k) draw) (capacity k) st.entries st.ahead st.root)
      (record { tree = st.tree; waiting = st.waiting; held = []; leaves = [] }))
  fetch-rounds n left all-rounds =
      let spares : ℕ → ℕ = spare_tags (rounds s k) draw in
      let most : 2 ^ k ≤ 2 ^ 16 = pow_mono small in
      fetches-after s st.entries small draw leaves n left 0 (program 0 op spares (capacity k) st.entries st.ahead st.root) _
      (record {
        is-tree = fit.is-tree;
        waiting = fit.proper;
        held = all_nil (ProperLeaf k);
        apart = tt;
        linked = λ x m. absurd (Memᴰ.not-nil m);
        leaves = all_nil (λ t. t < 2 ^ k);
        whole = perm-of-eq (ap (entries_with k st.tree) (sym (append-nil st.waiting)));
      })
      (omega (arith, fit.few))
      (record {
        given = [];
        same = perm-refl [];
        yields =
            yields-map (λ o given h. h.0)
            (yields_both
            (program-yields op spares (capacity k) st.entries st.ahead st.root op_fits key_left (λ i below. leaves (spare_draw (rounds s k) i)) fit.ahead-tag
            (omega (arith, fit.entries)) root-fits)
            (program-seeks op spares (capacity k) st.entries st.ahead st.root fit.rooted));
        within =
            within_more (omega (arith, enough-rounds s k st.entries st.root.height fit.entries fit.low))
            (program-within 0 op spares (capacity k) st.entries st.ahead st.root);
      })

  fetched-all : FetchEnds k (rounds s k) 0 op st (fetched_by k (rounds s k) op draw st)
  fetched-all = fetch-rounds (rounds s k) 0 (omega arith)

  -- The program wants no node after the last fetch round.
  pub never-left-wanting : (g : Going) (w : Want ℕ) (c : Node ℕ → Prog ℕ (Outcome ℕ)) → fetched_by k (rounds s k) op draw st ≡ on g (want w c) → ⊥
  never-left-wanting g w c e = go (subst (FetchEnds k (rounds s k) 0 op st) e fetched-all)
    where
      go : FetchEnds k (rounds s k) 0 op st (on g (want w c)) → ⊥
      go (goes sound few seen next) = within_none next.within refl w c refl

  -- A call that closes the store during the fetch rounds leaves all entries as they were.
  pub fetch-closing : (m : ℕ) (g : Going) → fetched_by k (rounds s k) op draw st ≡ shut m g
      → (let l = bucket_call k (rounds s k) op draw st in (l.mark ≡ m) × Closed (rounds s k) l × Keeps k (entries_before k st) l)
  fetch-closing m g e =
      rw (left-shut k (rounds s k) op draw st m g e) (go (subst (FetchEnds k (rounds s k) 0 op st) e fetched-all))
    where
      go : FetchEnds k (rounds s k) 0 op st (shut m g)
          → (let l = closing m st.entries st.root st.ahead g in (l.mark ≡ m) × Closed (rounds s k) l × Keeps k (entries_before k st) l)
      go (closes mark sound room seen) = (
        closing-mark m st.entries st.root st.ahead g,
        closing-closed st.entries st.root st.ahead g mark (omega arith),
        closing-keeps small (omega (arith, high-bound s k small)) root-fits sound room m st.entries st.ahead,
      )

  -- After the fetch rounds the step changes the entries as its answer says, and brings at most one node more.
  pub stepping : (g : Going) (o : Outcome ℕ) → fetched_by k (rounds s k) op draw st ≡ on g (done o)
      → Stepping k (rounds s k) op st g o
  stepping g o e = go (subst (FetchEnds k (rounds s k) 0 op st) e fetched-all)
    where
      go : FetchEnds k (rounds s k) 0 op st (on g (done o)) → Stepping k (rounds s k) op st g o
      go (goes sound few seen next) =
          let out = yields-done next.yields in
          let high = high-bound s k small in
          record {
            sound = step-sound sound o next.given next.same out small (omega arith);
            few = omega (arith, step-total sound o next.given next.same out);
            root = out.root;
            leaves = omega arith;
            kind = out.kind;
            changed = step-entries sound o next.given next.same out;
          }

  -- After any number of its put rounds a call has closed the store, or all entries are there and at most 64 nodes wait.
  pub put-rounds : (g : Going) (o : Outcome ℕ) → fetched_by k (rounds s k) op draw st ≡ on g (done o) → (n : ℕ) → 1 ≤ n
      → After k o.root (entries_after k g o) (length g.leaves + n) (Resting o)
      (put_rounds k draw n (put_draw s (rounds s k) 0) o (stepped o g))
  put-rounds g o e n at_least_lem =
      let t = stepping g o e in
      puts-after draw leaves o n (put_draw s (rounds s k) 0) (stepped o g) t.sound t.few (λ none_left. let z : ⊥ = omega arith in absurd z) refl

  -- The put rounds keep the entries, whether or not they close the store.
  pub put-closing : (g : Going) (o : Outcome ℕ) → fetched_by k (rounds s k) op draw st ≡ on g (done o)
      → StepEnds k (rounds s k) op st o.answer (entries_after k g o) (bucket_call k (rounds s k) op draw st)
  put-closing g o e =
      let t = stepping g o e in
      let r = puts-end (ahead_then k (rounds s k) op draw st) o small (high-bound s k small) t.root (put-rounds g o e (rounds s k) (some-rounds s k some_size)) in
      let all-leaves : length g.leaves + rounds s k ≡ 2 * rounds s k = omega (arith, t.leaves) in
      rw (left-on k (rounds s k) op draw st g o e) (record { kind = t.kind; changed = t.changed; keeps = r.0; ended = rw all-leaves at r.1 })

  -- Every call, on any content.
  pub call_ends : Ends k (rounds s k) op st (bucket_call k (rounds s k) op draw st)
  call_ends = go (fetched_by k (rounds s k) op draw st) refl
    where
      go : (x : Round (Outcome ℕ)) → fetched_by k (rounds s k) op draw st ≡ x
          → Ends k (rounds s k) op st (bucket_call k (rounds s k) op draw st)
      go (shut m g) e = let r = fetch-closing m g e in before-step r.1 r.2
      go (on g (done o)) e = after-step o.answer _ (put-closing g o e)
      go (on g (want w c)) e = absurd (never-left-wanting g w c e)
