-- One call over a kept bucket store does what the method's call does at leaves, or meets overflow. It never finds damage.
use Rattle.std.specs.Prelude.{◌≡◌, ◌⊎◌, ℕ, ◌^◌, ◌≤◌, ◌<◌}
use Rattle.std.proofs.Math.Path.{refl, ap}
use Rattle.std.proofs.Common.{◌∙◌, subst, arith, pow_pos}
use Rattle.std.proofs.Math.Logic.{inl, inr}
use mathlib.Core.List.{List, [], ◌∷◌, ◌++◌}
use Rattle.std.proofs.Math.Option.{some}
use Rattle.list_laws.specs.PermLaws.{perm-refl, perm-member}
use Rattle.list_spec.specs.Distinct.{Distinct, All}
use Rattle.method_spec.specs.Node.{Node, Link, Ahead}
use Rattle.method_spec.specs.Prog.{From, root, side, Prog, done, want}
use Rattle.method_spec.specs.Answer.{Structure, Op, Answer}
use Rattle.method_spec.specs.Plain.{Contents}
use Rattle.method_spec.specs.Outcome.{Outcome}
use Rattle.method_spec.specs.Rounds.{rounds, spare_draw, put_draw}
use Rattle.method_spec.specs.Call.{capacity, program, ahead_after, spare_tags, Memory, empty_memory, Fetched, fetches, stepped, answered, Called, call}
use Rattle.run_laws.specs.RoundsLaws.{some-rounds}
use Rattle.run_laws.specs.SafeLaws.{safe-map}
use Rattle.run_laws.specs.Fetches.{keys}
use Rattle.run_laws.specs.Calls.{memory_of}
use Rattle.run_laws.specs.Answers.{represents-call}
use Rattle.method_laws.specs.Represented.{Held, represents}
use Rattle.leaf_spec.specs.Leaf.{leaf_format, ProperLeaf}
use Rattle.bucket_call_spec.specs.Fetch as fetch
use Rattle.bucket_call_spec.specs.Fetch.{Going, CallLeft, moved_link, closing, Round, on, shut}
use Rattle.bucket_call_spec.specs.Call as buckets
use Rattle.bucket_call_spec.specs.Call.{Store, put_rounds, after_puts, after_fetches, fetched_by, ahead_then, bucket_call}
use Rattle.round_laws.specs.NoDamage.{there-proper}
use Rattle.round_laws.specs.Kept.{fresh-empty, fresh_kept}
use Rattle.list_spec.specs.Ascending.{ascending}
use Rattle.leaf_laws.specs.Proper.{leaves-lawful, Fits, proper-fits}
use Rattle.leaf_spec.specs.Entries.{OpFits, KeyLeft}
use Rattle.simulation_laws.specs.ProperCall.{call-held, call-proper, ahead_after_lem}
use Rattle.bucket_call_spec.specs.Simulates.{AheadFits, Simulates}
use Rattle.simulation_laws.specs.Relation.{empty_store, memory_entries, Matches, Overflowed}
use Rattle.simulation_laws.specs.RoundSim.{Went, went, overflowed}
use Rattle.simulation_laws.specs.FetchSim.{WentAs, fetches-went}
use Rattle.simulation_laws.specs.StepSim.{fetches-match}

-- ---- one call

answered-done : (p : Prog ℕ (Outcome ℕ)) {a : Answer} → answered p ≡ some a → (o : Outcome ℕ) × (p ≡ done o)
unfolding answered
answered-done (done o) e = (o, refl)
answered-done (want w c) e = let z : ◌≡◌ {A = ℕ} 0 1 = cc in absurd (omega arith)

-- All own numbers of a simulated memory's nodes are within their bounds.
pub simulates-fits : {k : ℕ} {st : Store} {m : Memory ℕ} → Simulates k st m → All (Fits k) m.nodes
simulates-fits {k} {st} {m} sim n i =
    proper-fits k n
    (there-proper leaf_format leaves-lawful k st.tree st.waiting [] sim.kept n (perm-member sim.there i))

-- Where tags are moved, the root link keeps its key.
moved-first : (from : From) (n : Node ℕ) (hs : List fetch.Held) (l : Link ℕ) → ((j : Link ℕ) → (moved_link hs root j).key ≡ j.key)
    → (moved_link (record { from = from; node = n } ∷ hs) root l).key ≡ l.key
unfolding moved_link
moved-first root n hs l later = later (record { height = l.height; key = l.key; tag = n.tag })
moved-first (side i s) n hs l later = later l

moved-key : (hs : List fetch.Held) (l : Link ℕ) → (moved_link hs root l).key ≡ l.key
unfolding moved_link
moved-key [] l = refl
moved-key (h ∷ hs) l = moved-first h.from h.node hs l (λ j. moved-key hs j)

-- What a call leaves has the entries, the root's key and what is known ahead of a memory.
pub record HeadOf (m : Memory ℕ) (l : CallLeft) : Type 0 where
  pub entries : l.entries ≡ m.entries
  pub key : l.root.key ≡ m.root.key
  pub ahead : l.ahead ≡ m.ahead

module _ {s : Structure} (k : ℕ) (positive : 1 ≤ k) (small : k ≤ 16) (t : Contents s) (m : Memory ℕ) (held : Held 0 s (capacity k) t m)
    (st : Store) (sim : Simulates k st m) (op : Op s) (op_fits : OpFits op) (key_left : KeyLeft op m.ahead.key) (draw : ℕ → ℕ) (leaves : (d : ℕ) → draw d < 2 ^ k) where
  abbrev F : ℕ
  F = rounds s k

  abbrev spares : ℕ → ℕ
  spares = spare_tags F draw

  abbrev ahead : Ahead ℕ
  ahead = ahead_after 0 op spares (capacity k) m.entries m.ahead

  abbrev called : Called ℕ
  called = call 0 F (capacity k) op draw m

  abbrev fetched : Fetched ℕ (Outcome ℕ)
  fetched = fetches draw F 0 (program 0 op spares (capacity k) m.entries m.ahead m.root) m.nodes

  abbrev started : Going
  started = record { tree = st.tree; waiting = st.waiting; held = []; leaves = [] }

  abbrev fetch_end : Round (Outcome ℕ)
  fetch_end = fetched_by k F op draw st

  known : AheadFits k m.ahead
  known = rw (← sim.ahead) sim.known

  -- The fetch rounds are the method's fetches.
  fetch-phase : WentAs k (memory_entries m) started fetched fetch_end
  fetch-phase =
      rw (sim.entries, sim.root, sim.ahead)
      (fetches-went s m.entries k draw leaves {Post = λ o held ns. Unit {0}} (λ o held xs ys p h. h) F 0
      (program 0 op spares (capacity k) m.entries m.ahead m.root) started (omega arith)
      (record { there = sim.there; kept = sim.kept; ascends = sim.ascends; whole = perm-refl (memory_entries m) })
      (safe-map (λ o held ns post. tt) ((represents 0 s k).safe t m held op spares)))

  -- The program is done.
  outcome : (o : Outcome ℕ) × (fetched.prog ≡ done o)
  unfolding call
  outcome = answered-done fetched.prog (represents-call (represents 0 s k) t op draw m held).answers

  -- The memory after the step is that of its outcome.
  remembers : called.memory ≡ memory_of ahead outcome.0 fetched.nodes
  unfolding call stepped
  remembers = ap (stepped m ahead fetched.nodes) outcome.1

  -- The fetch rounds with the program's outcome.
  fetched-done : Went k (memory_entries m) (done outcome.0) fetched.nodes fetched.revealed fetch_end
  fetched-done = subst (λ (p : Prog ℕ (Outcome ℕ)). Went k (memory_entries m) p fetched.nodes fetched.revealed fetch_end) outcome.1 fetch-phase

  -- One call over buckets is one call of the method at leaves, or it meets overflow.
  pub simulate : Overflowed k m (fetched_by k (rounds s k) op draw st) (bucket_call k (rounds s k) op draw st) (call 0 (rounds s k) (capacity k) op draw m)
      ⊎ Matches k (bucket_call k (rounds s k) op draw st) (call 0 (rounds s k) (capacity k) op draw m)
  unfolding call stepped answered bucket_call
  simulate =
      let o = outcome.0 in
      let nodes : called.memory.nodes ≡ o.nodes ++ fetched.nodes = ap (λ (x : Memory ℕ). x.nodes) remembers in
      let same : ahead_then k F op draw st ≡ ahead = rw (sim.entries, sim.ahead) in
      rw same
      (fetches-match s k F (some-rounds s k positive) draw leaves m called ahead (ahead_after_lem k op spares (λ i. leaves (spare_draw F i)) (capacity k) m.entries m.ahead key_left known) o fetched.nodes remembers (ap answered outcome.1)
      fetched.revealed refl
      (subst (λ (ns : List (Node ℕ)). Distinct (keys ns)) nodes
      ((represents 0 s k).distinct-keys _ called.memory (call-held k small t m held op draw)))
      (subst (All (ProperLeaf k)) nodes (call-proper k small t m held op draw op_fits key_left leaves known (simulates-fits sim)))
      st fetch_end fetched-done)

  after-step : (x : Round (Outcome ℕ)) → HeadOf called.memory (after_puts ahead outcome.0 x)
  unfolding after_puts closing
  after-step (shut n g) = rw remembers (record { entries = refl; key = moved-key g.held outcome.0.root; ahead = refl })
  after-step (on g p) = rw remembers (record { entries = refl; key = refl; ahead = refl })

  after-fetches : (x : Round (Outcome ℕ)) → Went k (memory_entries m) (done outcome.0) fetched.nodes fetched.revealed x
      → HeadOf m (after_fetches s k F draw st ahead x) ⊎ HeadOf called.memory (after_fetches s k F draw st ahead x)
  unfolding after_fetches closing
  after-fetches x (went g stands few shown) = inr (after-step (put_rounds k draw F (put_draw s F 0) outcome.0 (buckets.stepped outcome.0 g)))
  after-fetches x (overflowed g left rest stands many shown) =
      inl (record { entries = sim.entries; key = moved-key g.held st.root ∙ ap (λ (l : Link ℕ). l.key) sim.root; ahead = sim.ahead })

  -- What it leaves, closed or not, has the head of the memory before the step or after it.
  pub left-head : HeadOf m (bucket_call k (rounds s k) op draw st) ⊎ HeadOf (call 0 (rounds s k) (capacity k) op draw m).memory (bucket_call k (rounds s k) op draw st)
  unfolding bucket_call
  left-head =
      let same : ahead_then k F op draw st ≡ ahead = rw (sim.entries, sim.ahead) in
      rw same (after-fetches fetch_end fetched-done)

-- ---- the start

pub simulate-start : (k : ℕ) → Simulates k (empty_store k) (empty_memory 0)
unfolding empty_memory ascending
simulate-start k =
    record {
      entries = refl;
      root = refl;
      ahead = refl;
      known = record { key = omega arith; tag = pow_pos k };
      there = rw (fresh-empty leaf_format leaves-lawful k) (perm-refl []);
      kept = fresh_kept leaf_format leaves-lawful k;
      few = omega arith;
      ascends = refl;
    }
