-- A call that meets overflow, on a store that keeps the method's memory, leaves a whole store that can be read out and back.
use Rattle.std.specs.Prelude.{ℕ, ◌≤◌, ◌≡◌, refl, true, List, [], ◌∷◌, map, length}
use Rattle.std.proofs.Common.{subst, mod-lt, arith, pow_pos, le-leb}
use Rattle.std.proofs.Math.Path.{subst⁻¹}
use mathlib.Core.List.Memᴰ
use Rattle.std.proofs.lemmas.Simd.{map-map}
use Rattle.list_spec.specs.Distinct.{Distinct, All}
use Rattle.list_spec.specs.Perm.{Perm}
use Rattle.list_laws.specs.PermLaws.{perm-map}
use Rattle.list_laws.specs.DistinctLaws.{all_nil, all_cons, distinct-perm}
use Rattle.slot_spec.specs.LittleEndian.{Bytes}
use Rattle.slot_spec.specs.Tree.{tree_length}
use Rattle.slot_spec.specs.Slot.{Ranged}
use Rattle.method_spec.specs.Node.{Node}
use Rattle.method_spec.specs.Answer.{Structure}
use Rattle.method_spec.specs.Plain.{Pair, Contents, plain}
use Rattle.method_spec.specs.Outcome.{Outcome}
use Rattle.method_spec.specs.Rounds.{rounds}
use Rattle.method_spec.specs.Call.{capacity, Memory, call}
use Rattle.method_laws.specs.Represented.{Held, represents}
use Rattle.leaf_spec.specs.Entries.{pair_of}
use Rattle.leaf_spec.specs.Leaf.{ProperLeaf}
use Rattle.bucket_call_spec.specs.Fetch.{CallLeft, Round}
use Rattle.bucket_call_spec.specs.Call.{Store, draw_of}
use Rattle.bucket_call_spec.specs.Simulates.{Simulates, Remains, as_before, as-after}
use Rattle.none_lost_laws.specs.Ends.{FitStore, Keeps, keeps-room, ends-kept, highest}
use Rattle.none_lost_laws.specs.Given.{RootFor}
use Rattle.none_lost_laws.specs.Lost.{call_ends}
use Rattle.simulation_laws.specs.Relation.{left_by, memory_entries}
use Rattle.simulation_laws.specs.CallSim.{simulates-fits}
use Rattle.simulation_laws.specs.HeldProper.{held-root}
use Rattle.simulation_laws.specs.ProperCall.{call-held}
use Rattle.state_spec.specs.declared.Place.{Place}
use Rattle.state_spec.specs.declared.State.{State}
use Rattle.state_spec.specs.Fit.{largest_size, places}
use Rattle.fitness_laws.specs.FitState.{fit-state}
use Rattle.call_spec.specs.Store.{Ended}
use Rattle.demand_spec.specs.History.{Brought, call_on}
use Rattle.demand_laws.specs.OpenStates.{state_of, kept_of, holding, used-places}
use Rattle.demand_laws.specs.FitKept.{good-places, structure-fits, in-range, state-fits}
use Rattle.demand_laws.specs.ListSteps.{structure-back, leaving}
use Rattle.demand_laws.specs.NoneLost.{pairs-left}
use Rattle.demand_laws.specs.UntilClosed.{Overflows}
use Rattle.readout_spec.specs.ReadOut.{known}
use Rattle.readout_laws.specs.Whole.{WholeStore}
use Rattle.readout_laws.specs.BackLaws.{WaitingRanged}

-- A whole store that a read-out knows, with a tree of its size, and numbers within their widths.
pub record Readable (s : State) (tree : List ℕ) : Type 0 where
  pub whole : WholeStore s tree
  pub is_known : known s ≡ true
  pub sized : length tree ≡ tree_length s.size
  pub bytes : Bytes tree
  pub ranged : WaitingRanged s

-- The places of proper nodes hold numbers within their widths.
ranged-places : (k : ℕ) (ns : List (Node ℕ)) → All (ProperLeaf k) ns → All (λ (p : Place). Ranged p.node) (map holding ns)
ranged-places k [] h = all_nil (λ (p : Place). Ranged p.node)
ranged-places k (n ∷ ns) h =
    all_cons {P = λ (p : Place). Ranged p.node} (h n (Memᴰ.head refl)).0 (ranged-places k ns (λ m i. h m (Memᴰ.tail i)))

-- No key is twice among the pairs of a memory, in any order.
memory-distinct : (st : Structure) (k : ℕ) (t : Contents st) (m : Memory ℕ) → Held 0 st (capacity k) t m → {ps : List Pair}
    → Perm (memory_entries m) ps → Distinct (map (λ (p : Pair). p.key) ps)
memory-distinct st k t m held p =
    distinct-perm (perm-map (λ (p : Pair). p.key) p)
    (rw (map-map (λ (p : Pair). p.key) pair_of m.nodes) ((represents {T = ℕ} 0 st k).distinct-keys t m held))

module _ (st : Structure) (k : ℕ) (positive : 1 ≤ k) (small : k ≤ 8) (s : Store) (m : Memory ℕ) (sim : Simulates k s m)
    (t : Contents st) (held : Held 0 st (capacity k) t m) where
  -- A call may start from the store.
  start-fit : FitStore st k s
  start-fit =
      let f = fit-state (state_of st k s) (state-fits st k positive small s m sim t held) in
      record {
        is-tree = sim.kept.is-tree;
        proper = sim.kept.proper;
        few = sim.few;
        root = rw sim.root (held-root k (omega arith) st t m held (rw (← sim.ahead) sim.known) (simulates-fits sim));
        low = subst (λ (x : Structure). s.root.height ≤ highest x k) (structure-back st) f.low;
        ahead-tag = sim.known.tag;
        entries = f.entries;
        rooted = subst (λ (x : Structure). RootFor x s.entries s.root) (structure-back st) f.rooted;
      }

  module _ (b : Brought) (x : Overflows st k s m b) where
    -- What the rounds left.
    abbrev l : CallLeft
    l = leaving st k s b x.op

    -- The waiting nodes left are proper and have places, and the tree is a tree.
    left-kept : (now : List Pair) × Keeps k now l
    left-kept =
        ends-kept (call_ends k positive (omega arith) x.op x.fits (draw_of k b.tape) (λ d. mod-lt _ (pow_pos k)) s start-fit x.keyed)

    -- No key is twice among the pairs left, since none is in the method's memory before the call or after it.
    remains-distinct : {ps : List Pair} {y : Round (Outcome ℕ)}
        → Remains (Perm (memory_entries m)) (Perm (memory_entries (call 0 (rounds st k) (capacity k) x.op (draw_of k b.tape) m).memory)) ps y
        → Distinct (map (λ (p : Pair). p.key) ps)
    remains-distinct (as_before g p) = memory-distinct st k t m held p
    remains-distinct (as-after g o p) =
        memory-distinct st k (plain (capacity k) x.op t).contents _ (call-held k (omega arith) t m held x.op (draw_of k b.tape)) p

    -- So the store left can be read out.
    pub left-readable : Readable (call_on (kept_of st k s) b).state (call_on (kept_of st k s) b).tree
    left-readable =
        let keeps = left-kept.1 in
        subst⁻¹ (λ (y : Ended). Readable y.state y.tree) x.ends
        (record {
          whole =
              record {
                none-bad = x.overflow.none-bad;
                places-good = rw (used-places st k (left_by l)) (good-places k l.waiting keeps.proper);
                none-twice =
                    subst⁻¹ (λ (ps : List Pair). Distinct (map (λ (p : Pair). p.key) ps)) (pairs-left (state_of st k s) l)
                    (remains-distinct x.overflow.nothing-lost);
              };
          is_known =
              rw (structure-fits st, in-range k largest_size positive small, le-leb (length l.waiting) places (keeps-room small keeps));
          sized = keeps.is-tree.sized;
          bytes = keeps.is-tree.bytes;
          ranged = rw (used-places st k (left_by l)) (ranged-places k l.waiting keeps.proper);
        })
