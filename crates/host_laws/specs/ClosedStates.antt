-- Every state that a good opening and calls leave, closed ones too, is one that bytes say all of.
use Rattle.std.specs.Prelude.{◌≡◌, refl, true, ◌&&◌, ◌⊎◌, ℕ, ◌^◌, ◌≤◌, ◌<◌, eqb, length}
use Rattle.std.proofs.Common.{sym, ◌∙◌, ap, subst, inl, inr, arith, pow_pos, pow_mono}
use Rattle.std.proofs.Math.Path.{subst⁻¹}
use mathlib.Core.List.Memᴰ
use mathlib.Core.List.{List, [], ◌∷◌}
use Rattle.std.proofs.Math.Nat.{mod-lt}
use Rattle.list_spec.specs.Distinct.{All}
use Rattle.slot_spec.specs.LittleEndian.{Bytes}
use Rattle.slot_spec.specs.Tree.{tree_length}
use Rattle.method_spec.specs.Answer.{Structure, map, stack, heap, queue, Op}
use Rattle.method_spec.specs.Plain.{Contents, Pair, plain, nothing}
use Rattle.method_spec.specs.Rounds.{rounds}
use Rattle.method_spec.specs.Call.{capacity, Memory, empty_memory, Called, call}
use Rattle.method_laws.specs.Represented.{Held, held_fits, held-empty}
use Rattle.leaf_spec.specs.Convert.{from_link, from_ahead}
use Rattle.leaf_spec.specs.Entries.{OpFits, KeyLeft}
use Rattle.bucket_call_spec.specs.Fetch.{CallLeft}
use Rattle.bucket_call_spec.specs.Call.{Store, draw_of, fetched_by}
use Rattle.bucket_call_spec.specs.Simulates.{AheadFits, Simulates}
use Rattle.none_lost_laws.specs.Ends.{FitStore, Keeps, Ends, keeps-room, ends-mark, ends-kept}
use Rattle.none_lost_laws.specs.Lost.{call_ends}
use Rattle.simulation_laws.specs.Relation as relation
use Rattle.simulation_laws.specs.Relation.{empty_store, Matches, Overflowed}
use Rattle.simulation_laws.specs.ProperCall.{call-held, call-ahead}
use Rattle.simulation_laws.specs.CallSim.{simulates-fits, simulate, HeadOf, left-head, simulate-start}
use Rattle.state_spec.specs.declared.State.{State}
use Rattle.state_spec.specs.Fit.{root_good}
use Rattle.call_spec.specs.Store.{state_left, store_of}
use Rattle.fitness_laws.specs.FitStores.{fit-store}
use Rattle.lent_bytes_laws.specs.StateLaws.{StateKept}
use Rattle.demand_spec.specs.History.{Brought, StateAndTree, finally, structure_number}
use Rattle.demand_laws.specs.Marks as marks
use Rattle.demand_laws.specs.Checks.{ill-changes}
use Rattle.demand_laws.specs.OpenStates.{state_of, kept_of, store-back}
use Rattle.demand_laws.specs.FitKept.{root-good, ahead-good}
use Rattle.demand_laws.specs.Fresh.{opened-empty}
use Rattle.demand_laws.specs.HistorySteps.{next, early-finally, late-finally, closed-finally}
use Rattle.demand_laws.specs.ListSteps.{structure-back, leaving, Step, refused, runs, left_open, step}
use Rattle.host_laws.specs.KeptStates.{grown, queue-key, empty-key, no_key, either-low, placed-kept, placed-sized, open_kept}
use Rattle.host_laws.specs.LeftStates.{kept-widths, mark-low}

number-low : (st : Structure) → structure_number st < 256
number-low map = omega arith
number-low stack = omega arith
number-low heap = omega arith
number-low queue = omega arith

module _ (st : Structure) (k : ℕ) (positive : 1 ≤ k) (small : k ≤ 8) where
  -- What a call leaves, with the head of a memory that holds what the plain machine holds.
  module _ (s : Store) (t : Contents st) (m : Memory ℕ) (held : Held 0 st (capacity k) t m) (known : AheadFits k m.ahead) (l : CallLeft) (head : HeadOf m l)
      {now : List Pair} (keeps : Keeps k now l) (marked : l.mark < 256) where
    abbrev after : State
    after = state_left (state_of st k s) l

    rooted : root_good (structure_number st) m.entries m.ahead.key (from_link m.root) ≡ true
    rooted = root-good st (capacity k) t m held

    ahead-key : l.ahead.key ≡ m.ahead.key
    ahead-key = ap (λ a. a.key) head.ahead

    ahead-tag : l.ahead.tag ≡ m.ahead.tag
    ahead-tag = ap (λ a. a.tag) head.ahead

    head-kept : StateKept after
    head-kept =
        let p : 2 ^ k ≤ 2 ^ 8 = pow_mono {i = k} {j = 8} small in
        let room = keeps-room small keeps in
        let few = held_fits 0 st (capacity k) t m held in
        record {
          head =
              record {
                mark = marked;
                structure = number-low st;
                size = omega (arith, small);
                height = keeps.root.height;
                entries = omega (arith, head.entries, few, p);
                waiting = omega (arith, room);
                key = either-low (eqb (structure_number st) 4 && eqb l.entries 0) l.ahead.key l.root.key (omega (arith, ahead-key, known.key)) keeps.root.key;
                tag = omega (arith, keeps.root.tag, p);
                ahead = omega (arith, ahead-tag, known.tag, p);
              };
          sized = placed-sized l.waiting room;
          kept = placed-kept k l.waiting keeps.proper;
          queue = λ q n.
              let sum = queue-key m.entries m.ahead.key (from_link m.root) (λ z. n (head.entries ∙ z))
              (subst (λ (x : ℕ). root_good x m.entries m.ahead.key (from_link m.root) ≡ true) q rooted) in
              omega (arith, sum, ahead-key, head.key, head.entries);
          empty-queue = λ q z. head.key ∙ empty-key (structure_number st) m.entries m.ahead.key (from_link m.root) (sym head.entries ∙ z) rooted;
          others = λ n. ahead-key ∙ no_key (structure_number st) k m.entries (from_ahead m.ahead) n (ahead-good st k (capacity k) t m held known);
        }

  -- A call on an open state.
  module _ (s : Store) (m : Memory ℕ) (sim : Simulates k s m) (t : Contents st) (held : Held 0 st (capacity k) t m) where
    fit : FitStore st k s
    fit =
        let f = open_kept st k positive small s m sim t held in
        subst (FitStore st k) (store-back st k s)
        (subst (λ (x : Structure). FitStore x k (store_of (state_of st k s) s.tree)) (structure-back st)
        (fit-store (state_of st k s) s.tree f.0.1 sim.kept.is-tree.sized sim.kept.is-tree.bytes (kept-widths (state_of st k s) f.0.0 f.1)))

    module _ (op : Op st) (fits : OpFits op) (keyed : KeyLeft op s.ahead.key) (b : Brought) where
      abbrev left : CallLeft
      left = leaving st k s b op

      ends : Ends k (rounds st k) op s left
      ends = call_ends k positive (omega (arith, small)) op fits (draw_of k b.tape) (λ d. mod-lt _ (pow_pos k)) s fit keyed

      left-kept : StateKept (state_left (state_of st k s) left)
      left-kept = go (left-head k positive (omega (arith, small)) t m held s sim op fits keyed' (draw_of k b.tape) leaves)
        where
          leaves : (d : ℕ) → draw_of k b.tape d < 2 ^ k
          leaves d = mod-lt _ (pow_pos k)

          keyed' : KeyLeft op m.ahead.key
          keyed' = rw (← sim.ahead) keyed

          known : AheadFits k m.ahead
          known = rw (← sim.ahead) sim.known

          go : HeadOf m left ⊎ HeadOf (call 0 (rounds st k) (capacity k) op (draw_of k b.tape) m).memory left → StateKept (state_left (state_of st k s) left)
          go (inl h) = head-kept s t m held known left h (ends-kept ends).1 (mark-low (ends-mark ends))
          go (inr h) =
              head-kept s _ _ (call-held k (omega (arith, small)) t m held op (draw_of k b.tape))
              (call-ahead k (omega (arith, small)) t m held op (draw_of k b.tape) fits keyed' leaves known (simulates-fits sim)) left h (ends-kept ends).1 (mark-low (ends-mark ends))

  -- A list of calls.
  list-kept : (bs : List Brought) → All (λ b. Bytes b.ticket) bs → (s : Store) (m : Memory ℕ) → Simulates k s m → (t : Contents st) → Held 0 st (capacity k) t m
      → StateKept (finally (kept_of st k s) bs).state
  unfolding finally
  list-kept [] bytes s m sim t held = (open_kept st k positive small s m sim t held).0.0
  list-kept (b ∷ bs) bytes s m sim t held =
      go (step st k positive small s m sim t held b (bytes b (Memᴰ.head refl)))
      (λ s m sim t held. list-kept bs (λ b i. bytes b (Memᴰ.tail i)) s m sim t held)
    where
      go : Step st k s b → ((s : Store) (m : Memory ℕ) → Simulates k s m → (t : Contents st) → Held 0 st (capacity k) t m → StateKept (finally (kept_of st k s) bs).state)
          → StateKept (finally (kept_of st k s) (b ∷ bs)).state
      go (refused n ill e) later = subst⁻¹ (λ (x : StateAndTree). StateKept x.state) (early-finally (kept_of st k s) b bs n (ill-changes n ill) e) (later s m sim t held)
      go (runs op asks fits keyed e) later =
          subst⁻¹ (λ (x : StateAndTree). StateKept x.state) (late-finally (kept_of st k s) b bs l (marks.call_ends k (rounds st k) op (draw_of k b.tape) s) e)
          (which (simulate k positive (omega (arith, small)) t m held s sim op fits (rw (← sim.ahead) keyed) (draw_of k b.tape) (λ d. mod-lt _ (pow_pos k))))
        where
          l : CallLeft
          l = leaving st k s b op

          r : Called ℕ
          r = call 0 (rounds st k) (capacity k) op (draw_of k b.tape) m

          which : Overflowed k m (fetched_by k (rounds st k) op (draw_of k b.tape) s) (leaving st k s b op) r ⊎ Matches k (leaving st k s b op) r
              → StateKept (finally (next (kept_of st k s) b (leaving st k s b op)) bs).state
          which (inl x) =
              subst⁻¹ (λ (y : StateAndTree). StateKept y.state) (closed-finally (next (kept_of st k s) b (leaving st k s b op)) (λ z. omega (arith, z, x.mark)) bs)
              (left-kept s m sim t held op fits keyed b)
          which (inr x) =
              subst⁻¹ (λ (y : StateAndTree). StateKept (finally y bs).state) (left_open st k s b (leaving st k s b op) x.mark)
              (later (relation.left_by (leaving st k s b op)) r.memory x.simulates (plain (capacity k) op t).contents
              (call-held k (omega (arith, small)) t m held op (draw_of k b.tape)))

  module _ (tree : List ℕ) (sized : length tree ≡ tree_length k) (bs : List Brought) (bytes : All (λ b. Bytes b.ticket) bs) where
    pub grown-whole : StateKept (grown st k positive small tree sized bs bytes)
    grown-whole =
        subst⁻¹ (λ (x : StateAndTree). StateKept (finally x bs).state) (opened-empty st k positive small tree sized)
        (list-kept bs bytes (empty_store k) (empty_memory 0) (simulate-start k) (nothing st) (held-empty 0 st (capacity k)))
