-- The keys and widths of a fit state, and the open states that a good opening and calls leave: bytes say all of them.
use Rattle.std.specs.Prelude.{◌≡◌, refl, Bool, true, false, not, ◌&&◌, List, [], ◌∷◌, map, ℕ, ◌+◌, ◌-◌, ◌^◌, ◌≤◌, ◌<◌, eqb, length, replicate}
use Rattle.std.proofs.Common.{sym, ◌∙◌, subst, arith, pow_mono, length-append, eqb-true, eq-eqb, ne_eqb}
use Rattle.std.proofs.Math.Path.{subst⁻¹}
use Rattle.std.proofs.Math.Bool.{and-eq-true_iff}
use mathlib.Core.List.Memᴰ
use Rattle.std.proofs.lemmas.List.{length-map, length-replicate}
use Rattle.list_spec.specs.Choice.{pick}
use Rattle.list_spec.specs.Distinct.{All}
use Rattle.slot_spec.specs.LittleEndian.{Bytes}
use Rattle.slot_spec.specs.Tree.{tree_length}
use Rattle.slot_spec.specs.declared.Link.{Link}
use Rattle.slot_spec.specs.declared.Ahead.{Ahead}
use Rattle.method_spec.specs.Node.{Node}
use Rattle.method_spec.specs.Answer.{Structure}
use Rattle.method_spec.specs.Call.{capacity, Memory}
use Rattle.method_spec.specs.Plain.{Contents}
use Rattle.method_laws.specs.Represented.{Held}
use Rattle.leaf_spec.specs.Leaf.{ProperLeaf}
use Rattle.leaf_spec.specs.Convert.{to_link, from_node}
use Rattle.leaf_laws.specs.Proper.{FitLink}
use Rattle.bucket_call_spec.specs.Call.{Store}
use Rattle.bucket_call_spec.specs.Simulates.{Simulates}
use Rattle.simulation_laws.specs.HeldProper.{held-root}
use Rattle.simulation_laws.specs.CallSim.{simulates-fits}
use Rattle.state_spec.specs.declared.State.{State}
use Rattle.state_spec.specs.Fit.{largest_structure, largest_size, in_range, zero_link, places, no_place, places_fit, root_good, ahead_good, fits}
use Rattle.state_spec.specs.Opening.{empty, closed_with, fresh, Opened, opened}
use Rattle.state_laws.specs.FitLaws.{in-range-true}
use Rattle.call_spec.specs.Store.{waiting_places}
use Rattle.lent_bytes_laws.specs.PlaceLaws.{full, AllKept, kept_append, kept-none}
use Rattle.lent_bytes_laws.specs.StateLaws.{StateKept}
use Rattle.state_laws.specs.FitLaws.{fit_parts}
use Rattle.fitness_laws.specs.FitState.{fit-state}
use Rattle.demand_spec.specs.History.{Brought, StateAndTree, finally}
use Rattle.demand_spec.specs.Demands.{opened_store, method}
use Rattle.demand_laws.specs.OpenStates.{state_of, holding}
use Rattle.demand_laws.specs.FitKept.{state-fits}
use Rattle.demand_laws.specs.OpenedRuns.{matches, left-store, method-held}

-- ---- the keys of a fit state
pub queue-key : (entries next : ℕ) (l : Link) → (entries ≡ 0 → ⊥) → root_good 4 entries next l ≡ true → next ≡ l.key + entries
unfolding root_good
queue-key entries next l n e =
    let some : (eqb l.height 1 && eqb (l.key + entries) next) ≡ true = rw (ne_eqb entries 0 n) at e in
    sym (eqb-true (l.key + entries) next ((and-eq-true_iff (eqb l.height 1) (eqb (l.key + entries) next)).0 some).1)

pub empty-key : (structure entries next : ℕ) (l : Link) → entries ≡ 0 → root_good structure entries next l ≡ true → l.key ≡ 0
unfolding root_good
empty-key structure entries next l z e =
    let zero : zero_link l ≡ true = rw (eq-eqb entries 0 z) at e in
    let a = (and-eq-true_iff (eqb l.height 0) (eqb l.key 0 && eqb l.tag 0)).0 zero in
    eqb-true l.key 0 ((and-eq-true_iff (eqb l.key 0) (eqb l.tag 0)).0 a.1).0

pub no_key : (structure size entries : ℕ) (a : Ahead) → (structure ≡ 4 → ⊥) → ahead_good structure size entries a ≡ true → a.key ≡ 0
unfolding ahead_good
no_key structure size entries a n e =
    let both : (eqb a.key 0 && eqb a.tag 0) ≡ true = rw (ne_eqb structure 4 n) at e in
    eqb-true a.key 0 ((and-eq-true_iff (eqb a.key 0) (eqb a.tag 0)).0 both).0

pub either-low : (b : Bool) (x y : ℕ) → x < 2 ^ 32 → y < 2 ^ 32 → pick b x y < 4294967296
either-low true x y h k = h
either-low false x y h k = k

-- A fit state within its widths is one that bytes say all of.
pub fit-kept : (s : State) → fits s ≡ true → s.mark ≡ 0 → FitLink s.size (to_link s.root) → s.ahead.key < 2 ^ 32 → length s.places ≡ places → AllKept s.places → StateKept s
fit-kept s fit m root low sized kept =
    let f = fit-state s fit in
    let good = (fit_parts s fit).0 in
    let p : 2 ^ s.size ≤ 2 ^ 8 = pow_mono {i = s.size} {j = 8} (omega (arith, f.size)) in
    record {
      head =
          record {
            mark = omega (arith, m);
            structure = omega (arith, f.structure);
            size = omega (arith, f.size);
            height = root.height;
            entries = omega (arith, f.entries, p);
            waiting = omega (arith, f.few);
            key = either-low (eqb s.structure 4 && eqb s.entries 0) s.ahead.key s.root.key low root.key;
            tag = omega (arith, root.tag, p);
            ahead = omega (arith, f.ahead-tag, p);
          };
      sized = sized;
      kept = kept;
      queue = λ q n. queue-key s.entries s.ahead.key s.root n (subst (λ (x : ℕ). root_good x s.entries s.ahead.key s.root ≡ true) q good.rooted);
      empty-queue = λ q z. empty-key s.structure s.entries s.ahead.key s.root z good.rooted;
      others = λ n. no_key s.structure s.size s.entries s.ahead n good.known;
    }

-- ---- placed nodes
kept-nodes : (k : ℕ) (ns : List (Node ℕ)) → All (ProperLeaf k) ns → AllKept (map holding ns)
unfolding AllKept
kept-nodes k [] h = tt
kept-nodes k (n ∷ ns) h = (full (from_node n) (h n (Memᴰ.head refl)).0, kept-nodes k ns (λ m i. h m (Memᴰ.tail i)))

pub placed-kept : (k : ℕ) (ns : List (Node ℕ)) → All (ProperLeaf k) ns → AllKept (waiting_places ns)
placed-kept k ns h = kept_append (map holding ns) (replicate (places - length ns) no_place) (kept-nodes k ns h) (kept-none (places - length ns))

pub placed-sized : (ns : List (Node ℕ)) → length ns ≤ places → length (waiting_places ns) ≡ places
placed-sized ns few =
    length-append (map holding ns) (replicate (places - length ns) no_place)
    ∙ omega (arith, length-map ns holding, length-replicate (places - length ns) no_place, few)

-- ---- openings
-- A state with no entries and none waiting, as an opening leaves it.
empty-kept : (mark structure size : ℕ) → mark < 256 → structure < 256 → size < 256 → StateKept (empty mark structure size)
empty-kept mark structure size m s k =
    record {
      head =
          record {
            mark = m;
            structure = s;
            size = k;
            height = omega arith;
            entries = omega arith;
            waiting = omega arith;
            key = either-low (eqb structure 4 && eqb 0 0) 0 0 (omega arith) (omega arith);
            tag = omega arith;
            ahead = omega arith;
          };
      sized = length-replicate places no_place;
      kept = kept-none places;
      queue = λ q n. absurd (n refl);
      empty-queue = λ q z. refl;
      others = λ n. refl;
    }

pub opened-kept : (structure size : ℕ) (tree : List ℕ) → StateKept (opened structure size tree).state
unfolding opened
opened-kept structure size tree = go (in_range structure largest_structure) refl (in_range size largest_size) refl (eqb (length tree) (tree_length size))
  where
    go : (a : Bool) → in_range structure largest_structure ≡ a → (b : Bool) → in_range size largest_size ≡ b → (c : Bool)
        → StateKept
        (pick {A = Opened} (not a) (record { state = closed_with 11; tree = tree })
        (pick (not b) (record { state = closed_with 12; tree = tree })
        (pick (not c) (record { state = closed_with 3; tree = tree }) (record { state = fresh structure size; tree = replicate (length tree) 0 })))).state
    go false ea b eb c = empty-kept 11 0 0 (omega arith) (omega arith) (omega arith)
    go true ea false eb c = empty-kept 12 0 0 (omega arith) (omega arith) (omega arith)
    go true ea true eb false = empty-kept 3 0 0 (omega arith) (omega arith) (omega arith)
    go true ea true eb true =
        empty-kept 0 structure size (omega arith) (omega (arith, in-range-true structure largest_structure ea)) (omega (arith, in-range-true size largest_size eb))

-- ---- the open states of a list of calls
module _ (st : Structure) (k : ℕ) (positive : 1 ≤ k) (small : k ≤ 8) where
  pub open_kept : (s : Store) (m : Memory ℕ) → Simulates k s m → (t : Contents st) → Held 0 st (capacity k) t m → (StateKept (state_of st k s) × (fits (state_of st k s) ≡ true)) × (s.ahead.key < 2 ^ 32)
  open_kept s m sim t held =
      let fit = state-fits st k positive small s m sim t held in
      let root : FitLink k s.root = rw sim.root (held-root k (omega arith) st t m held (rw (← sim.ahead) sim.known) (simulates-fits sim)) in
      ((fit-kept (state_of st k s) fit refl root sim.known.key (placed-sized s.waiting (omega (arith, sim.few))) (placed-kept k s.waiting sim.kept.proper), fit), sim.known.key)

  -- Every state that calls leave open after a good opening.
  module _ (tree : List ℕ) (sized : length tree ≡ tree_length k) (bs : List Brought) (bytes : All (λ b. Bytes b.ticket) bs) where
    abbrev pub grown : State
    grown = (finally (opened_store st k tree) bs).state

    pub grown-kept : grown.mark ≡ 0 → (StateKept grown × (fits grown ≡ true)) × (grown.ahead.key < 2 ^ 32)
    grown-kept m =
        subst⁻¹ (λ (x : StateAndTree). (StateKept x.state × (fits x.state ≡ true)) × (x.state.ahead.key < 2 ^ 32)) (left-store st k positive small tree sized bs bytes m)
        (open_kept _ (method st k (opened_store st k tree) bs).memory (matches st k positive small tree sized bs bytes m).simulates _
        (method-held st k positive small tree sized bs bytes))
