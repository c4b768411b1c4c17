-- The open state of a store that simulates a memory of the method fits: each cause of an unfit state, ruled out.
use Rattle.std.specs.Prelude.{ℕ, zero, suc, ◌+◌, ◌-◌, ◌^◌, ◌≤◌, ◌≡◌, refl, true, false, ◌&&◌, List, [], ◌∷◌, map, eqb, leb, ltb, length, replicate}
use mathlib.Core.List.Memᴰ
use Rattle.std.proofs.lemmas.Simd.{map-map}
use Rattle.std.proofs.Common.{arith}
use Rattle.std.proofs.Math.Decide.{dec_le}
use borrow.Author.Tests.{eq-eqb, ne_eqb, lt-ltb, le-leb}
use Rattle.list_spec.specs.Choice.{pick}
use Rattle.list_spec.specs.Distinct.{All}
use Rattle.balance_spec.specs.Shape.{shaped}
use Rattle.method_spec.specs.Node.{Node, Ahead, none_ahead}
use Rattle.method_spec.specs.Answer.{Structure, map as the-map, stack as the-stack, heap as the_heap, queue as the-queue}
use Rattle.method_spec.specs.Plain.{Contents}
use Rattle.method_spec.specs.Call.{capacity, Memory}
use Rattle.heap_laws.specs.HeapFacts.{heap-root}
use Rattle.method_laws.specs.MapRepresents.{holds-shaped}
use Rattle.method_laws.specs.Represented.{Held, held_fits}
use Rattle.round_spec.specs.Round.{stash_limit}
use Rattle.leaf_spec.specs.Convert.{from_link, from_ahead}
use Rattle.bucket_call_spec.specs.Call.{Store}
use Rattle.leaf_spec.specs.Leaf.{ProperLeaf}
use Rattle.simulation_laws.specs.HeldProper.{held-root}
use Rattle.bucket_call_spec.specs.Simulates.{AheadFits, Simulates}
use Rattle.simulation_laws.specs.CallSim.{simulates-fits}
use Rattle.simulation_laws.specs.Root.{root-empty, root-top, root-oldest}
use Rattle.state_spec.specs.declared.Place.{Place}
use Rattle.state_spec.specs.Fit.{in_range, largest_structure, largest_size, all_of, place_good, zero_place, no_place, root_good, ahead_good, places, places_fit, head_fits, fits}
use Rattle.demand_spec.specs.History.{structure_number}
use Rattle.demand_laws.specs.OpenStates.{state_of, holding, used-places, unused-places}

-- ---- the waiting nodes

pub good-places : (k : ℕ) (ns : List (Node ℕ)) → All (ProperLeaf k) ns → all_of (place_good k) (map holding ns) ≡ true
unfolding all_of
good-places k [] h = refl
good-places k (n ∷ ns) h =
    rw (h n (Memᴰ.head refl)).1 (good-places k ns (λ m i. h m (Memᴰ.tail i)))

zero-places : (n : ℕ) → all_of zero_place (replicate n no_place) ≡ true
unfolding all_of
zero-places zero = refl
zero-places (suc n) = zero-places n

-- ---- the root

pub root-good : (st : Structure) (stash_limit : ℕ) (t : Contents st) (m : Memory ℕ) → Held 0 st stash_limit t m
    → root_good (structure_number st) m.entries m.ahead.key (from_link m.root) ≡ true
unfolding root_good
root-good st stash_limit t m held = go (dec_le 1 m.entries)
  where
    some-entries : (st : Structure) (t : Contents st) → Held 0 st stash_limit t m → (m.entries ≡ 0 → ⊥)
        → pick (eqb (structure_number st) 1) (shaped m.entries m.root.height)
        (eqb m.root.height 1
        && pick (eqb (structure_number st) 4) (eqb (m.root.key + m.entries) m.ahead.key) (eqb m.root.key (pick (eqb (structure_number st) 2) m.entries 1))) ≡ true
    some-entries the-map t held h = holds-shaped held.0
    some-entries the-stack t held h =
        let top = root-top 0 stash_limit t m held h in
        rw (eq-eqb m.root.height 1 top.0, eq-eqb m.root.key m.entries top.1)
    some-entries the_heap t held h =
        let top = heap-root 0 held.0 h in
        rw (eq-eqb m.root.height 1 top.0, eq-eqb m.root.key 1 top.1)
    some-entries the-queue t held h =
        let oldest = root-oldest 0 stash_limit t m held h in
        rw (eq-eqb m.root.height 1 oldest.0, eq-eqb (m.root.key + m.entries) m.ahead.key oldest.1)

    go : Dec (1 ≤ m.entries) → root_good (structure_number st) m.entries m.ahead.key (from_link m.root) ≡ true
    go (yes h) = rw (ne_eqb m.entries 0 (λ e. omega arith)) (some-entries st t held (λ e. omega arith))
    go (no h) =
        let none : m.entries ≡ 0 = omega arith in
        rw (none, root-empty 0 st stash_limit t m held none)

-- ---- what is known ahead

none-known : (n k entries : ℕ) (a : Ahead ℕ) → eqb n 4 ≡ false → a ≡ none_ahead 0 → ahead_good n k entries (from_ahead a) ≡ true
unfolding ahead_good
none-known n k entries a other e = rw (other, e)

pub ahead-good : (st : Structure) (k stash_limit : ℕ) (t : Contents st) (m : Memory ℕ) → Held 0 st stash_limit t m → AheadFits k m.ahead
    → ahead_good (structure_number st) k m.entries (from_ahead m.ahead) ≡ true
unfolding ahead_good
ahead-good the-map k stash_limit t m held known = none-known 1 k m.entries m.ahead refl held.1
ahead-good the-stack k stash_limit t m held known = none-known 2 k m.entries m.ahead refl held.1
ahead-good the_heap k stash_limit t m held known = none-known 3 k m.entries m.ahead refl held.1
ahead-good the-queue k stash_limit t m held known = go (dec_le 1 m.entries)
  where
    go : Dec (1 ≤ m.entries) → pick (eqb m.entries 0) (eqb m.ahead.tag 0) (ltb m.ahead.tag (2 ^ k)) ≡ true
    go (yes h) = rw (ne_eqb m.entries 0 (λ e. omega arith)) (lt-ltb m.ahead.tag (2 ^ k) known.tag)
    go (no h) =
        let none : m.entries ≡ 0 = omega arith in
        rw none (eq-eqb m.ahead.tag 0 (held.none-drawn none))

-- ---- the state

pub structure-fits : (st : Structure) → in_range (structure_number st) largest_structure ≡ true
structure-fits the-map = refl
structure-fits the-stack = refl
structure-fits the_heap = refl
structure-fits the-queue = refl

pub in-range : (n most : ℕ) → 1 ≤ n → n ≤ most → in_range n most ≡ true
in-range n most low high = rw (lt-ltb 0 n low) (le-leb n most high)

module _ (st : Structure) (k : ℕ) (positive : 1 ≤ k) (small : k ≤ 8) (s : Store) (m : Memory ℕ) (sim : Simulates k s m)
    (t : Contents st) (held : Held 0 st (capacity k) t m) where
  entries_fit : leb s.entries (2 ^ k - 1) ≡ true
  entries_fit = le-leb s.entries (2 ^ k - 1) (rw sim.entries (held_fits 0 st (capacity k) t m held))

  places-fit : places_fit (state_of st k s) ≡ true
  places-fit =
      rw (
        used-places st k s,
        unused-places st k s,
        good-places k s.waiting sim.kept.proper,
        zero-places (places - length s.waiting),
        map-map (λ (p : Place). p.node.key) holding s.waiting,
        sim.ascends,
      )

  root-tag : ltb s.root.tag (2 ^ k) ≡ true
  root-tag = lt-ltb s.root.tag (2 ^ k) (rw sim.root (held-root k (omega arith) st t m held (rw (← sim.ahead) sim.known) (simulates-fits sim)).tag)

  root-fits : root_good (structure_number st) s.entries s.ahead.key (from_link s.root) ≡ true
  root-fits = rw (sim.entries, sim.root, sim.ahead) (root-good st (capacity k) t m held)

  ahead-fits : ahead_good (structure_number st) k s.entries (from_ahead s.ahead) ≡ true
  ahead-fits = rw (sim.entries, sim.ahead) (ahead-good st k (capacity k) t m held (rw (← sim.ahead) sim.known))

  pub state-fits : fits (state_of st k s) ≡ true
  unfolding fits head_fits
  state-fits =
      rw (structure-fits st, in-range k largest_size positive small, entries_fit, le-leb (length s.waiting) stash_limit sim.few, root-tag, root-fits, ahead-fits) places-fit
