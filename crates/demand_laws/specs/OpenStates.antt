-- The open state that keeps a bucket store: the store is read back from it.
use Rattle.std.specs.Prelude.{ℕ, zero, suc, ◌-◌, ◌≡◌, refl, true, List, [], ◌∷◌, ◌++◌, map, length, get_or, replicate}
use Rattle.std.proofs.Common.{◌∙◌, ap, subst, map-id}
use Rattle.std.proofs.lemmas.Simd.{map-map}
use Rattle.std.proofs.lemmas.List.{length-map}
use Rattle.method_spec.specs.Node.{Node}
use Rattle.method_spec.specs.Answer.{Structure}
use Rattle.leaf_spec.specs.Convert.{to_node, from_node, from_link, from_ahead}
use Rattle.bucket_call_spec.specs.Call.{Store}
use Rattle.state_spec.specs.declared.Place.{Place}
use Rattle.state_spec.specs.declared.State.{State}
use Rattle.state_spec.specs.Fit.{places, no_place, places_from, used, unused}
use Rattle.call_spec.specs.Store.{waiting_places, store_of}
use Rattle.demand_spec.specs.History.{StateAndTree, structure_number}

abbrev pub state_of : Structure → ℕ → Store → State
state_of st k s =
    record {
      mark = 0;
      structure = structure_number st;
      size = k;
      entries = s.entries;
      root = from_link s.root;
      ahead = from_ahead s.ahead;
      count = length s.waiting;
      places = waiting_places s.waiting;
    }

abbrev pub kept_of : Structure → ℕ → Store → StateAndTree
kept_of st k s = record { state = state_of st k s; tree = s.tree }

-- ---- places

places-tail : (n i : ℕ) (p : Place) (ps : List Place) → places_from n (suc i) (p ∷ ps) ≡ places_from n i ps
unfolding places_from
places-tail zero i p ps = refl
places-tail (suc n) i p ps = ap (λ (qs : List Place). get_or ps i no_place ∷ qs) (places-tail n (suc i) p ps)

-- The first of some places, and those after them.
places-first : (ps qs : List Place) → places_from (length ps) 0 (ps ++ qs) ≡ ps
unfolding places_from
places-first [] qs = refl
places-first (p ∷ ps) qs =
    ap (λ (rs : List Place). p ∷ rs) (places-tail (length ps) 0 p (ps ++ qs) ∙ places-first ps qs)

places-after : (n : ℕ) (ps qs : List Place) → places_from n (length ps) (ps ++ qs) ≡ places_from n 0 qs
places-after n [] qs = refl
places-after n (p ∷ ps) qs = places-tail n (length ps) p (ps ++ qs) ∙ places-after n ps qs

places_same : (n : ℕ) (p : Place) → places_from n 0 (replicate n p) ≡ replicate n p
unfolding places_from
places_same zero p = refl
places_same (suc n) p =
    ap (λ (qs : List Place). p ∷ qs) (places-tail n 0 p (replicate n p) ∙ places_same n p)

-- A place that holds a node.
abbrev pub holding : Node ℕ → Place
holding n = record { full = true; node = from_node n }

-- Placed nodes are read back.
placed_first : (ns : List (Node ℕ)) → places_from (length ns) 0 (waiting_places ns) ≡ map holding ns
placed_first ns =
    subst (λ (n : ℕ). places_from n 0 (waiting_places ns) ≡ map holding ns) (length-map ns holding)
    (places-first (map holding ns) (replicate (places - length ns) no_place))

pub placed-back : (ns : List (Node ℕ)) → map (λ (p : Place). to_node p.node) (places_from (length ns) 0 (waiting_places ns)) ≡ ns
placed-back ns =
    rw (placed_first ns) (map-map (λ (p : Place). to_node p.node) holding ns ∙ map-id ns)

module _ (st : Structure) (k : ℕ) (s : Store) where
  pub used-places : used (state_of st k s) ≡ map holding s.waiting
  used-places = placed_first s.waiting

  pub unused-places : unused (state_of st k s) ≡ replicate (places - length s.waiting) no_place
  unused-places =
      let n : ℕ = places - length s.waiting in
      subst (λ (i : ℕ). places_from n i (waiting_places s.waiting) ≡ replicate n no_place) (length-map s.waiting holding)
      (places-after n (map holding s.waiting) (replicate n no_place) ∙ places_same n no_place)

  -- The store of the state is the store.
  pub store-back : store_of (state_of st k s) s.tree ≡ s
  store-back =
      ap (λ (ws : List (Node ℕ)). record { entries = s.entries; root = s.root; ahead = s.ahead; waiting = ws; tree = s.tree }) (placed-back s.waiting)
