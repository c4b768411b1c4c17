-- When a state fits: document 01's causes of an unfit state, one by one, in its words.
use Rattle.std.specs.Prelude.{ℕ, zero, suc, ◌+◌, ◌-◌, ◌^◌, Bool, true, false, not, ◌&&◌, List, [], ◌∷◌, map, eqb, leb, ltb, get_or}
use Rattle.list_spec.specs.Choice.{pick}
use Rattle.list_spec.specs.Ascending.{ascending}
use Rattle.balance_spec.specs.Shape.{shaped}
use Rattle.slot_spec.specs.Slot.{no_node, well_formed}
use Rattle.slot_spec.specs.declared.Link.{Link}
use Rattle.slot_spec.specs.declared.Ahead.{Ahead}
use Rattle.slot_spec.specs.declared.Node.{Node}
use Rattle.round_spec.specs.Round.{stash_limit}
use Rattle.state_spec.specs.declared.Place.{Place}
use Rattle.state_spec.specs.declared.State.{State}

-- "structure or size out of range"
abbrev pub largest_structure : ℕ
largest_structure = 4

abbrev pub largest_size : ℕ
largest_size = 8

abbrev pub in_range : ℕ → ℕ → Bool
in_range n most = ltb 0 n && leb n most

-- A link or a node that is all zero.
abbrev pub zero_link : Link → Bool
zero_link l = eqb l.height 0 && (eqb l.key 0 && eqb l.tag 0)

abbrev pub zero_node : Node → Bool
zero_node n = eqb n.key 0 && (eqb n.value 0 && (eqb n.tag 0 && (zero_link n.left && zero_link n.right)))

abbrev pub zero_place : Place → Bool
zero_place p = not p.full && zero_node p.node

unfoldable pub all_of : {A : Type 0} → (A → Bool) → List A → Bool
all_of f [] = true
all_of f (a ∷ xs) = f a && all_of f xs

-- "one empty or bad (its bucket not asked about)"
abbrev pub place_good : ℕ → Place → Bool
place_good k p = p.full && well_formed k p.node

-- "for the map a root height that no balanced tree with that many entries has; for the stack a root other than height 1 with
-- key = entries; with no entries a root link that is not all zero"; for the heap "height 1 and key 1"; for the queue "height 1 and the
-- next unused key minus the entries, not below 0, as its key"
unfoldable pub root_good : (structure entries next : ℕ) → Link → Bool
root_good structure entries next l =
    pick (eqb entries 0) (zero_link l)
    (pick (eqb structure 1) (shaped entries l.height)
    (eqb l.height 1
    && pick (eqb structure 4) (eqb (l.key + entries) next) (eqb l.key (pick (eqb structure 2) entries 1))))

abbrev pub no_ahead : Ahead
no_ahead = record { key = 0; tag = 0 }

-- "Without entries the root link and the tag drawn ahead must be zero. A tag drawn ahead is below 2^k, and for other structures it and
-- the next unused key are zero."
unfoldable pub ahead_good : (structure size entries : ℕ) → Ahead → Bool
ahead_good structure size entries a =
    pick (eqb structure 4) (pick (eqb entries 0) (eqb a.tag 0) (ltb a.tag (2 ^ size)))
    (eqb a.key 0 && eqb a.tag 0)

abbrev pub keys_in : List Place → List ℕ
keys_in ps = map (λ (p : Place). p.node.key) ps

-- The place with a number, and n of them from number i on. A state has 101 places.
abbrev pub places : ℕ
places = 101

abbrev pub no_place : Place
no_place = record { full = false; node = no_node }

unfoldable pub places_from : (n i : ℕ) → List Place → List Place
places_from zero i ps = []
places_from (suc n) i ps = get_or ps i no_place ∷ places_from n (suc i) ps

abbrev pub used : State → List Place
used s = places_from s.count 0 s.places

abbrev pub unused : State → List Place
unused s = places_from (places - s.count) s.count s.places

-- "one empty or bad, or keys not ascending; an unused place not zero"
abbrev pub places_fit : State → Bool
places_fit s =
    all_of (place_good s.size) (used s) && (ascending (keys_in (used s)) && all_of zero_place (unused s))

-- All but the places: "structure or size out of range; entries above 2^k − 1; over 64 waiting", "a root tag of 2^k or more", a root link
-- or what is known ahead that the structure cannot have.
unfoldable pub head_fits : (structure size entries count : ℕ) → Link → Ahead → Bool
head_fits structure size entries count root ahead =
    in_range structure largest_structure
    && (in_range size largest_size
    && (leb entries (2 ^ size - 1)
    && (leb count stash_limit
    && (ltb root.tag (2 ^ size)
    && (root_good structure entries ahead.key root && ahead_good structure size entries ahead)))))

unfoldable pub fits : State → Bool
fits s = head_fits s.structure s.size s.entries s.count s.root s.ahead && places_fit s
