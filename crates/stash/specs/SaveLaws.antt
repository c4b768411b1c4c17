-- One place after another: saved over the places that a fit state has.
use Rattle.std.specs.Prelude.{◌≡◌, refl, true, not, ◌&&◌, List, [], ◌∷◌, ◌++◌, map, ℕ, zero, suc, ◌+◌, ◌-◌, ◌≤◌, ◌<◌, eqb, length, take, drop, get_or, set, replicate}
use Rattle.std.proofs.Common.{sym, ◌∙◌, ap, ap₂, add-one, arith, eqb-true, length-append, length-drop, take-append-drop, drop_of_length-le, take-suc, drop-cons, drop-drop, get_or-append-add, get_or-take, length-take-le}
use Rattle.std.proofs.Math.Bool.{and-eq-true_iff}
use Rattle.std.proofs.lemmas.Bool.{not-true}
use Rattle.std.proofs.lemmas.List.{length-map, length-replicate, get_or-replicate, get_or_at, set_at}
use Rattle.std.proofs.Math.ListN.{get_or-append, get_or-map}
use Rattle.std.proofs.Math.Seq.{split_at, drop-append-add, append_snoc}
use Rattle.slot_spec.specs.Slot.{fields_in, node_of, slot_bytes, no_link}
use Rattle.slot_spec.specs.declared.Slot.{Slot}
use Rattle.slot_spec.specs.declared.Link.{Link}
use Rattle.slot_spec.specs.declared.Ahead.{Ahead}
use Rattle.slot_spec.specs.declared.Node as node
use Rattle.method_spec.specs.Node.{Node}
use Rattle.round_spec.specs.Round.{stash_limit}
use Rattle.leaf_spec.specs.Convert.{from_node}
use Rattle.slot_spec.specs.Row.{zero_slot}
use Rattle.word_round_laws.specs.SlotRow.{slots_in}
use Rattle.stash_laws.specs.Waiting.{node_in, waiting_in, Holds}
use Rattle.stash_laws.specs.WaitingLaws.{waiting-length}
use Rattle.state_spec.specs.declared.Place.{Place}
use Rattle.state_spec.specs.declared.State.{State}
use Rattle.state_spec.specs.Fit.{zero_link, zero_node, zero_place, all_of, place_good, keys_in, places, no_place, places_from, used, unused, fits}
use Rattle.list_spec.specs.Ascending.{ascending}
use Rattle.call_spec.specs.Store.{waiting_places}
use Rattle.state_laws.specs.FitLaws.{fit_parts}
use Rattle.stash.specs.Stash.{saved}

-- ---- the unused places of a fit state
zero-link : (l : Link) → zero_link l ≡ true → l ≡ no_link
zero-link l e =
    let a = (and-eq-true_iff (eqb l.height 0) (eqb l.key 0 && eqb l.tag 0)).0 e in
    let b = (and-eq-true_iff (eqb l.key 0) (eqb l.tag 0)).0 a.1 in
    let height = eqb-true l.height 0 a.0 in
    let key = eqb-true l.key 0 b.0 in
    let tag = eqb-true l.tag 0 b.1 in
    let same : ◌≡◌ {A = Link} (record { height = l.height; key = l.key; tag = l.tag }) no_link = cc in
    same

zero-place : (p : Place) → zero_place p ≡ true → p ≡ no_place
zero-place p e =
    let a = (and-eq-true_iff (not p.full) (zero_node p.node)).0 e in
    let b = (and-eq-true_iff (eqb p.node.key 0) _).0 a.1 in
    let d = (and-eq-true_iff (eqb p.node.value 0) _).0 b.1 in
    let f = (and-eq-true_iff (eqb p.node.tag 0) _).0 d.1 in
    let g = (and-eq-true_iff (zero_link p.node.left) (zero_link p.node.right)).0 f.1 in
    let full = not-true p.full a.0 in
    let key = eqb-true p.node.key 0 b.0 in
    let value = eqb-true p.node.value 0 d.0 in
    let tag = eqb-true p.node.tag 0 f.0 in
    let left = zero-link p.node.left g.0 in
    let right = zero-link p.node.right g.1 in
    let n = p.node in
    let same : ◌≡◌ {A = Place} (record { full = p.full; node = record { key = n.key; value = n.value; tag = n.tag; left = n.left; right = n.right } }) no_place = cc in
    same

all-zero : (ps : List Place) → all_of zero_place ps ≡ true → ps ≡ replicate (length ps) no_place
unfolding all_of
all-zero [] e = refl
all-zero (p ∷ ps) e =
    let both = (and-eq-true_iff (zero_place p) (all_of zero_place ps)).0 e in
    ap₂ (λ (q : Place) (qs : List Place). q ∷ qs) (zero-place p both.0) (all-zero ps both.1)

places-rest : (n i : ℕ) (ps : List Place) → length ps ≡ i + n → places_from n i ps ≡ drop i ps
unfolding places_from
places-rest zero i ps h = sym (drop_of_length-le ps {i = i} (omega arith))
places-rest (suc n) i ps h =
    ap (λ (qs : List Place). get_or ps i no_place ∷ qs) (places-rest n (suc i) ps (omega arith))
    ∙ sym (drop-cons ps i no_place (omega arith))

drop-replicate : {A : Type 0} (m n : ℕ) (a : A) → drop m (replicate n a) ≡ replicate (n - m) a
drop-replicate zero n a = let e : n - 0 ≡ n = omega arith in rw e
drop-replicate (suc m) zero a = let e : 0 - suc m ≡ 0 = omega arith in rw e
drop-replicate (suc m) (suc n) a = let e : suc n - suc m ≡ n - m = omega arith in rw e (drop-replicate m n a)

-- What a fit state says of its places.
pub record Places (s : State) : Type 0 where
  pub few : s.count ≤ stash_limit
  pub blank : all_of zero_place (unused s) ≡ true

pub fit-places : (s : State) → fits s ≡ true → Places s
fit-places s e =
    let f = fit_parts s e in
    let g = (and-eq-true_iff (all_of (place_good s.size) (used s)) _).0 f.1 in
    record {
      few = f.0.waiting;
      blank = ((and-eq-true_iff (ascending (keys_in (used s))) _).0 g.1).1;
    }

-- From the count on they are blank.
blank-from : (s : State) (i : ℕ) → Places s → length s.places ≡ places → s.count ≤ i → i ≤ places → drop i s.places ≡ replicate (places - i) no_place
blank-from s i p sized h few =
    let c = s.count in
    let d = i - c in
    let here : unused s ≡ drop c s.places = places-rest (places - c) c s.places (omega arith) in
    let many : length (drop c s.places) ≡ places - c = length-drop c s.places ∙ omega arith in
    let e : c + d ≡ i = omega arith in
    let f : places - c - d ≡ places - i = omega arith in
    sym (drop-drop d c s.places ∙ ap (λ (k : ℕ). drop k s.places) e)
    ∙ ap (drop d) (sym here ∙ all-zero (unused s) p.blank ∙ ap (λ (k : ℕ). replicate k no_place) (ap length here ∙ many))
    ∙ drop-replicate d (places - c) no_place
    ∙ ap (λ (k : ℕ). replicate k no_place) f

-- ---- the places that are saved
any-default : {A : Type 0} (l : List A) (i : ℕ) (d e : A) → i < length l → get_or l i d ≡ get_or l i e
any-default {A = A} l i d e h =
    ap (λ (m : List A). get_or m i d) (split_at l i e h) ∙ get_or_at (take i l) (get_or l i e) (drop (suc i) l) d i (length-take-le i l (omega arith))

abbrev pub holding : Node ℕ → Place
holding n = record { full = true; node = from_node n }

-- A state with other places.
abbrev pub with_places : State → List Place → State
with_places s ps =
    record {
      mark = s.mark;
      structure = s.structure;
      size = s.size;
      entries = s.entries;
      root = s.root;
      ahead = s.ahead;
      count = s.count;
      places = ps;
    }

-- The first i places as they are saved, and the others as they were.
abbrev pub saved_to : (i n : ℕ) (row : List ℕ) → State → State
saved_to i n row s = with_places s (take i (waiting_places (waiting_in n row)) ++ drop i s.places)

module _ (n : ℕ) (row : List ℕ) (h : Holds n row) where
  abbrev nodes : List (Node ℕ)
  nodes = waiting_in n row

  many : length (map holding nodes) ≡ n
  many = length-map nodes holding ∙ waiting-length h

  pub placed-count : length (waiting_places nodes) ≡ places
  placed-count = simp (length-append, length-replicate) (omega (arith, many, waiting-length h, h.few))

  -- What stands in a place: a node, or from n on nothing.
  pub holds-node : (i : ℕ) (x : Slot) (m : node.Node) → i < n → x ≡ get_or (slots_in row) i zero_slot → m ≡ node_of (fields_in (slot_bytes x))
      → record { full = true; node = m } ≡ get_or (waiting_places nodes) i no_place
  holds-node i x m b e f =
      let d = holding (node_in zero_slot) in
      sym
      (any-default (waiting_places nodes) i no_place d (omega (arith, placed-count, h.few))
      ∙ get_or-append (map holding nodes) (replicate (places - length nodes) no_place) d i (omega (arith, many))
      ∙ get_or-map holding nodes i (node_in zero_slot)
      ∙ ap holding (get_or-map node_in (take n (slots_in row)) i zero_slot ∙ ap node_in (get_or-take n (slots_in row) i zero_slot b))
      ∙ rw (f, e))

  pub holds-none : (i : ℕ) → n ≤ i → i < places → no_place ≡ get_or (waiting_places nodes) i no_place
  holds-none i a b =
      let e : i ≡ length (map holding nodes) + (i - n) = omega (arith, many) in
      sym
      (rw e (get_or-append-add (map holding nodes) (replicate (places - length nodes) no_place) (i - n) no_place ∙ get_or-replicate (places - length nodes) (i - n) no_place no_place (omega (arith, waiting-length h))))

  module _ (s : State) (fit : fits s ≡ true) (sized : length s.places ≡ places) where
    -- One more place is as it is saved.
    pub saved-more : (i : ℕ) (after : State) (p : Place) → i < places → after ≡ saved_to i n row s → p ≡ get_or (waiting_places nodes) i no_place
        → with_places after (set after.places i p) ≡ saved_to (i + 1) n row s
    saved-more i after p b e q =
        let rest = drop (suc i) s.places in
        rw (e, q, add-one i, drop-cons s.places i no_place (omega arith))
        (ap (with_places s)
        (set_at (take i (waiting_places nodes)) (get_or s.places i no_place) rest (get_or (waiting_places nodes) i no_place) i (length-take-le i (waiting_places nodes) (omega (arith, placed-count)))
        ∙ sym (append_snoc (take i (waiting_places nodes)) (get_or (waiting_places nodes) i no_place) rest)
        ∙ ap (λ (ps : List Place). ps ++ rest) (sym (take-suc (waiting_places nodes) i no_place (omega (arith, placed-count))))))

    -- Past the nodes that wait and those that waited, nothing is left to save.
    pub nothing_left : (i : ℕ) → n ≤ i → s.count ≤ i → i ≤ places → take i (waiting_places nodes) ++ drop i s.places ≡ waiting_places nodes
    nothing_left i a b few =
        let e : i ≡ length (map holding nodes) + (i - n) = omega (arith, many) in
        let f : places - length nodes - (i - n) ≡ places - i = omega (arith, waiting-length h) in
        let left : drop i (waiting_places nodes) ≡ replicate (places - i) no_place =
        ap (λ (k : ℕ). drop k (waiting_places nodes)) e
        ∙ drop-append-add (map holding nodes) (replicate (places - length nodes) no_place) (i - n)
        ∙ drop-replicate (i - n) (places - length nodes) no_place
        ∙ ap (λ (k : ℕ). replicate k no_place) f in
        ap (λ (ps : List Place). take i (waiting_places nodes) ++ ps) (blank-from s i (fit-places s fit) sized b few ∙ sym left) ∙ take-append-drop i (waiting_places nodes)

    pub saved-all : (i : ℕ) (after : State) (mark entries : ℕ) (root : Link) (ahead : Ahead) → after ≡ saved_to i n row s → n ≤ i → s.count ≤ i → i ≤ places
        → ◌≡◌ {A = State} (record { mark = mark; structure = after.structure; size = after.size; entries = entries; root = root; ahead = ahead; count = n; places = after.places })
        (saved s.structure s.size mark entries root ahead nodes)
    saved-all i after mark entries root ahead e a b few = rw (e, nothing_left i a b few, waiting-length h)
