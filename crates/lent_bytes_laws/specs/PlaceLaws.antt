-- Waiting places as slots: there and back, and what a slot that is read for the root's bucket says of its place.
use Rattle.std.proofs.Math.Path.{◌≡◌, refl, sym}
use Rattle.std.proofs.Common.{◌∙◌, ap, ap₂, append_assoc, suc-add, arith, length-append, length-drop, take-append-drop, drop-drop, take_at, drop_at, length-take-le, eqb-true}
use Rattle.std.specs.Prelude.{Bool, ◌&&◌, ◌||◌, List, [], ◌∷◌, ◌++◌, ℕ, zero, suc, ◌+◌, ◌*◌, ◌≤◌, ◌<◌, length, get_or, take, drop, replicate}
use Rattle.std.proofs.Math.Bool.{true, false, and-false, and_assoc, and-eq-true_iff}
use Rattle.std.proofs.Math.Dec.{eqb}
use Rattle.std.proofs.lemmas.Bool.{eqb-false}
use Rattle.list_spec.specs.Choice.{pick}
use Rattle.slot_spec.specs.LittleEndian.{value, Bytes}
use Rattle.slot_spec.specs.Layout.{fields, total}
use Rattle.slot_spec.specs.Tree.{slot_length, passes}
use Rattle.slot_spec.specs.Slot.{widths, fields_in, fields_of, node_of, encode, all_zero, well_formed, read_slot, Ranged}
use Rattle.slot_spec.specs.declared.Node.{Node}
use Rattle.slot_spec.specs.declared.Reading.TheVariants.{Full, Empty, Bad}
use Rattle.slot_laws.specs.LittleEndianLaws.{bytes_take, bytes_drop, bytes-append}
use Rattle.slot_laws.specs.LayoutLaws.{length-pack, pack-bytes}
use Rattle.slot_laws.specs.SlotLaws.{fields-encoded, node-fields, all-zero-append, all-zero-replicate}
use Rattle.slot_laws.specs.ReadLaws.{read-full, read-flagless, all-zero-read, node-encoding, well-formed-tag}
use Rattle.slot_laws.proofs.PathNumberLaws.{root-passes}
use Rattle.state_spec.specs.declared.Place.{Place}
use Rattle.state_spec.specs.Fit.{zero_place, all_of, place_good, no_place, places_from}
use Rattle.lent_bytes_spec.specs.StateBytes.{holds_node, place_in, places_in, place_bytes, places_bytes, slot_sound, slots_sound}

-- ---- one slot
pub place-length : (p : Place) → length (place_bytes p) ≡ slot_length
unfolding encode total
place-length p = go p.full
  where
    go : (b : Bool) → length (pick b (encode p.node) (replicate slot_length 0)) ≡ slot_length
    go true = length-pack widths _
    go false = refl

zero-holds-none : holds_node (fields_in (replicate 32 0)) ≡ false
unfolding fields_in fields value
zero-holds-none = refl

node-held : (n : Node) → Ranged n → holds_node (fields_in (encode n)) ≡ true
unfolding fields_of
node-held n r = rw (fields-encoded n r)

-- A place that a slot says all of: it holds a node within its widths, or is all zero.
pub data PlaceKept : Place → Type 0 where
  full : (n : Node) → Ranged n → PlaceKept (record { full = true; node = n })
  none : PlaceKept no_place

pub place-back : (p : Place) → PlaceKept p → place_in (place_bytes p) ≡ p
unfolding place_in
place-back _ (full n r) = rw (node-held n r, fields-encoded n r, node-fields n)
place-back _ none = rw zero-holds-none

pub place-sound : (p : Place) → PlaceKept p → slot_sound (place_bytes p) ≡ true
unfolding all_zero
place-sound _ (full n r) = rw (node-held n r) (or-true (all_zero (encode n)))
  where
    or-true : (b : Bool) → (b || true) ≡ true
    or-true true = refl
    or-true false = refl
place-sound _ none = refl

module _ (bs : List ℕ) (sized : length bs ≡ slot_length) where
  zeros : all_zero bs ≡ true → bs ≡ replicate slot_length 0
  zeros e = all-zero-replicate bs e ∙ ap (λ (n : ℕ). replicate n 0) sized

  zeros-hold-none : all_zero bs ≡ true → holds_node (fields_in bs) ≡ false
  zeros-hold-none e = ap (λ (x : List ℕ). holds_node (fields_in x)) (zeros e) ∙ zero-holds-none

  -- A sound slot is what its place is written as.
  pub slot-written : Bytes bs → slot_sound bs ≡ true → place_bytes (place_in bs) ≡ bs
  unfolding place_in
  slot-written b e = go (all_zero bs) refl (holds_node (fields_in bs)) refl e
    where
      go : (z : Bool) → all_zero bs ≡ z → (h : Bool) → holds_node (fields_in bs) ≡ h → (z || h) ≡ true → place_bytes (place_in bs) ≡ bs
      go true ez h eh t = rw (zeros-hold-none ez) (sym (zeros ez))
      go false ez true eh t =
          let f = fields_in bs in
          let a = (and-eq-true_iff (eqb f.flag 1) (eqb f.zero1 0 && eqb f.zero2 0)).0 eh in
          let c = (and-eq-true_iff (eqb f.zero1 0) (eqb f.zero2 0)).0 a.1 in
          rw eh (sym (node-encoding bs b sized (eqb-true f.flag 1 a.0) (eqb-true f.zero1 0 c.0) (eqb-true f.zero2 0 c.1)))
      go false ez false eh t = let z : ◌≡◌ {A = ℕ} 0 1 = cc in absurd (omega arith)

  -- A slot is all zero exactly if it is sound and its place is unused.
  pub slot-blank : all_zero bs ≡ (slot_sound bs && zero_place (place_in bs))
  unfolding place_in
  slot-blank = go (all_zero bs) refl (holds_node (fields_in bs)) refl
    where
      go : (z : Bool) → all_zero bs ≡ z → (h : Bool) → holds_node (fields_in bs) ≡ h
          → z ≡ ((z || h) && zero_place (pick h (record { full = true; node = node_of (fields_in bs) }) no_place))
      go true ez true eh = let y : true ≡ false = sym eh ∙ zeros-hold-none ez in let z : ◌≡◌ {A = ℕ} 0 1 = cc in absurd (omega arith)
      go true ez false eh = refl
      go false ez true eh = refl
      go false ez false eh = refl

  -- What the slot is read as for the root's bucket says whether its place is good.
  pub slot_read : (k : ℕ) → read_slot k 1 bs ≡ pick (place_good k (place_in bs)) (Full (place_in bs).node) (pick (all_zero bs) Empty Bad)
  unfolding place_in node_of
  slot_read k = go (all_zero bs) refl (eqb (fields_in bs).flag 1) refl (eqb (fields_in bs).zero1 0 && eqb (fields_in bs).zero2 0) refl
    where
      formed : (t : Bool) → well_formed k (node_of (fields_in bs)) ≡ t
          → pick t (pick (passes k (fields_in bs).tag 1) (Full (node_of (fields_in bs))) Bad) Bad ≡ pick t (Full (node_of (fields_in bs))) Bad
      formed true e = rw (root-passes k (fields_in bs).tag (well-formed-tag k (node_of (fields_in bs)) e))
      formed false e = refl

      go : (z : Bool) → all_zero bs ≡ z → (f : Bool) → eqb (fields_in bs).flag 1 ≡ f → (o : Bool) → (eqb (fields_in bs).zero1 0 && eqb (fields_in bs).zero2 0) ≡ o
          → (let p = pick (f && o) (record { full = true; node = node_of (fields_in bs) }) no_place in
          read_slot k 1 bs ≡ pick (place_good k p) (Full p.node) (pick z Empty Bad))
      go true ez f ef o eo = let h : (f && o) ≡ false = ap₂ ◌&&◌ (sym ef) (sym eo) ∙ zeros-hold-none ez in rw h (all-zero-read k 1 bs sized ez)
      go false ez false ef o eo = read-flagless k 1 bs ez (eqb-false (fields_in bs).flag 1 ef)
      go false ez true ef false eo = read-full k 1 bs (eqb-true (fields_in bs).flag 1 ef) ∙ rw eo
      go false ez true ef true eo =
          read-full k 1 bs (eqb-true (fields_in bs).flag 1 ef) ∙ rw eo (formed (well_formed k (node_of (fields_in bs))) refl)

-- ---- a row of slots
pub places-length : (n : ℕ) (bs : List ℕ) → length (places_in n bs) ≡ n
unfolding places_in
places-length zero bs = refl
places-length (suc n) bs = ap suc (places-length n (drop slot_length bs))

pub place-got : (n i : ℕ) (bs : List ℕ) → i < n → get_or (places_in n bs) i no_place ≡ place_in (take slot_length (drop (slot_length * i) bs))
unfolding places_in
place-got zero i bs h = let z : ⊥ = omega (arith, h) in absurd z
place-got (suc n) zero bs h = refl
place-got (suc n) (suc i) bs h =
    let e : slot_length + slot_length * i ≡ slot_length * suc i = omega arith in
    place-got n i (drop slot_length bs) (omega (arith, h)) ∙ rw (drop-drop (slot_length * i) slot_length bs, e)

-- The places of a row of slots, from number i on.
pub places-read : (m n i : ℕ) (bs : List ℕ) → i + n ≤ m → places_from n i (places_in m bs) ≡ places_in n (drop (slot_length * i) bs)
unfolding places_from places_in
places-read m zero i bs within = refl
places-read m (suc n) i bs within =
    let e : slot_length * i + slot_length ≡ slot_length * suc i = omega arith in
    rw (place-got m i bs (omega arith), places-read m n (suc i) bs (omega arith), drop-drop slot_length (slot_length * i) bs, e)

pub slots-split : (n m : ℕ) (bs : List ℕ) → slots_sound (n + m) bs ≡ (slots_sound n bs && slots_sound m (drop (slot_length * n) bs))
unfolding slots_sound
slots-split zero m bs = let e : 0 + m ≡ m = omega arith in rw e
slots-split (suc n) m bs =
    let e : slot_length * suc n ≡ slot_length + slot_length * n = omega arith in
    rw (suc-add, e, ← drop-drop (slot_length * n) slot_length bs, slots-split n m (drop slot_length bs))
    (sym (and_assoc (slot_sound (take slot_length bs)) (slots_sound n (drop slot_length bs)) (slots_sound m (drop (slot_length * n) (drop slot_length bs)))))

pub slots-written : (n : ℕ) (bs : List ℕ) → Bytes bs → length bs ≡ slot_length * n → slots_sound n bs ≡ true → places_bytes (places_in n bs) ≡ bs
unfolding slots_sound places_in places_bytes
slots-written zero [] b e s = refl
slots-written zero (x ∷ bs) b e s = let z : ⊥ = omega (arith, e) in absurd z
slots-written (suc n) bs b e s =
    let both = (and-eq-true_iff (slot_sound (take slot_length bs)) (slots_sound n (drop slot_length bs))).0 s in
    let l : length (take slot_length bs) ≡ slot_length = length-take-le slot_length bs (omega (arith, e)) in
    let r : length (drop slot_length bs) ≡ slot_length * n = length-drop slot_length bs ∙ omega (arith, e) in
    rw (slot-written (take slot_length bs) l (bytes_take slot_length bs b) both.0, slots-written n (drop slot_length bs) (bytes_drop slot_length bs b) r both.1, take-append-drop slot_length bs)

pub slots-blank : (n : ℕ) (bs : List ℕ) → length bs ≡ slot_length * n → all_zero bs ≡ (slots_sound n bs && all_of zero_place (places_in n bs))
unfolding slots_sound places_in all_of all_zero
slots-blank zero [] e = refl
slots-blank zero (x ∷ bs) e = let z : ⊥ = omega (arith, e) in absurd z
slots-blank (suc n) bs e =
    let l : length (take slot_length bs) ≡ slot_length = length-take-le slot_length bs (omega (arith, e)) in
    let r : length (drop slot_length bs) ≡ slot_length * n = length-drop slot_length bs ∙ omega (arith, e) in
    ap all_zero (sym (take-append-drop slot_length bs))
    ∙ all-zero-append (take slot_length bs) (drop slot_length bs)
    ∙ ap₂ ◌&&◌ (slot-blank (take slot_length bs) l) (slots-blank n (drop slot_length bs) r)
    ∙ swap (slot_sound (take slot_length bs)) (zero_place (place_in (take slot_length bs))) (slots_sound n (drop slot_length bs)) (all_of zero_place (places_in n (drop slot_length bs)))
  where
    swap : (a b c d : Bool) → ((a && b) && (c && d)) ≡ ((a && c) && (b && d))
    swap false b c d = refl
    swap true false c d = sym (and-false c)
    swap true true c d = refl

-- ---- a row of places
pub places-bytes-length : (ps : List Place) → length (places_bytes ps) ≡ slot_length * length ps
unfolding places_bytes
places-bytes-length [] = refl
places-bytes-length (p ∷ ps) = length-append (place_bytes p) (places_bytes ps) ∙ omega (arith, place-length p, places-bytes-length ps)

pub places-bytes-append : (ps qs : List Place) → places_bytes (ps ++ qs) ≡ places_bytes ps ++ places_bytes qs
unfolding places_bytes
places-bytes-append [] qs = refl
places-bytes-append (p ∷ ps) qs = rw (places-bytes-append ps qs, append_assoc (place_bytes p) (places_bytes ps) (places_bytes qs))

pub places-none : (n : ℕ) → places_bytes (replicate n no_place) ≡ replicate (slot_length * n) 0
unfolding places_bytes
places-none zero = refl
places-none (suc n) =
    let e : slot_length * suc n ≡ slot_length + slot_length * n = omega arith in
    rw (e, places-none n) (zeros-more slot_length (slot_length * n))
  where
    zeros-more : (a b : ℕ) → replicate {A = ℕ} a 0 ++ replicate b 0 ≡ replicate (a + b) 0
    zeros-more zero b = let f : 0 + b ≡ b = omega arith in rw f
    zeros-more (suc a) b = rw suc-add (ap (λ (l : List ℕ). 0 ∷ l) (zeros-more a b))

zero-bytes : (n : ℕ) → Bytes (replicate n 0)
unfolding Bytes
zero-bytes zero = tt
zero-bytes (suc n) = (omega arith, zero-bytes n)

pub places-bytes-are : (ps : List Place) → Bytes (places_bytes ps)
unfolding places_bytes Bytes encode
places-bytes-are [] = tt
places-bytes-are (p ∷ ps) = bytes-append (place_bytes p) (places_bytes ps) (go p.full) (places-bytes-are ps)
  where
    go : (b : Bool) → Bytes (pick b (encode p.node) (replicate slot_length 0))
    go true = pack-bytes widths _
    go false = zero-bytes slot_length

unfoldable pub AllKept : List Place → Type 0
AllKept [] = Unit
AllKept (p ∷ ps) = PlaceKept p × AllKept ps

pub kept_append : (ps qs : List Place) → AllKept ps → AllKept qs → AllKept (ps ++ qs)
unfolding AllKept
kept_append [] qs h k = k
kept_append (p ∷ ps) qs h k = (h.0, kept_append ps qs h.1 k)

pub kept-none : (n : ℕ) → AllKept (replicate n no_place)
unfolding AllKept
kept-none zero = tt
kept-none (suc n) = (none, kept-none n)

-- Kept places are read back from their slots, and these are sound.
pub places-back : (ps : List Place) → AllKept ps → places_in (length ps) (places_bytes ps) ≡ ps
unfolding AllKept places_in places_bytes
places-back [] h = refl
places-back (p ∷ ps) h =
    rw (
      take_at (place_bytes p) (places_bytes ps) slot_length (place-length p),
      drop_at (place_bytes p) (places_bytes ps) slot_length (place-length p),
      place-back p h.0,
      places-back ps h.1,
    )

pub places-sound : (ps : List Place) → AllKept ps → slots_sound (length ps) (places_bytes ps) ≡ true
unfolding AllKept slots_sound places_bytes
places-sound [] h = refl
places-sound (p ∷ ps) h =
    rw (
      take_at (place_bytes p) (places_bytes ps) slot_length (place-length p),
      drop_at (place_bytes p) (places_bytes ps) slot_length (place-length p),
      place-sound p h.0,
      places-sound ps h.1,
    )
