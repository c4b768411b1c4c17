-- What is read of each item, and its mark. A slot of a waiting place shows the place: its bucket is not asked about, since the root is on every path.
use Rattle.std.specs.Prelude.{◌≡◌, refl, Bool, true, false, List, [], ◌∷◌, ◌++◌, ℕ, zero, suc, ◌+◌, ◌*◌, ◌≤◌, eqb, length, take, drop, replicate}
use Rattle.std.proofs.Common.{◌∙◌, ap, arith, length-append, length-drop, length-take-le, take-add}
use mathlib.Core.List.Memᴰ
use Rattle.list_spec.specs.Choice.{pick}
use Rattle.list_spec.specs.Distinct.{All}
use Rattle.slot_spec.specs.Tree.{slot_length}
use Rattle.slot_spec.specs.Slot.{fields_in, node_of, encode, all_zero, well_formed, read_slot, Ranged, bad as bad-slot}
use Rattle.slot_spec.specs.declared.Node.{Node}
use Rattle.slot_spec.specs.declared.Reading.{Reading}
use Rattle.slot_spec.specs.declared.Reading.TheVariants.{Full, Empty, Bad}
use Rattle.state_spec.specs.declared.Place.{Place}
use Rattle.state_spec.specs.Fit.{place_good, no_place}
use Rattle.lent_bytes_spec.specs.StateBytes.{holds_node, place_in, places_in, place_bytes, places_bytes}
use Rattle.lent_bytes_laws.specs.PlaceLaws as kept
use Rattle.lent_bytes_laws.specs.PlaceLaws.{place-length, place-back, slot_read}
use Rattle.readout_spec.specs.Seen.{place_reading}
use Rattle.readout_spec.specs.Taken.{is_bad, is_repeated}
use Rattle.survey_laws.specs.Items.{mark_of}

-- What is read of an item with that key and value in its bytes, and its mark.
pub data Shows (key value : ℕ) : Reading → ℕ → Type 0 where
  good : (n : Node) → n.key ≡ key → n.value ≡ value → Shows key value (Full n) is_repeated
  empty : Shows key value Empty 0
  bad : Shows key value Bad is_bad

-- ---- a slot of the tree
pub slot-shows : (k b : ℕ) (bs : List ℕ)
    → Shows (fields_in bs).key (fields_in bs).value (read_slot k b bs) (mark_of true (read_slot k b bs))
unfolding read_slot mark_of node_of
slot-shows k b bs = go (bad-slot k b bs (fields_in bs)) (eqb (fields_in bs).flag 0)
  where
    go : (t e : Bool) → Shows (fields_in bs).key (fields_in bs).value (pick t Bad (pick e Empty (Full (node_of (fields_in bs)))))
        (mark_of true (pick t Bad (pick e Empty (Full (node_of (fields_in bs))))))
    go true e = bad
    go false true = empty
    go false false = good (node_of (fields_in bs)) refl refl

-- ---- slots of waiting places
-- A slot that shows a place, and slots in a row that show places.
abbrev pub SlotShows : (size : ℕ) → Place → List ℕ → Type 0
SlotShows k p bs = Shows (fields_in bs).key (fields_in bs).value (place_reading k p) (mark_of false (read_slot k 1 bs))

pub data SlotsShow (k : ℕ) : List Place → List ℕ → Type 0 where
  no_slot : SlotsShow k [] []
  a-slot : (p : Place) {ps : List Place} (bs : List ℕ) {waiting : List ℕ} → length bs ≡ slot_length → SlotShows k p bs
      → SlotsShow k ps waiting → SlotsShow k (p ∷ ps) (bs ++ waiting)

pub slots_length : {k : ℕ} {ps : List Place} {waiting : List ℕ} → SlotsShow k ps waiting → length waiting ≡ slot_length * length ps
slots_length no_slot = refl
slots_length (a-slot p bs {waiting} sized shows more) =
    length-append bs waiting ∙ omega (arith, sized, slots_length more)

-- ---- whatever bytes a slot has, it shows the place that it is read as
pub bytes-show : (k : ℕ) (bs : List ℕ) → length bs ≡ slot_length → SlotShows k (place_in bs) bs
unfolding place_in mark_of node_of
bytes-show k bs sized = rw (slot_read bs sized k) (go (holds_node (fields_in bs)) (all_zero bs))
  where
    node : Node
    node = node_of (fields_in bs)

    marked : Place → Bool → ℕ
    marked p z = mark_of false (pick (place_good k p) (Full p.node) (pick z Empty Bad))

    formed : (w z : Bool) → Shows (fields_in bs).key (fields_in bs).value (pick w (Full node) Bad) (mark_of false (pick w (Full node) (pick z Empty Bad)))
    formed true z = good node refl refl
    formed false true = bad
    formed false false = bad

    go : (h z : Bool)
        → (let p = pick h (record { full = true; node = node }) no_place in
        Shows (fields_in bs).key (fields_in bs).value (place_reading k p) (marked p z))
    go true z = formed (well_formed k node) z
    go false true = bad
    go false false = bad

pub slots-show : (k n : ℕ) (bs : List ℕ) → slot_length * n ≤ length bs → SlotsShow k (places_in n bs) (take (slot_length * n) bs)
unfolding places_in
slots-show k zero bs long = no_slot
slots-show k (suc n) bs long =
    let e : slot_length * suc n ≡ slot_length + slot_length * n = omega arith in
    let one = length-take-le slot_length bs (omega (arith, long)) in
    let rest = length-drop slot_length bs in
    rw (e, take-add slot_length (slot_length * n) bs)
    (a-slot (place_in (take slot_length bs)) (take slot_length bs) one (bytes-show k (take slot_length bs) one)
    (slots-show k n (drop slot_length bs) (omega (arith, long, rest))))

-- ---- a place that is written as a slot is shown by it
pub place-shows : (k : ℕ) (p : Place) → Ranged p.node → SlotShows k p (place_bytes p)
place-shows k p ranged = rw same at (bytes-show k (place_bytes p) (place-length p))
  where
    go : (b : Bool) → place_reading k (place_in (pick b (encode p.node) (replicate slot_length 0))) ≡ place_reading k (record { full = b; node = p.node })
    go true = ap (place_reading k) (place-back (record { full = true; node = p.node }) (kept.full p.node ranged))
    go false = ap (place_reading k) (place-back no_place kept.none)

    same : place_reading k (place_in (place_bytes p)) ≡ place_reading k p
    same = go p.full

pub places-show : (k : ℕ) (ps : List Place) → All (λ (p : Place). Ranged p.node) ps → SlotsShow k ps (places_bytes ps)
unfolding places_bytes
places-show k [] ranged = no_slot
places-show k (p ∷ ps) ranged =
    a-slot p (place_bytes p) (place-length p) (place-shows k p (ranged p (Memᴰ.head refl)))
    (places-show k ps (λ q m. ranged q (Memᴰ.tail m)))
