-- Whether the slots of a byte state fit: the used ones one after another, the others together.
use Rattle.std.specs.Prelude.{◌≡◌, refl, Option, Some, None, Bool, true, false, ◌&&◌, ◌||◌, List, ℕ, zero, suc, ◌+◌, ◌-◌, ◌*◌, ◌≤◌, ◌<◌, eqb, length, take, drop}
use Rattle.std.proofs.Common.{sym, ◌∙◌, ap, ap₂, subst, arith, length-drop, take-add, le-leb}
use Rattle.std.proofs.Math.Bool.{and-false, and-eq-true_iff}
use Rattle.std.specs.Int.Bits.{bit_or}
use Rattle.std.proofs.lemmas.Bool.{lt-leb}
use Rattle.list_spec.specs.Choice.{pick}
use Rattle.slot_spec.specs.Tree.{slot_length}
use Rattle.slot_spec.specs.Slot.{fields_in, node_of, all_zero, well_formed, read_slot, slot_bytes}
use Rattle.slot_spec.specs.declared.Node.{Node}
use Rattle.slot_spec.specs.declared.Slot.{Slot}
use Rattle.slot_spec.specs.declared.Reading.{Reading}
use Rattle.slot_spec.specs.declared.Reading.TheVariants.{Full, Empty, Bad}
use Rattle.slot_laws.specs.SlotLaws.{Words, slot-length, all-zero-append, all-zero-slot, or-zero}
use Rattle.round_spec.specs.Round.{stash_limit}
use Rattle.state_spec.specs.declared.Place.{Place}
use Rattle.state_spec.specs.declared.State.{State}
use Rattle.state_spec.specs.Fit.{zero_place, all_of, place_good, places, no_place, used, unused, places_fit}
use Rattle.lent_bytes_spec.specs.declared.StateHead.{StateHead}
use Rattle.lent_bytes_spec.specs.StateBytes.{holds_node, place_in, places_in, slot_sound, slots_sound}
use Rattle.lent_bytes_laws.specs.PlaceLaws.{slot_read, place-got, places-read, slots-split, slots-blank}
use Rattle.stash.specs.Stash.{good_from, used_fit}
use Rattle.stash.specs.LookLaws.{LookedAt, at, used-first, used-unfit, used-fails, used-more}
use Rattle.byte_states.specs.PlacesFit.{slot_at, state_of, least_after}

-- ---- one slot
full-held : (bs : List ℕ) → (place_in bs).full ≡ holds_node (fields_in bs)
unfolding place_in
full-held bs = go (holds_node (fields_in bs))
  where
    go : (h : Bool) → (pick h (record { full = true; node = node_of (fields_in bs) }) no_place).full ≡ h
    go true = refl
    go false = refl

-- A slot whose place is good is sound.
good-sound : (k : ℕ) (bs : List ℕ) → place_good k (place_in bs) ≡ true → slot_sound bs ≡ true
good-sound k bs e =
    let h = ((and-eq-true_iff (place_in bs).full (well_formed k (place_in bs).node)).0 e).0 in
    rw (sym (full-held bs) ∙ h) (or-true (all_zero bs))
  where
    or-true : (b : Bool) → (b || true) ≡ true
    or-true true = refl
    or-true false = refl

all-good-sound : (k n : ℕ) (bs : List ℕ) → all_of (place_good k) (places_in n bs) ≡ true → slots_sound n bs ≡ true
unfolding all_of places_in slots_sound
all-good-sound k zero bs e = refl
all-good-sound k (suc n) bs e =
    let both = (and-eq-true_iff (place_good k (place_in (take slot_length bs))) _).0 e in
    ap₂ ◌&&◌ (good-sound k (take slot_length bs) both.0) (all-good-sound k n (drop slot_length bs) both.1)

-- Read as a node exactly where the place is good.
read-good : (k : ℕ) (bs : List ℕ) → length bs ≡ slot_length → (n : Node) → read_slot k 1 bs ≡ Full n → (place_good k (place_in bs) ≡ true) × ((place_in bs).node ≡ n)
read-good k bs sized n e = go (place_good k (place_in bs)) refl (all_zero bs) (sym (slot_read bs sized k) ∙ e)
  where
    go : (g : Bool) → place_good k (place_in bs) ≡ g → (z : Bool) → pick g (Full (place_in bs).node) (pick z Empty Bad) ≡ Full n → (place_good k (place_in bs) ≡ true) × ((place_in bs).node ≡ n)
    go true eg z e = (eg, cc)
    go false eg true e = let y : ◌≡◌ {A = ℕ} 0 1 = cc in absurd (omega arith)
    go false eg false e = let y : ◌≡◌ {A = ℕ} 0 1 = cc in absurd (omega arith)

read-not-good : (k : ℕ) (bs : List ℕ) → length bs ≡ slot_length → ((n : Node) → read_slot k 1 bs ≡ Full n → ⊥) → place_good k (place_in bs) ≡ false
read-not-good k bs sized none = go (place_good k (place_in bs)) refl
  where
    go : (g : Bool) → place_good k (place_in bs) ≡ g → g ≡ false
    go true eg = absurd (none (place_in bs).node (slot_read bs sized k ∙ rw eg))
    go false eg = refl

-- A used slot by what it is read as for the root's bucket.
module _ (size least : ℕ) (bs : List ℕ) (x : Slot) (e : slot_bytes x ≡ bs) where
  abbrev reads : Reading
  reads = read_slot size 1 (slot_bytes x)

  sized : length bs ≡ slot_length
  sized = ap length (sym e) ∙ slot-length x

  pub after_none : ((n : Node) → reads ≡ Full n → ⊥) → None ≡ least_after size least (place_in bs)
  after_none none = rw (read-not-good size bs sized (λ n f. none n (ap (read_slot size 1) e ∙ f)))

  module _ (n : Node) (full : reads ≡ Full n) where
    good : (place_good size (place_in bs) ≡ true) × ((place_in bs).node ≡ n)
    good = read-good size bs sized n (ap (read_slot size 1) (sym e) ∙ full)

    pub after-low : n.key < least → None ≡ least_after size least (place_in bs)
    after-low low = rw (good.0, good.1, lt-leb least n.key low)

    pub after-key : least ≤ n.key → Some (n.key + 1) ≡ least_after size least (place_in bs)
    after-key high = rw (good.0, good.1, le-leb least n.key high)

-- ---- the used slots
-- What the least key after a slot says of its place.
module _ (size least : ℕ) (r : Option ℕ) (p : Place) (e : r ≡ least_after size least p) where
  after-unfit : ((m : ℕ) → r ≡ Some m → ⊥) → good_from size least p ≡ false
  after-unfit none = go (good_from size least p) refl e
    where
      go : (b : Bool) → good_from size least p ≡ b → r ≡ pick b (Some (p.node.key + 1)) None → good_from size least p ≡ false
      go true g f = absurd (none (p.node.key + 1) f)
      go false g f = g

  after-fit : (m : ℕ) → r ≡ Some m → (good_from size least p ≡ true) × (m ≡ p.node.key + 1)
  after-fit m is = go (good_from size least p) refl (sym is ∙ e)
    where
      go : (b : Bool) → good_from size least p ≡ b → Some m ≡ pick b (Some (p.node.key + 1)) None → (good_from size least p ≡ true) × (m ≡ p.node.key + 1)
      go true g f = (g, cc)
      go false g f = let z : ◌≡◌ {A = ℕ} 0 1 = cc in let y : ⊥ = omega (arith, z) in absurd y

module _ (h : StateHead) (slots : List ℕ) (few : h.waiting ≤ stash_limit) where
  abbrev s : State
  s = state_of h slots

  module _ (i least : ℕ) (r : Option ℕ) (l : LookedAt s i least) (more : i < h.waiting) (e : r ≡ least_after h.size least (place_in (slot_at slots i))) where
    got : r ≡ least_after h.size least (at s i)
    got = e ∙ ap (least_after h.size least) (sym (place-got places i slots (omega (arith, more, few))))

    pub slot-fails : ((m : ℕ) → r ≡ Some m → ⊥) → used_fit s ≡ false
    slot-fails none = used-fails s i least l more (after-unfit h.size least r (at s i) got none)

    pub slot-passes : (m : ℕ) → r ≡ Some m → LookedAt s (i + 1) m
    slot-passes m is =
        let f = after-fit h.size least r (at s i) got m is in
        subst (LookedAt s (i + 1)) (sym f.1) (used-more s i least l more (omega (arith, few)) f.0)

  -- ---- all slots
  abbrev n : ℕ
  n = h.waiting

  abbrev rest : List ℕ
  rest = drop (slot_length * n) slots

  pub used-are : used s ≡ places_in n slots
  used-are = places-read places n 0 slots (omega (arith, few))

  pub unused-are : unused s ≡ places_in (places - n) rest
  unused-are = places-read places (places - n) n slots (omega (arith, few))

  pub sound-parts : slots_sound places slots ≡ (slots_sound n slots && slots_sound (places - n) rest)
  sound-parts =
      let whole : places ≡ n + (places - n) = omega (arith, few) in
      ap (λ (m : ℕ). slots_sound m slots) whole ∙ slots-split n (places - n) slots

  pub places-unfit : used_fit s ≡ false → false ≡ (slots_sound places slots && places_fit s)
  places-unfit e = rw (used-unfit s e) (sym (and-false (slots_sound places slots)))

  -- Where the used slots fit, the others decide.
  pub rest-fits : length slots ≡ slot_length * places → used_fit s ≡ true → all_zero rest ≡ (slots_sound places slots && places_fit s)
  rest-fits sized e =
      let long : length rest ≡ slot_length * (places - n) = length-drop (slot_length * n) slots ∙ omega (arith, sized, few) in
      let goods : all_of (place_good h.size) (places_in n slots) ≡ true =
      ap (all_of (place_good h.size)) (sym used-are) ∙ ((and-eq-true_iff (all_of (place_good h.size) (used s)) _).0 e).0 in
      let sound : slots_sound places slots ≡ slots_sound (places - n) rest = sound-parts ∙ rw (all-good-sound h.size n slots goods) in
      let fit : places_fit s ≡ all_of zero_place (places_in (places - n) rest) = used-first s ∙ rw e (ap (all_of zero_place) unused-are) in
      slots-blank (places - n) rest long ∙ sym (ap₂ ◌&&◌ sound fit)

-- ---- zero bytes, slot by slot
-- The digits of the words so far, by their place in a slot: none exactly if the first a bytes are zero.
abbrev pub NoDigits : (slots : List ℕ) (a p q r s : ℕ) → Type 0
NoDigits slots a p q r s = (eqb p 0 && (eqb q 0 && (eqb r 0 && eqb s 0))) ≡ all_zero (take a slots)

pub blank_none : (slots : List ℕ) → NoDigits slots 0 0 0 0 0
unfolding all_zero
blank_none slots = refl

pub blank-more : (slots : List ℕ) (a p q r s : ℕ) (x : Slot) → Words x → NoDigits slots a p q r s → slot_bytes x ≡ take slot_length (drop a slots)
    → NoDigits slots (a + slot_length) (bit_or p x.a) (bit_or q x.b) (bit_or r x.c) (bit_or s x.d)
blank-more slots a p q r s x h so e =
    rw (or-zero p x.a, or-zero q x.b, or-zero r x.c, or-zero s x.d)
    (go (eqb p 0) (eqb q 0) (eqb r 0) (eqb s 0) (eqb x.a 0) (eqb x.b 0) (eqb x.c 0) (eqb x.d 0)
    ∙ ap₂ ◌&&◌ so (sym (all-zero-slot x h) ∙ ap all_zero e)
    ∙ sym (ap all_zero (take-add a slot_length slots) ∙ all-zero-append (take a slots) (take slot_length (drop a slots))))
  where
    go : (p q r s a b c d : Bool) → ((p && a) && ((q && b) && ((r && c) && (s && d)))) ≡ ((p && (q && (r && s))) && (a && (b && (c && d))))
    go false q r s a b c d = refl
    go true false r s false b c d = refl
    go true false r s true b c d = refl
    go true true false s false b c d = refl
    go true true false s true false c d = refl
    go true true false s true true c d = refl
    go true true true false false b c d = refl
    go true true true false true false c d = refl
    go true true true false true true false d = refl
    go true true true false true true true d = refl
    go true true true true false b c d = refl
    go true true true true true false c d = refl
    go true true true true true true false d = refl
    go true true true true true true true d = refl

pub blank-all : (p q r s : ℕ) → eqb (bit_or (bit_or (bit_or p q) r) s) 0 ≡ (eqb p 0 && (eqb q 0 && (eqb r 0 && eqb s 0)))
blank-all p q r s =
    rw (or-zero (bit_or (bit_or p q) r) s, or-zero (bit_or p q) r, or-zero p q) (go (eqb p 0) (eqb q 0) (eqb r 0) (eqb s 0))
  where
    go : (p q r s : Bool) → (((p && q) && r) && s) ≡ (p && (q && (r && s)))
    go false q r s = refl
    go true false r s = refl
    go true true false s = refl
    go true true true s = refl
