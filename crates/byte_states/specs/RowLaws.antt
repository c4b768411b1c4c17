-- The slots of a fit state are a row of waiting slots; and such a row as the bytes of places.
use Rattle.std.specs.Prelude.{◌≡◌, refl, true, List, [], ◌∷◌, ◌++◌, map, ℕ, zero, suc, ◌+◌, ◌-◌, ◌*◌, ◌≤◌, length, take, drop, replicate}
use Rattle.std.proofs.Common.{sym, ◌∙◌, ap, ap₂, arith, length-drop, take_at, drop_at, length-take-le}
use Rattle.std.proofs.Math.Bool.{and-eq-true_iff}
use mathlib.Core.List.Memᴰ
use Rattle.list_spec.specs.Distinct.{All}
use Rattle.list_laws.specs.DistinctLaws.{all_nil, all_cons}
use Rattle.slot_spec.specs.LittleEndian.{Bytes}
use Rattle.slot_spec.specs.Tree.{slot_length}
use Rattle.slot_spec.specs.Slot.{all_zero, read_slot, slot_bytes, slot_of, Ranged}
use Rattle.slot_spec.specs.Row.{zero_slot}
use Rattle.slot_spec.specs.declared.Slot.{Slot}
use Rattle.slot_spec.specs.declared.Reading.TheVariants.{Full}
use Rattle.slot_laws.specs.LittleEndianLaws.{bytes_take, bytes_drop}
use Rattle.slot_laws.specs.SlotLaws.{slot-words, slot-encoded, all-zero-replicate}
use Rattle.slot_laws.specs.ReadLaws.{read-is-written}
use Rattle.slot_laws.specs.BucketLaws.{zero-slot}
use Rattle.slot_laws.specs.ByteRow.{slot_in, slots_from, row_bytes, slots-from-length, slot-in-bytes, slots-cut, row-append, zeros-hold, row-bytes}
use Rattle.method_spec.specs.Node.{Node}
use Rattle.leaf_spec.specs.Convert.{from_node}
use Rattle.round_spec.specs.Round.{stash_limit}
use Rattle.round_laws.specs.NodeLaws.{read-ranged}
use Rattle.word_round_laws.specs.SlotRow.{slots_in, Blank}
use Rattle.word_round_laws.specs.SlotRowLaws.{blank-whole}
use Rattle.state_spec.specs.declared.State.{State}
use Rattle.state_spec.specs.Fit.{zero_place, all_of, place_good, places, no_place, used, unused, places_fit}
use Rattle.call_spec.specs.Store.{waiting_places}
use Rattle.lent_bytes_spec.specs.declared.StateHead.{StateHead}
use Rattle.lent_bytes_spec.specs.StateBytes.{place_in, places_in, places_bytes, slots_sound}
use Rattle.lent_bytes_laws.specs.PlaceLaws.{slot_read, slots-blank, places-bytes-append}
use Rattle.stash_laws.specs.Waiting.{words_for, InWidths, waiting_in, Holds}
use Rattle.stash_laws.specs.WaitingLaws.{waiting-are, holds-them, waiting-length}
use Rattle.stash.specs.Stash.{Loaded, used_fit}
use Rattle.stash.specs.StashLaws.{node_at}
use Rattle.stash.specs.LookLaws.{used-first}
use Rattle.stash.specs.SaveLaws.{holding}
use Rattle.byte_states.specs.PlacesFit.{state_of}
use Rattle.byte_states.specs.PlacesFitLaws.{used-are, unused-are, sound-parts}

-- ---- the slots of good places
-- A slot whose place is good is the words of its node.
good-slot : (k : ℕ) (bs : List ℕ) → Bytes bs → length bs ≡ slot_length → place_good k (place_in bs) ≡ true
    → (slot_in bs ≡ words_for (node_at (place_in bs))) × InWidths (node_at (place_in bs))
good-slot k bs b sized g =
    let n = (place_in bs).node in
    let reads : read_slot k 1 bs ≡ Full n = slot_read bs sized k ∙ rw g in
    let r : Ranged n = read-ranged k 1 bs n b sized reads in
    let w : bs ≡ slot_bytes (slot_of n) = (read-is-written k 1 bs b sized n reads).written ∙ sym (slot-encoded n r) in
    (ap slot_in w ∙ slot-in-bytes (slot_of n) (slot-words n r), r)

good-slots : (k n : ℕ) (bs : List ℕ) → Bytes bs → slot_length * n ≤ length bs → all_of (place_good k) (places_in n bs) ≡ true
    → (slots_from n bs ≡ map words_for (map node_at (places_in n bs))) × All InWidths (map node_at (places_in n bs))
unfolding slots_from places_in all_of
good-slots k zero bs b long e = (refl, all_nil InWidths)
good-slots k (suc n) bs b long e =
    let both = (and-eq-true_iff (place_good k (place_in (take slot_length bs))) _).0 e in
    let one = good-slot k (take slot_length bs) (bytes_take slot_length bs b) (length-take-le slot_length bs (omega arith)) both.0 in
    let more = good-slots k n (drop slot_length bs) (bytes_drop slot_length bs b) (omega (arith, length-drop slot_length bs)) both.1 in
    (ap₂ (λ (x : Slot) (xs : List Slot). x ∷ xs) one.0 more.0, all_cons {P = InWidths} one.1 more.1)

-- ---- a fit state's slots
module _ (h : StateHead) (slots : List ℕ) (few : h.waiting ≤ stash_limit) (sized : length slots ≡ slot_length * places) (bytes : Bytes slots)
    (sound : slots_sound places slots ≡ true) (fit : places_fit (state_of h slots) ≡ true) where
  abbrev s : State
  s = state_of h slots

  abbrev n : ℕ
  n = h.waiting

  abbrev rest : List ℕ
  rest = drop (slot_length * n) slots

  cut : slots_in slots ≡ slots_from n slots ++ slots_from (places - n) rest
  cut = let e : places ≡ n + (places - n) = omega (arith, few) in ap (λ (m : ℕ). slots_from m slots) e ∙ slots-cut n (places - n) slots

  -- The used slots are the words of their nodes.
  goods : (slots_from n slots ≡ map words_for (map node_at (places_in n slots))) × All InWidths (map node_at (places_in n slots))
  goods =
      good-slots h.size n slots bytes (omega (arith, sized, few))
      (ap (all_of (place_good h.size)) (sym (used-are h slots few)) ∙ ((and-eq-true_iff (all_of (place_good h.size) (used s)) _).0 fit).0)

  first : take n (slots_in slots) ≡ map words_for (map node_at (places_in n slots))
  first = ap (take n) cut ∙ take_at (slots_from n slots) (slots_from (places - n) rest) n (slots-from-length n slots) ∙ goods.0

  -- The others are empty.
  rest-zeros : rest ≡ replicate (slot_length * (places - n)) 0
  rest-zeros =
      let long : length rest ≡ slot_length * (places - n) = length-drop (slot_length * n) slots ∙ omega (arith, sized, few) in
      let so : slots_sound (places - n) rest ≡ true = ((and-eq-true_iff (slots_sound n slots) _).0 (sym (sound-parts h slots few) ∙ sound)).1 in
      let blank : all_of zero_place (places_in (places - n) rest) ≡ true =
      ap (all_of zero_place) (sym (unused-are h slots few)) ∙ ((and-eq-true_iff (used_fit s) (all_of zero_place (unused s))).0 (sym (used-first s) ∙ fit)).1 in
      let zero : all_zero rest ≡ true = slots-blank (places - n) rest long ∙ rw (so, blank) in
      all-zero-replicate rest zero ∙ ap (λ (m : ℕ). replicate m 0) long

  blank : Blank n slots
  blank =
      ap (drop n) cut ∙ drop_at (slots_from n slots) (slots_from (places - n) rest) n (slots-from-length n slots)
      ∙ ap (slots_from (places - n)) rest-zeros
      ∙ zeros-hold (places - n)

  -- So the slots are the row of the state's waiting nodes.
  pub fit-loaded : Loaded s slots n
  fit-loaded =
      let ns = map node_at (places_in n slots) in
      record {
        count = refl;
        holds = holds-them n slots ns goods.1 first sized (omega (arith, few)) blank;
        waiting = waiting-are n slots ns goods.1 first ∙ ap (map node_at) (sym (used-are h slots few));
      }

-- ---- a row as bytes of places
nodes-bytes : (ns : List (Node ℕ)) → All InWidths ns → row_bytes (map words_for ns) ≡ places_bytes (map holding ns)
unfolding row_bytes places_bytes
nodes-bytes [] r = refl
nodes-bytes (n ∷ ns) r =
    ap₂ (λ (p q : List ℕ). p ++ q) (slot-encoded (from_node n) (r n (Memᴰ.head refl))) (nodes-bytes ns (λ m h. r m (Memᴰ.tail h)))

empty-bytes : (k : ℕ) → row_bytes (replicate k zero_slot) ≡ places_bytes (replicate k no_place)
unfolding row_bytes places_bytes
empty-bytes zero = refl
empty-bytes (suc k) = ap₂ (λ (p q : List ℕ). p ++ q) zero-slot (empty-bytes k)

pub row-places : (n : ℕ) (row : List ℕ) → Holds n row → Bytes row → row ≡ places_bytes (waiting_places (waiting_in n row))
row-places n row h b =
    let ns = waiting_in n row in
    let left : places - n ≡ places - length ns = omega (arith, waiting-length h) in
    sym (row-bytes places row b h.sized)
    ∙ ap row_bytes (blank-whole row n h.blank ∙ ap (λ (xs : List Slot). xs ++ replicate (places - n) zero_slot) h.exact)
    ∙ row-append (map words_for ns) (replicate (places - n) zero_slot)
    ∙ ap₂ (λ (p q : List ℕ). p ++ q) (nodes-bytes ns h.ranged) (empty-bytes (places - n) ∙ ap (λ (k : ℕ). places_bytes (replicate k no_place)) left)
    ∙ sym (places-bytes-append (map holding ns) (replicate (places - length ns) no_place))
