-- The state that bytes are read as is one that bytes say all of, whatever they are.
use Rattle.std.specs.Prelude.{◌≡◌, refl, Bool, true, false, List, [], ◌∷◌, ℕ, zero, suc, ◌*◌, ◌^◌, ◌≤◌, ◌<◌, take, drop}
use Rattle.std.proofs.Common.{◌∙◌, arith, length-take-le}
use Rattle.std.proofs.Math.ListN.{length, length-drop}
use borrow.Author.Tests.{eq-eqb, ne_eqb, leb-true}
use Rattle.list_spec.specs.Choice.{pick}
use Rattle.slot_spec.specs.LittleEndian.{Bytes}
use Rattle.slot_spec.specs.Layout.{fields, total, Fit}
use Rattle.slot_spec.specs.Tree.{slot_length}
use Rattle.slot_spec.specs.Slot.{widths, fields_in, fields_of, node_of, Ranged}
use Rattle.slot_laws.specs.LittleEndianLaws.{value-below, bytes_take, bytes_drop}
use Rattle.state_spec.specs.Fit.{places, no_place}
use Rattle.state_spec.specs.Ticket.{last_key}
use Rattle.lent_bytes_spec.specs.StateBytes.{head_widths, head_length, state_length, head_in, holds_node, place_in, places_in, state_in, next_key, key_fits}
use Rattle.lent_bytes_laws.specs.HeadLaws.{HeadRanged}
use Rattle.lent_bytes_laws.specs.PlaceLaws.{PlaceKept, full, none, AllKept, places-length}
use Rattle.lent_bytes_laws.specs.StateLaws.{StateKept, head-for}

-- Numbers read from bytes are within their widths.
fields_fit : (ws bs : List ℕ) → Bytes bs → total ws ≤ length bs → Fit ws (fields ws bs)
unfolding Fit fields total
fields_fit [] bs b long = tt
fields_fit (w ∷ ws) bs b long =
    let l : length (take w bs) ≡ w = length-take-le w bs (omega arith) in
    (rw l at (value-below (take w bs) (bytes_take w bs b)), fields_fit ws (drop w bs) (bytes_drop w bs b) (simp length-drop (omega arith)))

-- ---- the places
node-ranged : (bs : List ℕ) → Bytes bs → length bs ≡ slot_length → holds_node (fields_in bs) ≡ true → Ranged (node_of (fields_in bs))
unfolding Ranged Fit fields_of node_of fields_in fields total
node-ranged bs b sized holds = let f = fields_fit widths bs b (omega (arith, sized)) in omega (arith, f)

slot_kept : (bs : List ℕ) → Bytes bs → length bs ≡ slot_length → PlaceKept (place_in bs)
unfolding place_in
slot_kept bs b sized = go (holds_node (fields_in bs)) refl
  where
    go : (h : Bool) → holds_node (fields_in bs) ≡ h → PlaceKept (pick h (record { full = true; node = node_of (fields_in bs) }) no_place)
    go true e = full (node_of (fields_in bs)) (node-ranged bs b sized e)
    go false e = none

slots_kept : (n : ℕ) (bs : List ℕ) → Bytes bs → slot_length * n ≤ length bs → AllKept (places_in n bs)
unfolding AllKept places_in
slots_kept zero bs b long = tt
slots_kept (suc n) bs b long = (
  slot_kept (take slot_length bs) (bytes_take slot_length bs b) (length-take-le slot_length bs (omega arith)),
  slots_kept n (drop slot_length bs) (bytes_drop slot_length bs b) (simp length-drop (omega arith)),
)

-- ---- the head
head-ranged : (bs : List ℕ) → Bytes bs → head_length ≤ length bs → HeadRanged (head_in bs)
unfolding head_in Fit fields total
head-ranged bs b long =
    let f = fields_fit head_widths bs b (omega (arith, long)) in
    let g = f.1.1.1.1 in
    record {
      mark = f.0;
      structure = f.1.0;
      size = f.1.1.0;
      height = f.1.1.1.0;
      entries = g.0;
      waiting = g.1.0;
      key = g.1.1.0;
      tag = g.1.1.1.0;
      ahead = g.1.1.1.1.0;
    }

-- ---- the whole
module _ (bs : List ℕ) (bytes : Bytes bs) (long : length bs ≡ state_length) where
  pub bytes-kept : StateKept (state_in bs)
  unfolding state_in
  bytes-kept =
      let h = head_in bs in
      let rest : length (drop head_length bs) ≡ slot_length * places = length-drop head_length bs ∙ omega (arith, long) in
      record {
        head = rw (head-for h (places_in places (drop head_length bs))) (head-ranged bs bytes (omega (arith, long)));
        sized = places-length places (drop head_length bs);
        kept = slots_kept places (drop head_length bs) (bytes_drop head_length bs bytes) (omega (arith, rest));
        queue = λ q n. rw (eq-eqb h.structure 4 q, ne_eqb h.entries 0 n);
        empty-queue = λ q z. rw (eq-eqb h.structure 4 q, eq-eqb h.entries 0 z);
        others = λ n. rw (ne_eqb h.structure 4 n);
      }

  -- A key sum that is a key.
  pub key-low : key_fits (head_in bs) ≡ true → (state_in bs).ahead.key < 2 ^ 32
  unfolding state_in
  key-low e = let low = leb-true (next_key (head_in bs)) last_key e in omega (arith, low)
