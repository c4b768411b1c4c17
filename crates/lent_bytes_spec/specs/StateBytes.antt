-- Document 02, change 7: a state as 3,248 bytes, read and written.
use Rattle.std.specs.Prelude.{ℕ, zero, suc, ◌+◌, ◌*◌, Bool, true, ◌&&◌, ◌||◌, List, [], ◌∷◌, ◌++◌, eqb, leb, get_or, take, drop, replicate}
use Rattle.std.proofs.Math.Option.{Option, none, some}
use Rattle.list_spec.specs.Choice.{pick}
use Rattle.slot_spec.specs.Layout.{fields, pack}
use Rattle.slot_spec.specs.Tree.{slot_length}
use Rattle.slot_spec.specs.Slot.{Fields, fields_in, node_of, encode, all_zero}
use Rattle.slot_spec.specs.declared.Link.{Link}
use Rattle.slot_spec.specs.declared.Ahead.{Ahead}
use Rattle.state_spec.specs.declared.Place.{Place}
use Rattle.state_spec.specs.declared.State.{State}
use Rattle.state_spec.specs.Fit.{places, no_place, fits}
use Rattle.state_spec.specs.Ticket.{last_key}
use Rattle.lent_bytes_spec.specs.declared.StateHead.{StateHead}

-- ---- the head: its fields in the order of the bytes, and their widths; this is the layout's one place
abbrev pub head_widths : List ℕ
head_widths = 1 ∷ 1 ∷ 1 ∷ 1 ∷ 2 ∷ 2 ∷ 4 ∷ 2 ∷ 2 ∷ []

abbrev pub head_length : ℕ
head_length = 16

abbrev pub state_length : ℕ
state_length = head_length + slot_length * places

abbrev pub head_numbers : StateHead → List ℕ
head_numbers h =
    h.mark
    ∷ h.structure
    ∷ h.size
    ∷ h.height
    ∷ h.entries
    ∷ h.waiting
    ∷ h.key
    ∷ h.tag
    ∷ h.ahead
    ∷ []

abbrev pub head_named : List ℕ → StateHead
head_named vs =
    record {
      mark = get_or vs 0 0;
      structure = get_or vs 1 0;
      size = get_or vs 2 0;
      height = get_or vs 3 0;
      entries = get_or vs 4 0;
      waiting = get_or vs 5 0;
      key = get_or vs 6 0;
      tag = get_or vs 7 0;
      ahead = get_or vs 8 0;
    }

unfoldable pub head_in : List ℕ → StateHead
head_in bs = head_named (fields head_widths bs)

unfoldable pub head_bytes : StateHead → List ℕ
head_bytes h = pack head_widths (head_numbers h)

-- ---- the waiting places, as slots
-- A slot that a node can be written as: its flag is 1 and its zero bytes are zero.
abbrev pub holds_node : Fields → Bool
holds_node f = eqb f.flag 1 && (eqb f.zero1 0 && eqb f.zero2 0)

-- A slot that holds no node is an empty place; `slot_sound` says whether it is empty.
unfoldable pub place_in : List ℕ → Place
place_in bs = pick (holds_node (fields_in bs)) (record { full = true; node = node_of (fields_in bs) }) no_place

unfoldable pub places_in : ℕ → List ℕ → List Place
places_in zero bs = []
places_in (suc n) bs = place_in (take slot_length bs) ∷ places_in n (drop slot_length bs)

-- An empty place is an empty slot, whatever else it holds.
abbrev pub place_bytes : Place → List ℕ
place_bytes p = pick p.full (encode p.node) (replicate slot_length 0)

unfoldable pub places_bytes : List Place → List ℕ
places_bytes [] = []
places_bytes (p ∷ ps) = place_bytes p ++ places_bytes ps

-- ---- a state in bytes
abbrev pub is_queue : StateHead → Bool
is_queue h = eqb h.structure 4

-- "The queue's next unused key is the root key plus entries"; others have none.
abbrev pub next_key : StateHead → ℕ
next_key h = pick (is_queue h) (h.key + h.entries) 0

-- "an empty queue keeps it as its root key": it is no part of the root link.
abbrev pub root_in : StateHead → Link
root_in h = record { height = h.height; key = pick (is_queue h && eqb h.entries 0) 0 h.key; tag = h.tag }

abbrev pub ahead_in : StateHead → Ahead
ahead_in h = record { key = next_key h; tag = h.ahead }

abbrev pub state_with : StateHead → List Place → State
state_with h ps =
    record {
      mark = h.mark;
      structure = h.structure;
      size = h.size;
      entries = h.entries;
      root = root_in h;
      ahead = ahead_in h;
      count = h.waiting;
      places = ps;
    }

unfoldable pub state_in : List ℕ → State
state_in bs = state_with (head_in bs) (places_in places (drop head_length bs))

-- A state written as bytes.
abbrev pub head_for : State → StateHead
head_for s =
    record {
      mark = s.mark;
      structure = s.structure;
      size = s.size;
      height = s.root.height;
      entries = s.entries;
      waiting = s.count;
      key = pick (eqb s.structure 4 && eqb s.entries 0) s.ahead.key s.root.key;
      tag = s.root.tag;
      ahead = s.ahead.tag;
    }

unfoldable pub state_bytes : State → List ℕ
state_bytes s = head_bytes (head_for s) ++ places_bytes s.places

-- ---- when a byte state fits
-- "A sum too large for a key is unfit."
abbrev pub key_fits : StateHead → Bool
key_fits h = leb (next_key h) last_key

-- A slot that says no more than its place: it is all zero bytes, or holds a node.
abbrev pub slot_sound : List ℕ → Bool
slot_sound bs = all_zero bs || holds_node (fields_in bs)

unfoldable pub slots_sound : ℕ → List ℕ → Bool
slots_sound zero bs = true
slots_sound (suc n) bs = slot_sound (take slot_length bs) && slots_sound n (drop slot_length bs)

-- It fits where the state that it is read as fits, its key sum is a key, and its slots say no more than that state.
unfoldable pub fit_bytes : List ℕ → Bool
fit_bytes bs =
    key_fits (head_in bs) && (slots_sound places (drop head_length bs) && fits (state_in bs))

-- What bytes are read as: a state, or unfit.
unfoldable pub state_read : List ℕ → Option State
state_read bs = pick (fit_bytes bs) (some (state_in bs)) none
