-- States as bytes: a kept state is read back as written; bytes with sound slots are what their state is written as; so no two fit byte states
-- are read as one state.
use Rattle.std.specs.Prelude.{◌≡◌, refl, Bool, false, ◌&&◌, List, ◌++◌, ℕ, ◌+◌, ◌*◌, ◌≤◌, eqb, length, drop}
use Rattle.std.proofs.Common.{sym, ◌∙◌, arith, length-drop, take-append-drop}
use Rattle.std.proofs.Math.Path.{ap, ap₂}
use Rattle.std.proofs.Math.Bool.{true, and-eq-true_iff}
use Rattle.std.proofs.Math.Dec.{leb}
use Rattle.std.proofs.Math.ListN.{length-append}
use Rattle.std.proofs.Math.Seq.{drop_at}
use borrow.Author.Tests.{eqb-true, eqb-false, le-leb}
use Rattle.list_spec.specs.Choice.{pick}
use Rattle.slot_spec.specs.LittleEndian.{Bytes}
use Rattle.slot_spec.specs.Tree.{slot_length}
use Rattle.slot_laws.specs.LittleEndianLaws.{bytes_drop, bytes-append}
use Rattle.slot_laws.specs.LayoutLaws.{pack-bytes}
use Rattle.state_spec.specs.declared.Place.{Place}
use Rattle.state_spec.specs.declared.State.{State}
use Rattle.state_spec.specs.Fit.{places, fits}
use Rattle.state_spec.specs.Ticket.{last_key}
use Rattle.lent_bytes_spec.specs.declared.StateHead.{StateHead}
use Rattle.lent_bytes_spec.specs.StateBytes.{head_widths, head_length, state_length, head_numbers, head_in, head_bytes, places_in, places_bytes, state_with, state_in, head_for, state_bytes, key_fits, slots_sound, fit_bytes, next_key}
use Rattle.lent_bytes_laws.specs.HeadLaws.{HeadRanged, head-length, head-back, head-written}
use Rattle.lent_bytes_laws.specs.PlaceLaws.{AllKept, places-back, places-sound, places-bytes-length, places-bytes-are, slots-written}

-- ---- bytes, then a state, then bytes
-- The head is that of the state that it is read as.
pub head-for : (h : StateHead) (ps : List Place) → head_for (state_with h ps) ≡ h
head-for h ps = ap (λ (key : ℕ). record { mark = h.mark; structure = h.structure; size = h.size; height = h.height; entries = h.entries; waiting = h.waiting; key = key; tag = h.tag; ahead = h.ahead }) (go (eqb h.structure 4) (eqb h.entries 0) refl)
  where
    go : (q e : Bool) → eqb h.entries 0 ≡ e → pick (q && e) (pick q (h.key + h.entries) 0) (pick (q && e) 0 h.key) ≡ h.key
    go true true z = let n = eqb-true h.entries 0 z in omega (arith, n)
    go true false z = refl
    go false e z = refl

pub bytes_back : (bs : List ℕ) → Bytes bs → length bs ≡ state_length → slots_sound places (drop head_length bs) ≡ true → state_bytes (state_in bs) ≡ bs
unfolding state_bytes state_in
bytes_back bs b sized sound =
    let rest : length (drop head_length bs) ≡ slot_length * places = length-drop head_length bs ∙ omega (arith, sized) in
    ap₂ (λ (xs ys : List ℕ). xs ++ ys)
    (ap head_bytes (head-for (head_in bs) (places_in places (drop head_length bs))) ∙ head-written bs b (omega (arith, sized)))
    (slots-written places (drop head_length bs) (bytes_drop head_length bs b) rest sound)
    ∙ take-append-drop head_length bs

-- What a byte state that fits says.
pub record FitBytes (bs : List ℕ) : Type 0 where
  pub key : key_fits (head_in bs) ≡ true
  pub sound : slots_sound places (drop head_length bs) ≡ true
  pub fit : fits (state_in bs) ≡ true

pub fit-bytes : (bs : List ℕ) → fit_bytes bs ≡ true → FitBytes bs
unfolding fit_bytes
fit-bytes bs e =
    let a = (and-eq-true_iff (key_fits (head_in bs)) (slots_sound places (drop head_length bs) && fits (state_in bs))).0 e in
    let c = (and-eq-true_iff (slots_sound places (drop head_length bs)) (fits (state_in bs))).0 a.1 in
    record { key = a.0; sound = c.0; fit = c.1 }

-- "no two fit byte states read as one state"
pub one_each : (a b : List ℕ) → Bytes a → Bytes b → length a ≡ state_length → length b ≡ state_length → fit_bytes a ≡ true → fit_bytes b ≡ true
    → state_in a ≡ state_in b → a ≡ b
one_each a b ba bb la lb fa fb e =
    sym (bytes_back a ba la (fit-bytes a fa).sound) ∙ ap state_bytes e ∙ bytes_back b bb lb (fit-bytes b fb).sound

-- ---- a state, then bytes, then a state
-- A state that bytes say all of: its numbers are within their widths, its places hold nodes or are all zero, and a queue's next unused key is its
-- root key plus its entries; without entries its root link has no key. Other structures have no next unused key.
pub record StateKept (s : State) : Type 0 where
  pub head : HeadRanged (head_for s)
  pub sized : length s.places ≡ places
  pub kept : AllKept s.places
  pub queue : s.structure ≡ 4 → (s.entries ≡ 0 → ⊥) → s.ahead.key ≡ s.root.key + s.entries
  pub empty-queue : s.structure ≡ 4 → s.entries ≡ 0 → s.root.key ≡ 0
  pub others : (s.structure ≡ 4 → ⊥) → s.ahead.key ≡ 0

module _ (s : State) (k : StateKept s) where
  pub state-length : length (state_bytes s) ≡ state_length
  unfolding state_bytes
  state-length =
      length-append (head_bytes (head_for s)) (places_bytes s.places)
      ∙ omega (arith, head-length (head_for s), places-bytes-length s.places, k.sized)

  pub state-bytes-are : Bytes (state_bytes s)
  unfolding state_bytes head_bytes
  state-bytes-are =
      bytes-append (head_bytes (head_for s)) (places_bytes s.places) (pack-bytes head_widths (head_numbers (head_for s))) (places-bytes-are s.places)

  after-head : drop head_length (state_bytes s) ≡ places_bytes s.places
  unfolding state_bytes
  after-head = drop_at (head_bytes (head_for s)) (places_bytes s.places) head_length (head-length (head_for s))

  head-is : head_in (state_bytes s) ≡ head_for s
  unfolding state_bytes
  head-is = head-back (head_for s) k.head (places_bytes s.places)

  places-are : places_in places (drop head_length (state_bytes s)) ≡ s.places
  places-are =
      ap₂ places_in (sym k.sized) after-head ∙ places-back s.places k.kept

  next-is : next_key (head_for s) ≡ s.ahead.key
  next-is = go (eqb s.structure 4) refl (eqb s.entries 0) refl
    where
      go : (q : Bool) → eqb s.structure 4 ≡ q → (e : Bool) → eqb s.entries 0 ≡ e
          → pick q (pick (q && e) s.ahead.key s.root.key + s.entries) 0 ≡ s.ahead.key
      go true eq true ee = let n = eqb-true s.entries 0 ee in omega (arith, n)
      go true eq false ee = sym (k.queue (eqb-true s.structure 4 eq) (eqb-false s.entries 0 ee))
      go false eq e ee = sym (k.others (eqb-false s.structure 4 eq))

  root-key-is : pick (eqb s.structure 4 && eqb s.entries 0) 0 (head_for s).key ≡ s.root.key
  root-key-is = go (eqb s.structure 4) refl (eqb s.entries 0) refl
    where
      go : (q : Bool) → eqb s.structure 4 ≡ q → (e : Bool) → eqb s.entries 0 ≡ e
          → pick (q && e) 0 (pick (q && e) s.ahead.key s.root.key) ≡ s.root.key
      go true eq true ee = sym (k.empty-queue (eqb-true s.structure 4 eq) (eqb-true s.entries 0 ee))
      go true eq false ee = refl
      go false eq e ee = refl

  -- "reads back as written"
  pub state-back : state_in (state_bytes s) ≡ s
  unfolding state_in
  state-back =
      ap₂ state_with head-is places-are
      ∙ ap₂ (λ (key next : ℕ). record { mark = s.mark; structure = s.structure; size = s.size; entries = s.entries; root = record { height = s.root.height; key = key; tag = s.root.tag }; ahead = record { key = next; tag = s.ahead.tag }; count = s.count; places = s.places }) root-key-is next-is

  pub kept-sound : slots_sound places (drop head_length (state_bytes s)) ≡ true
  kept-sound = ap₂ slots_sound (sym k.sized) after-head ∙ places-sound s.places k.kept

  -- A kept state that fits is a byte state that fits.
  pub kept-fits : s.ahead.key ≤ last_key → fits s ≡ true → fit_bytes (state_bytes s) ≡ true
  unfolding fit_bytes
  kept-fits low fit =
      let key : key_fits (head_in (state_bytes s)) ≡ true =
      ap key_fits head-is ∙ ap (λ (n : ℕ). leb n last_key) next-is ∙ le-leb s.ahead.key last_key low in
      rw (key, kept-sound) (ap fits state-back ∙ fit)
