-- Laws of the slots and waiting places of a store: which they are, how many, and that their places ascend.
use Rattle.std.specs.Prelude.{◌≡◌, refl, ◌⊎◌, ℕ, zero, suc, ◌+◌, ◌<◌, ◌≤◌, length}
use Rattle.std.proofs.Common.{sym, ◌∙◌, ap, inl, inr, ⊎_elim, arith}
use mathlib.Core.List.Memᴰ
use mathlib.Core.List.{List, [], ◌∷◌, ◌++◌, map, Memᴰ, map-append}
use Rattle.list_laws.specs.AscendingLaws.{Rising, rising-append}
use Rattle.slot_spec.specs.Slot.{read_slot}
use Rattle.state_spec.specs.declared.Place.{Place}
use Rattle.state_spec.specs.declared.State.{State}
use Rattle.state_spec.specs.Fit.{used}
use Rattle.readout_spec.specs.Seen.{Seen, slot_place, bucket_of, slot_bytes_at, slot_count, waiting_place, place_reading, slots_from, waiting_from, slots_seen, waiting_seen}

-- ---- places
-- The places of what is seen.
abbrev pub places_seen : List Seen → List ℕ
places_seen ss = map (λ (s : Seen). s.place) ss

-- The slot with a number, and a waiting place with one, as they are seen.
abbrev pub slot_at : (size : ℕ) → List ℕ → ℕ → Seen
slot_at k tree i = record { place = slot_place i; reading = read_slot k (bucket_of i) (slot_bytes_at tree i) }

abbrev pub waiting_at : (size : ℕ) → ℕ → Place → Seen
waiting_at k i p = record { place = waiting_place k i; reading = place_reading k p }

-- What is among the n slots from number i on is one of them.
pub record SlotIn (k : ℕ) (tree : List ℕ) (n i : ℕ) (x : Seen) : Type 0 where
  pub number : ℕ
  pub from : i ≤ number
  pub below : number < i + n
  pub same : x ≡ slot_at k tree number

pub slot-in : (k : ℕ) (tree : List ℕ) (n i : ℕ) (x : Seen) → Memᴰ x (slots_from k tree n i) → SlotIn k tree n i x
unfolding slots_from
slot-in k tree zero i x m = absurd (Memᴰ.not-nil m)
slot-in k tree (suc n) i x m = go (slot-in k tree n (suc i) x) (Memᴰ.cases_cons m)
  where
    go : (Memᴰ x (slots_from k tree n (suc i)) → SlotIn k tree n (suc i) x) → (x ≡ slot_at k tree i) ⊎ Memᴰ x (slots_from k tree n (suc i))
        → SlotIn k tree (suc n) i x
    go more (inl e) = record { number = i; from = omega arith; below = omega arith; same = e }
    go more (inr t) =
        let r = more t in
        let f = r.from in
        let b = r.below in
        record { number = r.number; from = omega arith; below = omega arith; same = r.same }

-- What is among the waiting places from number i on is one of them.
pub record WaitingIn (k i : ℕ) (ps : List Place) (x : Seen) : Type 0 where
  pub number : ℕ
  pub from : i ≤ number
  pub below : number < i + length ps
  pub place : Place
  pub there : Memᴰ place ps
  pub same : x ≡ waiting_at k number place

pub waiting-in : (k i : ℕ) (ps : List Place) (x : Seen) → Memᴰ x (waiting_from k i ps) → WaitingIn k i ps x
unfolding waiting_from
waiting-in k i [] x m = absurd (Memᴰ.not-nil m)
waiting-in k i (p ∷ ps) x m = go (waiting-in k (suc i) ps x) (Memᴰ.cases_cons m)
  where
    go : (Memᴰ x (waiting_from k (suc i) ps) → WaitingIn k (suc i) ps x) → (x ≡ waiting_at k i p) ⊎ Memᴰ x (waiting_from k (suc i) ps)
        → WaitingIn k i (p ∷ ps) x
    go more (inl e) =
        record { number = i; from = omega arith; below = omega arith; place = p; there = Memᴰ.head refl; same = e }
    go more (inr t) =
        let r = more t in
        let f = r.from in
        let b = r.below in
        record {
          number = r.number;
          from = omega arith;
          below = omega arith;
          place = r.place;
          there = Memᴰ.tail r.there;
          same = r.same;
        }

-- Their places are from the first one's on, and end before that of the number after them.
slots-range : (k : ℕ) (tree : List ℕ) (n i p : ℕ) → Memᴰ p (places_seen (slots_from k tree n i)) → (slot_place i ≤ p) × (p < slot_place (i + n))
slots-range k tree n i p m =
    let r = Memᴰ.of_map (λ (x : Seen). x.place) (slots_from k tree n i) m in
    let s = slot-in k tree n i r.0 r.1 in
    let e : p ≡ slot_place s.number = sym r.2 ∙ ap (λ (x : Seen). x.place) s.same in
    let f = s.from in
    let b = s.below in
    (omega arith, omega arith)

waiting-range : (k i : ℕ) (ps : List Place) (p : ℕ) → Memᴰ p (places_seen (waiting_from k i ps)) → (waiting_place k i ≤ p) × (p < waiting_place k (i + length ps))
waiting-range k i ps p m =
    let r = Memᴰ.of_map (λ (x : Seen). x.place) (waiting_from k i ps) m in
    let s = waiting-in k i ps r.0 r.1 in
    let e : p ≡ waiting_place k s.number = sym r.2 ∙ ap (λ (x : Seen). x.place) s.same in
    let f = s.from in
    let b = s.below in
    (omega arith, omega arith)

slots-rising : (k : ℕ) (tree : List ℕ) (n i : ℕ) → Rising (places_seen (slots_from k tree n i))
unfolding slots_from
slots-rising k tree zero i = tt
slots-rising k tree (suc n) i = (
  λ p m. let r = slots-range k tree n (suc i) p m in omega arith,
  slots-rising k tree n (suc i),
)

waiting-rising : (k i : ℕ) (ps : List Place) → Rising (places_seen (waiting_from k i ps))
unfolding waiting_from
waiting-rising k i [] = tt
waiting-rising k i (x ∷ ps) = (
  λ p m. let r = waiting-range k (suc i) ps p m in omega arith,
  waiting-rising k (suc i) ps,
)

-- The tree's slots come before the waiting places.
pub seen-rising : (s : State) (tree : List ℕ) → Rising (places_seen (slots_seen s tree ++ waiting_seen s))
seen-rising s tree =
    rw (map-append (λ (x : Seen). x.place) (slots_seen s tree) (waiting_seen s))
    (rising-append (places_seen (slots_seen s tree)) (places_seen (waiting_seen s))
    (slots-rising s.size tree (slot_count s.size) 0) (waiting-rising s.size 0 (used s))
    (λ a b m n. let r = slots-range s.size tree (slot_count s.size) 0 a m in
    let q = waiting-range s.size 0 (used s) b n in omega arith))

-- All places are below the tree's length plus 32 times the number of waiting places.
pub seen_below : (s : State) (tree : List ℕ) (p : ℕ) → Memᴰ p (places_seen (slots_seen s tree ++ waiting_seen s)) → p < waiting_place s.size (length (used s))
seen_below s tree p m =
    ⊎_elim {A = Memᴰ p (places_seen (slots_seen s tree))} {B = Memᴰ p (places_seen (waiting_seen s))}
    (λ n. let r = slots-range s.size tree (slot_count s.size) 0 p n in omega arith)
    (λ n. let r = waiting-range s.size 0 (used s) p n in
    let e : waiting_place s.size (0 + length (used s)) ≡ waiting_place s.size (length (used s)) = omega arith in omega arith)
    (Memᴰ.append_cases (places_seen (slots_seen s tree))
    (rw (map-append (λ (x : Seen). x.place) (slots_seen s tree) (waiting_seen s)) at m))

-- ---- how many
pub slots_length : (k : ℕ) (tree : List ℕ) (n i : ℕ) → length (slots_from k tree n i) ≡ n
unfolding slots_from
slots_length k tree zero i = refl
slots_length k tree (suc n) i = ap suc (slots_length k tree n (suc i))

pub waiting-length : (k i : ℕ) (ps : List Place) → length (waiting_from k i ps) ≡ length ps
unfolding waiting_from
waiting-length k i [] = refl
waiting-length k i (p ∷ ps) = ap suc (waiting-length k (suc i) ps)
