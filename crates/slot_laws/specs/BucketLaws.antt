-- The bytes of a bucket, slot by slot.
use Rattle.std.specs.Prelude.{◌≡◌, refl, ℕ, zero, suc, ◌+◌, ◌*◌, ◌≤◌, ◌<◌, List, [], ◌∷◌, ◌++◌, map, length, take, drop, get_or, replicate}
use Rattle.std.proofs.Common.{add-one, take-suc, length-take-le, sym, ◌∙◌, ap, ap₂, arith, append_assoc, append-nil, length-append, length-take, take_all, get_or-take, take_at, drop_at}
use Rattle.std.proofs.lemmas.List.{length-map, length-replicate}
use Rattle.std.proofs.Math.ListN.{get_or-eq_default, get_or-map}
use Rattle.std.proofs.lemmas.List.Edits.{sets, sets-eq}
use Rattle.slot_spec.specs.LittleEndian.{bytes}
use Rattle.slot_spec.specs.Tree.{slot_length}
use Rattle.slot_spec.specs.Slot.{slot_bytes, filled}
use Rattle.slot_spec.specs.declared.Slot.{Slot}
use Rattle.slot_laws.specs.SlotLaws.{slot-length}
use Rattle.slot_laws.specs.ByteRow.{sets_behind}

-- One more slot.
pub filled_more : (j : ℕ) (xs : List (List ℕ)) → filled (suc j) xs ≡ filled j xs ++ get_or xs j (replicate 32 0)
unfolding filled
filled_more zero [] = append-nil (replicate 32 0)
filled_more zero (x ∷ xs) = append-nil x
filled_more (suc j) [] = ap (λ (r : List ℕ). replicate 32 0 ++ r) (filled_more j []) ∙ sym (append_assoc (replicate 32 0) (filled j []) (replicate 32 0))
filled_more (suc j) (x ∷ xs) = ap (λ (r : List ℕ). x ++ r) (filled_more j xs) ∙ sym (append_assoc x (filled j xs) (get_or xs j (replicate 32 0)))

pub filled_none : (xs : List (List ℕ)) → filled 0 xs ≡ []
unfolding filled
filled_none xs = refl

-- A turn of the bucket writer: slot j is stored after the j before it.
pub slot-written : (part v : List ℕ) (xs : List (List ℕ)) (j : ℕ) → length part ≡ 128 → j < 4 → length v ≡ 32
    → take (32 * j) part ≡ filled j xs → v ≡ get_or xs j (replicate 32 0)
    → take (32 * (j + 1)) (sets part (32 * j) v) ≡ filled (j + 1) xs
slot-written part v xs j l h w e g =
    let s : sets part (32 * j) v ≡ take (32 * j) part ++ v ++ drop (32 * j + length v) part = sets-eq v part (32 * j) (omega arith) in
    let n : length (take (32 * j) part ++ v) ≡ 32 * (j + 1) = simp (length-append, length-take) (omega arith) in
    let i : j + 1 ≡ suc j = omega arith in
    ap (take (32 * (j + 1))) s
    ∙ take_at (take (32 * j) part ++ v) (drop (32 * j + length v) part) (32 * (j + 1)) n
    ∙ rw (e, g, i) (sym (filled_more j xs))

pub bucket-written : (part : List ℕ) (xs : List (List ℕ)) (j : ℕ) → length part ≡ 128 → j ≡ 4 → take (32 * j) part ≡ filled j xs → part ≡ filled 4 xs
bucket-written part xs j l e h = sym (take_all 128 part (omega arith)) ∙ rw e at h

-- ---- the slots of a bucket that holds the first of some
abbrev zero_slot : Slot
zero_slot = record { a = 0; b = 0; c = 0; d = 0 }

pub zero-slot : slot_bytes zero_slot ≡ replicate 32 0
unfolding slot_bytes bytes
zero-slot = refl

pub slot-there : (slots : List Slot) (count j : ℕ) → j < count → slot_bytes (get_or slots j zero_slot) ≡ get_or (map slot_bytes (take count slots)) j (replicate 32 0)
slot-there slots count j h =
    ap slot_bytes (sym (get_or-take count slots j zero_slot h))
    ∙ sym (get_or-map slot_bytes (take count slots) j zero_slot)
    ∙ ap (get_or (map slot_bytes (take count slots)) j) zero-slot

pub slot-missing : (slots : List Slot) (count j : ℕ) → count ≤ j → slot_bytes zero_slot ≡ get_or (map slot_bytes (take count slots)) j (replicate 32 0)
slot-missing slots count j h =
    let l : length (map slot_bytes (take count slots)) ≤ j = simp (length-map, length-take) (omega arith) in
    zero-slot ∙ sym (get_or-eq_default (map slot_bytes (take count slots)) (replicate 32 0) l)

-- ---- a bucket that is written slot by slot
-- A bucket that holds no more slots than it has places: its length, and one slot more, stored after the others.
pub filled-length : (n : ℕ) (slots : List Slot) → length slots ≤ n → length (filled n (map slot_bytes slots)) ≡ slot_length * n
unfolding filled
filled-length zero slots h = refl
filled-length (suc n) [] h = rw (length-append, length-replicate, filled-length n [] (omega arith)) (omega arith)
filled-length (suc n) (x ∷ xs) h = rw (length-append, slot-length x, filled-length n xs (omega arith)) (omega arith)

pub filled-next : (n : ℕ) (slots : List Slot) (x : Slot) → length slots < n
    → sets (filled n (map slot_bytes slots)) (slot_length * length slots) (slot_bytes x) ≡ filled n (map slot_bytes (slots ++ x ∷ []))
unfolding filled
filled-next zero slots x h = let z : ⊥ = omega arith in absurd z
filled-next (suc n) [] x h =
    let long = filled-length (suc n) [] (omega arith) in
    let w = slot-length x in
    let zeros : length (replicate {A = ℕ} slot_length 0) ≡ slot_length = refl in
    let e : 0 + length (slot_bytes x) ≡ slot_length = omega (arith, w) in
    let rest : drop (0 + length (slot_bytes x)) (replicate slot_length 0 ++ filled n []) ≡ filled n [] = rw e (drop_at (replicate slot_length 0) (filled n []) slot_length zeros) in
    sets-eq (slot_bytes x) (filled (suc n) []) 0 (omega (arith, long, w)) ∙ ap (λ (r : List ℕ). slot_bytes x ++ r) rest
filled-next (suc n) (y ∷ ys) x h =
    let rest = filled n (map slot_bytes ys) in
    let long = filled-length (suc n) (y ∷ ys) (omega arith) in
    let w = slot-length x in
    let e : slot_length * suc (length ys) ≡ slot_length + slot_length * length ys = omega arith in
    rw e (sets_behind slot_length (slot_length * length ys) (slot_bytes y ++ rest) (slot_bytes x) (omega (arith, long)) (omega (arith, long, w)))
    ∙ ap₂ (λ (p q : List ℕ). p ++ sets q (slot_length * length ys) (slot_bytes x)) (take_at (slot_bytes y) rest slot_length (slot-length y)) (drop_at (slot_bytes y) rest slot_length (slot-length y))
    ∙ ap (λ (r : List ℕ). slot_bytes y ++ r) (filled-next n ys x (omega arith))

pub slot-next : (slots : List Slot) (j : ℕ) (d : Slot) (part after : List ℕ) → j < 4 → j < length slots → part ≡ filled 4 (map slot_bytes (take j slots))
    → after ≡ sets part (slot_length * j) (slot_bytes (get_or slots j d)) → after ≡ filled 4 (map slot_bytes (take (j + 1) slots))
slot-next slots j d part after place there held stored =
    let n : length (take j slots) ≡ j = length-take-le j slots (omega arith) in
    let more : take (j + 1) slots ≡ take j slots ++ get_or slots j d ∷ [] = rw add-one (take-suc slots j d there) in
    let put : sets (filled 4 (map slot_bytes (take j slots))) (slot_length * j) (slot_bytes (get_or slots j d)) ≡ filled 4 (map slot_bytes (take j slots ++ get_or slots j d ∷ [])) =
    ap (λ (m : ℕ). sets (filled 4 (map slot_bytes (take j slots))) (slot_length * m) (slot_bytes (get_or slots j d))) (sym n)
    ∙ filled-next 4 (take j slots) (get_or slots j d) (omega (arith, n)) in
    stored ∙ rw held put ∙ ap (λ (xs : List Slot). filled 4 (map slot_bytes xs)) (sym more)
