-- A row of slots in bytes, slot_length to a slot: the slots that it holds, one read, one written, and that no other bytes hold them.
use Rattle.std.specs.Prelude.{◌≡◌, refl, ℕ, zero, suc, ◌+◌, ◌*◌, ◌≤◌, ◌<◌, List, [], ◌∷◌, ◌++◌, length, take, drop, get_or, set, replicate}
use Rattle.std.proofs.Common.{sym, ◌∙◌, ap, ap₂, add_assoc, suc-add, arith, append_assoc, length-drop, take-append-drop, take_all, take_at, take-add, drop_at, drop-drop, length-take-le}
use Rattle.std.proofs.lemmas.List.{replicate-append-replicate}
use Rattle.std.proofs.lemmas.List.Edits.{sets, sets-eq}
use Rattle.slot_spec.specs.LittleEndian.{value, bytes, Bytes}
use Rattle.slot_spec.specs.Tree.{slot_length}
use Rattle.slot_spec.specs.Slot.{slot_bytes}
use Rattle.slot_spec.specs.declared.Slot.{Slot}
use Rattle.slot_spec.specs.Row.{zero_slot}
use Rattle.slot_laws.specs.LittleEndianLaws.{length-bytes, value_read, bytes_take, bytes_drop}
use Rattle.slot_laws.specs.SlotLaws.{Words, slot-length}
use Rattle.slot_laws.specs.WordLaws.{slot_read}

-- The slot that bytes hold, by its four words.
unfoldable pub slot_in : List ℕ → Slot
slot_in bs =
    record { a = value (take 8 bs); b = value (take 8 (drop 8 bs)); c = value (take 8 (drop 16 bs)); d = value (take 8 (drop 24 bs)) }

-- The first n slots that bytes hold, and the bytes of some slots.
unfoldable pub slots_from : ℕ → List ℕ → List Slot
slots_from zero bs = []
slots_from (suc n) bs = slot_in (take slot_length bs) ∷ slots_from n (drop slot_length bs)

unfoldable pub row_bytes : List Slot → List ℕ
row_bytes [] = []
row_bytes (x ∷ xs) = slot_bytes x ++ row_bytes xs

pub slots-from-length : (n : ℕ) (bs : List ℕ) → length (slots_from n bs) ≡ n
unfolding slots_from
slots-from-length zero bs = refl
slots-from-length (suc n) bs = ap suc (slots-from-length n (drop slot_length bs))

-- ---- one slot
-- A slot's bytes hold it, and bytes are those of the slot that they hold.
pub slot-in-bytes : (x : Slot) → Words x → slot_in (slot_bytes x) ≡ x
unfolding slot_in slot_bytes
slot-in-bytes x w =
    let l : (n : ℕ) → length (bytes 8 n) ≡ 8 = length-bytes 8 in
    let bs = bytes 8 x.a ++ (bytes 8 x.b ++ (bytes 8 x.c ++ bytes 8 x.d)) in
    let d8 : drop 8 bs ≡ bytes 8 x.b ++ (bytes 8 x.c ++ bytes 8 x.d) = drop_at (bytes 8 x.a) _ 8 (l x.a) in
    let d16 : drop 16 bs ≡ bytes 8 x.c ++ bytes 8 x.d =
    sym (drop-drop 8 8 bs) ∙ ap (drop 8) d8 ∙ drop_at (bytes 8 x.b) _ 8 (l x.b) in
    let d24 : drop 24 bs ≡ bytes 8 x.d = sym (drop-drop 8 16 bs) ∙ ap (drop 8) d16 ∙ drop_at (bytes 8 x.c) _ 8 (l x.c) in
    let a : value (take 8 bs) ≡ x.a = ap value (take_at (bytes 8 x.a) _ 8 (l x.a)) ∙ value_read 8 x.a (omega (arith, w.0)) in
    let b : value (take 8 (drop 8 bs)) ≡ x.b =
    ap (λ (y : List ℕ). value (take 8 y)) d8 ∙ ap value (take_at (bytes 8 x.b) _ 8 (l x.b)) ∙ value_read 8 x.b (omega (arith, w.1)) in
    let c : value (take 8 (drop 16 bs)) ≡ x.c =
    ap (λ (y : List ℕ). value (take 8 y)) d16 ∙ ap value (take_at (bytes 8 x.c) _ 8 (l x.c)) ∙ value_read 8 x.c (omega (arith, w.2)) in
    let d : value (take 8 (drop 24 bs)) ≡ x.d =
    ap (λ (y : List ℕ). value (take 8 y)) d24 ∙ ap value (take_all 8 (bytes 8 x.d) (omega (arith, l x.d))) ∙ value_read 8 x.d (omega (arith, w.3)) in
    rw (a, b, c, d)

pub bytes-of-slot : (bs : List ℕ) → Bytes bs → length bs ≡ slot_length → slot_bytes (slot_in bs) ≡ bs
unfolding slot_in
bytes-of-slot bs b sized =
    slot_read bs 0 (value (take 8 bs)) (value (take 8 (drop 8 bs))) (value (take 8 (drop 16 bs))) (value (take 8 (drop 24 bs))) b (omega (arith, sized)) refl refl refl refl
    ∙ take_all slot_length bs (omega (arith, sized))

-- ---- a place of the row
-- Stores behind the first m elements leave these.
pub sets_behind : {A : Type 0} (m i : ℕ) (l vs : List A) → m ≤ length l → m + i + length vs ≤ length l → sets l (m + i) vs ≡ take m l ++ sets (drop m l) i vs
sets_behind {A} m i l vs h long =
    let n = length-drop m l in
    let rest : drop (m + i + length vs) l ≡ drop (i + length vs) (drop m l) = ap (λ (j : ℕ). drop j l) (add_assoc m i (length vs)) ∙ sym (drop-drop (i + length vs) m l) in
    sets-eq vs l (m + i) long
    ∙ ap₂ (λ (p q : List A). p ++ vs ++ q) (take-add m i l) rest
    ∙ ap (λ (p : List A). p ++ drop (i + length vs) (drop m l)) (append_assoc (take m l) (take i (drop m l)) vs)
    ∙ append_assoc (take m l) (take i (drop m l) ++ vs) (drop (i + length vs) (drop m l))
    ∙ ap (λ (q : List A). take m l ++ q) (sym (sets-eq vs (drop m l) i (omega arith)))

-- The slot that starts at byte slot_length * i.
pub slot-from-got : (n i : ℕ) (bs : List ℕ) → i < n → slot_in (take slot_length (drop (slot_length * i) bs)) ≡ get_or (slots_from n bs) i zero_slot
unfolding slots_from
slot-from-got zero i bs h = let z : ⊥ = omega arith in absurd z
slot-from-got (suc n) zero bs h = refl
slot-from-got (suc n) (suc i) bs h =
    let e : slot_length * suc i ≡ slot_length + slot_length * i = omega arith in
    ap (λ (j : ℕ). slot_in (take slot_length (drop j bs))) e
    ∙ ap (λ (y : List ℕ). slot_in (take slot_length y)) (sym (drop-drop (slot_length * i) slot_length bs))
    ∙ slot-from-got n i (drop slot_length bs) (omega arith)

-- A slot stored there.
pub slot-from-put : (n i : ℕ) (bs : List ℕ) (x : Slot) → i < n → slot_length * n ≤ length bs → Words x
    → slots_from n (sets bs (slot_length * i) (slot_bytes x)) ≡ set (slots_from n bs) i x
unfolding slots_from
slot-from-put zero i bs x h long w = let z : ⊥ = omega arith in absurd z
slot-from-put (suc n) zero bs x h long w =
    let l = slot-length x in
    let e : sets bs 0 (slot_bytes x) ≡ slot_bytes x ++ drop slot_length bs = sets-eq (slot_bytes x) bs 0 (omega (arith, l)) ∙ rw l in
    rw (e, take_at (slot_bytes x) (drop slot_length bs) slot_length l, drop_at (slot_bytes x) (drop slot_length bs) slot_length l, slot-in-bytes x w)
slot-from-put (suc n) (suc i) bs x h long w =
    let l = slot-length x in
    let e : slot_length * suc i ≡ slot_length + slot_length * i = omega arith in
    let s : sets bs (slot_length * suc i) (slot_bytes x) ≡ take slot_length bs ++ sets (drop slot_length bs) (slot_length * i) (slot_bytes x) =
    ap (λ (j : ℕ). sets bs j (slot_bytes x)) e ∙ sets_behind slot_length (slot_length * i) bs (slot_bytes x) (omega arith) (omega (arith, l, long)) in
    let f : length (take slot_length bs) ≡ slot_length = length-take-le slot_length bs (omega arith) in
    rw (s, take_at (take slot_length bs) (sets (drop slot_length bs) (slot_length * i) (slot_bytes x)) slot_length f, drop_at (take slot_length bs) (sets (drop slot_length bs) (slot_length * i) (slot_bytes x)) slot_length f)
    (ap (λ (r : List Slot). slot_in (take slot_length bs) ∷ r) (slot-from-put n i (drop slot_length bs) x (omega arith) (simp length-drop (omega arith)) w))

-- ---- parts of the row
-- The first n slots, and those after them.
pub slots-cut : (n m : ℕ) (bs : List ℕ) → slots_from (n + m) bs ≡ slots_from n bs ++ slots_from m (drop (slot_length * n) bs)
unfolding slots_from
slots-cut zero m bs = let e : 0 + m ≡ m = omega arith in rw e
slots-cut (suc n) m bs =
    let e : slot_length + slot_length * n ≡ slot_length * suc n = omega arith in
    let rest : drop (slot_length * n) (drop slot_length bs) ≡ drop (slot_length * suc n) bs = drop-drop (slot_length * n) slot_length bs ∙ ap (λ (j : ℕ). drop j bs) e in
    rw suc-add (ap (λ (xs : List Slot). slot_in (take slot_length bs) ∷ xs) (slots-cut n m (drop slot_length bs) ∙ rw rest))

pub row-append : (xs ys : List Slot) → row_bytes (xs ++ ys) ≡ row_bytes xs ++ row_bytes ys
unfolding row_bytes
row-append [] ys = refl
row-append (x ∷ xs) ys = rw (row-append xs ys, append_assoc (slot_bytes x) (row_bytes xs) (row_bytes ys))

-- Zero bytes hold empty slots.
pub zeros-hold : (n : ℕ) → slots_from n (replicate (slot_length * n) 0) ≡ replicate n zero_slot
unfolding slots_from slot_in value
zeros-hold zero = refl
zeros-hold (suc n) =
    let e : slot_length * suc n ≡ slot_length + slot_length * n = omega arith in
    ap (λ (j : ℕ). slots_from (suc n) (replicate j 0)) e
    ∙ ap (slots_from (suc n)) (sym (replicate-append-replicate {A = ℕ} slot_length (slot_length * n) 0))
    ∙ ap (λ (xs : List Slot). zero_slot ∷ xs) (zeros-hold n)

-- ---- the whole row
pub row-bytes : (n : ℕ) (bs : List ℕ) → Bytes bs → length bs ≡ slot_length * n → row_bytes (slots_from n bs) ≡ bs
unfolding row_bytes slots_from
row-bytes zero [] b sized = refl
row-bytes zero (x ∷ bs) b sized = let z : ⊥ = omega arith in absurd z
row-bytes (suc n) bs b sized =
    ap₂ (λ (p q : List ℕ). p ++ q)
    (bytes-of-slot (take slot_length bs) (bytes_take slot_length bs b) (length-take-le slot_length bs (omega (arith, sized))))
    (row-bytes n (drop slot_length bs) (bytes_drop slot_length bs b) (length-drop slot_length bs ∙ omega (arith, sized)))
    ∙ take-append-drop slot_length bs

-- So no other bytes hold the same slots.
pub same_row : (n : ℕ) (bs cs : List ℕ) → Bytes bs → Bytes cs → length bs ≡ slot_length * n → length cs ≡ slot_length * n → slots_from n bs ≡ slots_from n cs → bs ≡ cs
same_row n bs cs b c sb sc e = sym (row-bytes n bs b sb) ∙ ap row_bytes e ∙ row-bytes n cs c sc
