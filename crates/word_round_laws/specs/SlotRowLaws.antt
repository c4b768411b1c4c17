-- The row of waiting slots: how many places it has, one read, one written, what it is where the places past the first n are empty; and what a
-- round asks of a slot's words.
use Rattle.std.specs.Prelude.{◌≡◌, refl, ℕ, zero, suc, ◌+◌, ◌-◌, ◌*◌, ◌≤◌, ◌<◌, List, ◌++◌, length, take, drop, get_or, set, replicate}
use Rattle.std.proofs.Common.{sym, ◌∙◌, ap, arith, take-append-drop, get_or-take, get_or-drop, drop-drop}
use Rattle.std.proofs.lemmas.List.Edits.{sets}
use Rattle.slot_spec.specs.LittleEndian.{Bytes}
use Rattle.slot_spec.specs.Tree.{slot_length}
use Rattle.slot_spec.specs.declared.Slot.{Slot}
use Rattle.slot_spec.specs.Slot.{fields_in, slot_bytes}
use Rattle.slot_spec.specs.Row.{zero_slot}
use Rattle.slot_laws.specs.SlotLaws.{Words}
use Rattle.slot_laws.specs.ByteRow.{slot_in, slots-from-length, slot-in-bytes, slot-from-got, slot-from-put, zeros-hold, same_row}
use Rattle.round_spec.specs.Nodes.{words_format}
use Rattle.word_round_laws.specs.SlotRow.{places, row_length, slots_in, Blank}

pub slots-count : (row : List ℕ) → length (slots_in row) ≡ places
slots-count row = slots-from-length places row

-- The slot in a place, as it is loaded from there.
pub slot-got : (row : List ℕ) (i : ℕ) (x : Slot) → i < places → Words x → slot_bytes x ≡ take slot_length (drop (slot_length * i) row) → x ≡ get_or (slots_in row) i zero_slot
slot-got row i x h w e = sym (slot-in-bytes x w) ∙ ap slot_in e ∙ slot-from-got places i row h

pub slot-put : (row : List ℕ) (i : ℕ) (x : Slot) → length row ≡ row_length → i < places → Words x
    → slots_in (sets row (slot_length * i) (slot_bytes x)) ≡ set (slots_in row) i x
slot-put row i x sized h w = slot-from-put places i row x h (omega (arith, sized)) w

-- ---- empty places
zeros-drop : (m n : ℕ) (x : Slot) → drop m (replicate n x) ≡ replicate (n - m) x
zeros-drop zero n x = let e : n ≡ n - 0 = omega arith in ap (λ (j : ℕ). replicate j x) e
zeros-drop (suc m) zero x = let e : 0 ≡ 0 - suc m = omega arith in ap (λ (j : ℕ). replicate j x) e
zeros-drop (suc m) (suc n) x = let e : n - m ≡ suc n - suc m = omega arith in zeros-drop m n x ∙ ap (λ (j : ℕ). replicate j x) e

pub zeros-got : (n i : ℕ) → get_or (replicate n zero_slot) i zero_slot ≡ zero_slot
zeros-got zero i = refl
zeros-got (suc n) zero = refl
zeros-got (suc n) (suc i) = zeros-got n i

-- A row of zero bytes.
pub zeros-blank : Blank 0 (replicate row_length 0)
zeros-blank = zeros-hold places

pub blank-more : (row : List ℕ) (n m : ℕ) → n ≤ m → Blank n row → Blank m row
blank-more row n m h b =
    let e : m ≡ n + (m - n) = omega arith in
    let f : places - n - (m - n) ≡ places - m = omega arith in
    ap (λ (j : ℕ). drop j (slots_in row)) e
    ∙ sym (drop-drop (m - n) n (slots_in row))
    ∙ ap (drop (m - n)) b
    ∙ zeros-drop (m - n) (places - n) zero_slot
    ∙ ap (λ (j : ℕ). replicate j zero_slot) f

-- The slot in an empty place.
pub blank-got : (row : List ℕ) (n i : ℕ) → n ≤ i → Blank n row → get_or (slots_in row) i zero_slot ≡ zero_slot
blank-got row n i h b =
    let e : i ≡ n + (i - n) = omega arith in
    ap (λ (j : ℕ). get_or (slots_in row) j zero_slot) e
    ∙ sym (get_or-drop n (slots_in row) (i - n) zero_slot)
    ∙ ap (λ (l : List Slot). get_or l (i - n) zero_slot) b
    ∙ zeros-got (places - n) (i - n)

-- The first n slots are all that such a row has: no other bytes have them.
pub blank-whole : (row : List ℕ) (n : ℕ) → Blank n row → slots_in row ≡ take n (slots_in row) ++ replicate (places - n) zero_slot
blank-whole row n b = sym (take-append-drop n (slots_in row)) ∙ ap (λ (l : List Slot). take n (slots_in row) ++ l) b

pub blank-same : (row row' : List ℕ) (n : ℕ) → Bytes row → Bytes row' → length row ≡ row_length → length row' ≡ row_length → Blank n row → Blank n row'
    → take n (slots_in row) ≡ take n (slots_in row') → row ≡ row'
blank-same row row' n b b' sized sized' z z' e =
    same_row places row row' b b' sized sized'
    (blank-whole row n z ∙ ap (λ (l : List Slot). l ++ replicate (places - n) zero_slot) e ∙ sym (blank-whole row' n z'))

-- ---- what a round asks of a slot's words
pub words-key : (x : Slot) → words_format.key x ≡ (fields_in (slot_bytes x)).key
unfolding words_format
words-key x = refl

pub words-tag : (x : Slot) → words_format.tag x ≡ (fields_in (slot_bytes x)).tag
unfolding words_format
words-tag x = refl

-- The key of a slot that was got from a place, also of the first m.
pub key-got : (l : List Slot) (i : ℕ) (x : Slot) (k : ℕ) → x ≡ get_or l i zero_slot → k ≡ (fields_in (slot_bytes x)).key → words_format.key (get_or l i zero_slot) ≡ k
key-got l i x k e q = ap (λ (y : Slot). words_format.key y) (sym e) ∙ words-key x ∙ sym q

pub key-got-first : (m : ℕ) (l : List Slot) (i : ℕ) (x : Slot) (k : ℕ) → i < m → x ≡ get_or l i zero_slot → k ≡ (fields_in (slot_bytes x)).key → words_format.key (get_or (take m l) i zero_slot) ≡ k
key-got-first m l i x k h e q = ap (λ (y : Slot). words_format.key y) (get_or-take m l i zero_slot h) ∙ key-got l i x k e q
