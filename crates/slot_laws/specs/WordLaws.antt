-- Eight bytes of a list as one number, and their stores: what code over words reads and leaves.
use Rattle.std.specs.Prelude.{◌≡◌, ℕ, suc, ◌+◌, ◌*◌, ◌/◌, ◌%◌, ◌≤◌, ◌<◌, List, [], ◌∷◌, ◌++◌, length, get_or, take, drop, set}
use Rattle.std.proofs.Common.{sym, ◌∙◌, ap, add_assoc, add-zero, add-suc, suc-add, arith, length-take, length-drop, drop-cons, take-add, drop-drop, append_assoc, take_all}
use Rattle.std.specs.Int.{w64, from_le_bytes, to_le_bytes}
use Rattle.std.proofs.lemmas.List.Edits.{sets, sets-eq}
use Rattle.slot_spec.specs.LittleEndian.{value, bytes, Bytes}
use Rattle.slot_laws.specs.LittleEndianLaws.{length-bytes, bytes-value, bytes_take, bytes_drop}
use Rattle.slot_spec.specs.Slot.{slot_bytes}
use Rattle.slot_spec.specs.declared.Slot.{Slot}

drop-next : (s : List ℕ) (i j : ℕ) → i < length s → suc i ≡ j → drop i s ≡ get_or s i 0 ∷ drop j s
drop-next s i j h e = drop-cons s i 0 h ∙ rw e

pub word_read : (s : List ℕ) (at : ℕ) → at + 8 ≤ length s
    → get_or s at 0 + get_or s (at + 1) 0 * 256 + get_or s (at + 2) 0 * 65536 + get_or s (at + 3) 0 * 16777216 + get_or s (at + 4) 0 * 4294967296 + get_or s (at + 5) 0 * 1099511627776 + get_or s (at + 6) 0 * 281474976710656 + get_or s (at + 7) 0 * 72057594037927936
    ≡ value (take 8 (drop at s))
unfolding value
word_read s at h =
    rw (
      drop-next s at (at + 1) (omega arith) (omega arith),
      drop-next s (at + 1) (at + 2) (omega arith) (omega arith),
      drop-next s (at + 2) (at + 3) (omega arith) (omega arith),
      drop-next s (at + 3) (at + 4) (omega arith) (omega arith),
      drop-next s (at + 4) (at + 5) (omega arith) (omega arith),
      drop-next s (at + 5) (at + 6) (omega arith) (omega arith),
      drop-next s (at + 6) (at + 7) (omega arith) (omega arith),
      drop-next s (at + 7) (at + 8) (omega arith) (omega arith),
    )
    (omega arith)

pub word-stored : (s : List ℕ) (at v : ℕ)
    → set (set (set (set (set (set (set (set s at (v % 256)) (at + 1) (v / 256 % 256)) (at + 2) (v / 65536 % 256)) (at + 3) (v / 16777216 % 256)) (at + 4) (v / 4294967296 % 256)) (at + 5) (v / 1099511627776 % 256)) (at + 6) (v / 281474976710656 % 256)) (at + 7) (v / 72057594037927936 % 256)
    ≡ sets s at (bytes 8 v)
unfolding bytes
word-stored s at v =
    let e1 : at + 1 ≡ suc at = omega arith in
    let e2 : at + 2 ≡ suc (suc at) = omega arith in
    let e3 : at + 3 ≡ suc (suc (suc at)) = omega arith in
    let e4 : at + 4 ≡ suc (suc (suc (suc at))) = omega arith in
    let e5 : at + 5 ≡ suc (suc (suc (suc (suc at)))) = omega arith in
    let e6 : at + 6 ≡ suc (suc (suc (suc (suc (suc at))))) = omega arith in
    let e7 : at + 7 ≡ suc (suc (suc (suc (suc (suc (suc at)))))) = omega arith in
    let d2 : v / 65536 ≡ v / 256 / 256 = omega arith in
    let d3 : v / 16777216 ≡ v / 256 / 256 / 256 = omega arith in
    let d4 : v / 4294967296 ≡ v / 256 / 256 / 256 / 256 = omega arith in
    let d5 : v / 1099511627776 ≡ v / 256 / 256 / 256 / 256 / 256 = omega arith in
    let d6 : v / 281474976710656 ≡ v / 256 / 256 / 256 / 256 / 256 / 256 = omega arith in
    let d7 : v / 72057594037927936 ≡ v / 256 / 256 / 256 / 256 / 256 / 256 / 256 = omega arith in
    rw (e1, e2, e3, e4, e5, e6, e7, d2, d3, d4, d5, d6, d7)

-- Eight bytes, and the eight bytes of a number, in std's words.
pub value-le : (bs : List ℕ) → length bs ≡ 8 → from_le_bytes w64 bs ≡ value bs
value-le bs e = word_read bs 0 (omega arith) ∙ ap value (take_all 8 bs (omega arith))

pub bytes-le : (n : ℕ) → to_le_bytes w64 n ≡ bytes 8 n
unfolding bytes
bytes-le n =
    let d2 : n / 65536 ≡ n / 256 / 256 = omega arith in
    let d3 : n / 16777216 ≡ n / 256 / 256 / 256 = omega arith in
    let d4 : n / 4294967296 ≡ n / 256 / 256 / 256 / 256 = omega arith in
    let d5 : n / 1099511627776 ≡ n / 256 / 256 / 256 / 256 / 256 = omega arith in
    let d6 : n / 281474976710656 ≡ n / 256 / 256 / 256 / 256 / 256 / 256 = omega arith in
    let d7 : n / 72057594037927936 ≡ n / 256 / 256 / 256 / 256 / 256 / 256 / 256 = omega arith in
    rw (d2, d3, d4, d5, d6, d7)

-- The word at a byte.
pub word-le : (s : List ℕ) (at k : ℕ) → at + 8 ≤ length s → k ≡ 8 → from_le_bytes w64 (take k (drop at s)) ≡ value (take 8 (drop at s))
word-le s at k h e = rw e (value-le (take 8 (drop at s)) (simp (length-take, length-drop) (omega arith)))

-- Numbers that are copied into the place from there on, and a word.
pub copied-sets : (s : List ℕ) (at k : ℕ) (vs : List ℕ) → at + k ≤ length s → k ≡ length vs → take at s ++ (vs ++ drop k (drop at s)) ≡ sets s at vs
copied-sets s at k vs h e =
    rw drop-drop
    (sym (sets-eq vs s at (omega (arith, e)) ∙ append_assoc (take at s) vs (drop (at + length vs) s) ∙ ap (λ (n : ℕ). take at s ++ (vs ++ drop (at + n) s)) (sym e)))

pub word-copied : (s : List ℕ) (at k v : ℕ) → at + 8 ≤ length s → k ≡ 8
    → take at s ++ (to_le_bytes w64 v ++ drop k (drop at s)) ≡ sets s at (bytes 8 v)
word-copied s at k v h e = copied-sets s at k (to_le_bytes w64 v) (omega arith) e ∙ ap (sets s at) (bytes-le v)

pub sets-append : (s : List ℕ) (at : ℕ) (xs ys : List ℕ) → sets s at (xs ++ ys) ≡ sets (sets s at xs) (at + length xs) ys
sets-append s at [] ys = rw add-zero
sets-append s at (x ∷ xs) ys = sets-append (set s at x) (suc at) xs ys ∙ rw (suc-add, ← add-suc)

-- Eight bytes are those of the number that they say.
pub word_bytes : (s : List ℕ) (at : ℕ) → Bytes s → at + 8 ≤ length s → bytes 8 (value (take 8 (drop at s))) ≡ take 8 (drop at s)
word_bytes s at b h =
    let l : length (take 8 (drop at s)) ≡ 8 = simp (length-take, length-drop) (omega arith) in
    ap (λ (n : ℕ). bytes n (value (take 8 (drop at s)))) (sym l) ∙ bytes-value (take 8 (drop at s)) (bytes_take 8 (drop at s) (bytes_drop at s b))

pub slot_read : (s : List ℕ) (at a b c d : ℕ) → Bytes s → at + 32 ≤ length s
    → a ≡ value (take 8 (drop at s)) → b ≡ value (take 8 (drop (at + 8) s)) → c ≡ value (take 8 (drop (at + 16) s)) → d ≡ value (take 8 (drop (at + 24) s))
    → slot_bytes (record { a = a; b = b; c = c; d = d }) ≡ take 32 (drop at s)
unfolding slot_bytes
slot_read s at a b c d bs h ea eb ec ed =
    let s1 : take 32 (drop at s) ≡ take 8 (drop at s) ++ take 24 (drop (at + 8) s) = take-add 8 24 (drop at s) ∙ rw drop-drop in
    let s2 : take 24 (drop (at + 8) s) ≡ take 8 (drop (at + 8) s) ++ take 16 (drop (at + 16) s) = take-add 8 16 (drop (at + 8) s) ∙ rw (drop-drop, add_assoc) in
    let s3 : take 16 (drop (at + 16) s) ≡ take 8 (drop (at + 16) s) ++ take 8 (drop (at + 24) s) = take-add 8 8 (drop (at + 16) s) ∙ rw (drop-drop, add_assoc) in
    rw (ea, eb, ec, ed, word_bytes s at bs (omega arith), word_bytes s (at + 8) bs (omega arith), word_bytes s (at + 16) bs (omega arith), word_bytes s (at + 24) bs (omega arith), s1, s2, s3)

pub slot-stored : (s : List ℕ) (at : ℕ) (x : Slot) (s1 s2 s3 s4 : List ℕ)
    → s1 ≡ sets s at (bytes 8 x.a) → s2 ≡ sets s1 (at + 8) (bytes 8 x.b) → s3 ≡ sets s2 (at + 16) (bytes 8 x.c) → s4 ≡ sets s3 (at + 24) (bytes 8 x.d)
    → s4 ≡ sets s at (slot_bytes x)
unfolding slot_bytes
slot-stored s at x s1 s2 s3 s4 e1 e2 e3 e4 =
    let l : (n : ℕ) → length (bytes 8 n) ≡ 8 = length-bytes 8 in
    rw (
      sets-append s at (bytes 8 x.a),
      l x.a,
      ← e1,
      sets-append s1 (at + 8) (bytes 8 x.b),
      l x.b,
      ← e2,
      add_assoc at 8 8,
      sets-append s2 (at + 16) (bytes 8 x.c),
      l x.c,
      ← e3,
      add_assoc at 16 8,
    )
    e4
