-- Numbers of two bytes each: read one by one, read back as written, and cut.
use Rattle.std.specs.Prelude.{◌≡◌, refl, List, [], ◌∷◌, ◌++◌, ℕ, zero, suc, ◌+◌, ◌-◌, ◌*◌, ◌/◌, ◌%◌, ◌≤◌, ◌<◌, length, get_or, take, drop, set}
use Rattle.std.proofs.Common.{sym, ◌∙◌, ap, ap₂, append_assoc, append-nil, suc-add, add-one, arith, length-append, length-drop, length-take, take-append-drop, take-suc, drop-cons, drop-drop, take-suc-set, take_at, drop_at, length-take-le}
use mathlib.Core.List.Memᴰ
use Rattle.std.specs.Int.{w16, to_le_bytes}
use Rattle.std.proofs.lemmas.List.Edits.{sets, sets-eq}
use Rattle.std.proofs.Math.Seq.{length-sets}
use Rattle.list_spec.specs.Distinct.{All}
use Rattle.list_laws.specs.DistinctLaws.{all_nil, all_cons}
use Rattle.slot_spec.specs.LittleEndian.{value, bytes, Bytes}
use Rattle.slot_laws.specs.LittleEndianLaws.{length-bytes, bytes-value, value_read, value-below, bytes_take, bytes_drop}
use Rattle.slot_laws.specs.WordLaws.{sets-append, copied-sets}
use Rattle.lent_bytes_spec.specs.Numbers.{number_length, numbers_in, numbers_of, numbers_bytes}

-- ---- reading, one number after another
pub value-two : (s : List ℕ) (at : ℕ) → at + 2 ≤ length s → value (take 2 (drop at s)) ≡ get_or s at 0 + 256 * get_or s (at + 1) 0
unfolding value
value-two s at h =
    let e : at + 1 ≡ suc at = add-one at in
    rw (e, drop-cons s at 0 (omega arith), drop-cons s (suc at) 0 (omega arith)) (omega arith)

numbers_more : (n : ℕ) (bs : List ℕ) → numbers_in (suc n) bs ≡ numbers_in n bs ++ (value (take 2 (drop (2 * n) bs)) ∷ [])
unfolding numbers_in
numbers_more zero bs = refl
numbers_more (suc n) bs =
    let e : 2 * suc n ≡ 2 + 2 * n = omega arith in
    rw (e, ← drop-drop (2 * n) 2 bs) (ap (λ (l : List ℕ). value (take 2 bs) ∷ l) (numbers_more n (drop 2 bs)))

pub numbers-next : (bs numbers : List ℕ) (i at : ℕ) → take i numbers ≡ numbers_in i bs → i < length numbers → at ≡ 2 * i → at + 2 ≤ length bs
    → take (i + 1) (set numbers i (get_or bs at 0 + 256 * get_or bs (at + 1) 0)) ≡ numbers_in (i + 1) bs
numbers-next bs numbers i at done before here room =
    rw (add-one i, take-suc-set numbers i (get_or bs at 0 + 256 * get_or bs (at + 1) 0) before, done, numbers_more i bs, ← here, value-two bs at room)

pub numbers-none : (bs numbers : List ℕ) → take 0 numbers ≡ numbers_in 0 bs
unfolding numbers_in
numbers-none bs numbers = refl

-- ---- lengths
pub numbers-length : (n : ℕ) (bs : List ℕ) → length (numbers_in n bs) ≡ n
unfolding numbers_in
numbers-length zero bs = refl
numbers-length (suc n) bs = ap suc (numbers-length n (drop 2 bs))

pub numbers-bytes-length : (ns : List ℕ) → length (numbers_bytes ns) ≡ 2 * length ns
unfolding numbers_bytes
numbers-bytes-length [] = refl
numbers-bytes-length (n ∷ ns) = rw (length-append, length-bytes, numbers-bytes-length ns) (omega arith)

-- ---- there and back
pub numbers-read : (ns : List ℕ) (m : ℕ) (bs : List ℕ) → ((i : ℕ) → get_or ns i 0 < 65536) → numbers_in (length ns + m) (numbers_bytes ns ++ bs) ≡ ns ++ numbers_in m bs
unfolding numbers_in numbers_bytes
numbers-read [] m bs h = rw zero-plus
  where
    zero-plus : 0 + m ≡ m
    zero-plus = omega arith
numbers-read (n ∷ ns) m bs h =
    rw (
      suc-add,
      append_assoc (bytes 2 n) (numbers_bytes ns) bs,
      take_at (bytes 2 n) (numbers_bytes ns ++ bs) 2 (length-bytes 2 n),
      drop_at (bytes 2 n) (numbers_bytes ns ++ bs) 2 (length-bytes 2 n),
      value_read 2 n (h 0),
      numbers-read ns m bs (λ i. h (suc i)),
    )

pub numbers-written : (n : ℕ) (bs : List ℕ) → Bytes bs → length bs ≡ 2 * n → numbers_bytes (numbers_in n bs) ≡ bs
unfolding numbers_in numbers_bytes
numbers-written zero [] h e = refl
numbers-written zero (b ∷ bs) h e = let z : ⊥ = omega arith in absurd z
numbers-written (suc n) bs h e =
    let l : length (take 2 bs) ≡ 2 = simp length-take (omega arith) in
    let r : length (drop 2 bs) ≡ 2 * n = simp length-drop (omega arith) in
    let b : bytes 2 (value (take 2 bs)) ≡ take 2 bs =
    ap (λ (w : ℕ). bytes w (value (take 2 bs))) (sym l) ∙ bytes-value (take 2 bs) (bytes_take 2 bs h) in
    rw (b, numbers-written n (drop 2 bs) (bytes_drop 2 bs h) r, take-append-drop 2 bs)

-- ---- cut
pub numbers-drop : (n m : ℕ) (bs : List ℕ) → drop n (numbers_in (n + m) bs) ≡ numbers_in m (drop (2 * n) bs)
unfolding numbers_in
numbers-drop zero m bs = let e : 0 + m ≡ m = omega arith in rw e
numbers-drop (suc n) m bs =
    let e : 2 * suc n ≡ 2 + 2 * n = omega arith in
    rw (suc-add, e, ← drop-drop (2 * n) 2 bs) (numbers-drop n m (drop 2 bs))

pub numbers-take : (n m : ℕ) (bs : List ℕ) → take n (numbers_in (n + m) bs) ≡ numbers_in n bs
unfolding numbers_in
numbers-take zero m bs = refl
numbers-take (suc n) m bs = rw suc-add (ap (λ (l : List ℕ). value (take 2 bs) ∷ l) (numbers-take n m (drop 2 bs)))

-- ---- writing, one number after another
numbers-bytes-append : (ms ns : List ℕ) → numbers_bytes (ms ++ ns) ≡ numbers_bytes ms ++ numbers_bytes ns
unfolding numbers_bytes
numbers-bytes-append [] ns = refl
numbers-bytes-append (m ∷ ms) ns = rw (numbers-bytes-append ms ns, append_assoc (bytes 2 m) (numbers_bytes ms) (numbers_bytes ns))

one_number : (n : ℕ) → numbers_bytes (n ∷ []) ≡ bytes 2 n
unfolding numbers_bytes
one_number n = append-nil (bytes 2 n)

pub number_put : (bs : List ℕ) (at n : ℕ) → n < 65536 → set (set bs at (n % 256)) (at + 1) (n / 256) ≡ sets bs at (bytes 2 n)
unfolding bytes
number_put bs at n low =
    let e : at + 1 ≡ suc at = omega arith in
    let d : n / 256 ≡ n / 256 % 256 = omega (arith, low) in
    rw (e, ← d)

pub numbers-put : (before bs numbers : List ℕ) (i at : ℕ) → bs ≡ sets before 0 (numbers_bytes (take i numbers)) → i < length numbers → at ≡ 2 * i
    → ((j : ℕ) → get_or numbers j 0 < 65536)
    → set (set bs at (get_or numbers i 0 % 256)) (at + 1) (get_or numbers i 0 / 256) ≡ sets before 0 (numbers_bytes (take (i + 1) numbers))
numbers-put before bs numbers i at done more here low =
    let n = get_or numbers i 0 in
    let l : length (numbers_bytes (take i numbers)) ≡ at = numbers-bytes-length (take i numbers) ∙ omega (arith, length-take-le i numbers (omega (arith, more)), here) in
    let end : 0 + length (numbers_bytes (take i numbers)) ≡ at = omega (arith, l) in
    let next : numbers_bytes (take (i + 1) numbers) ≡ numbers_bytes (take i numbers) ++ bytes 2 n =
    rw (add-one i, take-suc numbers i 0 more, numbers-bytes-append (take i numbers) (n ∷ []), one_number n) in
    number_put bs at n (low i)
    ∙ ap (λ (x : List ℕ). sets x at (bytes 2 n)) done
    ∙ sym (ap (sets before 0) next ∙ sets-append before 0 (numbers_bytes (take i numbers)) (bytes 2 n)
    ∙ ap (λ (m : ℕ). sets (sets before 0 (numbers_bytes (take i numbers))) m (bytes 2 n)) end)

-- The same where std copies a number's two bytes.
pub number-copied : (bs : List ℕ) (at k n : ℕ) → at + 2 ≤ length bs → k ≡ 2 → take at bs ++ (to_le_bytes w16 n ++ drop k (drop at bs)) ≡ sets bs at (bytes 2 n)
unfolding bytes
number-copied bs at k n room e = copied-sets bs at k (to_le_bytes w16 n) (omega arith) e

pub numbers-copied : (before bs numbers : List ℕ) (i at k : ℕ) → bs ≡ sets before 0 (numbers_bytes (take i numbers)) → i < length numbers → at ≡ 2 * i
    → at + 2 ≤ length bs → k ≡ 2
    → take at bs ++ (to_le_bytes w16 (get_or numbers i 0) ++ drop k (drop at bs)) ≡ sets before 0 (numbers_bytes (take (i + 1) numbers))
numbers-copied before bs numbers i at k done more here room e =
    let n = get_or numbers i 0 in
    let l : length (numbers_bytes (take i numbers)) ≡ at = numbers-bytes-length (take i numbers) ∙ omega (arith, length-take-le i numbers (omega (arith, more)), here) in
    let end : 0 + length (numbers_bytes (take i numbers)) ≡ at = omega (arith, l) in
    let next : numbers_bytes (take (i + 1) numbers) ≡ numbers_bytes (take i numbers) ++ bytes 2 n =
    rw (add-one i, take-suc numbers i 0 more, numbers-bytes-append (take i numbers) (n ∷ []), one_number n) in
    number-copied bs at k n room e
    ∙ ap (λ (x : List ℕ). sets x at (bytes 2 n)) done
    ∙ sym (ap (sets before 0) next ∙ sets-append before 0 (numbers_bytes (take i numbers)) (bytes 2 n)
    ∙ ap (λ (m : ℕ). sets (sets before 0 (numbers_bytes (take i numbers))) m (bytes 2 n)) end)

pub numbers-put-none : (bs numbers : List ℕ) → bs ≡ sets bs 0 (numbers_bytes (take 0 numbers))
unfolding numbers_bytes
numbers-put-none bs numbers = refl

-- What was written at the start is read back, and what follows it stays.
pub numbers-left : (bs ns : List ℕ) → 2 * length ns ≤ length bs → ((i : ℕ) → get_or ns i 0 < 65536)
    → numbers_of (sets bs 0 (numbers_bytes ns)) ≡ ns ++ drop (length ns) (numbers_of bs)
numbers-left bs ns room low =
    let n = length ns in
    let m = length bs / 2 - n in
    let l : length (numbers_bytes ns) ≡ 2 * n = numbers-bytes-length ns in
    let whole : n + m ≡ length bs / 2 = omega (arith, room) in
    let end : 0 + length (numbers_bytes ns) ≡ 2 * n = omega (arith, l) in
    let written : sets bs 0 (numbers_bytes ns) ≡ numbers_bytes ns ++ drop (2 * n) bs =
    sets-eq (numbers_bytes ns) bs 0 (omega (arith, l, room)) ∙ ap (λ (k : ℕ). numbers_bytes ns ++ drop k bs) end in
    ap (λ (k : ℕ). numbers_in (k / 2) (sets bs 0 (numbers_bytes ns))) (length-sets bs 0 (numbers_bytes ns))
    ∙ ap₂ numbers_in (sym whole) written
    ∙ numbers-read ns m (drop (2 * n) bs) low
    ∙ ap (λ (x : List ℕ). ns ++ x) (sym (numbers-drop n m bs) ∙ ap (λ (k : ℕ). drop n (numbers_in k bs)) whole)

-- Numbers read from bytes are of 16 bits, and such numbers are read back as written.
pub numbers-low : (n : ℕ) (bs : List ℕ) → Bytes bs → 2 * n ≤ length bs → All (λ (t : ℕ). t < 65536) (numbers_in n bs)
unfolding numbers_in
numbers-low zero bs b long = all_nil (λ (t : ℕ). t < 65536)
numbers-low (suc n) bs b long =
    let l : length (take 2 bs) ≡ 2 = length-take-le 2 bs (omega arith) in
    all_cons {P = λ (t : ℕ). t < 65536} (rw l at (value-below (take 2 bs) (bytes_take 2 bs b)))
    (numbers-low n (drop 2 bs) (bytes_drop 2 bs b) (simp length-drop (omega arith)))

low-at : (ns : List ℕ) → All (λ (t : ℕ). t < 65536) ns → (i : ℕ) → get_or ns i 0 < 65536
low-at [] low i = omega arith
low-at (n ∷ ns) low zero = low n (Memᴰ.head refl)
low-at (n ∷ ns) low (suc i) = low-at ns (λ t m. low t (Memᴰ.tail m)) i

pub numbers-back : (ns : List ℕ) → All (λ (t : ℕ). t < 65536) ns → numbers_of (numbers_bytes ns) ≡ ns
unfolding numbers_in
numbers-back ns low =
    let half : length (numbers_bytes ns) / number_length ≡ length ns + 0 = omega (arith, numbers-bytes-length ns) in
    ap₂ numbers_in half (sym (append-nil (numbers_bytes ns))) ∙ numbers-read ns 0 [] (low-at ns low) ∙ append-nil ns
