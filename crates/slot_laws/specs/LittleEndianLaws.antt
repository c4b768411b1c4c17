-- Little-endian numbers, over the width: a number in bytes is read back, and bytes are those of the number that they say.
use Rattle.std.specs.Prelude.{◌≡◌, refl, ℕ, zero, suc, ◌+◌, ◌*◌, ◌/◌, ◌%◌, ◌^◌, ◌<◌, List, [], ◌∷◌, ◌++◌, length, get_or, take, drop}
use Rattle.std.proofs.Common.{sym, ◌∙◌, ap, mod-eq_of_lt, div-one, mul_comm, pow-suc, zero-add, suc-add, arith}
use Rattle.std.proofs.Math.Nat.{mod-one, div-div-eq-div-mul, add-mul-div_left, add-mul-mod_self_left, div-eq_of_lt}
use Rattle.std.proofs.Math.Arith.{mod-mul}
use Rattle.slot_spec.specs.LittleEndian.{value, bytes, Bytes}

pub power-positive : (w : ℕ) → 0 < 256 ^ w
power-positive zero = omega arith
power-positive (suc w) = let h : 0 < 256 ^ w = power-positive w in rw pow-suc (omega arith)

pub length-bytes : (w n : ℕ) → length (bytes w n) ≡ w
unfolding bytes
length-bytes zero n = refl
length-bytes (suc w) n = ap suc (length-bytes w (n / 256))

pub bytes-are : (w n : ℕ) → Bytes (bytes w n)
unfolding bytes Bytes
bytes-are zero n = tt
bytes-are (suc w) n = (omega arith, bytes-are w (n / 256))

pub value-bytes : (w n : ℕ) → value (bytes w n) ≡ n % 256 ^ w
unfolding bytes value
value-bytes zero n = sym (mod-one n)
value-bytes (suc w) n =
    rw (value-bytes w (n / 256), pow-suc, mod-mul n {m = 256 ^ w} {c = 256} (power-positive w) (omega arith)) (omega arith)

pub value-below : (bs : List ℕ) → Bytes bs → value bs < 256 ^ length bs
unfolding value Bytes
value-below [] h = omega arith
value-below (b ∷ bs) h = let r : value bs < 256 ^ length bs = value-below bs h.1 in rw pow-suc (omega (arith, h.0))

pub bytes-value : (bs : List ℕ) → Bytes bs → bytes (length bs) (value bs) ≡ bs
unfolding bytes value Bytes
bytes-value [] h = refl
bytes-value (b ∷ bs) h =
    let e : (b + 256 * value bs) % 256 ≡ b = omega (arith, h.0) in
    let q : (b + 256 * value bs) / 256 ≡ value bs = omega (arith, h.0) in
    rw (e, q, bytes-value bs h.1)

-- A number split into a low part of u bytes and the rest.
pub bytes-split : (u v n : ℕ) → bytes (u + v) n ≡ bytes u n ++ bytes v (n / 256 ^ u)
unfolding bytes
bytes-split zero v n = rw (zero-add, div-one)
bytes-split (suc u) v n =
    rw (suc-add, bytes-split u v (n / 256), pow-suc, mul_comm (256 ^ u) 256, ← div-div-eq-div-mul n 256 (256 ^ u))

-- Only the low bytes count.
pub bytes_low : (w v m : ℕ) → v < 256 ^ w → bytes w (v + 256 ^ w * m) ≡ bytes w v
unfolding bytes
bytes_low zero v m h = refl
bytes_low (suc w) v m h =
    let r : 256 ^ suc w ≡ 256 ^ w * 256 = pow-suc 256 w in
    let s : v < 256 ^ w * 256 = rw r at h in
    let e : 256 ^ suc w * m ≡ 256 * (256 ^ w * m) = rw r (omega arith) in
    let a : (v + 256 * (256 ^ w * m)) % 256 ≡ v % 256 = add-mul-mod_self_left v 256 (256 ^ w * m) in
    let b : (v + 256 * (256 ^ w * m)) / 256 ≡ v / 256 + 256 ^ w * m = add-mul-div_left v (256 ^ w * m) (omega arith) in
    let q : v / 256 < 256 ^ w = omega arith in
    rw (e, a, b, bytes_low w (v / 256) m q)

-- A number put together from a low part of w bytes and a high part.
pub bytes-join : (w u v m : ℕ) → v < 256 ^ w → bytes (w + u) (v + 256 ^ w * m) ≡ bytes w v ++ bytes u m
bytes-join w u v m h =
    let e : (v + 256 ^ w * m) / 256 ^ w ≡ m =
    add-mul-div_left v m (power-positive w) ∙ ap (λ (x : ℕ). x + m) (div-eq_of_lt h) ∙ zero-add m in
    rw (bytes-split w u (v + 256 ^ w * m), bytes_low w v m h, e)

pub value_read : (w n : ℕ) → n < 256 ^ w → value (bytes w n) ≡ n
value_read w n h = value-bytes w n ∙ mod-eq_of_lt h

-- Each element of a list of bytes is one, and so is each part of it.
pub bytes-from : (bs : List ℕ) → ((i : ℕ) → i < length bs → get_or bs i 0 < 256) → Bytes bs
unfolding Bytes
bytes-from [] f = tt
bytes-from (b ∷ bs) f = (f 0 (omega arith), bytes-from bs (λ i h. f (suc i) (omega arith)))

pub bytes_take : (n : ℕ) (bs : List ℕ) → Bytes bs → Bytes (take n bs)
unfolding Bytes
bytes_take zero bs h = tt
bytes_take (suc n) [] h = tt
bytes_take (suc n) (b ∷ bs) h = (h.0, bytes_take n bs h.1)

pub bytes_drop : (n : ℕ) (bs : List ℕ) → Bytes bs → Bytes (drop n bs)
unfolding Bytes
bytes_drop zero bs h = h
bytes_drop (suc n) [] h = tt
bytes_drop (suc n) (b ∷ bs) h = bytes_drop n bs h.1

pub bytes-append : (xs ys : List ℕ) → Bytes xs → Bytes ys → Bytes (xs ++ ys)
unfolding Bytes
bytes-append [] ys h g = g
bytes-append (x ∷ xs) ys h g = (h.0, bytes-append xs ys h.1 g)
