-- Numbers laid out in bytes are read back, and bytes are the layout of the numbers that they hold.
use Rattle.std.specs.Prelude.{◌≡◌, refl, ℕ, ◌+◌, ◌/◌, ◌%◌, ◌^◌, List, [], ◌∷◌, ◌++◌, length, take, drop}
use Rattle.std.proofs.Common.{sym, ◌∙◌, ap, arith, append_assoc, length-append, length-drop, take-append-drop, length-take, take_at, drop_at}
use Rattle.slot_spec.specs.LittleEndian.{value, bytes, Bytes}
use Rattle.slot_laws.specs.LittleEndianLaws.{length-bytes, bytes-split, bytes-value, value-bytes, value_read, bytes_take, bytes_drop, bytes-are, bytes-append}
use Rattle.slot_spec.specs.Layout.{fields, pack, total, Fit}

pub length-pack : (ws vs : List ℕ) → length (pack ws vs) ≡ total ws
unfolding pack total
length-pack [] vs = refl
length-pack (w ∷ ws) [] = rw (length-append, length-bytes, length-pack ws [])
length-pack (w ∷ ws) (v ∷ vs) = rw (length-append, length-bytes, length-pack ws vs)

pub pack-bytes : (ws vs : List ℕ) → Bytes (pack ws vs)
unfolding pack Bytes
pack-bytes [] vs = tt
pack-bytes (w ∷ ws) [] = bytes-append (bytes w 0) (pack ws []) (bytes-are w 0) (pack-bytes ws [])
pack-bytes (w ∷ ws) (v ∷ vs) = bytes-append (bytes w v) (pack ws vs) (bytes-are w v) (pack-bytes ws vs)

pub fields-pack : (ws vs : List ℕ) → Fit ws vs → fields ws (pack ws vs) ≡ vs
unfolding pack fields Fit
fields-pack [] [] h = refl
fields-pack [] (v ∷ vs) h = absurd h
fields-pack (w ∷ ws) [] h = absurd h
fields-pack (w ∷ ws) (v ∷ vs) h =
    rw (
      take_at (bytes w v) (pack ws vs) w (length-bytes w v),
      drop_at (bytes w v) (pack ws vs) w (length-bytes w v),
      value_read w v h.0,
      fields-pack ws vs h.1,
    )

pub pack-fields : (ws bs : List ℕ) → Bytes bs → length bs ≡ total ws → pack ws (fields ws bs) ≡ bs
unfolding pack fields total
pack-fields [] [] h e = refl
pack-fields [] (b ∷ bs) h e = let z : ⊥ = omega arith in absurd z
pack-fields (w ∷ ws) bs h e =
    let l : length (take w bs) ≡ w = simp length-take (omega arith) in
    let r : length (drop w bs) ≡ total ws = simp length-drop (omega arith) in
    let b : bytes w (value (take w bs)) ≡ take w bs =
    ap (λ (n : ℕ). bytes n (value (take w bs))) (sym l) ∙ bytes-value (take w bs) (bytes_take w bs h) in
    rw (b, pack-fields ws (drop w bs) (bytes_drop w bs h) r, take-append-drop w bs)

pub fields-none : (bs : List ℕ) → fields [] bs ≡ []
unfolding fields
fields-none bs = refl

-- The first number of a layout, where the bytes begin with a wider number: its low part, and the rest goes on.
pub fields-part : (w u : ℕ) (ws : List ℕ) (n : ℕ) (rest : List ℕ) → fields (w ∷ ws) (bytes (w + u) n ++ rest) ≡ n % 256 ^ w ∷ fields ws (bytes u (n / 256 ^ w) ++ rest)
unfolding fields
fields-part w u ws n rest =
    rw (
      bytes-split w u n,
      append_assoc (bytes w n) (bytes u (n / 256 ^ w)) rest,
      take_at (bytes w n) (bytes u (n / 256 ^ w) ++ rest) w (length-bytes w n),
      drop_at (bytes w n) (bytes u (n / 256 ^ w) ++ rest) w (length-bytes w n),
      value-bytes w n,
    )

pub fields-whole : (w : ℕ) (ws : List ℕ) (n : ℕ) (rest : List ℕ) → fields (w ∷ ws) (bytes w n ++ rest) ≡ n % 256 ^ w ∷ fields ws rest
unfolding fields
fields-whole w ws n rest =
    rw (
      take_at (bytes w n) rest w (length-bytes w n),
      drop_at (bytes w n) rest w (length-bytes w n),
      value-bytes w n,
    )
