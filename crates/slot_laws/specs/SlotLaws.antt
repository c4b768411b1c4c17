-- The slot format: the fields of four words, and the round trip. A well-formed node whose own tag's path passes the bucket,
-- once written, reads back as that node; bytes that read as a node are that node's; and only zero bytes read as empty.
use Rattle.std.specs.Prelude.{◌≡◌, refl, Bool, true, false, ◌&&◌, ℕ, zero, suc, ◌+◌, ◌*◌, ◌/◌, ◌%◌, ◌^◌, ◌<◌, List, [], ◌∷◌, ◌++◌, eqb, length, replicate}
use Rattle.std.proofs.Common.{sym, ◌∙◌, pow-suc, append-nil, length-append, eq-eqb, ne_eqb, eqb-true}
use Rattle.std.proofs.Math.Path.{ap}
use Rattle.std.proofs.Math.Bool.{and_assoc}
use native.Mathlib.Omega.{arith}
use Rattle.std.specs.Int.Bits.{bit_or, bit_and, or_zero_l, or_add_and}
use Rattle.std.proofs.lemmas.Nat.{and_le_r}
use Rattle.std.proofs.lemmas.Bool.{eqb-false}
use Rattle.slot_spec.specs.LittleEndian.{bytes, Bytes}
use Rattle.slot_laws.specs.LittleEndianLaws.{length-bytes, bytes-are, bytes-append}
use Rattle.slot_spec.specs.Layout.{fields, pack, total, Fit}
use Rattle.slot_laws.specs.LayoutLaws.{fields-none, fields-part, fields-whole, fields-pack, pack-fields}
use Rattle.slot_spec.specs.Slot.{Fields, widths, numbers, named, fields_in, fields_of, node_of, encode, all_zero, slot_bytes, slot_of, Ranged}
use Rattle.slot_spec.specs.declared.Node.{Node}
use Rattle.slot_spec.specs.declared.Slot.{Slot}

-- ---- the fields of four words
-- A word of the machine.
abbrev pub Words : Slot → Type 0
Words x = (x.a < 2 ^ 64) × (x.b < 2 ^ 64) × (x.c < 2 ^ 64) × (x.d < 2 ^ 64)

pub fields-words : (x : Slot)
    → fields widths (slot_bytes x)
    ≡ x.a % 256
    ∷ x.a / 256 % 256
    ∷ x.a / 256 / 256 % 256
    ∷ x.a / 256 / 256 / 256 % 256
    ∷ x.a / 256 / 256 / 256 / 256 % 4294967296
    ∷ x.b % 4294967296
    ∷ x.b / 4294967296 % 4294967296
    ∷ x.c % 65536
    ∷ x.c / 65536 % 65536
    ∷ x.c / 65536 / 65536 % 65536
    ∷ x.c / 65536 / 65536 / 65536 % 65536
    ∷ x.d % 18446744073709551616
    ∷ []
unfolding slot_bytes
fields-words x =
    rw (
      ← append-nil (bytes 8 x.d),
      fields-part 1 7 (1 ∷ 1 ∷ 1 ∷ 4 ∷ 4 ∷ 4 ∷ 2 ∷ 2 ∷ 2 ∷ 2 ∷ 8 ∷ []) x.a (bytes 8 x.b ++ (bytes 8 x.c ++ (bytes 8 x.d ++ []))),
      fields-part 1 6 (1 ∷ 1 ∷ 4 ∷ 4 ∷ 4 ∷ 2 ∷ 2 ∷ 2 ∷ 2 ∷ 8 ∷ []) (x.a / 256) (bytes 8 x.b ++ (bytes 8 x.c ++ (bytes 8 x.d ++ []))),
      fields-part 1 5 (1 ∷ 4 ∷ 4 ∷ 4 ∷ 2 ∷ 2 ∷ 2 ∷ 2 ∷ 8 ∷ []) (x.a / 256 / 256) (bytes 8 x.b ++ (bytes 8 x.c ++ (bytes 8 x.d ++ []))),
      fields-part 1 4 (4 ∷ 4 ∷ 4 ∷ 2 ∷ 2 ∷ 2 ∷ 2 ∷ 8 ∷ []) (x.a / 256 / 256 / 256) (bytes 8 x.b ++ (bytes 8 x.c ++ (bytes 8 x.d ++ []))),
      fields-whole 4 (4 ∷ 4 ∷ 2 ∷ 2 ∷ 2 ∷ 2 ∷ 8 ∷ []) (x.a / 256 / 256 / 256 / 256) (bytes 8 x.b ++ (bytes 8 x.c ++ (bytes 8 x.d ++ []))),
      fields-part 4 4 (4 ∷ 2 ∷ 2 ∷ 2 ∷ 2 ∷ 8 ∷ []) x.b (bytes 8 x.c ++ (bytes 8 x.d ++ [])),
      fields-whole 4 (2 ∷ 2 ∷ 2 ∷ 2 ∷ 8 ∷ []) (x.b / 4294967296) (bytes 8 x.c ++ (bytes 8 x.d ++ [])),
      fields-part 2 6 (2 ∷ 2 ∷ 2 ∷ 8 ∷ []) x.c (bytes 8 x.d ++ []),
      fields-part 2 4 (2 ∷ 2 ∷ 8 ∷ []) (x.c / 65536) (bytes 8 x.d ++ []),
      fields-part 2 2 (2 ∷ 8 ∷ []) (x.c / 65536 / 65536) (bytes 8 x.d ++ []),
      fields-whole 2 (8 ∷ []) (x.c / 65536 / 65536 / 65536) (bytes 8 x.d ++ []),
      fields-whole 8 ([]) x.d [],
    )
    (ap (λ (r : List ℕ). x.a % 256 ∷ x.a / 256 % 256 ∷ x.a / 256 / 256 % 256 ∷ x.a / 256 / 256 / 256 % 256 ∷ x.a / 256 / 256 / 256 / 256 % 4294967296 ∷ x.b % 4294967296 ∷ x.b / 4294967296 % 4294967296 ∷ x.c % 65536 ∷ x.c / 65536 % 65536 ∷ x.c / 65536 / 65536 % 65536 ∷ x.c / 65536 / 65536 / 65536 % 65536 ∷ x.d % 18446744073709551616 ∷ r) (fields-none []))

pub named-numbers : (f : Fields) → named (numbers f) ≡ f
named-numbers f = refl

-- The fields that the words of a slot hold, as code takes them out.
unfoldable pub fields_of_words : Slot → Fields
fields_of_words x =
    record {
      flag = x.a % 256;
      left_height = x.a / 256 % 256;
      right_height = x.a / 65536 % 256;
      zero1 = x.a / 16777216 % 256;
      key = x.a / 4294967296;
      left_key = x.b % 4294967296;
      right_key = x.b / 4294967296;
      tag = x.c % 65536;
      left_tag = x.c / 65536 % 65536;
      right_tag = x.c / 4294967296 % 65536;
      zero2 = x.c / 281474976710656;
      value = x.d;
    }

pub words-fields : (x : Slot) → Words x → fields widths (slot_bytes x) ≡ numbers (fields_of_words x)
unfolding fields_of_words
words-fields x h =
    let a2 : x.a / 256 / 256 ≡ x.a / 65536 = omega arith in
    let a3 : x.a / 65536 / 256 ≡ x.a / 16777216 = omega arith in
    let a4 : x.a / 16777216 / 256 % 4294967296 ≡ x.a / 4294967296 = omega (arith, h.0) in
    let b1 : x.b / 4294967296 % 4294967296 ≡ x.b / 4294967296 = omega (arith, h.1) in
    let c2 : x.c / 65536 / 65536 ≡ x.c / 4294967296 = omega arith in
    let c3 : x.c / 4294967296 / 65536 % 65536 ≡ x.c / 281474976710656 = omega (arith, h.2) in
    let d0 : x.d % 18446744073709551616 ≡ x.d = omega (arith, h.3) in
    rw (fields-words x, a2, a3, a4, b1, c2, c3, d0)

pub fields-in-words : (x : Slot) → Words x → fields_in (slot_bytes x) ≡ fields_of_words x
unfolding fields_in
fields-in-words x h = ap named (words-fields x h) ∙ named-numbers (fields_of_words x)

pub slot-length : (x : Slot) → length (slot_bytes x) ≡ 32
unfolding slot_bytes
slot-length x = simp (length-append, length-bytes)

pub slot-bytes : (x : Slot) → Bytes (slot_bytes x)
unfolding slot_bytes
slot-bytes x =
    bytes-append (bytes 8 x.a) (bytes 8 x.b ++ (bytes 8 x.c ++ bytes 8 x.d)) (bytes-are 8 x.a)
    (bytes-append (bytes 8 x.b) (bytes 8 x.c ++ bytes 8 x.d) (bytes-are 8 x.b)
    (bytes-append (bytes 8 x.c) (bytes 8 x.d) (bytes-are 8 x.c) (bytes-are 8 x.d)))

pub slot-packed : (x : Slot) → Words x → slot_bytes x ≡ pack widths (numbers (fields_of_words x))
unfolding total
slot-packed x h =
    sym (pack-fields widths (slot_bytes x) (slot-bytes x) (slot-length x)) ∙ ap (pack widths) (words-fields x h)

-- ---- zero bytes
pub all-zero-append : (xs ys : List ℕ) → all_zero (xs ++ ys) ≡ (all_zero xs && all_zero ys)
unfolding all_zero
all-zero-append [] ys = refl
all-zero-append (x ∷ xs) ys = rw (all-zero-append xs ys) (sym (and_assoc (eqb x 0) (all_zero xs) (all_zero ys)))

pub all-zero-bytes : (w n : ℕ) → n < 256 ^ w → all_zero (bytes w n) ≡ eqb n 0
unfolding all_zero bytes
all-zero-bytes zero n h = sym (eq-eqb n 0 (omega arith))
all-zero-bytes (suc w) n h =
    let s : n < 256 ^ w * 256 = rw pow-suc at h in
    let q : n / 256 < 256 ^ w = omega arith in
    rw (all-zero-bytes w (n / 256) q) (go (eqb (n % 256) 0) refl (eqb (n / 256) 0) refl)
  where
    go : (t : Bool) → eqb (n % 256) 0 ≡ t → (u : Bool) → eqb (n / 256) 0 ≡ u → (t && u) ≡ eqb n 0
    go true e true f = let a = eqb-true (n % 256) 0 e in let b = eqb-true (n / 256) 0 f in sym (eq-eqb n 0 (omega arith))
    go true e false f = let b = eqb-false (n / 256) 0 f in sym (ne_eqb n 0 (λ z. b (omega arith)))
    go false e u f = let b = eqb-false (n % 256) 0 e in sym (ne_eqb n 0 (λ z. b (omega arith)))

pub all-zero-slot : (x : Slot) → Words x → all_zero (slot_bytes x) ≡ (eqb x.a 0 && (eqb x.b 0 && (eqb x.c 0 && eqb x.d 0)))
unfolding slot_bytes
all-zero-slot x h =
    rw (
      all-zero-append (bytes 8 x.a) (bytes 8 x.b ++ (bytes 8 x.c ++ bytes 8 x.d)),
      all-zero-append (bytes 8 x.b) (bytes 8 x.c ++ bytes 8 x.d),
      all-zero-append (bytes 8 x.c) (bytes 8 x.d),
      all-zero-bytes 8 x.a h.0,
      all-zero-bytes 8 x.b h.1,
      all-zero-bytes 8 x.c h.2,
      all-zero-bytes 8 x.d h.3,
    )

pub all-zero-replicate : (bs : List ℕ) → all_zero bs ≡ true → bs ≡ replicate (length bs) 0
unfolding all_zero
all-zero-replicate [] h = refl
all-zero-replicate (b ∷ bs) h = go (all-zero-replicate bs) (eqb b 0) refl h
  where
    go : (all_zero bs ≡ true → bs ≡ replicate (length bs) 0) → (t : Bool) → eqb b 0 ≡ t → (t && all_zero bs) ≡ true → b ∷ bs ≡ replicate (suc (length bs)) 0
    go more true e g = rw (eqb-true b 0 e, ← more g)
    go more false e g = let z : ◌≡◌ {A = ℕ} 0 1 = cc in absurd (omega arith)

-- ---- the slot of a node
pub node-fields : (n : Node) → node_of (fields_of n) ≡ n
unfolding node_of fields_of
node-fields n = refl

pub fields-encoded : (n : Node) → Ranged n → fields_in (encode n) ≡ fields_of n
unfolding fields_in encode Ranged
fields-encoded n h = ap named (fields-pack widths (numbers (fields_of n)) h)

-- The words of a node are its bytes.
module _ (n : Node) (h : Ranged n) where
  pub slot-words : Words (slot_of n)
  unfolding slot_of Ranged Fit fields_of
  slot-words =
      let r1 : n.left.height < 256 = h.1.0 in
      let r2 : n.right.height < 256 = h.1.1.0 in
      let r4 : n.key < 4294967296 = h.1.1.1.1.0 in
      let r5 : n.left.key < 4294967296 = h.1.1.1.1.1.0 in
      let r6 : n.right.key < 4294967296 = h.1.1.1.1.1.1.0 in
      let r7 : n.tag < 65536 = h.1.1.1.1.1.1.1.0 in
      let r8 : n.left.tag < 65536 = h.1.1.1.1.1.1.1.1.0 in
      let r9 : n.right.tag < 65536 = h.1.1.1.1.1.1.1.1.1.0 in
      (omega arith, omega arith, omega arith, h.1.1.1.1.1.1.1.1.1.1.1.0)

  pub slot-fields : fields_of_words (slot_of n) ≡ fields_of n
  unfolding slot_of Ranged Fit fields_of fields_of_words
  slot-fields =
      let r1 : n.left.height < 256 = h.1.0 in
      let r2 : n.right.height < 256 = h.1.1.0 in
      let r4 : n.key < 4294967296 = h.1.1.1.1.0 in
      let r5 : n.left.key < 4294967296 = h.1.1.1.1.1.0 in
      let r6 : n.right.key < 4294967296 = h.1.1.1.1.1.1.0 in
      let r7 : n.tag < 65536 = h.1.1.1.1.1.1.1.0 in
      let r8 : n.left.tag < 65536 = h.1.1.1.1.1.1.1.1.0 in
      let r9 : n.right.tag < 65536 = h.1.1.1.1.1.1.1.1.1.0 in
      let x = slot_of n in
      let e0 : x.a % 256 ≡ 1 = omega arith in
      let q1 : x.a / 256 ≡ n.left.height + 256 * (n.right.height + 65536 * n.key) = omega arith in
      let q2 : x.a / 65536 ≡ n.right.height + 256 * (256 * n.key) = omega arith in
      let q3 : x.a / 16777216 ≡ 256 * n.key = omega arith in
      let e1 : x.a / 256 % 256 ≡ n.left.height = rw q1 (omega arith) in
      let e2 : x.a / 65536 % 256 ≡ n.right.height = rw q2 (omega arith) in
      let e3 : x.a / 16777216 % 256 ≡ 0 = rw q3 (omega arith) in
      let e4 : x.a / 4294967296 ≡ n.key = omega arith in
      let e5 : x.b % 4294967296 ≡ n.left.key = omega arith in
      let e6 : x.b / 4294967296 ≡ n.right.key = omega arith in
      let e7 : x.c % 65536 ≡ n.tag = omega arith in
      let q8 : x.c / 65536 ≡ n.left.tag + 65536 * n.right.tag = omega arith in
      let q9 : x.c / 4294967296 ≡ n.right.tag = omega arith in
      let e8 : x.c / 65536 % 65536 ≡ n.left.tag = rw q8 (omega arith) in
      let e9 : x.c / 4294967296 % 65536 ≡ n.right.tag = rw q9 (omega arith) in
      let ea : x.c / 281474976710656 ≡ 0 = omega arith in
      cc

  pub slot-encoded : slot_bytes (slot_of n) ≡ encode n
  unfolding encode
  slot-encoded = slot-packed (slot_of n) slot-words ∙ ap (λ (f : Fields). pack widths (numbers f)) slot-fields

-- Words are zero together exactly if their digits put together are none.
pub or-zero : (a b : ℕ) → eqb (bit_or a b) 0 ≡ (eqb a 0 && eqb b 0)
or-zero a b = go (eqb a 0) refl (eqb b 0) refl
  where
    s : bit_or a b + bit_and a b ≡ a + b
    s = or_add_and a b

    go : (t : Bool) → eqb a 0 ≡ t → (u : Bool) → eqb b 0 ≡ u → eqb (bit_or a b) 0 ≡ (t && u)
    go true e u f = rw (eqb-true a 0 e, or_zero_l b) f
    go false e u f = ne_eqb (bit_or a b) 0 (λ z. let h = s in let l = and_le_r a b in let n = eqb-false a 0 e in n (omega arith))

pub zero-together : (x : Slot) → Words x → eqb (bit_or (bit_or (bit_or x.a x.b) x.c) x.d) 0 ≡ all_zero (slot_bytes x)
zero-together x h =
    or-zero (bit_or (bit_or x.a x.b) x.c) x.d
    ∙ rw (or-zero (bit_or x.a x.b) x.c, or-zero x.a x.b, all-zero-slot x h) (and-shift (eqb x.a 0) (eqb x.b 0) (eqb x.c 0) (eqb x.d 0))
  where
    and-shift : (s t u v : Bool) → (((s && t) && u) && v) ≡ (s && (t && (u && v)))
    and-shift true t u v = and_assoc t u v
    and-shift false t u v = refl
