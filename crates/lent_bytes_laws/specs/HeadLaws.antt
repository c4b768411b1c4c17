-- The head of a byte state: as two words, and there and back.
use Rattle.std.specs.Prelude.{◌≡◌, refl, ℕ, ◌+◌, ◌*◌, ◌/◌, ◌%◌, ◌^◌, ◌≤◌, ◌<◌, take, drop}
use Rattle.std.proofs.Math.Path.{sym, ap}
use Rattle.std.proofs.Common.{◌∙◌, arith, Fits, length-append, length-drop, take-append-drop, drop-drop, length-take-le}
use mathlib.Core.List.{List, [], ◌∷◌, ◌++◌, append_assoc, append-nil}
use Rattle.std.specs.Int.{w8, w16, w32}
use Rattle.std.proofs.Math.ListN.{length}
use Rattle.std.proofs.lemmas.List.Edits.{sets, sets-eq}
use Rattle.std.proofs.lemmas.List.{take-append-le, drop-append-le}
use Rattle.slot_spec.specs.LittleEndian.{value, bytes, Bytes}
use Rattle.slot_spec.specs.Layout.{fields, pack, total, Fit}
use Rattle.slot_laws.specs.LittleEndianLaws.{length-bytes, value-below, bytes_take, bytes_drop, bytes-are, bytes-append}
use Rattle.slot_laws.specs.LayoutLaws.{length-pack, fields-part, fields-whole, fields-none, pack-fields}
use Rattle.slot_laws.specs.WordLaws.{word_bytes, sets-append}
use Rattle.lent_bytes_spec.specs.declared.StateHead.{StateHead}
use Rattle.lent_bytes_spec.specs.StateBytes.{head_widths, head_length, head_numbers, head_named, head_in, head_bytes}

-- ---- reading
-- The head in two words, as code takes it out.
unfoldable pub head_of_words : (a b : ℕ) → StateHead
head_of_words a b =
    record {
      mark = a % 256;
      structure = a / 256 % 256;
      size = a / 65536 % 256;
      height = a / 16777216 % 256;
      entries = a / 4294967296 % 65536;
      waiting = a / 281474976710656;
      key = b % 4294967296;
      tag = b / 4294967296 % 65536;
      ahead = b / 281474976710656;
    }

words-fields : (a b : ℕ) (rest : List ℕ) → a < 2 ^ 64 → b < 2 ^ 64
    → fields head_widths (bytes 8 a ++ (bytes 8 b ++ rest)) ≡ head_numbers (head_of_words a b)
unfolding head_of_words
words-fields a b rest ha hb =
    let a2 : a / 256 / 256 ≡ a / 65536 = omega arith in
    let a3 : a / 65536 / 256 ≡ a / 16777216 = omega arith in
    let a4 : a / 16777216 / 256 ≡ a / 4294967296 = omega arith in
    let a5 : a / 4294967296 / 65536 % 65536 ≡ a / 281474976710656 = omega (arith, ha) in
    let b2 : b / 4294967296 / 65536 % 65536 ≡ b / 281474976710656 = omega (arith, hb) in
    rw (
      fields-part 1 7 (1 ∷ 1 ∷ 1 ∷ 2 ∷ 2 ∷ 4 ∷ 2 ∷ 2 ∷ []) a (bytes 8 b ++ rest),
      fields-part 1 6 (1 ∷ 1 ∷ 2 ∷ 2 ∷ 4 ∷ 2 ∷ 2 ∷ []) (a / 256) (bytes 8 b ++ rest),
      fields-part 1 5 (1 ∷ 2 ∷ 2 ∷ 4 ∷ 2 ∷ 2 ∷ []) (a / 256 / 256) (bytes 8 b ++ rest),
      fields-part 1 4 (2 ∷ 2 ∷ 4 ∷ 2 ∷ 2 ∷ []) (a / 256 / 256 / 256) (bytes 8 b ++ rest),
      fields-part 2 2 (2 ∷ 4 ∷ 2 ∷ 2 ∷ []) (a / 256 / 256 / 256 / 256) (bytes 8 b ++ rest),
      fields-whole 2 (4 ∷ 2 ∷ 2 ∷ []) (a / 256 / 256 / 256 / 256 / 65536) (bytes 8 b ++ rest),
      fields-part 4 4 (2 ∷ 2 ∷ []) b rest,
      fields-part 2 2 (2 ∷ []) (b / 4294967296) rest,
      fields-whole 2 [] (b / 4294967296 / 65536) rest,
      fields-none rest,
      a2,
      a3,
      a4,
      a5,
      b2,
    )

pub named-head : (h : StateHead) → head_named (head_numbers h) ≡ h
named-head h = refl

-- Two words and the rest of bytes.
two-words : (s : List ℕ) → Bytes s → head_length ≤ length s → s ≡ bytes 8 (value (take 8 (drop 0 s))) ++ (bytes 8 (value (take 8 (drop 8 s))) ++ drop 16 s)
two-words s b h =
    rw (word_bytes s 0 b (omega arith), word_bytes s 8 b (omega arith))
    (sym (ap (λ (r : List ℕ). take 8 s ++ r) (ap (λ (r : List ℕ). take 8 (drop 8 s) ++ r) (sym (drop-drop 8 8 s)) ∙ take-append-drop 8 (drop 8 s)) ∙ take-append-drop 8 s))

word_low : (s : List ℕ) (at : ℕ) → Bytes s → at + 8 ≤ length s → value (take 8 (drop at s)) < 2 ^ 64
word_low s at b h =
    let l : length (take 8 (drop at s)) ≡ 8 = length-take-le 8 (drop at s) (simp length-drop (omega arith)) in
    rw l at (value-below (take 8 (drop at s)) (bytes_take 8 (drop at s) (bytes_drop at s b)))

pub head_read : (s : List ℕ) (a b : ℕ) → Bytes s → head_length ≤ length s
    → a ≡ value (take 8 (drop 0 s)) → b ≡ value (take 8 (drop 8 s)) → head_of_words a b ≡ head_in s
unfolding head_in
head_read s a b bs h ea eb =
    let ha : a < 2 ^ 64 = rw ea (word_low s 0 bs (omega arith)) in
    let hb : b < 2 ^ 64 = rw eb (word_low s 8 bs (omega arith)) in
    let w : s ≡ bytes 8 a ++ (bytes 8 b ++ drop 16 s) = rw (ea, eb) (two-words s bs h) in
    sym (ap (λ (x : List ℕ). head_named (fields head_widths x)) w ∙ ap head_named (words-fields a b (drop 16 s) ha hb) ∙ named-head (head_of_words a b))

-- ---- writing
pub head-length : (h : StateHead) → length (head_bytes h) ≡ head_length
unfolding head_bytes total
head-length h = length-pack head_widths (head_numbers h)

-- The numbers of a head within their widths.
pub record HeadRanged (h : StateHead) : Type 0 where
  pub mark : h.mark < 256
  pub structure : h.structure < 256
  pub size : h.size < 256
  pub height : h.height < 256
  pub entries : h.entries < 65536
  pub waiting : h.waiting < 65536
  pub key : h.key < 4294967296
  pub tag : h.tag < 65536
  pub ahead : h.ahead < 65536

pub head-fit : (h : StateHead) → HeadRanged h → Fit head_widths (head_numbers h)
unfolding Fit
head-fit h r = (r.mark, (r.structure, (r.size, (r.height, (r.entries, (r.waiting, (r.key, (r.tag, (r.ahead, tt)))))))))

-- What owning a head tells of its numbers.
pub head-ranges : (h : StateHead)
    → Fits w8 h.mark
    × (Fits w8 h.structure
    × (Fits w8 h.size
    × (Fits w8 h.height
    × (Fits w16 h.entries × (Fits w16 h.waiting × (Fits w32 h.key × (Fits w16 h.tag × (Fits w16 h.ahead × Unit {0}))))))))
    → HeadRanged h
head-ranges h g =
    let e = g.1.1.1.1 in
    record {
      mark = g.0.fits;
      structure = g.1.0.fits;
      size = g.1.1.0.fits;
      height = g.1.1.1.0.fits;
      entries = e.0.fits;
      waiting = e.1.0.fits;
      key = e.1.1.0.fits;
      tag = e.1.1.1.0.fits;
      ahead = e.1.1.1.1.0.fits;
    }

-- The two words of a head, as code puts them together.
unfoldable pub first_word : StateHead → ℕ
first_word h =
    h.mark + 256 * h.structure + 65536 * h.size + 16777216 * h.height + 4294967296 * h.entries + 281474976710656 * h.waiting

unfoldable pub second_word : StateHead → ℕ
second_word h = h.key + 4294967296 * h.tag + 281474976710656 * h.ahead

module _ (h : StateHead) (r : HeadRanged h) where
  small-first : first_word h < 2 ^ 64
  unfolding first_word
  small-first = omega (arith, r.mark, r.structure, r.size, r.height, r.entries, r.waiting)

  small-second : second_word h < 2 ^ 64
  unfolding second_word
  small-second = omega (arith, r.key, r.tag, r.ahead)

  same_numbers : head_numbers (head_of_words (first_word h) (second_word h)) ≡ head_numbers h
  unfolding first_word second_word head_of_words
  same_numbers =
      let a = h.mark + 256 * h.structure + 65536 * h.size + 16777216 * h.height + 4294967296 * h.entries + 281474976710656 * h.waiting in
      let b = h.key + 4294967296 * h.tag + 281474976710656 * h.ahead in
      let q1 : a / 256 ≡ h.structure + 256 * (h.size + 256 * h.height + 65536 * h.entries + 4294967296 * h.waiting) = omega (arith, r.mark) in
      let q2 : a / 65536 ≡ h.size + 256 * (h.height + 256 * h.entries + 16777216 * h.waiting) = omega (arith, r.mark, r.structure) in
      let q3 : a / 16777216 ≡ h.height + 256 * (h.entries + 65536 * h.waiting) = omega (arith, r.mark, r.structure, r.size) in
      let q4 : a / 4294967296 ≡ h.entries + 65536 * h.waiting = omega (arith, r.mark, r.structure, r.size, r.height) in
      let q7 : b / 4294967296 ≡ h.tag + 65536 * h.ahead = omega (arith, r.key) in
      let mark : a % 256 ≡ h.mark = omega (arith, r.mark) in
      let structure : a / 256 % 256 ≡ h.structure = rw q1 (omega (arith, r.structure)) in
      let size : a / 65536 % 256 ≡ h.size = rw q2 (omega (arith, r.size)) in
      let height : a / 16777216 % 256 ≡ h.height = rw q3 (omega (arith, r.height)) in
      let entries : a / 4294967296 % 65536 ≡ h.entries = rw q4 (omega (arith, r.entries)) in
      let waiting : a / 281474976710656 ≡ h.waiting = omega (arith, r.mark, r.structure, r.size, r.height, r.entries) in
      let key : b % 4294967296 ≡ h.key = omega (arith, r.key) in
      let tag : b / 4294967296 % 65536 ≡ h.tag = rw q7 (omega (arith, r.tag)) in
      let ahead : b / 281474976710656 ≡ h.ahead = omega (arith, r.key, r.tag) in
      rw (mark, structure, size, height, entries, waiting, key, tag, ahead)

  pub head-words : bytes 8 (first_word h) ++ bytes 8 (second_word h) ≡ head_bytes h
  unfolding head_bytes total
  head-words =
      let w = bytes 8 (first_word h) ++ (bytes 8 (second_word h) ++ []) in
      let nil : bytes 8 (second_word h) ++ [] ≡ bytes 8 (second_word h) = append-nil (bytes 8 (second_word h)) in
      let sized : length w ≡ 16 = simp (length-append, length-bytes) in
      let are : Bytes w = bytes-append (bytes 8 (first_word h)) (bytes 8 (second_word h) ++ []) (bytes-are 8 (first_word h)) (rw nil (bytes-are 8 (second_word h))) in
      ap (λ (x : List ℕ). bytes 8 (first_word h) ++ x) (sym nil)
      ∙ sym (pack-fields head_widths w are sized)
      ∙ ap (pack head_widths) (words-fields (first_word h) (second_word h) [] small-first small-second ∙ same_numbers)

  -- The two words stored, one after the other.
  pub head-stored : (s s1 s2 : List ℕ) → head_length ≤ length s → s1 ≡ sets s 0 (bytes 8 (first_word h)) → s2 ≡ sets s1 8 (bytes 8 (second_word h))
      → s2 ≡ head_bytes h ++ drop head_length s
  head-stored s s1 s2 long e1 e2 =
      let l : length (bytes 8 (first_word h)) ≡ 8 = length-bytes 8 (first_word h) in
      let all : s2 ≡ sets s 0 (bytes 8 (first_word h) ++ bytes 8 (second_word h)) =
      e2 ∙ ap (λ (x : List ℕ). sets x 8 (bytes 8 (second_word h))) e1
      ∙ sym (sets-append s 0 (bytes 8 (first_word h)) (bytes 8 (second_word h)) ∙ ap (λ (n : ℕ). sets (sets s 0 (bytes 8 (first_word h))) (0 + n) (bytes 8 (second_word h))) l) in
      all ∙ ap (sets s 0) head-words ∙ sets-eq (head_bytes h) s 0 (rw (head-length h) long)
      ∙ ap (λ (n : ℕ). head_bytes h ++ drop (0 + n) s) (head-length h)

  pub head-back : (rest : List ℕ) → head_in (head_bytes h ++ rest) ≡ h
  unfolding head_in
  head-back rest =
      ap (λ (x : List ℕ). head_named (fields head_widths (x ++ rest))) (sym head-words)
      ∙ ap (λ (x : List ℕ). head_named (fields head_widths x)) (append_assoc (bytes 8 (first_word h)) (bytes 8 (second_word h)) rest)
      ∙ ap head_named (words-fields (first_word h) (second_word h) rest small-first small-second ∙ same_numbers)
      ∙ named-head h

-- Numbers in bytes are those of their first bytes.
fields-append : (ws xs ys : List ℕ) → total ws ≤ length xs → fields ws (xs ++ ys) ≡ fields ws xs
unfolding fields total
fields-append [] xs ys h = refl
fields-append (w ∷ ws) xs ys h =
    let r : total ws ≤ length (drop w xs) = simp length-drop (omega arith) in
    rw (take-append-le w xs ys (omega arith), drop-append-le w xs ys (omega arith), fields-append ws (drop w xs) ys r)

numbers-in : (bs : List ℕ) → head_numbers (head_named (fields head_widths bs)) ≡ fields head_widths bs
unfolding fields
numbers-in bs = refl

-- Bytes are what their head is written as.
pub head-written : (bs : List ℕ) → Bytes bs → head_length ≤ length bs → head_bytes (head_in bs) ≡ take head_length bs
unfolding head_bytes head_in total
head-written bs b long =
    let l : length (take head_length bs) ≡ head_length = length-take-le head_length bs long in
    let first : fields head_widths bs ≡ fields head_widths (take head_length bs) =
    ap (fields head_widths) (sym (take-append-drop head_length bs)) ∙ fields-append head_widths (take head_length bs) (drop head_length bs) (omega (arith, l)) in
    ap (pack head_widths) (numbers-in bs ∙ first) ∙ pack-fields head_widths (take head_length bs) (bytes_take head_length bs b) l
