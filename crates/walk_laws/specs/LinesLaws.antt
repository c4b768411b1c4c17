-- Laws of the lines: how long numbers and lines are, that the digits of the library `io` are a number's decimal text, and texts
-- put one after another.
use Rattle.std.specs.Prelude.{◌≡◌, refl, List, [], ◌∷◌, ◌++◌, ℕ, zero, suc, ◌+◌, ◌-◌, ◌*◌, ◌/◌, ◌%◌, ◌^◌, ◌≤◌, ◌<◌, length, get_or, take, drop, set}
use Rattle.std.proofs.Common.{◌∙◌, ap, append-nil, append_assoc, pow-suc, zero-add, add-one, arith, lt-ltb, eq-eqb, ne_eqb, length-append, length-take, length-drop, take-append-drop, drop_of_length-le, take-suc, take_all, drop-drop}
use Rattle.std.proofs.Math.Option.{Option, none, some}
use Rattle.std.proofs.Math.Seq.{take-length, length-sets}
use Rattle.std.proofs.lemmas.List.Edits.{sets-eq}
use Rattle.io.specs.Counts.{IsPrefixLen}
use Rattle.io.specs.Digits.{last_digits, hex_digit_ascii, IsDigitCount}
use Rattle.slot_laws.specs.WordLaws.{sets-append}
use Rattle.operation_spec.specs.declared.Answer.TheVariants.{Found, Absent, Replaced, New, Removed, Pushed, Popped, Added, Taken, Queued, Dequeued, Empty}
use Rattle.call_spec.specs.Reply.{Reply, Answered, Refused}
use Rattle.call_spec.specs.Store.{reply_meaning}
use Rattle.host_spec.specs.Result.{reply_number, reply_value, result_value}
use Rattle.walk_spec.specs.Lines.{blank, newline, digit, leading, decimal, numbers, ascii, reply_word, value_or_zero, reply_shown, line_of, longest_line, most_leaves, Put}

-- ---- how long numbers are
leading_length : (more n k : ℕ) → n < 10 ^ k → length (leading more n) ≤ k
unfolding leading
leading_length zero n k h = omega arith
leading_length (suc more) zero k h = omega arith
leading_length (suc more) (suc n) zero h = let z : ⊥ = omega arith in absurd z
leading_length (suc more) (suc n) (suc k) h =
    let g : suc n < 10 ^ k * 10 = rw pow-suc at h in
    let r : length (leading more (suc n / 10)) ≤ k = leading_length more (suc n / 10) k (omega arith) in
    rw length-append (omega arith)

pub decimal-length : (n k : ℕ) → n < 10 ^ suc k → length (decimal n) ≤ suc k
unfolding decimal
decimal-length n k h =
    let g : n < 10 ^ k * 10 = rw pow-suc at h in
    let r : length (leading n (n / 10)) ≤ k = leading_length n (n / 10) k (omega arith) in
    rw length-append (omega arith)

-- One number after a blank.
pub number-one : (n : ℕ) → numbers (n ∷ []) ≡ blank ∷ decimal n
unfolding numbers
number-one n = ap (λ (l : List ℕ). blank ∷ l) (append-nil (decimal n))

pub number-length : (n k : ℕ) → n < 10 ^ suc k → length (numbers (n ∷ [])) ≤ suc (suc k)
number-length n k h = let r : length (decimal n) ≤ suc k = decimal-length n k h in rw number-one (omega arith)

pub numbers-append : (ms ns : List ℕ) → numbers (ms ++ ns) ≡ numbers ms ++ numbers ns
unfolding numbers
numbers-append [] ns = refl
numbers-append (m ∷ ms) ns =
    rw (numbers-append ms ns, append_assoc (decimal m) (numbers ms) (numbers ns))

-- One number more.
pub numbers-next : (ns : List ℕ) (i : ℕ) → i < length ns
    → numbers (take (i + 1) ns) ≡ numbers (take i ns) ++ numbers (get_or ns i 0 ∷ [])
numbers-next ns i h = rw (add-one, take-suc ns i 0 h, numbers-append)

-- The first numbers are no longer than all.
pub numbers-first : (ns : List ℕ) (i : ℕ) → length (numbers (take i ns)) ≤ length (numbers ns)
numbers-first ns i =
    let e : numbers (take i ns ++ drop i ns) ≡ numbers ns = ap numbers (take-append-drop i ns) in
    omega (arith, ap length e, ap length (numbers-append (take i ns) (drop i ns)), length-append (numbers (take i ns)) (numbers (drop i ns)))

-- Leaves are numbers of 16 bits.
pub leaves-length : (ns : List ℕ) → ((i : ℕ) → get_or ns i 0 < 2 ^ 16) → length (numbers ns) ≤ 6 * length ns
unfolding numbers
leaves-length [] f = omega arith
leaves-length (n ∷ ns) f =
    let h : n < 2 ^ 16 = f 0 in
    let d : length (decimal n) ≤ 5 = decimal-length n 4 (omega arith) in
    let r : length (numbers ns) ≤ 6 * length ns = leaves-length ns (λ i. f (suc i)) in
    omega (arith, length-append (decimal n) (numbers ns))

-- ---- the digits of the library
more-than-itself : (k : ℕ) → k < 10 ^ k
more-than-itself zero = omega arith
more-than-itself (suc k) = let r : k < 10 ^ k = more-than-itself k in rw pow-suc (omega arith)

glyph-digit : (n : ℕ) → hex_digit_ascii (n % 10) ≡ digit (n % 10)
glyph-digit n = rw (lt-ltb (n % 10) 10 (omega arith))

one_less : (k n : ℕ) → 10 ^ k ≤ n → 0 < k → 10 ^ k ≤ n / 10 * 10
one_less zero n h o = let z : ⊥ = omega arith in absurd z
one_less (suc k) n h o = let s : 10 ^ k * 10 ≤ n = rw pow-suc at h in rw pow-suc (omega arith)

leading-digits : (k more n : ℕ) → n < 10 ^ k → (0 < k → 10 ^ k ≤ n * 10) → k ≤ more → last_digits 10 k n ≡ leading more n
unfolding leading
leading-digits zero zero n h g le = refl
leading-digits zero (suc more) zero h g le = refl
leading-digits zero (suc more) (suc n) h g le = let z : ⊥ = omega arith in absurd z
leading-digits (suc k) zero n h g le = let z : ⊥ = omega arith in absurd z
leading-digits (suc k) (suc more) zero h g le = let z : ⊥ = omega (arith, more-than-itself (suc k), g (omega arith)) in absurd z
leading-digits (suc k) (suc more) (suc n) h g le =
    let p : suc n < 10 ^ k * 10 = rw pow-suc at h in
    let q : 10 ^ k * 10 ≤ suc n * 10 = rw pow-suc at (g (omega arith)) in
    let r : last_digits 10 k (suc n / 10) ≡ leading more (suc n / 10) =
    leading-digits k more (suc n / 10) (omega arith) (one_less k (suc n) (omega arith)) (omega arith) in
    rw (r, glyph-digit (suc n))

-- The fewest digits that hold a number are its decimal text.
pub decimal-digits : (n k : ℕ) → IsDigitCount 10 1 n k → last_digits 10 k n ≡ decimal n
unfolding decimal
decimal-digits n zero h = let z : ⊥ = omega (arith, h.0) in absurd z
decimal-digits n (suc zero) h =
    let p : n < 10 = h.1 in
    rw (← leading-digits zero n (n / 10) (omega arith) (λ o. let z : ⊥ = omega arith in absurd z) (omega arith), glyph-digit n)
decimal-digits n (suc (suc k)) h =
    let p : n < 10 ^ suc k * 10 = rw pow-suc at h.1 in
    let e : suc (suc k) - 1 ≡ suc k = omega arith in
    let q : 10 ^ suc k ≤ n = rw e at (h.2 (omega arith)) in
    let few : suc k ≤ n = omega (arith, more-than-itself (suc k)) in
    rw (leading-digits (suc k) n (n / 10) (omega arith) (one_less (suc k) n q) few, glyph-digit n)

-- ---- texts put one after another
module _ {xs ys a b c : List ℕ} {at middle end : ℕ} where
  pub put_then : Put xs at a b middle → Put ys middle b c end → Put (xs ++ ys) at a c end
  put_then p q =
      record {
        stands = q.stands ∙ rw (p.stands, p.ends, sets-append a at xs ys);
        ends = q.ends ∙ rw (p.ends, length-append) (omega arith);
      }

pub put-length : {xs a b : List ℕ} {at end : ℕ} → Put xs at a b end → length b ≡ length a
put-length {xs} {a} {at = at} p = ap length p.stands ∙ length-sets a at xs

pub put-nothing : (a : List ℕ) (at : ℕ) → Put [] at a a at
put-nothing a at = record { stands = refl; ends = omega arith }

-- A text copied to the part of a buffer from a position on.
pub put-copied : (xs a b : List ℕ) (at n : ℕ) → at + length xs ≤ length a → n ≡ length xs
    → b ≡ take (length xs) xs ++ drop (length xs) (take (length a - at) (drop at a))
    → Put xs at a (take at a ++ (b ++ drop (length a - at) (drop at a))) (at + n)
put-copied xs a b at n room copied is =
    let h : length (drop at a) ≤ length a - at = rw length-drop (omega arith) in
    record {
      stands = rw (is, take-length xs, take_all (length a - at) (drop at a) h, drop_of_length-le (drop at a) {i = length a - at} h, append-nil, drop-drop (length xs) at a, sets-eq xs a at room, append_assoc);
      ends = rw copied;
    }

-- A blank, and then a number.
module _ (n at : ℕ) (a : List ℕ) (room : at + length (numbers (n ∷ [])) ≤ length a) where
  pub number-starts : at < length a
  number-starts = omega (arith, ap length (number-one n))

  pub number-rest : at + 1 + length (decimal n) ≤ length a
  number-rest = omega (arith, ap length (number-one n))

pub put-number-then : (n : ℕ) {at end : ℕ} {a b : List ℕ} → Put (decimal n) (at + 1) (set a at blank) b end → Put (numbers (n ∷ [])) at a b end
put-number-then n {at} {end} {a} {b} p =
    let q : Put (blank ∷ []) at a (set a at blank) (at + 1) = record { stands = refl; ends = refl } in
    rw number-one (put_then q p)

-- Numbers, one by one.
pub numbers-none-put : (a : List ℕ) (at : ℕ) → Put (numbers []) at a a at
unfolding numbers
numbers-none-put a at = put-nothing a at

module _ (ns : List ℕ) (i : ℕ) (before : i < length ns) where
  pub leaf-fits : {a b : List ℕ} {at end : ℕ} → Put (numbers (take i ns)) at a b end → at + length (numbers ns) ≤ length a
      → end + length (numbers (get_or ns i 0 ∷ [])) ≤ length b
  leaf-fits {a} {b} {at} {end} p room =
      let e : length (numbers (take (i + 1) ns)) ≡ length (numbers (take i ns)) + length (numbers (get_or ns i 0 ∷ [])) =
      ap length (numbers-next ns i before) ∙ length-append (numbers (take i ns)) (numbers (get_or ns i 0 ∷ [])) in
      omega (arith, put-length p, p.ends, numbers-first ns (i + 1))

  pub numbers-next-put : {a b c : List ℕ} {at middle end : ℕ} → Put (numbers (take i ns)) at a b middle → Put (numbers (get_or ns i 0 ∷ [])) middle b c end
      → Put (numbers (take (i + 1) ns)) at a c end
  numbers-next-put p q = rw (numbers-next ns i before) (put_then p q)

-- A text put at a buffer's start.
module _ {xs a b : List ℕ} {end : ℕ} (p : Put xs 0 a b end) (h : length xs ≤ length a) where
  pub put-end : end ≡ length xs
  put-end = p.ends ∙ zero-add (length xs)

  pub put_first : b ≡ xs ++ drop end a
  put_first = p.stands ∙ sets-eq xs a 0 (omega arith) ∙ rw (put-end, zero-add)

  pub put-counts : IsPrefixLen end b
  put-counts =
      let e : end ≡ length xs = put-end in
      let l : length b ≡ length a = put-length p in
      (omega arith, rw length-take (omega arith))

  -- The buffer is that text, and then what followed.
  pub put-whole : {out : List ℕ} → out ≡ b → record { prefix_len : IsPrefixLen end out; value : (end ≡ length xs) × (out ≡ xs ++ drop end a) }
  put-whole is = rw is (record { prefix_len = put-counts; value = (put-end, put_first) })

-- ---- the line of a call
pub word-length : (reply : Reply) → length (reply_word reply) ≤ 8
word-length (Answered (Found v)) = omega arith
word-length (Answered Absent) = omega arith
word-length (Answered (Replaced v)) = omega arith
word-length (Answered New) = omega arith
word-length (Answered (Removed v)) = omega arith
word-length (Answered Pushed) = omega arith
word-length (Answered (Popped v)) = omega arith
word-length (Answered Added) = omega arith
word-length (Answered (Taken v)) = omega arith
word-length (Answered Queued) = omega arith
word-length (Answered (Dequeued v)) = omega arith
word-length (Answered Empty) = omega arith
word-length (Refused n) = omega arith

-- What a line shows: the number of a refusal, and else the value that a C host gets.
pub number-shown : (r : Reply) → (reply_number r ≡ 0 → ⊥) → reply_shown r ≡ reply_number r
number-shown r n = rw (ne_eqb (reply_number r) 0 n)

pub value-shown : (r : Reply) → reply_number r ≡ 0 → reply_shown r ≡ (reply_value r).value
value-shown r z = rw (eq-eqb (reply_number r) 0 z) (go (reply_meaning r).value)
  where
    go : (o : Option ℕ) → value_or_zero o ≡ (result_value o).value
    go none = refl
    go (some v) = refl

-- The first numbers of a trace buffer are leaves too.
pub first-leaves : (trace : List ℕ) (n : ℕ) → ((i : ℕ) → get_or trace i 0 < 2 ^ 16) → (i : ℕ) → get_or (take n trace) i 0 < 2 ^ 16
first-leaves trace zero f i = omega arith
first-leaves [] (suc n) f i = omega arith
first-leaves (t ∷ trace) (suc n) f zero = f 0
first-leaves (t ∷ trace) (suc n) f (suc i) = first-leaves trace n (λ j. f (suc j)) i

-- A line of a word, a number and leaves.
abbrev pub line_with : List ℕ → ℕ → List ℕ → List ℕ
line_with word v leaves = word ++ (numbers (v ∷ leaves) ++ (newline ∷ []))

-- There is room for each part of the line.
module _ {text : List ℕ} (short : length text ≤ 8) {a b : List ℕ} {word : ℕ} (w : Put text 0 a b word) (room : longest_line ≤ length a) (v : ℕ) (h : v < 2 ^ 64) where
  pub value_room : word + length (numbers (v ∷ [])) ≤ length b
  value_room = omega (arith, number-length v 19 (omega arith), put-length w, w.ends, short)

  pub leaves-room : {c : List ℕ} {value : ℕ} (leaves : List ℕ) → Put (numbers (v ∷ [])) word b c value → length leaves ≤ most_leaves
      → ((i : ℕ) → get_or leaves i 0 < 2 ^ 16) → value + length (numbers leaves) < length c
  leaves-room leaves p few f =
      omega (arith, number-length v 19 (omega arith), leaves-length leaves f, put-length w, w.ends, put-length p, p.ends, short)

-- The line is put part by part.
module _ (text : List ℕ) (v : ℕ) (leaves : List ℕ) {a b c d e : List ℕ} {word value end all : ℕ} where
  pub line-put : Put text 0 a b word → Put (numbers (v ∷ [])) word b c value → Put (numbers leaves) value c d end
      → Put (newline ∷ []) end d e all → Put (line_with text v leaves) 0 a e all
  line-put w p n t =
      rw (numbers-append (v ∷ []) leaves, append_assoc) (put_then w (put_then p (put_then n t)))

pub line-is : (reply : Reply) (leaves : List ℕ) → line_with (reply_word reply) (reply_shown reply) leaves ≡ line_of reply leaves
unfolding line_of
line-is reply leaves = refl

shown-refused : (n : ℕ) → reply_shown (Refused n) ≡ n
shown-refused zero = refl
shown-refused (suc n) = rw (ne_eqb (suc n) 0 (λ e. omega (arith, e)))

pub refused-is : (n : ℕ) → line_with (ascii "refused") n [] ≡ line_of (Refused n) []
unfolding line_of
refused-is n = rw (shown-refused n)
