-- The lengths of the file's parts, and each part as one line and the rest: what code that writes it line by line goes by.
use Rattle.std.specs.Prelude.{◌≡◌, refl, Bool, true, false, not, cond, eqb, count_by, List, [], ◌∷◌, ◌++◌, map, ℕ, suc, ◌+◌, ◌-◌, ◌*◌, ◌/◌, ◌%◌, ◌≤◌, ◌<◌, length, get_or, set, take, drop}
use Rattle.std.proofs.Common.{sym, ◌∙◌, ap, append_assoc, append-nil, add-one, arith, length-append, length-take, length-drop, drop_of_length-le, drop-cons, take_at, drop_at, take-suc-set, take_all, eq-eqb, ne_eqb}
use Rattle.std.proofs.lemmas.List.{length-map}
use Rattle.std.proofs.lemmas.List.Sums.{sum_by-cons}
use Rattle.list_spec.specs.Choice.{pick}
use Rattle.slot_spec.specs.LittleEndian.{bytes}
use Rattle.slot_laws.specs.LittleEndianLaws.{length-bytes}
use Rattle.readout_spec.specs.Seen.{slot_place}
use Rattle.readout_spec.specs.Taken.{Entry, Omitted}
use Rattle.readout_spec.specs.File.{count_width, key_width, offset_width, value_width, place_width, reason_width, index_width, report_width, index, values_part, report_part, values_start, report_start, file}
use Rattle.survey_laws.specs.Items.{omitted_by}

-- ---- lengths
pub index-length : (at : ℕ) (ks : List ℕ) → length (index at ks) ≡ index_width * length ks
unfolding index
index-length at [] = refl
index-length at (k ∷ ks) = simp (length-append, length-bytes, index-length (at + value_width) ks) (omega arith)

pub values_length : (vs : List ℕ) → length (values_part vs) ≡ value_width * length vs
unfolding values_part
values_length [] = refl
values_length (v ∷ vs) = simp (length-append, length-bytes, values_length vs) (omega arith)

pub report-length : (os : List Omitted) → length (report_part os) ≡ report_width * length os
unfolding report_part
report-length [] = refl
report-length (o ∷ os) = simp (length-append, length-bytes, report-length os) (omega arith)

pub file-length : (es : List Entry) (os : List Omitted) → length (file es os) ≡ report_start (length es) + report_width * length os
unfolding file
file-length es os =
    let ks : List ℕ = map (λ (e : Entry). e.key) es in
    let vs : List ℕ = map (λ (e : Entry). e.value) es in
    rw (
      length-append (bytes count_width (length es)),
      length-bytes count_width (length es),
      length-append (index (values_start (length es)) ks),
      length-append (values_part vs),
      index-length (values_start (length es)) ks,
      values_length vs,
      report-length os,
      length-map es (λ (e : Entry). e.key),
      length-map es (λ (e : Entry). e.value),
    )
    (omega arith)

-- ---- one line, and the rest: from item i on, and none past the last
bytes-more : (w n : ℕ) → bytes (suc w) n ≡ n % 256 ∷ bytes w (n / 256)
unfolding bytes
bytes-more w n = refl

pub bytes-none : (n : ℕ) → bytes 0 n ≡ []
unfolding bytes
bytes-none n = refl

next : (f : ℕ → ℕ) (xs : List ℕ) (i : ℕ) → i < length xs → map f (drop i xs) ≡ f (get_or xs i 0) ∷ map f (drop (i + 1) xs)
next f xs i h = ap (map f) (drop-cons xs i 0 h) ∙ rw (add-one i)

none_left : (f : ℕ → ℕ) (xs : List ℕ) (i : ℕ) → length xs ≤ i → map f (drop i xs) ≡ []
none_left f xs i h = ap (map f) (drop_of_length-le xs h)

index-more : (key : ℕ → ℕ) (taken : List ℕ) (at i : ℕ) → i < length taken
    → index at (map key (drop i taken))
    ≡ (bytes key_width (key (get_or taken i 0)) ++ bytes offset_width at) ++ index (at + value_width) (map key (drop (i + 1) taken))
unfolding index
index-more key taken at i h =
    ap (index at) (next key taken i h)
    ∙ sym (append_assoc (bytes key_width (key (get_or taken i 0))) (bytes offset_width at) (index (at + value_width) (map key (drop (i + 1) taken))))

pub index-none : (key : ℕ → ℕ) (taken : List ℕ) (at i : ℕ) → length taken ≤ i → index at (map key (drop i taken)) ≡ []
unfolding index
index-none key taken at i h = ap (index at) (none_left key taken i h)

values-more : (value : ℕ → ℕ) (taken : List ℕ) (i : ℕ) → i < length taken
    → values_part (map value (drop i taken)) ≡ bytes value_width (value (get_or taken i 0)) ++ values_part (map value (drop (i + 1) taken))
unfolding values_part
values-more value taken i h = ap values_part (next value taken i h)

pub values-none : (value : ℕ → ℕ) (taken : List ℕ) (i : ℕ) → length taken ≤ i → values_part (map value (drop i taken)) ≡ []
unfolding values_part
values-none value taken i h = ap values_part (none_left value taken i h)

-- What is reported of the items from number i on.
abbrev pub omitted_from : List ℕ → ℕ → List Omitted
omitted_from marks i = omitted_by i (drop i marks)

pub omitted-skip : (marks : List ℕ) (i : ℕ) → i < length marks → get_or marks i 0 ≡ 0 → omitted_from marks i ≡ omitted_from marks (i + 1)
unfolding omitted_by
omitted-skip marks i h e = rw (add-one i, drop-cons marks i 0 h, eq-eqb (get_or marks i 0) 0 e)

pub omitted-more : (marks : List ℕ) (i : ℕ) → i < length marks → (get_or marks i 0 ≡ 0 → ⊥)
    → omitted_from marks i ≡ record { place = slot_place i; reason = get_or marks i 0 } ∷ omitted_from marks (i + 1)
unfolding omitted_by
omitted-more marks i h e = rw (add-one i, drop-cons marks i 0 h, ne_eqb (get_or marks i 0) 0 e)

pub omitted-none : (marks : List ℕ) (i : ℕ) → length marks ≤ i → omitted_from marks i ≡ []
unfolding omitted_by
omitted-none marks i h = ap (omitted_by i) (drop_of_length-le marks h)

-- As many are reported as there are marks that are not 0.
pub omitted_count : (i : ℕ) (marks : List ℕ) → length (omitted_by i marks) ≡ count_by (λ m. not (eqb m 0)) marks
unfolding omitted_by
omitted_count i [] = refl
omitted_count i (m ∷ ms) =
    go (eqb m 0) (omitted_count (suc i) ms) ∙ sym (sum_by-cons (λ x. cond (not (eqb x 0)) 1 0) m ms)
  where
    go : (b : Bool) → length (omitted_by (suc i) ms) ≡ count_by (λ x. not (eqb x 0)) ms
        → length (pick b (omitted_by (suc i) ms) (record { place = slot_place i; reason = m } ∷ omitted_by (suc i) ms))
        ≡ cond (not b) 1 0 + count_by (λ x. not (eqb x 0)) ms
    go true e = omega arith
    go false e = omega arith

omission-more : (marks : List ℕ) (i : ℕ) → i < length marks → (get_or marks i 0 ≡ 0 → ⊥)
    → report_part (omitted_from marks i)
    ≡ (bytes place_width (slot_place i) ++ bytes reason_width (get_or marks i 0)) ++ report_part (omitted_from marks (i + 1))
unfolding report_part
omission-more marks i h e =
    ap report_part (omitted-more marks i h e)
    ∙ sym (append_assoc (bytes place_width (slot_place i)) (bytes reason_width (get_or marks i 0)) (report_part (omitted_from marks (i + 1))))

pub report-none : (marks : List ℕ) (i : ℕ) → length marks ≤ i → report_part (omitted_from marks i) ≡ []
unfolding report_part
report-none marks i h = ap report_part (omitted-none marks i h)

-- ---- a list of bytes that is written up to a place: what is written, with what is still to be, is all
-- One byte more of a number,
pub byte-written : (now all : List ℕ) (w i n : ℕ) → length now ≡ w → i < w → take i now ++ bytes (w - i) n ≡ all
    → take (i + 1) (set now i (n % 256)) ++ bytes (w - (i + 1)) (n / 256) ≡ all
byte-written now all w i n l h e =
    let s : w - i ≡ suc (w - (i + 1)) = omega arith in
    rw (
      add-one i,
      take-suc-set now i (n % 256) (omega arith),
      append_assoc (take i now) (n % 256 ∷ []) (bytes (w - suc i) (n / 256)),
      ← bytes-more (w - suc i) n,
      ← add-one i,
      ← s,
    )
    e

-- and nothing more.
pub all-written : (now all rest : List ℕ) (a : ℕ) → length now ≤ a → rest ≡ [] → take a now ++ rest ≡ all → now ≡ all
all-written now all rest a h z e =
    sym (append-nil now)
    ∙ ap (λ (l : List ℕ). now ++ l) (sym z)
    ∙ ap (λ (l : List ℕ). l ++ rest) (sym (take_all a now h))
    ∙ e

-- Two parts that make all, lent one after the other: they came back as x and y.
pub two-written : (start x y : List ℕ) (w a b n : ℕ) → w ≤ length start → n ≡ length (x ++ drop w start) - w
    → x ≡ bytes (length (take w start)) a
    → y ≡ bytes (length (take n (drop w (x ++ drop w start)))) b
    → take w (x ++ drop w start) ++ (y ++ drop n (drop w (x ++ drop w start))) ≡ bytes w a ++ bytes (length start - w) b
two-written start x y w a b n h m e g =
    let t : length (take w start) ≡ w = simp length-take (omega arith) in
    let l : length x ≡ w = ap length e ∙ length-bytes (length (take w start)) a ∙ t in
    let d : drop w (x ++ drop w start) ≡ drop w start = drop_at x (drop w start) w l in
    let f : length (x ++ drop w start) ≡ length start = simp (length-append, length-drop) (omega arith) in
    let r : length (drop w start) ≡ length start - w = length-drop w start in
    let q : length (take n (drop w start)) ≡ length start - w = simp (length-take, length-drop) (omega arith) in
    let v : y ≡ bytes (length start - w) b = g ∙ ap (λ (u : ℕ). bytes u b) (ap (λ (u : List ℕ). length (take n u)) d ∙ q) in
    rw (
      take_at x (drop w start) w l,
      d,
      drop_of_length-le (drop w start) {i = n} (omega arith),
      append-nil y,
      v,
      e,
      t,
    )

-- ---- a turn of the code that writes a part: the n bytes from a on are lent, and come back as a line
abbrev pub lent : List ℕ → (a n : ℕ) → List ℕ
lent now a n = take (a + n - a) (drop a now)

abbrev pub returned : (now line : List ℕ) (a n : ℕ) → List ℕ
returned now line a n = take a now ++ (line ++ drop (a + n - a) (drop a now))

module _ (now all line rest : List ℕ) (a n e : ℕ) (room : a + n ≤ length now) (end : e ≡ a + n) where
  line-written : length line ≡ n → take a now ++ (line ++ rest) ≡ all → take e (returned now line a n) ++ rest ≡ all
  line-written l g =
      let m : length (take a now ++ line) ≡ e = simp (length-append, length-take) (omega arith) in
      rw (
        ← append_assoc (take a now) line (drop (a + n - a) (drop a now)),
        take_at (take a now ++ line) (drop (a + n - a) (drop a now)) e m,
        append_assoc (take a now) line rest,
      )
      g

  lent_length : length (lent now a n) ≡ n
  lent_length = simp (length-take, length-drop) (omega arith)

  number-written : (v : ℕ) → line ≡ bytes (length (lent now a n)) v → take a now ++ (bytes n v ++ rest) ≡ all
      → take e (returned now line a n) ++ rest ≡ all
  number-written v g h =
      let s : line ≡ bytes n v = g ∙ ap (λ (u : ℕ). bytes u v) lent_length in
      line-written (ap length s ∙ length-bytes n v) (rw s h)

  pair-written : (w x y : ℕ) → w ≤ n → line ≡ bytes w x ++ bytes (length (lent now a n) - w) y
      → take a now ++ ((bytes w x ++ bytes (n - w) y) ++ rest) ≡ all
      → take e (returned now line a n) ++ rest ≡ all
  pair-written w x y b g h =
      let s : line ≡ bytes w x ++ bytes (n - w) y = g ∙ ap (λ (u : ℕ). bytes w x ++ bytes (u - w) y) lent_length in
      line-written (ap length s ∙ simp (length-append, length-bytes) (omega arith)) (rw s h)

module _ (f : ℕ → ℕ) (taken now all line : List ℕ) (i x : ℕ) (more : i < length taken) (here : x ≡ f (get_or taken i 0)) where
  pub index-written : (at : ℕ) → index_width * i + index_width ≤ length now
      → line ≡ bytes key_width x ++ bytes (length (lent now (index_width * i) index_width) - key_width) (at + value_width * i)
      → take (index_width * i) now ++ index (at + value_width * i) (map f (drop i taken)) ≡ all
      → take (index_width * (i + 1)) (returned now line (index_width * i) index_width)
      ++ index (at + value_width * (i + 1)) (map f (drop (i + 1) taken))
      ≡ all
  index-written at r g h =
      let s : at + value_width * (i + 1) ≡ at + value_width * i + value_width = omega arith in
      rw s
      (pair-written now all line (index (at + value_width * i + value_width) (map f (drop (i + 1) taken))) (index_width * i)
      index_width (index_width * (i + 1)) r (omega arith) key_width x (at + value_width * i) (omega arith) g
      (rw (here, ← index-more f taken (at + value_width * i) i more) h))

  pub value_written : value_width * i + value_width ≤ length now
      → line ≡ bytes (length (lent now (value_width * i) value_width)) x
      → take (value_width * i) now ++ values_part (map f (drop i taken)) ≡ all
      → take (value_width * (i + 1)) (returned now line (value_width * i) value_width) ++ values_part (map f (drop (i + 1) taken))
      ≡ all
  value_written r g h =
      number-written now all line (values_part (map f (drop (i + 1) taken))) (value_width * i) value_width (value_width * (i + 1)) r
      (omega arith) x g (rw (here, ← values-more f taken i more) h)

pub omission-written : (marks now all line : List ℕ) (a i : ℕ) → i < length marks → (get_or marks i 0 ≡ 0 → ⊥)
    → a + report_width ≤ length now
    → line ≡ bytes place_width (slot_place i) ++ bytes (length (lent now a report_width) - place_width) (get_or marks i 0)
    → take a now ++ report_part (omitted_from marks i) ≡ all
    → take (a + report_width) (returned now line a report_width) ++ report_part (omitted_from marks (i + 1)) ≡ all
omission-written marks now all line a i more b r g h =
    pair-written now all line (report_part (omitted_from marks (i + 1))) a report_width (a + report_width) r refl place_width
    (slot_place i) (get_or marks i 0) (omega arith) g
    (sym (ap (λ (bs : List ℕ). take a now ++ bs) (omission-more marks i more b)) ∙ h)
