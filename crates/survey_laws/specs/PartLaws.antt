-- Rows whose parts were lent and filled.
use Rattle.std.specs.Prelude.{◌≡◌, ℕ, ◌+◌, ◌-◌, ◌≤◌, take, drop}
use Rattle.std.proofs.Common.{◌∙◌, arith, length-drop, drop_of_length-le, take_all, take_at, drop_at, length-take-le, drop-drop}
use Rattle.std.proofs.Math.Path.{ap, ap₂}
use Rattle.std.proofs.Math.Bool.{true, false}
use mathlib.Core.List.{List, [], ◌++◌, append-nil, append_assoc}
use Rattle.std.proofs.Math.ListN.{length, length-append}
use Rattle.std.proofs.Math.Seq.{length-sets, sets, take-append_seam, drop-append_seam, take-length, drop-length}
use Rattle.std.proofs.lemmas.List.Edits.{sets-eq}
use Rattle.list_spec.specs.Sorting.{sort_by}
use Rattle.list_laws.specs.SortingLaws.{sort-length}
use Rattle.survey_laws.specs.Items.{key_in, slots_in, good_from, heads, good_order, first_sorted, key_at, mark_at, keys_from, marks_from, all_keys, all_marks}
use Rattle.survey_laws.specs.SurveyLaws.{row-length}

-- A row whose first part was filled, and then the rest of it.
pub both-filled : (row a b : List ℕ) (h : ℕ) → h ≤ length row → length a ≡ h
    → take h (a ++ drop h row) ++ (b ++ drop (length (a ++ drop h row) - h) (drop h (a ++ drop h row))) ≡ a ++ b
both-filled row a b h within sized =
    let l : length (a ++ drop h row) ≡ length row = length-append a (drop h row) ∙ rw (length-drop h row) (omega (arith, sized)) in
    let none : drop (length row - h) (drop h row) ≡ [] = drop_of_length-le (drop h row) {i = length row - h} (rw (length-drop h row) (omega arith)) in
    rw (l, take_at a (drop h row) h sized, drop_at a (drop h row) h sized, none, append-nil b)

-- The length of the second part.
rest-length : (row a : List ℕ) (h : ℕ) → h ≤ length row → length a ≡ h → length (take (length (a ++ drop h row) - h) (drop h (a ++ drop h row))) ≡ length row - h
rest-length row a h within sized =
    let l : length (a ++ drop h row) ≡ length row = length-append a (drop h row) ∙ rw (length-drop h row) (omega (arith, sized)) in
    rw (l, drop_at a (drop h row) h sized)
    (length-take-le (length row - h) (drop h row) (rw (length-drop h row) (omega arith)))

module _ (tree waiting row a : List ℕ) (n : length row ≡ slots_in tree + slots_in waiting) (e : a ≡ keys_from tree (length (take (slots_in tree) row)) 0) where
  abbrev S : ℕ
  S = slots_in tree

  -- How many numbers the second part has.
  abbrev others : ℕ
  others = length (take (length (a ++ drop S row) - S) (drop S (a ++ drop S row)))

  part_count : length (take S row) ≡ S
  part_count = length-take-le S row (omega (arith, n))

  part_length : length a ≡ S
  part_length = ap length e ∙ row-length (key_at tree) (length (take S row)) 0 ∙ part_count

  others-count : others ≡ slots_in waiting
  others-count = rest-length row a S (omega (arith, n)) part_length ∙ omega (arith, n)

  -- The keys of all items, from the two parts of a row; and their marks.
  pub keys_filled : (b : List ℕ) → b ≡ keys_from waiting others 0
      → take S (a ++ drop S row) ++ (b ++ drop (length (a ++ drop S row) - S) (drop S (a ++ drop S row))) ≡ all_keys tree waiting
  unfolding all_keys
  keys_filled b f =
      both-filled row a b S (omega (arith, n)) part_length
      ∙ ap₂ ◌++◌ (e ∙ ap (λ (m : ℕ). keys_from tree m 0) part_count) (f ∙ ap (λ (m : ℕ). keys_from waiting m 0) others-count)

  pub marks-filled : (size : ℕ) (marks c d : List ℕ) → length marks ≡ length row → c ≡ marks_from true size tree (length (take S row)) 0
      → d ≡ marks_from false size waiting others 0
      → take S (c ++ drop S marks) ++ (d ++ drop (length (c ++ drop S marks) - S) (drop S (c ++ drop S marks))) ≡ all_marks size tree waiting
  unfolding all_marks
  marks-filled size marks c d l g f =
      let sized : length c ≡ S = ap length g ∙ row-length (mark_at true size tree) (length (take S row)) 0 ∙ part_count in
      both-filled marks c d S (omega (arith, n, l)) sized
      ∙ ap₂ ◌++◌ (g ∙ ap (λ (m : ℕ). marks_from true size tree m 0) part_count) (f ∙ ap (λ (m : ℕ). marks_from false size waiting m 0) others-count)

-- ---- a row that lists are put into
put_whole : (row vs : List ℕ) → length vs ≤ length row → sets row 0 vs ≡ vs ++ drop (length vs) row
put_whole row vs fits =
    let z : 0 + length vs ≡ length vs = omega arith in
    rw z at (sets-eq vs row 0 (omega arith))

-- A list that is as long as the row.
pub put-exact : (row vs : List ℕ) → length vs ≡ length row → sets row 0 vs ≡ vs
put-exact row vs e =
    let none : drop (length vs) row ≡ [] = drop_of_length-le row {i = length vs} (omega (arith, e)) in
    put_whole row vs (omega (arith, e)) ∙ rw (none, append-nil vs)

-- The first of it is what was put there.
pub put_first : (row vs : List ℕ) (n : ℕ) → n ≡ length vs → length vs ≤ length row → take n (sets row 0 vs) ≡ vs
put_first row vs n e fits = rw (e, put_whole row vs fits) (take-append_seam vs (drop (length vs) row))

module _ (row a vs : List ℕ) (n : ℕ) (e : a ≡ sets row 0 vs) (count : n ≡ length vs) (fits : n ≤ length row) where
  pub put-taken : take n a ≡ vs
  put-taken = ap (take n) e ∙ put_first row vs n count (omega (arith, count, fits))

  pub put_count : length (take n a) ≡ n
  put_count = ap length put-taken ∙ omega (arith, count)

  pub put-room : n ≤ length a
  put-room = omega (arith, fits, ap length e ∙ length-sets row 0 vs)

-- A list, and another into the rest of the row.
pub put_both : (row xs ys : List ℕ) (w : ℕ) → w ≡ length xs → length xs + length ys ≤ length row
    → take w (sets row 0 xs)
    ++ (sets (take (length (sets row 0 xs) - w) (drop w (sets row 0 xs))) 0 ys ++ drop (length (sets row 0 xs) - w) (drop w (sets row 0 xs)))
    ≡ sets row 0 (xs ++ ys)
put_both row xs ys w e fits =
    let n = length xs in
    let rest = drop n row in
    let count : length rest ≡ length row - n = length-drop n row in
    let l : length (xs ++ rest) - n ≡ length rest = rw (length-append xs rest) (omega arith) in
    let both : length (xs ++ ys) ≡ n + length ys = length-append xs ys in
    rw (
      e,
      put_whole row xs (omega arith),
      l,
      take-append_seam xs rest,
      drop-append_seam xs rest,
      take-length rest,
      drop-length rest,
      put_whole rest ys (omega (arith, count)),
      append-nil,
      put_whole row (xs ++ ys) (omega (arith, both)),
      both,
      append_assoc,
      drop-drop (length ys) n row,
    )

-- The good items of the waiting places, and then those of the tree's slots.
module _ (marks order a : List ℕ) (slots w : ℕ) (split : slots ≤ length marks) (fits : length marks ≤ length order) where
  abbrev waits : List ℕ
  waits = take (length marks - slots) (drop slots marks)

  waits-all : waits ≡ drop slots marks
  waits-all = take_all (length marks - slots) (drop slots marks) (rw (length-drop slots marks) (omega arith))

  waits-length : length waits ≡ length marks - slots
  waits-length = ap length waits-all ∙ length-drop slots marks

  module _ (low : w ≤ length waits) (e : a ≡ sets order 0 (good_from slots waits)) where
    order-length : length a ≡ length order
    order-length = ap length e ∙ length-sets order 0 (good_from slots waits)

    -- The room for the second list.
    pub order-room : length (take slots marks) ≤ length (take (length a - w) (drop w a))
    order-room =
        let n = length-take-le slots marks split in
        let m = length-take-le (length a - w) (drop w a) (rw (length-drop w a) (omega arith)) in
        omega (arith, n, m, order-length, low, waits-length)

    module _ (b : List ℕ) (v : ℕ) (count : w ≡ length (good_from slots waits)) (less : v ≤ length (take slots marks))
        (others : v ≡ length (good_from 0 (take slots marks))) (f : b ≡ sets (take (length a - w) (drop w a)) 0 (good_from 0 (take slots marks))) where
      pub order-bound : w + v ≤ length marks
      order-bound = omega (arith, low, waits-length, less, length-take-le slots marks split)

      pub order-count : w + v ≡ length (good_order slots marks)
      unfolding good_order
      order-count =
          rw (← waits-all, length-append (good_from slots waits) (good_from 0 (take slots marks))) (omega (arith, count, others))

      pub order-put : take w a ++ (b ++ drop (length a - w) (drop w a)) ≡ sets order 0 (good_order slots marks)
      unfolding good_order
      order-put =
          let m : length (good_from slots waits) + length (good_from 0 (take slots marks)) ≤ length order =
          omega (arith, count, others, order-bound) in
          rw (f, e) (put_both order (good_from slots waits) (good_from 0 (take slots marks)) w count m)
          ∙ ap (λ (ms : List ℕ). sets order 0 (good_from slots ms ++ good_from 0 (take slots marks))) waits-all

-- The first of each key, of items that were sorted.
module _ (keys order sorted taken after : List ℕ) (n : ℕ) (fits : length order ≤ length taken) (e : sorted ≡ sort_by (key_in keys) order)
    (low : n ≤ length sorted) (count : n ≡ length (heads (key_in keys) sorted)) (f : after ≡ sets taken 0 (heads (key_in keys) sorted)) where
  pub first-bound : n ≤ length order
  first-bound = omega (arith, low, ap length e ∙ sort-length (key_in keys) order)

  pub first_count : n ≡ length (first_sorted keys order)
  unfolding first_sorted
  first_count = count ∙ ap (λ (xs : List ℕ). length (heads (key_in keys) xs)) e

  pub first-put : after ≡ sets taken 0 (first_sorted keys order)
  unfolding first_sorted
  first-put = f ∙ ap (λ (xs : List ℕ). sets taken 0 (heads (key_in keys) xs)) e

  pub first-room : n ≤ length after
  first-room = omega (arith, first-bound, fits, ap length f ∙ length-sets taken 0 (heads (key_in keys) sorted))

  pub first_taken : take n after ≡ first_sorted keys order
  first_taken =
      ap (take n) first-put
      ∙ put_first taken (first_sorted keys order) n first_count (omega (arith, first_count, first-bound, fits))
