-- The loops over numbered items, turn by turn: what is done and the definition on the rest is the definition on all.
use Rattle.std.specs.Prelude.{◌≡◌, refl, Bool, true, false, List, [], ◌∷◌, ◌++◌, eqb, length, get_or, take, drop, set, Option, None, Some}
use Rattle.std.proofs.Common.{sym, ◌∙◌, ap, append-nil, drop_of_length-le, take_all, drop-cons, take-suc-set}
use Prim.Native.Nat.{ℕ, suc, ◌+◌, ◌-◌, ◌≤◌, ◌<◌}
use native.Mathlib.Omega.{arith}
use Rattle.std.proofs.lemmas.List.Edits.{sets}
use Rattle.std.proofs.Math.Seq.{append_snoc, set_out}
use borrow.Author.Tests.{eq-eqb, ne_eqb}
use Rattle.std.specs.Option.{option_eq}
use Rattle.list_spec.specs.Choice.{pick}
use Rattle.readout_spec.specs.Taken.{is_repeated}
use Rattle.survey_laws.specs.Items.{row_from, good_from, heads_after, heads, cleared}

-- ---- a row that is filled from its start
pub row-start : (f : ℕ → ℕ) (xs : List ℕ) (n : ℕ) → take 0 xs ++ row_from f (n - 0) 0 ≡ row_from f n 0
row-start f xs n = let z : n - 0 ≡ n = omega arith in rw z

pub row_next : (f : ℕ → ℕ) (xs : List ℕ) (n i : ℕ) → i < n → length xs ≡ n → take i xs ++ row_from f (n - i) i ≡ row_from f n 0
    → take (i + 1) (set xs i (f i)) ++ row_from f (n - (i + 1)) (i + 1) ≡ row_from f n 0
unfolding row_from
row_next f xs n i more sized e =
    let s : n - i ≡ suc (n - (i + 1)) = omega arith in
    let h : i + 1 ≡ suc i = omega arith in
    rw (h, take-suc-set xs i (f i) (omega arith), append_snoc) (rw (s, h) at e)

pub row-whole : (f : ℕ → ℕ) (xs : List ℕ) (n i : ℕ) → i ≡ n → length xs ≡ n → take i xs ++ row_from f (n - i) i ≡ row_from f n 0
    → xs ≡ row_from f n 0
unfolding row_from
row-whole f xs n i all sized e =
    let z : n - i ≡ 0 = omega arith in
    sym (append-nil xs) ∙ rw (z, take_all i xs (omega arith)) at e

pub sets-next : (xs : List ℕ) (n v : ℕ) (vs : List ℕ) → sets xs n (v ∷ vs) ≡ sets (set xs n v) (n + 1) vs
sets-next xs n v vs = let h : n + 1 ≡ suc n = omega arith in rw h

-- ---- the good items
module _ (marks : List ℕ) (first i : ℕ) (within : i < length marks) where
  abbrev rest : ℕ → List ℕ
  rest j = good_from (first + j) (drop j marks)

  pub good-here : get_or marks i 0 ≡ is_repeated → rest i ≡ (first + i) ∷ rest (i + 1)
  unfolding good_from
  good-here e =
      let h : i + 1 ≡ suc i = omega arith in
      let g : first + suc i ≡ suc (first + i) = omega arith in
      rw (drop-cons marks i 0 within, e, h, g)

  pub none_here : (get_or marks i 0 ≡ is_repeated → ⊥) → rest i ≡ rest (i + 1)
  unfolding good_from
  none_here other =
      let h : i + 1 ≡ suc i = omega arith in
      let g : first + suc i ≡ suc (first + i) = omega arith in
      rw (drop-cons marks i 0 within, ne_eqb (get_or marks i 0) is_repeated other, h, g)

pub good_start : (marks order : List ℕ) (first : ℕ)
    → (0 + length (good_from (first + 0) (drop 0 marks)) ≡ length (good_from first marks))
    × (sets order 0 (good_from (first + 0) (drop 0 marks)) ≡ sets order 0 (good_from first marks))
good_start marks order first = let z : first + 0 ≡ first = omega arith in (rw z (omega arith), rw z)

pub good-end : (marks : List ℕ) (first i : ℕ) → length marks ≤ i → good_from (first + i) (drop i marks) ≡ []
unfolding good_from
good-end marks first i over = rw (drop_of_length-le marks over)

-- ---- the first of each key
module _ (key : ℕ → ℕ) (order : List ℕ) (last i : ℕ) (within : i < length order) where
  turn : (same : Bool) → eqb last (key (get_or order i 0)) ≡ same
      → heads_after key last (drop i order)
      ≡ pick same (heads_after key last (drop (i + 1) order)) (get_or order i 0 ∷ heads_after key (key (get_or order i 0)) (drop (i + 1) order))
  unfolding heads_after
  turn same e =
      let h : i + 1 ≡ suc i = omega arith in
      rw (drop-cons order i 0 within, e, h)

  pub other_key : (key (get_or order i 0) ≡ last → ⊥)
      → heads_after key last (drop i order) ≡ get_or order i 0 ∷ heads_after key (key (get_or order i 0)) (drop (i + 1) order)
  other_key differs = turn false (ne_eqb last (key (get_or order i 0)) (λ e. differs (sym e)))

  pub same_key : key (get_or order i 0) ≡ last → heads_after key last (drop i order) ≡ heads_after key last (drop (i + 1) order)
  same_key e = turn true (eq-eqb last (key (get_or order i 0)) (sym e))

pub heads-first : (key : ℕ → ℕ) (order : List ℕ) → 0 < length order
    → heads key order ≡ get_or order 0 0 ∷ heads_after key (key (get_or order 0 0)) (drop 1 order)
unfolding heads
heads-first key [] some = let z : ⊥ = omega arith in absurd z
heads-first key (a ∷ xs) some = refl

pub heads-none : (key : ℕ → ℕ) (order : List ℕ) → length order ≡ 0 → heads key order ≡ []
unfolding heads
heads-none key [] e = refl
heads-none key (a ∷ xs) e = let z : ⊥ = omega arith in absurd z

-- The row's first item is put.
pub heads-start : (key : ℕ → ℕ) (order taken : List ℕ) → 0 < length order
    → (1 + length (heads_after key (key (get_or order 0 0)) (drop 1 order)) ≡ length (heads key order))
    × (sets (set taken 0 (get_or order 0 0)) 1 (heads_after key (key (get_or order 0 0)) (drop 1 order)) ≡ sets taken 0 (heads key order))
heads-start key order taken some =
    let e = heads-first key order some in
    (omega (arith, ap length e), sym (ap (sets taken 0) e))

pub heads-end : (key : ℕ → ℕ) (order : List ℕ) (last i : ℕ) → length order ≤ i → heads_after key last (drop i order) ≡ []
unfolding heads_after
heads-end key order last i over = rw (drop_of_length-le order over)

-- The first of each key of what follows an item with the last key, or of a row.
abbrev pub heads_from : (key : ℕ → ℕ) (last : Option ℕ) → List ℕ → List ℕ
heads_from key None order = heads key order
heads_from key (Some k) order = heads_after key k order

module _ (key : ℕ → ℕ) (order : List ℕ) (i : ℕ) (within : i < length order) where
  pub head-put : (last : Option ℕ) → option_eq eqb last (Some (key (get_or order i 0))) ≡ false
      → heads_from key last (drop i order) ≡ get_or order i 0 ∷ heads_from key (Some (key (get_or order i 0))) (drop (i + 1) order)
  unfolding heads
  head-put None other = let h : i + 1 ≡ suc i = omega arith in rw (drop-cons order i 0 within, h)
  head-put (Some k) other = turn key order k i within false other

  pub head-kept : (last : Option ℕ) → option_eq eqb last (Some (key (get_or order i 0))) ≡ true
      → heads_from key last (drop i order) ≡ heads_from key last (drop (i + 1) order)
  head-kept None same = let z : ◌≡◌ {A = ℕ} 0 1 = cc in absurd (omega arith)
  head-kept (Some k) same = turn key order k i within true same

pub heads-past : (key : ℕ → ℕ) (order : List ℕ) (last : Option ℕ) (i : ℕ) → length order ≤ i → heads_from key last (drop i order) ≡ []
unfolding heads
heads-past key order None i over = rw (drop_of_length-le order over)
heads-past key order (Some k) i over = heads-end key order k i over

-- ---- the marks of the items taken
pub clear_next : (taken marks : List ℕ) (i : ℕ) → i < length taken
    → cleared (drop i taken) marks ≡ cleared (drop (i + 1) taken) (set marks (get_or taken i 0) 0)
unfolding cleared
clear_next taken marks i within =
    let h : i + 1 ≡ suc i = omega arith in
    rw (drop-cons taken i 0 within, h)

pub clear-past : (taken marks : List ℕ) (i : ℕ) → i < length taken → length marks ≤ get_or taken i 0
    → cleared (drop i taken) marks ≡ cleared (drop (i + 1) taken) marks
clear-past taken marks i within past =
    clear_next taken marks i within ∙ ap (cleared (drop (i + 1) taken)) (set_out marks (get_or taken i 0) 0 past)

pub clear-end : (taken marks : List ℕ) (i : ℕ) → length taken ≤ i → cleared (drop i taken) marks ≡ marks
unfolding cleared
clear-end taken marks i over = rw (drop_of_length-le taken over)
