-- The first of each key in a row that is sorted is, in order of keys, the first of each key in the row before.
use Rattle.std.specs.Prelude.{◌≡◌, refl, Bool, true, false, List, [], ◌∷◌, ℕ, ◌≤◌, ◌<◌, eqb, leb}
use Rattle.std.proofs.Common.{sym, ◌∙◌, ap, subst, arith, eqb-true, leb-true, leb-false, eq-eqb, ne_eqb, le-leb}
use Rattle.std.proofs.lemmas.Bool.{eqb-false}
use Rattle.list_spec.specs.Choice.{pick}
use Rattle.list_spec.specs.Sorting.{insert_by, sort_by}
use Rattle.readout_spec.specs.Taken.{Entry, others, firsts}
use Rattle.survey_laws.specs.Items.{heads_after, heads}

abbrev key : Entry → ℕ
key e = e.key

-- Each key is at least the one before it, and the first at least c.
abbrev From : ℕ → List Entry → Type 0
From c [] = Unit {0}
From c (b ∷ bs) = (c ≤ b.key) × From b.key bs

from_less : {c d : ℕ} (bs : List Entry) → c ≤ d → From d bs → From c bs
from_less [] low f = tt
from_less (b ∷ bs) low f = (omega (arith, f.0), f.1)

-- ---- sorted rows
insert-from : (e : Entry) (c : ℕ) (bs : List Entry) → c ≤ e.key → From c bs → From c (insert_by key e bs)
unfolding insert_by
insert-from e c [] low f = (low, tt)
insert-from e c (b ∷ bs) low f = go (leb e.key b.key) refl (λ h. insert-from e b.key bs h f.1)
  where
    go : (t : Bool) → leb e.key b.key ≡ t → (b.key ≤ e.key → From b.key (insert_by key e bs))
        → From c (pick t (e ∷ b ∷ bs) (b ∷ insert_by key e bs))
    go true h more = (low, (leb-true e.key b.key h, f.1))
    go false h more = (f.0, more (omega (arith, leb-false e.key b.key h)))

sort-from : (es : List Entry) → From 0 (sort_by key es)
unfolding sort_by
sort-from [] = tt
sort-from (e ∷ es) = insert-from e 0 (sort_by key es) (omega arith) (sort-from es)

-- One whose key is at most all comes first.
insert-front : (e : Entry) (bs : List Entry) → From e.key bs → insert_by key e bs ≡ e ∷ bs
unfolding insert_by
insert-front e [] f = refl
insert-front e (b ∷ bs) f = rw (le-leb e.key b.key f.0)

-- ---- the others
others-from : (k c : ℕ) (bs : List Entry) → From c bs → From c (others k bs)
unfolding others
others-from k c [] f = tt
others-from k c (b ∷ bs) f = go (eqb k b.key) (λ d h. others-from k d bs h)
  where
    go : (t : Bool) → ((d : ℕ) → From d bs → From d (others k bs)) → From c (pick t (others k bs) (b ∷ others k bs))
    go true more = more c (from_less bs f.0 f.1)
    go false more = (f.0, more b.key f.1)

-- Where the keys are all greater none is left out.
others-none : (k c : ℕ) (bs : List Entry) → k < c → From c bs → others k bs ≡ bs
unfolding others
others-none k c [] low f = refl
others-none k c (b ∷ bs) low f =
    rw (ne_eqb k b.key (λ e. let z : ⊥ = omega (arith, f.0, e) in absurd z), others-none k b.key bs (omega (arith, f.0)) f.1)

-- One with another key is inserted before or after the others are picked out.
others-insert : (k : ℕ) (e : Entry) (c : ℕ) (bs : List Entry) → From c bs → (k ≡ e.key → ⊥)
    → others k (insert_by key e bs) ≡ insert_by key e (others k bs)
unfolding insert_by others
others-insert k e c [] f other = rw (ne_eqb k e.key other)
others-insert k e c (b ∷ bs) f other =
    go (leb e.key b.key) refl (eqb k b.key) refl (others-insert k e b.key bs f.1 other)
  where
    go : (t : Bool) → leb e.key b.key ≡ t → (s : Bool) → eqb k b.key ≡ s
        → others k (insert_by key e bs) ≡ insert_by key e (others k bs)
        → others k (pick t (e ∷ b ∷ bs) (b ∷ insert_by key e bs)) ≡ insert_by key e (pick s (others k bs) (b ∷ others k bs))
    go true h true g later =
        rw (ne_eqb k e.key other, g)
        (sym (insert-front e (others k bs) (others-from k e.key bs (from_less bs (leb-true e.key b.key h) f.1))))
    go true h false g later = rw (ne_eqb k e.key other, g, h)
    go false h true g later = rw g later
    go false h false g later = rw (g, h, later)

others_same : (k : ℕ) (e : Entry) (c : ℕ) (bs : List Entry) → From c bs → k ≡ e.key → others k (insert_by key e bs) ≡ others k bs
unfolding insert_by others
others_same k e c [] f same = rw (eq-eqb k e.key same)
others_same k e c (b ∷ bs) f same =
    go (leb e.key b.key) (eqb k b.key) refl (others_same k e b.key bs f.1 same)
  where
    go : (t s : Bool) → eqb k b.key ≡ s → others k (insert_by key e bs) ≡ others k bs
        → others k (pick t (e ∷ b ∷ bs) (b ∷ insert_by key e bs)) ≡ pick s (others k bs) (b ∷ others k bs)
    go true s g later = rw (eq-eqb k e.key same, g)
    go false true g later = rw (g, later)
    go false false g later = rw (g, later)

sort-others : (k : ℕ) (es : List Entry) → sort_by key (others k es) ≡ others k (sort_by key es)
unfolding sort_by others
sort-others k [] = refl
sort-others k (e ∷ es) = go (eqb k e.key) refl (sort-others k es)
  where
    go : (t : Bool) → eqb k e.key ≡ t → sort_by key (others k es) ≡ others k (sort_by key es)
        → sort_by key (pick t (others k es) (e ∷ others k es)) ≡ others k (insert_by key e (sort_by key es))
    go true g later = later ∙ sym (others_same k e 0 (sort_by key es) (sort-from es) (eqb-true k e.key g))
    go false g later =
        ap (insert_by key e) later ∙ sym (others-insert k e 0 (sort_by key es) (sort-from es) (eqb-false k e.key g))

-- ---- the first of each key
-- After one with key c the keys are greater.
after-from : (c : ℕ) (bs : List Entry) → From c bs → From c (heads_after key c bs) × ((k : ℕ) → k ≡ c → others k (heads_after key c bs) ≡ heads_after key c bs)
unfolding heads_after others
after-from c [] f = (tt, λ k e. refl)
after-from c (b ∷ bs) f = go (eqb c b.key) refl (after-from c bs) (after-from b.key bs f.1)
  where
    go : (t : Bool) → eqb c b.key ≡ t
        → (From c bs → From c (heads_after key c bs) × ((k : ℕ) → k ≡ c → others k (heads_after key c bs) ≡ heads_after key c bs))
        → From b.key (heads_after key b.key bs) × ((k : ℕ) → k ≡ b.key → others k (heads_after key b.key bs) ≡ heads_after key b.key bs)
        → From c (pick t (heads_after key c bs) (b ∷ heads_after key b.key bs))
        × ((k : ℕ) → k ≡ c → others k (pick t (heads_after key c bs) (b ∷ heads_after key b.key bs)) ≡ pick t (heads_after key c bs) (b ∷ heads_after key b.key bs))
    go true h same later = same (from_less bs f.0 f.1)
    go false h same later = (
      (f.0, later.0),
      λ k e.
          let n = eqb-false c b.key h in
          let low : c < b.key = let d : (c ≡ b.key → ⊥) = n in omega (arith, f.0, d) in
          others-none k b.key (b ∷ heads_after key b.key bs) (omega (arith, e, low)) (omega arith, later.0),
    )

-- Inserted where its key is at most the first one's.
front : (e b : Entry) (bs : List Entry) → e.key ≤ b.key → From b.key bs
    → e ∷ heads_after key e.key (b ∷ bs) ≡ insert_by key e (others e.key (b ∷ heads_after key b.key bs))
unfolding heads_after others
front e b bs low f = go (eqb e.key b.key) refl
  where
    go : (t : Bool) → eqb e.key b.key ≡ t
        → e ∷ pick t (heads_after key e.key bs) (b ∷ heads_after key b.key bs)
        ≡ insert_by key e (pick t (others e.key (heads_after key b.key bs)) (b ∷ others e.key (heads_after key b.key bs)))
    go true h =
        let same = eqb-true e.key b.key h in
        let a = after-from b.key bs f in
        let low = subst (λ (k : ℕ). From k (heads_after key b.key bs)) (sym same) a.0 in
        ap (λ (k : ℕ). e ∷ heads_after key k bs) same ∙ sym (insert-front e (heads_after key b.key bs) low)
        ∙ sym (ap (insert_by key e) (a.1 e.key same))
    go false h =
        let a = after-from b.key bs f in
        let n = eqb-false e.key b.key h in
        let less : e.key < b.key = omega (arith, low, n) in
        rw (others-none e.key b.key (heads_after key b.key bs) less a.0)
        (sym (insert-front e (b ∷ heads_after key b.key bs) (low, a.0)))

after-insert : (e : Entry) (c : ℕ) (bs : List Entry) → c < e.key → From c bs
    → heads_after key c (insert_by key e bs) ≡ insert_by key e (others e.key (heads_after key c bs))
unfolding insert_by heads_after others
after-insert e c [] low f = rw (ne_eqb c e.key (λ h. let z : ⊥ = omega (arith, low, h) in absurd z))
after-insert e c (b ∷ bs) low f =
    go (leb e.key b.key) refl (eqb c b.key) refl (λ d h g. after-insert e d bs h g)
  where
    go : (t : Bool) → leb e.key b.key ≡ t → (s : Bool) → eqb c b.key ≡ s
        → ((d : ℕ) → d < e.key → From d bs → heads_after key d (insert_by key e bs) ≡ insert_by key e (others e.key (heads_after key d bs)))
        → heads_after key c (pick t (e ∷ b ∷ bs) (b ∷ insert_by key e bs))
        ≡ insert_by key e (others e.key (pick s (heads_after key c bs) (b ∷ heads_after key b.key bs)))
    go true h true g later =
        let z : ⊥ = omega (arith, leb-true e.key b.key h, low, eqb-true c b.key g) in absurd z
    go true h false g later =
        rw (ne_eqb c e.key (λ x. let z : ⊥ = omega (arith, low, x) in absurd z)) (front e b bs (leb-true e.key b.key h) f.1)
    go false h true g later =
        rw g (later c low (from_less bs f.0 f.1))
    go false h false g later =
        let less = leb-false e.key b.key h in
        let n : (e.key ≡ b.key → ⊥) = λ x. let z : ⊥ = omega (arith, less, x) in absurd z in
        rw (g, ne_eqb e.key b.key n, h, later b.key less f.1)

heads-insert : (e : Entry) (bs : List Entry) → From 0 bs
    → heads key (insert_by key e bs) ≡ insert_by key e (others e.key (heads key bs))
unfolding insert_by heads_after heads others
heads-insert e [] f = refl
heads-insert e (b ∷ bs) f = go (leb e.key b.key) refl
  where
    go : (t : Bool) → leb e.key b.key ≡ t
        → heads key (pick t (e ∷ b ∷ bs) (b ∷ insert_by key e bs)) ≡ insert_by key e (others e.key (b ∷ heads_after key b.key bs))
    go true h = front e b bs (leb-true e.key b.key h) f.1
    go false h =
        let less = leb-false e.key b.key h in
        let n : (e.key ≡ b.key → ⊥) = λ x. let z : ⊥ = omega (arith, less, x) in absurd z in
        rw (ne_eqb e.key b.key n, h, after-insert e b.key bs less f.1)

pub heads-sorted : (es : List Entry) → heads key (sort_by key es) ≡ sort_by key (firsts es)
unfolding sort_by heads firsts
heads-sorted [] = refl
heads-sorted (e ∷ es) =
    heads-insert e (sort_by key es) (sort-from es)
    ∙ ap (insert_by key e) (ap (others e.key) (heads-sorted es) ∙ sym (sort-others e.key (firsts es)))
