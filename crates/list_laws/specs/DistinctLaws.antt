-- Laws of lists without repeats: kept by permutation, taken apart and put together at an append.
use Rattle.std.specs.Prelude.{◌≡◌, refl, ◌⊎◌, ℕ, zero, suc, ◌<◌, length, get_or}
use Rattle.std.proofs.Common.{sym, ◌∙◌, ap, subst, inl, inr, ⊎_elim, arith}
use mathlib.Core.List.Memᴰ
use mathlib.Core.List.{List, [], ◌∷◌, ◌++◌, map, Memᴰ}
use Rattle.list_spec.specs.Perm.{Perm, nil, cons, swap, trans}
use Rattle.list_laws.specs.PermLaws.{perm-sym, perm-member}
use Rattle.list_spec.specs.Distinct.{Distinct, Disjoint, All}

module _ {A : Type 0} where
  -- ---- a statement of each element

  pub all_nil : (P : A → Type 0) → All P []
  all_nil P a m = absurd (Memᴰ.not-nil m)

  pub all_cons : {P : A → Type 0} {a : A} {xs : List A} → P a → All P xs → All P (a ∷ xs)
  all_cons {P} {a} {xs} h hs b m =
      ⊎_elim {A = b ≡ a} {B = Memᴰ b xs} (λ e. subst P (sym e) h) (hs b) (Memᴰ.cases_cons m)

  pub all_append : {P : A → Type 0} (xs : List A) {ys : List A} → All P xs → All P ys → All P (xs ++ ys)
  all_append {P} xs {ys} h g a m =
      ⊎_elim {A = Memᴰ a xs} {B = Memᴰ a ys} (h a) (g a) (Memᴰ.append_cases xs m)

  pub all_left : {P : A → Type 0} {xs : List A} (ys : List A) → All P (xs ++ ys) → All P xs
  all_left ys h a m = h a (Memᴰ.append_left ys m)

  pub all_right : {P : A → Type 0} (xs : List A) {ys : List A} → All P (xs ++ ys) → All P ys
  all_right xs h a m = h a (Memᴰ.append_right xs m)

  pub all-perm : {P : A → Type 0} {xs ys : List A} → Perm xs ys → All P xs → All P ys
  all-perm p h a m = h a (perm-member (perm-sym p) m)

  pub all_get_d : {P : A → Type 0} (xs : List A) → All P xs → (i : ℕ) (d : A) → i < length xs → P (get_or xs i d)
  all_get_d [] h i d before = let z : ⊥ = omega arith in absurd z
  all_get_d (x ∷ xs) h zero d before = h x (Memᴰ.head refl)
  all_get_d (x ∷ xs) h (suc i) d before = all_get_d xs (λ a m. h a (Memᴰ.tail m)) i d (omega arith)

  -- ---- lists that share no element

  pub disjoint-sym : {xs ys : List A} → Disjoint xs ys → Disjoint ys xs
  disjoint-sym h a m k = h a k m

  pub disjoint-perm : {xs us ys vs : List A} → Perm xs us → Perm ys vs → Disjoint xs ys → Disjoint us vs
  disjoint-perm p q h a m k = h a (perm-member (perm-sym p) m) (perm-member (perm-sym q) k)

  pub disjoint-append : (xs : List A) {ys zs : List A} → Disjoint xs zs → Disjoint ys zs → Disjoint (xs ++ ys) zs
  disjoint-append xs {ys} {zs} = all_append {P = λ a. ¬ Memᴰ a zs} xs {ys = ys}

  -- ---- lists without repeats

  pub distinct-perm : {xs ys : List A} → Perm xs ys → Distinct xs → Distinct ys
  distinct-perm nil d = d
  distinct-perm (cons a p) d = (λ m. d.0 (perm-member (perm-sym p) m), distinct-perm p d.1)
  distinct-perm (swap a b xs) d = (
    λ m. ⊎_elim {A = b ≡ a} {B = Memᴰ b xs} (λ e. d.0 (Memᴰ.head (sym e))) d.1.0 (Memᴰ.cases_cons m),
    (λ m. d.0 (Memᴰ.tail m), d.1.1),
  )
  distinct-perm (trans p q) d = distinct-perm q (distinct-perm p d)

  pub distinct-left : (xs ys : List A) → Distinct (xs ++ ys) → Distinct xs
  distinct-left [] ys d = tt
  distinct-left (x ∷ xs) ys d = (λ m. d.0 (Memᴰ.append_left ys m), distinct-left xs ys d.1)

  pub distinct-right : (xs ys : List A) → Distinct (xs ++ ys) → Distinct ys
  distinct-right [] ys d = d
  distinct-right (x ∷ xs) ys d = distinct-right xs ys d.1

  pub distinct-disjoint : (xs ys : List A) → Distinct (xs ++ ys) → Disjoint xs ys
  distinct-disjoint [] ys d = all_nil (λ a. ¬ Memᴰ a ys)
  distinct-disjoint (x ∷ xs) ys d =
      all_cons {P = λ a. ¬ Memᴰ a ys} (λ m. d.0 (Memᴰ.append_right xs m)) (distinct-disjoint xs ys d.1)

  pub distinct_append : (xs ys : List A) → Distinct xs → Distinct ys → Disjoint xs ys → Distinct (xs ++ ys)
  distinct_append [] ys d e h = e
  distinct_append (x ∷ xs) ys d e h = (
    λ m. ⊎_elim {A = Memᴰ x xs} {B = Memᴰ x ys} d.0 (h x (Memᴰ.head refl)) (Memᴰ.append_cases xs m),
    distinct_append xs ys d.1 e (λ a m. h a (Memᴰ.tail m)),
  )

-- ---- map

module _ {A B : Type 0} (f : A → B) where
  -- Two members with one image are one.
  pub distinct-injective : {a b : A} (xs : List A) → Distinct (map f xs) → Memᴰ a xs → Memᴰ b xs → f a ≡ f b → a ≡ b
  distinct-injective [] d m k e = absurd (Memᴰ.not-nil m)
  distinct-injective {a} {b} (x ∷ xs) d m k e =
      go (λ p q. distinct-injective xs d.1 p q e) (Memᴰ.cases_cons m) (Memᴰ.cases_cons k)
    where
      go : (Memᴰ a xs → Memᴰ b xs → a ≡ b) → (a ≡ x) ⊎ Memᴰ a xs → (b ≡ x) ⊎ Memᴰ b xs → a ≡ b
      go both (inl p) (inl q) = p ∙ sym q
      go both (inl p) (inr q) = absurd (d.0 (Memᴰ.cast (ap f (sym p) ∙ e) (Memᴰ.map f q)))
      go both (inr p) (inl q) = absurd (d.0 (Memᴰ.cast (ap f (sym q) ∙ sym e) (Memᴰ.map f p)))
      go both (inr p) (inr q) = both p q

  pub distinct-of-map : (xs : List A) → Distinct (map f xs) → Distinct xs
  distinct-of-map [] d = tt
  distinct-of-map (x ∷ xs) d = (λ m. d.0 (Memᴰ.map f m), distinct-of-map xs d.1)
