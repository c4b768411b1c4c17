-- Some elements of a list, in their order: what a round leaves waiting of what was joined. Ascending keys still ascend, none is
-- twice, and what holds of each still does.
use Rattle.std.specs.Prelude.{◌≡◌, refl, ℕ, zero, suc}
use Rattle.std.proofs.Common.{⊎_elim}
use mathlib.Core.List.Memᴰ
use mathlib.Core.List.{List, [], ◌∷◌, ◌++◌, Memᴰ}
use Rattle.list_spec.specs.Distinct.{Distinct, All}
use Rattle.list_laws.specs.DistinctLaws.{all_cons}
use Rattle.round_spec.specs.Format.{Format}
use Rattle.round_spec.specs.Round.{keys_of}
use Rattle.word_round_laws.specs.Stash.{without}
use Rattle.word_round_laws.specs.StashLaws.{Above, Ascending}

pub data Part {E : Type 0} : List E → List E → Type 0 where
  done : Part [] []
  keep : {xs ys : List E} (x : E) → Part xs ys → Part (x ∷ xs) (x ∷ ys)
  skip : {xs ys : List E} (y : E) → Part xs ys → Part xs (y ∷ ys)

module _ {E : Type 0} where
  pub part-whole : (xs : List E) → Part xs xs
  part-whole [] = done
  part-whole (x ∷ xs) = keep x (part-whole xs)

  pub part_without : (i : ℕ) (xs : List E) → Part (without i xs) xs
  part_without zero [] = done
  part_without zero (x ∷ xs) = skip x (part-whole xs)
  part_without (suc i) [] = done
  part_without (suc i) (x ∷ xs) = keep x (part_without i xs)

  pub part-part : {xs ys zs : List E} → Part xs ys → Part ys zs → Part xs zs
  part-part p done = p
  part-part (keep {xs = xs} x p) (keep {xs = xs'} {ys = ys} _ q) = keep x (part-part {xs = xs} p q)
  part-part (skip x p) (keep y q) = skip y (part-part p q)
  part-part p (skip z q) = skip z (part-part p q)

  pub part-holds : {P : E → Type 0} {xs ys : List E} → Part xs ys → All P ys → All P xs
  part-holds done h = h
  part-holds {P} (keep {xs = xs} x p) h = all_cons {P = P} {xs = xs} (h x (Memᴰ.head refl)) (part-holds {P = P} p (λ a m. h a (Memᴰ.tail m)))
  part-holds {P} (skip y p) h = part-holds {P = P} p (λ a m. h a (Memᴰ.tail m))

module _ {E : Type 0} (F : Format E) where
  part-above : {xs ys : List E} (k : ℕ) → Part xs ys → Above k (keys_of F ys) → Above k (keys_of F xs)
  part-above k done a = a
  part-above k (keep x p) a = (a.0, part-above k p a.1)
  part-above k (skip y p) a = part-above k p a.1

  pub part-ascending : {xs ys : List E} → Part xs ys → Ascending (keys_of F ys) → Ascending (keys_of F xs)
  part-ascending done a = a
  part-ascending (keep x p) a = (part-above (F.key x) p a.0, part-ascending p a.1)
  part-ascending (skip y p) a = part-ascending p a.1

  part-member : {xs ys : List E} (k : ℕ) (held : List ℕ) → Part xs ys → Memᴰ k (keys_of F xs ++ held) → Memᴰ k (keys_of F ys ++ held)
  part-member k held done m = m
  part-member k held (keep {xs = xs} {ys = ys} x p) m =
      ⊎_elim {A = k ≡ F.key x} {B = Memᴰ k (keys_of F xs ++ held)} (λ e. Memᴰ.head e) (λ t. Memᴰ.tail (part-member k held p t))
      (Memᴰ.cases_cons m)
  part-member k held (skip y p) m = Memᴰ.tail (part-member k held p m)

  pub part-distinct : {xs ys : List E} (held : List ℕ) → Part xs ys → Distinct (keys_of F ys ++ held) → Distinct (keys_of F xs ++ held)
  part-distinct held done d = d
  part-distinct held (keep x p) d = (λ m. d.0 (part-member (F.key x) held p m), part-distinct held p d.1)
  part-distinct held (skip y p) d = part-distinct held p d.1
