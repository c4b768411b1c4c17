-- Lists that differ in one place: appended, mapped, element by element, and after each step of a round on lists: the elements of the
-- readings, insert, join and choose. Where the two elements have one key, they stand in one place; where they have one tag, a bucket
-- takes both or none.
use Rattle.std.specs.Prelude.{◌≡◌, refl, Bool, ◌⊎◌, ℕ, zero, suc, ◌<◌, ltb, length, get_or}
use Rattle.std.proofs.Common.{sym, ap, ap₂, inl, inr, arith}
use Rattle.std.proofs.Math.Bool.{true, false}
use mathlib.Core.List.{List, [], ◌∷◌, ◌++◌, map, Memᴰ}
use Rattle.std.proofs.Math.Option
use Rattle.std.proofs.Math.Option.{Option, none, some}
use Rattle.list_spec.specs.Choice.{pick}
use Rattle.slot_spec.specs.Tree.{passes}
use Rattle.round_spec.specs.Format.{Format, Read, full, empty, bad}
use Rattle.round_spec.specs.Round.{Chosen, all_good, insert, join, choose, taking, leaving}
use Rattle.round_laws.specs.Readings.{all-good-full}
use Rattle.round_laws.specs.Lists.{choose-full, choose-takes, choose-leaves}
use Rattle.promise_spec.specs.FullPut.{Differ, here, there}

module _ {A : Type 0} {a b : A} where
  pub differ-after : (zs : List A) {xs ys : List A} → Differ a b xs ys → Differ a b (zs ++ xs) (zs ++ ys)
  differ-after [] d = d
  differ-after (z ∷ zs) d = there z (differ-after zs d)

  pub differ-before : {xs ys : List A} → Differ a b xs ys → (zs : List A) → Differ a b (xs ++ zs) (ys ++ zs)
  differ-before (here xs) zs = here (xs ++ zs)
  differ-before (there x d) zs = there x (differ-before d zs)

  pub differ-length : {xs ys : List A} → Differ a b xs ys → length xs ≡ length ys
  differ-length (here xs) = refl
  differ-length (there x d) = ap suc (differ-length d)

  pub differ-member : {xs ys : List A} → Differ a b xs ys → Memᴰ a xs
  differ-member (here xs) = Memᴰ.head refl
  differ-member (there x d) = Memᴰ.tail (differ-member d)

  module _ {B : Type 0} (f : A → B) where
    pub map-differs : {xs ys : List A} → Differ a b xs ys → Differ (f a) (f b) (map f xs) (map f ys)
    map-differs (here xs) = here (map f xs)
    map-differs (there x d) = there (f x) (map-differs d)

    -- What does not tell the two apart does not tell the lists apart.
    pub map_same : f b ≡ f a → {xs ys : List A} → Differ a b xs ys → map f xs ≡ map f ys
    map_same same (here xs) = ap (λ (x : B). x ∷ map f xs) (sym same)
    map_same same (there x d) = ap (λ (zs : List B). f x ∷ zs) (map_same same d)

-- ---- element by element
pub record OnePlace {A : Type 0} (a b : A) (xs ys : List A) : Type 0 where
  pub at : ℕ
  pub within : at < length xs
  pub first : (z : A) → get_or xs at z ≡ a
  pub second : (z : A) → get_or ys at z ≡ b
  pub elsewhere : (i : ℕ) → (¬ i ≡ at) → (z : A) → get_or xs i z ≡ get_or ys i z

pub differ-place : {A : Type 0} {a b : A} {xs ys : List A} → Differ a b xs ys → OnePlace a b xs ys
differ-place {A} {a} {b} (here xs) =
    record { at = 0; within = omega arith; first = λ z. refl; second = λ z. refl; elsewhere = later }
  where
    later : (i : ℕ) → (¬ i ≡ 0) → (z : A) → get_or (a ∷ xs) i z ≡ get_or (b ∷ xs) i z
    later zero other z = absurd (other refl)
    later (suc i) other z = refl
differ-place {A} {a} {b} (there x {xs = xs} {ys = ys} d) =
    let p = differ-place d in
    record { at = suc p.at; within = omega arith; first = p.first; second = p.second; elsewhere = later p }
  where
    later : (p : OnePlace a b xs ys) (i : ℕ) → (¬ i ≡ suc p.at) → (z : A) → get_or (x ∷ xs) i z ≡ get_or (x ∷ ys) i z
    later p zero other z = refl
    later p (suc i) other z = p.elsewhere i (λ e. other (ap suc e)) z

-- ---- the values of a function at 0, 1, 2 and so on
module _ {A : Type 0} where
  abbrev pub firsts : ℕ → (ℕ → A) → List A
  firsts zero r = []
  firsts (suc n) r = r 0 ∷ firsts n (λ i. r (suc i))

  firsts_same : (n : ℕ) (r s : ℕ → A) → ((i : ℕ) → i < n → r i ≡ s i) → firsts n r ≡ firsts n s
  firsts_same zero r s h = refl
  firsts_same (suc n) r s h =
      ap₂ (λ (x : A) (xs : List A). x ∷ xs) (h 0 (omega arith))
      (firsts_same n (λ i. r (suc i)) (λ i. s (suc i)) (λ i g. h (suc i) (omega arith)))

  pub firsts-differ : {a b : A} (n j : ℕ) (r s : ℕ → A) → j < n → r j ≡ a → s j ≡ b → ((i : ℕ) → i < n → (¬ i ≡ j) → r i ≡ s i)
      → Differ a b (firsts n r) (firsts n s)
  firsts-differ zero j r s g p q h = let z : ⊥ = omega arith in absurd z
  firsts-differ (suc n) zero r s g p q h =
      rw (p, q, firsts_same n (λ i. r (suc i)) (λ i. s (suc i)) (λ i l. h (suc i) (omega arith) (λ e. omega arith)))
      (here (firsts n (λ i. s (suc i))))
  firsts-differ (suc n) (suc j) r s g p q h =
      rw (h 0 (omega arith) (λ e. omega arith))
      (there (s 0)
      (firsts-differ n j (λ i. r (suc i)) (λ i. s (suc i)) (omega arith) p q (λ i l ne. h (suc i) (omega arith) (λ e. ne (omega arith)))))

-- ---- the elements of readings that differ
module _ {E : Type 0} (a b : E) where
  -- A bad slot in both, or elements that differ.
  pub data BothGood : Option (List E) → Option (List E) → Type 0 where
    both-bad : BothGood none none
    both-good : {es ds : List E} → Differ a b es ds → BothGood (some es) (some ds)

  pub good-differs : {rs ss : List (Read E)} → Differ (full a) (full b) rs ss → BothGood (all_good rs) (all_good ss)
  unfolding all_good
  good-differs (here rs) = rw (all-good-full a rs, all-good-full b rs) (go (all_good rs))
    where
      go : (o : Option (List E)) → BothGood (Option.map (λ (es : List E). a ∷ es) o) (Option.map (λ (es : List E). b ∷ es) o)
      go none = both-bad
      go (some es) = both-good (here es)
  good-differs (there (full e) {xs = rs} {ys = ss} d) =
      rw (all-good-full e rs, all-good-full e ss) (go (good-differs d))
    where
      go : {o p : Option (List E)} → BothGood o p → BothGood (Option.map (λ (es : List E). e ∷ es) o) (Option.map (λ (es : List E). e ∷ es) p)
      go both-bad = both-bad
      go (both-good d) = both-good (there e d)
  good-differs (there empty d) = good-differs d
  good-differs (there bad d) = both-bad

-- ---- join
module _ {E : Type 0} (F : Format E) {a b : E} (same_key : F.key b ≡ F.key a) where
  pub insert-differs : (ws : List E) → Differ a b (insert F a ws) (insert F b ws)
  unfolding insert
  insert-differs [] = here []
  insert-differs (w ∷ ws) = rw same_key (go (insert-differs ws) (ltb (F.key a) (F.key w)))
    where
      go : Differ a b (insert F a ws) (insert F b ws)
          → (t : Bool) → Differ a b (pick t (a ∷ w ∷ ws) (w ∷ insert F a ws)) (pick t (b ∷ w ∷ ws) (w ∷ insert F b ws))
      go more true = here (w ∷ ws)
      go more false = there w more

  insert-into-differing : (e : E) {ws vs : List E} → Differ a b ws vs → Differ a b (insert F e ws) (insert F e vs)
  unfolding insert
  insert-into-differing e (here ws) = rw same_key (go (ltb (F.key e) (F.key a)))
    where
      go : (t : Bool) → Differ a b (pick t (e ∷ a ∷ ws) (a ∷ insert F e ws)) (pick t (e ∷ b ∷ ws) (b ∷ insert F e ws))
      go true = there e (here ws)
      go false = here (insert F e ws)
  insert-into-differing e (there w {xs = ws} {ys = vs} d) = go (insert-into-differing e d) (ltb (F.key e) (F.key w))
    where
      go : Differ a b (insert F e ws) (insert F e vs)
          → (t : Bool) → Differ a b (pick t (e ∷ w ∷ ws) (w ∷ insert F e ws)) (pick t (e ∷ w ∷ vs) (w ∷ insert F e vs))
      go more true = there e (there w d)
      go more false = there w more

  pub join-differs : (es : List E) {ws vs : List E} → Differ a b ws vs → Differ a b (join F es ws) (join F es vs)
  unfolding join
  join-differs [] d = d
  join-differs (e ∷ es) d = join-differs es (insert-into-differing e d)

  pub join-of-differing : {es ds : List E} → Differ a b es ds → (ws : List E) → Differ a b (join F es ws) (join F ds ws)
  unfolding join
  join-of-differing (here es) ws = join-differs es (insert-differs ws)
  join-of-differing (there e d) ws = join-of-differing d (insert F e ws)

-- ---- choose
module _ {E : Type 0} (a b : E) where
  -- What is taken differs and what is left is the same, or the other way round.
  abbrev pub ChosenApart : Chosen E → Chosen E → Type 0
  ChosenApart c d = (Differ a b c.ins d.ins × (c.left ≡ d.left)) ⊎ ((c.ins ≡ d.ins) × Differ a b c.left d.left)

module _ {E : Type 0} (F : Format E) {a b : E} where
  taking-apart : (e : E) (x y : Chosen E) → ChosenApart a b x y → ChosenApart a b (taking F e x) (taking F e y)
  taking-apart e x y (inl p) = inl (there e p.0, p.1)
  taking-apart e x y (inr p) = inr (ap (λ (es : List E). e ∷ es) p.0, p.1)

  leaving-apart : (e : E) (x y : Chosen E) → ChosenApart a b x y → ChosenApart a b (leaving F e x) (leaving F e y)
  leaving-apart e x y (inl p) = inl (p.0, ap (λ (es : List E). e ∷ es) p.1)
  leaving-apart e x y (inr p) = inr (p.0, there e p.1)

  module _ (k c : ℕ) (same_tag : F.tag b ≡ F.tag a) where
    pub choose-differs : (n : ℕ) {ws vs : List E} → Differ a b ws vs → ChosenApart a b (choose F k c n ws) (choose F k c n vs)
    choose-differs zero {ws} {vs} d = rw (choose-full F k c ws, choose-full F k c vs) (inr (refl, d))
    choose-differs (suc n) (here es) = go (passes k (F.tag a) c) refl
      where
        go : (t : Bool) → passes k (F.tag a) c ≡ t → ChosenApart a b (choose F k c (suc n) (a ∷ es)) (choose F k c (suc n) (b ∷ es))
        go true q = rw (choose-takes F k c n a es q, choose-takes F k c n b es (rw same_tag q)) (inl (here (choose F k c n es).ins, refl))
        go false q = rw (choose-leaves F k c n a es q, choose-leaves F k c n b es (rw same_tag q)) (inr (refl, here (choose F k c (suc n) es).left))
    choose-differs (suc n) (there e {xs = ws} {ys = vs} d) = go (choose-differs n d) (choose-differs (suc n) d) (passes k (F.tag e) c) refl
      where
        go : ChosenApart a b (choose F k c n ws) (choose F k c n vs) → ChosenApart a b (choose F k c (suc n) ws) (choose F k c (suc n) vs)
            → (t : Bool) → passes k (F.tag e) c ≡ t → ChosenApart a b (choose F k c (suc n) (e ∷ ws)) (choose F k c (suc n) (e ∷ vs))
        go taken left true q = rw (choose-takes F k c n e ws q, choose-takes F k c n e vs q) (taking-apart e (choose F k c n ws) (choose F k c n vs) taken)
        go taken left false q =
            rw (choose-leaves F k c n e ws q, choose-leaves F k c n e vs q) (leaving-apart e (choose F k c (suc n) ws) (choose F k c (suc n) vs) left)
