-- The readings of some buckets and the elements among them: taken apart at an append, kept by permutation, and depending on nothing but
-- those buckets' slots.
use Rattle.std.proofs.Math.Path.{◌≡◌, refl, ap, ap₂, subst}
use Rattle.std.proofs.Common.{sym, ◌∙◌, inl, inr}
use Rattle.std.specs.Prelude.{true, ◌⊎◌, ℕ, ◌*◌, ◌≤◌, ◌<◌, length}
use Rattle.std.proofs.Math.Logic.{⊎_elim}
use mathlib.Core.List.Memᴰ
use mathlib.Core.List.{List, [], ◌∷◌, ◌++◌, append_assoc, Memᴰ}
use Rattle.std.proofs.Math.Option.{Option, none, some, map}
use native.Mathlib.Omega.{arith}
use Rattle.list_spec.specs.Perm.{Perm, nil, cons, swap, trans}
use Rattle.list_laws.specs.PermLaws.{perm-refl, perm-append-left, perm-append-swap}
use Rattle.list_spec.specs.Distinct.{All}
use Rattle.list_laws.specs.DistinctLaws.{all_nil, all_cons}
use Rattle.slot_spec.specs.Tree.{passes}
use Rattle.round_spec.specs.Format.{Format, Read, full, empty, bad}
use Rattle.round_spec.specs.Round.{slot_at, all_good, read_bucket, read_buckets}
use Rattle.round_spec.specs.Whole.{good_ones, IsTree, InTree}
use Rattle.round_laws.specs.Lawful.{Lawful}
use Rattle.round_laws.specs.Places.{slot-length, slot-bytes}

-- ---- the elements of some readings
module _ {E : Type 0} where
  abbrev pub NotBad : Read E → Type 0
  NotBad (full e) = Unit
  NotBad empty = Unit
  NotBad bad = ⊥

  pub good-append : (rs ss : List (Read E)) → good_ones (rs ++ ss) ≡ good_ones rs ++ good_ones ss
  unfolding good_ones
  good-append [] ss = refl
  good-append (full e ∷ rs) ss = ap (λ (es : List E). e ∷ es) (good-append rs ss)
  good-append (empty ∷ rs) ss = good-append rs ss
  good-append (bad ∷ rs) ss = good-append rs ss

  good-cons : (r : Read E) (rs ss : List (Read E)) → Perm (good_ones rs) (good_ones ss) → Perm (good_ones (r ∷ rs)) (good_ones (r ∷ ss))
  unfolding good_ones
  good-cons (full e) rs ss p = cons e p
  good-cons empty rs ss p = p
  good-cons bad rs ss p = p

  good-swap : (r s : Read E) (rs : List (Read E)) → Perm (good_ones (r ∷ s ∷ rs)) (good_ones (s ∷ r ∷ rs))
  unfolding good_ones
  good-swap (full e) (full d) rs = swap e d (good_ones rs)
  good-swap (full e) empty rs = perm-refl (e ∷ good_ones rs)
  good-swap (full e) bad rs = perm-refl (e ∷ good_ones rs)
  good-swap empty s rs = good-cons s rs (empty ∷ rs) (perm-refl (good_ones rs))
  good-swap bad s rs = good-cons s rs (bad ∷ rs) (perm-refl (good_ones rs))

  pub good-perm : {rs ss : List (Read E)} → Perm rs ss → Perm (good_ones rs) (good_ones ss)
  good-perm nil = perm-refl (good_ones [])
  good-perm (cons r {xs = rs} {ys = ss} p) = good-cons r rs ss (good-perm p)
  good-perm (swap r s rs) = good-swap r s rs
  good-perm (trans p q) = trans (good-perm p) (good-perm q)

  pub good_length : (rs : List (Read E)) → length (good_ones rs) ≤ length rs
  unfolding good_ones
  good_length [] = omega arith
  good_length (full e ∷ rs) = omega (arith, good_length rs)
  good_length (empty ∷ rs) = omega (arith, good_length rs)
  good_length (bad ∷ rs) = omega (arith, good_length rs)

  pub good-member : {e : E} (rs : List (Read E)) → Memᴰ e (good_ones rs) → Memᴰ (full e) rs
  unfolding good_ones
  good-member [] m = absurd (Memᴰ.not-nil m)
  good-member {e} (full d ∷ rs) m =
      ⊎_elim {A = e ≡ d} {B = Memᴰ e (good_ones rs)} (λ q. Memᴰ.head (ap full q)) (λ n. Memᴰ.tail (good-member rs n))
      (Memᴰ.cases_cons m)
  good-member (empty ∷ rs) m = Memᴰ.tail (good-member rs m)
  good-member (bad ∷ rs) m = Memᴰ.tail (good-member rs m)

  pub member-good : {e : E} {rs : List (Read E)} → Memᴰ (full e) rs → Memᴰ e (good_ones rs)
  unfolding good_ones
  member-good {e} (Memᴰ.head {x = r} {xs = rs} q) =
      subst (λ (x : Read E). Memᴰ e (good_ones (x ∷ rs))) q (Memᴰ.head refl)
  member-good {e} (Memᴰ.tail {x = r} {xs = rs} m) = go r (member-good m)
    where
      go : (r : Read E) → Memᴰ e (good_ones rs) → Memᴰ e (good_ones (r ∷ rs))
      go (full d) n = Memᴰ.tail n
      go empty n = n
      go bad n = n

  -- ---- none is bad
  pub all-good-full : (e : E) (rs : List (Read E)) → all_good (full e ∷ rs) ≡ map (λ (es : List E). e ∷ es) (all_good rs)
  unfolding all_good
  all-good-full e rs = go (all_good rs) refl
    where
      go : (o : Option (List E)) → all_good rs ≡ o → all_good (full e ∷ rs) ≡ map (λ (es : List E). e ∷ es) (all_good rs)
      go none q = cc
      go (some es) q = cc

  pub all-good-known : (rs : List (Read E)) → All NotBad rs → all_good rs ≡ some (good_ones rs)
  unfolding all_good good_ones
  all-good-known [] h = refl
  all-good-known (full e ∷ rs) h = rw (all-good-full e rs, all-good-known rs (λ r m. h r (Memᴰ.tail m)))
  all-good-known (empty ∷ rs) h = all-good-known rs (λ r m. h r (Memᴰ.tail m))
  all-good-known (bad ∷ rs) h = absurd (h bad (Memᴰ.head refl))

  pub all-good-says : (rs : List (Read E)) (es : List E) → all_good rs ≡ some es → All NotBad rs × (es ≡ good_ones rs)
  unfolding all_good good_ones
  all-good-says [] es q = (all_nil NotBad, cc)
  all-good-says (full e ∷ rs) es q = go (all-good-says rs) (all_good rs) refl (sym (all-good-full e rs) ∙ q)
    where
      go : ((ds : List E) → all_good rs ≡ some ds → All NotBad rs × (ds ≡ good_ones rs))
          → (o : Option (List E)) → all_good rs ≡ o → map (λ (ds : List E). e ∷ ds) o ≡ some es → All NotBad (full e ∷ rs) × (es ≡ e ∷ good_ones rs)
      go more none p q = let z : ◌≡◌ {A = ℕ} 0 1 = cc in absurd (omega arith)
      go more (some ds) p q = let r = more ds p in (all_cons {P = NotBad} tt r.0, cc r.1)
  all-good-says (empty ∷ rs) es q = let r = all-good-says rs es q in (all_cons {P = NotBad} tt r.0, r.1)
  all-good-says (bad ∷ rs) es q = let z : ◌≡◌ {A = ℕ} 0 1 = cc in absurd (omega arith)

-- ---- the readings of some buckets
module _ {E : Type 0} (F : Format E) (k : ℕ) (tree : List ℕ) where
  pub readings-step : (b : ℕ) (bs : List ℕ) → read_buckets F k tree (b ∷ bs) ≡ read_bucket F k tree b ++ read_buckets F k tree bs
  unfolding read_buckets
  readings-step b bs = refl

  pub readings-append : (bs cs : List ℕ) → read_buckets F k tree (bs ++ cs) ≡ read_buckets F k tree bs ++ read_buckets F k tree cs
  unfolding read_buckets
  readings-append [] cs = refl
  readings-append (b ∷ bs) cs =
      rw (readings-append bs cs) (sym (append_assoc (read_bucket F k tree b) (read_buckets F k tree bs) (read_buckets F k tree cs)))

  pub readings-perm : {bs cs : List ℕ} → Perm bs cs → Perm (read_buckets F k tree bs) (read_buckets F k tree cs)
  unfolding read_buckets
  readings-perm nil = nil
  readings-perm (cons b p) = perm-append-left (read_bucket F k tree b) (readings-perm p)
  readings-perm (swap b c bs) = perm-append-swap (read_bucket F k tree b) (read_bucket F k tree c) (read_buckets F k tree bs)
  readings-perm (trans p q) = trans (readings-perm p) (readings-perm q)

  pub readings-length : (bs : List ℕ) → length (read_buckets F k tree bs) ≡ 4 * length bs
  unfolding read_buckets read_bucket
  readings-length [] = refl
  readings-length (b ∷ bs) = omega (arith, readings-length bs)

  -- A reading is that of a slot of one of the buckets.
  abbrev pub IsSlot : ℕ → Read E → Type 0
  IsSlot b r = (j : ℕ) × (j < 4) × (r ≡ F.read k b (slot_at tree b j))

  pub bucket-readings : (b : ℕ) → All (IsSlot b) (read_bucket F k tree b)
  unfolding read_bucket
  bucket-readings b =
      all_cons {P = IsSlot b} (0, omega arith, refl)
      (all_cons {P = IsSlot b} (1, omega arith, refl)
      (all_cons {P = IsSlot b} (2, omega arith, refl)
      (all_cons {P = IsSlot b} (3, omega arith, refl) (all_nil (IsSlot b)))))

  pub reading-of : (bs : List ℕ) (r : Read E) → Memᴰ r (read_buckets F k tree bs) → (b : ℕ) × Memᴰ b bs × Memᴰ r (read_bucket F k tree b)
  unfolding read_buckets
  reading-of [] r m = absurd (Memᴰ.not-nil m)
  reading-of (b ∷ bs) r m = go (reading-of bs r) (Memᴰ.append_cases (read_bucket F k tree b) m)
    where
      go : (Memᴰ r (read_buckets F k tree bs) → (c : ℕ) × Memᴰ c bs × Memᴰ r (read_bucket F k tree c))
          → Memᴰ r (read_bucket F k tree b) ⊎ Memᴰ r (read_buckets F k tree bs)
          → (c : ℕ) × Memᴰ c (b ∷ bs) × Memᴰ r (read_bucket F k tree c)
      go more (inl m) = (b, Memᴰ.head refl, m)
      go more (inr m) = let s = more m in (s.0, Memᴰ.tail s.1, s.2)

  pub reading-there : (bs : List ℕ) (b : ℕ) (r : Read E) → Memᴰ b bs → Memᴰ r (read_bucket F k tree b) → Memᴰ r (read_buckets F k tree bs)
  unfolding read_buckets
  reading-there [] b r n m = absurd (Memᴰ.not-nil n)
  reading-there (c ∷ cs) b r n m =
      ⊎_elim {A = b ≡ c} {B = Memᴰ b cs}
      (λ e. Memᴰ.append_left (read_buckets F k tree cs) (subst (λ (x : ℕ). Memᴰ r (read_bucket F k tree x)) e m))
      (λ t. Memᴰ.append_right (read_bucket F k tree c) (reading-there cs b r t m))
      (Memᴰ.cases_cons n)

-- Buckets with the same slots in two trees have the same readings.
module _ {E : Type 0} (F : Format E) (k : ℕ) (tree other : List ℕ) where
  pub bucket-same : (b : ℕ) → ((j : ℕ) → j < 4 → slot_at tree b j ≡ slot_at other b j) → read_bucket F k tree b ≡ read_bucket F k other b
  unfolding read_bucket
  bucket-same b h = rw (h 0 (omega arith), h 1 (omega arith), h 2 (omega arith), h 3 (omega arith))

  pub readings-same : (bs : List ℕ) → ((b j : ℕ) → Memᴰ b bs → j < 4 → slot_at tree b j ≡ slot_at other b j) → read_buckets F k tree bs ≡ read_buckets F k other bs
  unfolding read_buckets
  readings-same [] h = refl
  readings-same (b ∷ bs) h =
      ap₂ (λ (x y : List (Read E)). x ++ y) (bucket-same b (λ j g. h b j (Memᴰ.head refl) g))
      (readings-same bs (λ c j m g. h c j (Memᴰ.tail m) g))

-- ---- what is read of a tree's buckets
module _ {E : Type 0} (F : Format E) {Proper : ℕ → E → Type 0} (lawful : Lawful F Proper) (k : ℕ) (tree : List ℕ) (is : IsTree k tree) where
  -- An element that a bucket's slots hold is proper, and its path passes the bucket.
  pub bucket-holds : (b : ℕ) → InTree k b → (e : E) → Memᴰ (full e) (read_bucket F k tree b) → Proper k e × (passes k (F.tag e) b ≡ true)
  bucket-holds b in_tree e m =
      let s = bucket-readings F k tree b (full e) m in
      let l = slot-length k tree is b s.0 in_tree s.1 in
      let bs = slot-bytes k tree is b s.0 in (
        lawful.read-proper k b (slot_at tree b s.0) e bs l (sym s.2),
        lawful.read-passes k b (slot_at tree b s.0) e bs l (sym s.2),
      )

  pub buckets-hold : (bs : List ℕ) → All (InTree k) bs → (e : E) → Memᴰ e (good_ones (read_buckets F k tree bs))
      → (b : ℕ) × Memᴰ b bs × Memᴰ (full e) (read_bucket F k tree b) × Proper k e × (passes k (F.tag e) b ≡ true)
  buckets-hold bs in_tree e m =
      let r = reading-of F k tree bs (full e) (good-member (read_buckets F k tree bs) m) in
      let s = bucket-holds r.0 (in_tree r.0 r.1) e r.2 in
      (r.0, r.1, r.2, s.0, s.1)
