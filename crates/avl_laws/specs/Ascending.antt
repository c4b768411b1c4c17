-- Ascending tables: a tree is a search tree exactly where its pairs ascend, and what the plain machine does at a key
-- is done at the place of that key.
use Rattle.std.specs.Prelude.{◌≡◌, refl, List, [], ◌∷◌, ◌++◌, ℕ, ◌≤◌, ◌<◌}
use Rattle.std.proofs.Common.{ap, arith, eq-eqb, ne_eqb, lt-ltb, le-ltb}
use Rattle.std.proofs.Math.Option.{Option, none, some}
use Rattle.balance_spec.specs.Tree.{Tree, leaf, node}
use Rattle.method_spec.specs.Plain.{Pair, lookup, store, erase}
use Rattle.avl_laws.specs.Search.{Entry, Above, Below, pairs, Search}

abbrev pub pair : ℕ → ℕ → Pair
pair k v = record { key = k; value = v }

-- Keys that ascend strictly between two bounds.
pub data Ascending : Option ℕ → Option ℕ → List Pair → Type 0 where
  ends : {low high : Option ℕ} → Ascending low high []
  next : {low high : Option ℕ} {p : Pair} {ps : List Pair}
      → Above low p.key → Below high p.key → Ascending (some p.key) high ps → Ascending low high (p ∷ ps)

above-trans : (low : Option ℕ) {a b : ℕ} → Above low a → a < b → Above low b
above-trans none h k = tt
above-trans (some c) h k = omega arith

below-trans : (high : Option ℕ) {a b : ℕ} → a < b → Below high b → Below high a
below-trans none h k = tt
below-trans (some c) h k = omega arith

-- What stands before and after a pair of an ascending list.
pub record Split (low high : Option ℕ) (xs : List Pair) (p : Pair) (ys : List Pair) : Type 0 where
  pub before : Ascending low (some p.key) xs
  pub above : Above low p.key
  pub below : Below high p.key
  pub after : Ascending (some p.key) high ys

pub ascending-split : {low high : Option ℕ} (xs : List Pair) {p : Pair} {ys : List Pair}
    → Ascending low high (xs ++ (p ∷ ys)) → Split low high xs p ys
ascending-split [] (next a b h) = record { before = ends; above = a; below = b; after = h }
ascending-split {low} (x ∷ xs) (next a b h) =
    let s = ascending-split xs h in
    record {
      before = next a s.above s.before;
      above = above-trans low a s.above;
      below = s.below;
      after = s.after;
    }

pub ascending-join : {low high : Option ℕ} (xs : List Pair) (p : Pair) {ys : List Pair}
    → Ascending low (some p.key) xs → Above low p.key → Below high p.key → Ascending (some p.key) high ys
    → Ascending low high (xs ++ (p ∷ ys))
ascending-join [] p ends a b h = next a b h
ascending-join {high = high} (x ∷ xs) p (next c d g) a b h =
    next c (below-trans high d b) (ascending-join xs p g d b h)

-- The same without a pair between them.
pub ascending-append : {low high : Option ℕ} {k : ℕ} (xs : List Pair) {ys : List Pair} → Above low k → Below high k
    → Ascending low (some k) xs → Ascending (some k) high ys → Ascending low high (xs ++ ys)
ascending-append [] a b ends ends = ends
ascending-append {low} [] a b ends (next c d h) = next (above-trans low a c) d h
ascending-append {high = high} (x ∷ xs) a b (next c d g) h = next c (below-trans high d b) (ascending-append xs d b g h)

-- Wider bounds.
pub ascending-lower : {a b : ℕ} {high : Option ℕ} {xs : List Pair}
    → a ≤ b → Ascending (some b) high xs → Ascending (some a) high xs
ascending-lower h ends = ends
ascending-lower {a} h (next {p = p} c d g) = let k : a < p.key = omega arith in next k d g

pub ascending-upper : {a b : ℕ} {low : Option ℕ} {xs : List Pair}
    → a ≤ b → Ascending low (some a) xs → Ascending low (some b) xs
ascending-upper h ends = ends
ascending-upper {b = b} h (next {p = p} c d g) =
    let k : p.key < b = omega arith in next c k (ascending-upper h g)

module _ {T : Type 0} where
  pub search-ascending : (low high : Option ℕ) (t : Tree (Entry T)) → Search low high t → Ascending low high (pairs t)
  unfolding Search pairs
  search-ascending low high leaf h = ends
  search-ascending low high (node l e r) h =
      ascending-join (pairs l) (pair e.key e.value) (search-ascending low (some e.key) l h.2) h.0 h.1
      (search-ascending (some e.key) high r h.3)

  pub ascending-search : {low high : Option ℕ} (t : Tree (Entry T)) → Ascending low high (pairs t) → Search low high t
  unfolding Search pairs
  ascending-search leaf h = tt
  ascending-search {low = low} {high = high} (node l e r) h =
      let s = ascending-split (pairs l) h in
      (s.above, s.below, ascending-search {low = low} {high = some e.key} l s.before, ascending-search {low = some e.key} {high = high} r s.after)

-- ---- the plain machine at the place of a key

-- The key of a pair.
pub lookup-at : {low : Option ℕ} (xs : List Pair) (p : Pair) (ys : List Pair)
    → Ascending low (some p.key) xs → lookup p.key (xs ++ (p ∷ ys)) ≡ some p.value
unfolding lookup
lookup-at [] p ys ends = rw (eq-eqb p.key p.key refl)
lookup-at (x ∷ xs) p ys (next a b h) =
    rw (ne_eqb p.key x.key (omega arith)) (lookup-at xs p ys h)

pub store_at : {low : Option ℕ} (v : ℕ) (xs : List Pair) (p : Pair) (ys : List Pair)
    → Ascending low (some p.key) xs → store p.key v (xs ++ (p ∷ ys)) ≡ xs ++ (pair p.key v ∷ ys)
unfolding store
store_at v [] p ys ends = rw (eq-eqb p.key p.key refl)
store_at v (x ∷ xs) p ys (next a b h) =
    rw (ne_eqb p.key x.key (omega arith), le-ltb p.key x.key (omega arith))
    (ap (λ zs. x ∷ zs) (store_at v xs p ys h))

pub erase-at : {low : Option ℕ} (xs : List Pair) (p : Pair) (ys : List Pair)
    → Ascending low (some p.key) xs → erase p.key (xs ++ (p ∷ ys)) ≡ xs ++ ys
unfolding erase
erase-at [] p ys ends = rw (eq-eqb p.key p.key refl)
erase-at (x ∷ xs) p ys (next a b h) =
    rw (ne_eqb p.key x.key (omega arith)) (ap (λ zs. x ∷ zs) (erase-at xs p ys h))

-- A key that stands between two parts of the list.
pub lookup-between : {low high : Option ℕ} (k : ℕ) (xs ys : List Pair)
    → Ascending low (some k) xs → Ascending (some k) high ys → lookup k (xs ++ ys) ≡ none
unfolding lookup
lookup-between k [] [] ends ends = refl
lookup-between {low} {high} k [] (y ∷ ys) ends (next a b h) =
    rw (ne_eqb k y.key (omega arith))
    (lookup-between {low = low} {high = high} k [] ys ends (ascending-lower (omega arith) h))
lookup-between k (x ∷ xs) ys (next a b h) g =
    rw (ne_eqb k x.key (omega arith)) (lookup-between k xs ys h g)

pub store-between : {low high : Option ℕ} (k v : ℕ) (xs ys : List Pair)
    → Ascending low (some k) xs → Ascending (some k) high ys → store k v (xs ++ ys) ≡ xs ++ (pair k v ∷ ys)
unfolding store
store-between k v [] [] ends ends = refl
store-between k v [] (y ∷ ys) ends (next a b h) =
    rw (ne_eqb k y.key (omega arith), lt-ltb k y.key (omega arith))
store-between k v (x ∷ xs) ys (next a b h) g =
    rw (ne_eqb k x.key (omega arith), le-ltb k x.key (omega arith))
    (ap (λ zs. x ∷ zs) (store-between k v xs ys h g))

pub erase-between : {low high : Option ℕ} (k : ℕ) (xs ys : List Pair)
    → Ascending low (some k) xs → Ascending (some k) high ys → erase k (xs ++ ys) ≡ xs ++ ys
unfolding erase
erase-between k [] [] ends ends = refl
erase-between {low} {high} k [] (y ∷ ys) ends (next a b h) =
    rw (ne_eqb k y.key (omega arith))
    (ap (λ zs. y ∷ zs) (erase-between {low = low} {high = high} k [] ys ends (ascending-lower (omega arith) h)))
erase-between k (x ∷ xs) ys (next a b h) g =
    rw (ne_eqb k x.key (omega arith)) (ap (λ zs. x ∷ zs) (erase-between k xs ys h g))
