-- Two leaves' paths are one from a level on, that of their highest differing digit; so an element's home is the first bucket from
-- there up that has room.
use Rattle.std.specs.Prelude.{◌≡◌, Bool, ◌&&◌, ltb, leb, eqb, get_or}
use Rattle.std.proofs.Math.Path.{refl, sym}
use Rattle.std.proofs.Common.{◌∙◌, ap, div-lt_iff_lt-mul, add-one, pow_mono, pow_pos}
use Rattle.std.proofs.Math.Bool.{true, false, and-false}
use mathlib.Core.List.{List, [], ◌∷◌, map}
use Prim.Native.Nat.{ℕ, zero, suc, ◌+◌, ◌-◌, ◌*◌, ◌/◌, ◌^◌, ◌≤◌, ◌<◌}
use native.Mathlib.Omega.{arith}
use Rattle.std.specs.Int.Bits.{bit_xor, xor_self, xor_add_and}
use Rattle.std.proofs.lemmas.Nat.{xor_shr, and_le_l, and_le_r, xor_block, xor_lt, leading_length}
use Rattle.std.proofs.Math.ListN.{length}
use borrow.Author.Tests.{ltb-true, ltb-false, le-leb, lt-leb, leb-true, leb-false, eq-eqb, ne_eqb}
use Rattle.list_spec.specs.Choice.{pick}
use Rattle.slot_spec.specs.Tree.{passes, leaf_bucket, path_bucket, path}
use Rattle.slot_laws.specs.TreeLaws.{halvings-at, halvings-length}
use Rattle.slot_laws.proofs.PathNumberLaws.{shift-reaches, passes-at-level}
use Rattle.round_spec.specs.Format.{Format}
use Rattle.word_round_laws.specs.PathLaws.{path-at-level}
use Rattle.word_round_laws.specs.Fill.{meeting, crowded, room_from, home}

-- ---- digits
same-of-xor : (a b : ℕ) → bit_xor a b ≡ 0 → a ≡ b
same-of-xor a b e = let s = xor_add_and a b in let l = and_le_l a b in let r = and_le_r a b in omega arith

xor-of-same : (a b : ℕ) → a ≡ b → bit_xor a b ≡ 0
xor-of-same a b e = ap (bit_xor a) (sym e) ∙ xor_self a

-- Without their i lowest digits two numbers are one exactly if they differ in those digits only.
shifted-same : (a b i : ℕ) → bit_xor a b < 2 ^ i → a / 2 ^ i ≡ b / 2 ^ i
shifted-same a b i h =
    same-of-xor (a / 2 ^ i) (b / 2 ^ i) (sym (xor_shr a b i) ∙ (let d : bit_xor a b / 2 ^ i < 1 = (div-lt_iff_lt-mul (pow_pos i)).1 (omega arith) in omega arith))

same-shifted : (a b i : ℕ) → a / 2 ^ i ≡ b / 2 ^ i → bit_xor a b < 2 ^ i
same-shifted a b i e =
    let d : bit_xor a b / 2 ^ i < 1 = rw (xor_shr a b i, xor-of-same (a / 2 ^ i) (b / 2 ^ i) e) (omega arith) in
    let m : bit_xor a b < 1 * 2 ^ i = (div-lt_iff_lt-mul (pow_pos i)).0 d in
    omega arith

-- Numbers with the same digits above k differ in the others as those do.
xor_below : (k a b : ℕ) → a < 2 ^ k → b < 2 ^ k → bit_xor (2 ^ k + a) (2 ^ k + b) ≡ bit_xor a b
xor_below k a b p q =
    let e : (c : ℕ) → 2 ^ k + c ≡ 1 * 2 ^ k + c = λ c. omega arith in
    rw (e a, e b) (xor_block k 1 1 a b p q ∙ (let z : bit_xor 1 1 * 2 ^ k ≡ 0 = rw (xor_self 1) (omega arith) in omega arith))

-- The length of the number in which they differ.
module _ (a b : ℕ) (p : a < 2 ^ 16) (q : b < 2 ^ 16) where
  pub differ-small : bit_xor a b < 2 ^ 64
  differ-small = let h = xor_lt 16 a b p q in omega arith

  pub meeting-reached : (i : ℕ) → meeting a b ≤ i → bit_xor a b < 2 ^ i
  meeting-reached i h =
      let t = leading_length 64 (bit_xor a b) differ-small in
      let m : 2 ^ t.0 ≤ 2 ^ i = pow_mono {i = t.0} {j = i} (let s = t.1 in omega arith) in
      let s = t.2 in omega arith

  pub meeting-before : (i : ℕ) → i < meeting a b → 2 ^ i ≤ bit_xor a b
  meeting-before i h =
      let t = leading_length 64 (bit_xor a b) differ-small in
      let m : 2 ^ (i + 1) ≤ 2 ^ t.0 = pow_mono {i = i + 1} {j = t.0} (let s = t.1 in omega arith) in
      let d : 2 ^ (i + 1) ≡ 2 * 2 ^ i = rw (add-one i) (omega arith) in
      let s = t.3 in omega arith

-- ---- the path
small : (k n : ℕ) → k ≤ 15 → n < 2 ^ k → n < 2 ^ 16
small k n s h = let m : 2 ^ k ≤ 2 ^ 16 = pow_mono {i = k} {j = 16} (omega arith) in omega arith

-- At the root they have met.
pub meeting-within : (k t tag : ℕ) → k ≤ 15 → t < 2 ^ k → tag < 2 ^ k → meeting t tag ≤ k
meeting-within k t tag s p q = go (ltb k (meeting t tag)) refl
  where
    go : (r : Bool) → ltb k (meeting t tag) ≡ r → meeting t tag ≤ k
    go true e =
        let h = meeting-before t tag (small k t s p) (small k tag s q) k (ltb-true k (meeting t tag) e) in
        let g = xor_lt k t tag p q in let z : ⊥ = omega arith in absurd z
    go false e = ltb-false k (meeting t tag) e

-- A tag's path passes the bucket of leaf t's path at a level exactly if they have met there.
pub passes-met : (k t tag i : ℕ) → k ≤ 15 → t < 2 ^ k → tag < 2 ^ k → i ≤ k → passes k tag (path_bucket k t i) ≡ leb (meeting t tag) i
passes-met k t tag i s p q l =
    passes-at-level k tag i (path_bucket k t i) q l (path-at-level k t i p l)
    ∙ rw (← shift-reaches k t i) (same (leb (meeting t tag) i) refl)
  where
    same : (r : Bool) → leb (meeting t tag) i ≡ r → eqb ((2 ^ k + t) / 2 ^ i) ((2 ^ k + tag) / 2 ^ i) ≡ r
    same true e =
        let h = meeting-reached t tag (small k t s p) (small k tag s q) i (leb-true (meeting t tag) i e) in
        eq-eqb ((2 ^ k + t) / 2 ^ i) ((2 ^ k + tag) / 2 ^ i) (shifted-same (2 ^ k + t) (2 ^ k + tag) i (rw (xor_below k t tag p q) h))
    same false e =
        let h = meeting-before t tag (small k t s p) (small k tag s q) i (leb-false (meeting t tag) i e) in
        ne_eqb ((2 ^ k + t) / 2 ^ i) ((2 ^ k + tag) / 2 ^ i) (λ g.
        let d : bit_xor t tag < 2 ^ i = rw (xor_below k t tag p q) at (same-shifted (2 ^ k + t) (2 ^ k + tag) i g) in omega arith)

-- ---- the first bucket with room from there up
leb-suc : (g i : ℕ) → leb (suc g) (suc i) ≡ leb g i
leb-suc g i = go (leb g i) refl
  where
    go : (t : Bool) → leb g i ≡ t → leb (suc g) (suc i) ≡ t
    go true e = le-leb (suc g) (suc i) (let h = leb-true g i e in omega arith)
    go false e = lt-leb (suc g) (suc i) (let h = leb-false g i e in omega arith)

module _ {E : Type 0} (F : Format E) (k tag : ℕ) where
  home-met : (bs : List ℕ) (cs : List (List E)) (g : ℕ) → length cs ≡ length bs → g ≤ length bs
      → ((i : ℕ) → i < length bs → passes k tag (get_or bs i 0) ≡ leb g i)
      → home F k bs cs tag ≡ room_from g (map length cs)
  unfolding home crowded
  home-met [] [] zero n l h = refl
  home-met [] [] (suc g) n l h = let z : ⊥ = omega arith in absurd z
  home-met [] (c ∷ cs) g n l h = let z : ⊥ = omega arith in absurd z
  home-met (b ∷ bs) [] g n l h = let z : ⊥ = omega arith in absurd z
  home-met (b ∷ bs) (c ∷ cs) zero n l h =
      let r = home-met bs cs zero (omega arith) (omega arith) (λ i m. h (suc i) (omega arith) ∙ le-leb 0 (suc i) (omega arith) ∙ sym (le-leb 0 i (omega arith))) in
      rw (h 0 (omega arith)) (go r (ltb (length c) 4))
    where
      go : home F k bs cs tag ≡ 0 + crowded (map length cs) → (t : Bool) → pick (t && true) 0 (suc (home F k bs cs tag)) ≡ 0 + pick t 0 (suc (crowded (map length cs)))
      go r true = refl
      go r false = omega arith
  home-met (b ∷ bs) (c ∷ cs) (suc g) n l h =
      let r = home-met bs cs g (omega arith) (omega arith) (λ i m. h (suc i) (omega arith) ∙ leb-suc g i) in
      rw (h 0 (omega arith) ∙ lt-leb (suc g) 0 (omega arith), and-false (ltb (length c) 4)) (omega arith)

  -- The home of an element on leaf t's path.
  pub home-on-path : (t : ℕ) (cs : List (List E)) → k ≤ 15 → t < 2 ^ k → tag < 2 ^ k → length cs ≡ length (path k t)
      → home F k (path k t) cs tag ≡ room_from (meeting t tag) (map length cs)
  home-on-path t cs s p q n =
      let l = halvings-length k (leaf_bucket k t) in
      home-met (path k t) cs (meeting t tag) n (let m = meeting-within k t tag s p q in omega arith)
      (λ i h. let g : i ≤ k = omega arith in rw (halvings-at k (leaf_bucket k t) i g) (passes-met k t tag i s p q g))
