-- Stores to the tree: a slot stored in the part of a bucket is one of the whole tree, stores to different buckets can be
-- exchanged, and one more slot of a bucket is the store after those that it holds.
use Rattle.std.specs.Prelude.{◌≡◌, refl, List, [], ◌∷◌, ◌++◌, map, ℕ, zero, suc, ◌+◌, ◌-◌, ◌*◌, ◌/◌, ◌^◌, ◌≤◌, ◌<◌, length, take, drop, get_or, set, replicate}
use Rattle.std.proofs.Common.{sym, ◌∙◌, ap, append_assoc, arith, length-set, length-append, length-take, length-drop, take-append-drop, pow_pos, set-set, drop_at, drop-drop}
use Rattle.std.proofs.lemmas.List.{length-replicate, set_comm}
use Rattle.std.proofs.lemmas.List.Edits.{sets, sets-eq}
use Rattle.std.proofs.Math.Seq.{length-sets}
use Rattle.slot_spec.specs.Tree.{bucket_start, bucket_length, halvings, halved}
use Rattle.slot_spec.specs.Slot.{slot_bytes, filled, bucket_bytes}
use Rattle.slot_laws.specs.SlotLaws.{slot-length}
use Rattle.slot_spec.specs.declared.Slot.{Slot}
use Rattle.round_spec.specs.Round.{with_bucket}
use Rattle.round_spec.specs.Nodes.{words_format}
use Rattle.word_round_laws.specs.Fill.{cleared, added, written, empties}

-- ---- runs of stores
module _ {A : Type 0} where
  set_before : (l : List A) (i j : ℕ) (a : A) (vs : List A) → i < j → set (sets l j vs) i a ≡ sets (set l i a) j vs
  set_before l i j a [] h = refl
  set_before l i j a (v ∷ vs) h =
      set_before (set l j v) i (suc j) a vs (omega arith)
      ∙ ap (λ (m : List A). sets m (suc j) vs) (set_comm l j i v a (λ e. omega arith))

  pub sets-exchange : (l : List A) (i j : ℕ) (us vs : List A) → i + length us ≤ j → sets (sets l i us) j vs ≡ sets (sets l j vs) i us
  sets-exchange l i j [] vs h = refl
  sets-exchange l i j (u ∷ us) vs h =
      sets-exchange (set l i u) (suc i) j us vs (omega arith)
      ∙ ap (λ (m : List A). sets m (suc i) us) (sym (set_before l i j u vs (omega arith)))

  set-within : (l : List A) (s j : ℕ) (us : List A) (a : A) → j < length us → set (sets l s us) (s + j) a ≡ sets l s (set us j a)
  set-within l s j [] a h = let z : ⊥ = omega arith in absurd z
  set-within l s zero (u ∷ us) a h =
      let e : s + 0 ≡ s = omega arith in
      rw e (set_before (set l s u) s (suc s) a us (omega arith) ∙ ap (λ (m : List A). sets m (suc s) us) (set-set l s u a))
  set-within l s (suc j) (u ∷ us) a h = let e : s + suc j ≡ suc s + j = omega arith in rw e (set-within (set l s u) (suc s) j us a (omega arith))

  -- Stores to what was stored.
  pub sets-within : (l : List A) (s j : ℕ) (us vs : List A) → j + length vs ≤ length us → sets (sets l s us) (s + j) vs ≡ sets l s (sets us j vs)
  sets-within l s j us [] h = refl
  sets-within l s j us (v ∷ vs) h =
      let e : suc (s + j) ≡ s + suc j = omega arith in
      ap (λ (m : List A). sets m (suc (s + j)) vs) (set-within l s j us v (omega arith))
      ∙ rw e (sets-within l s (suc j) (set us j v) vs (rw (length-set us j v) (omega arith)))

  sets-cons : (x : A) (l : List A) (i : ℕ) (vs : List A) → sets (x ∷ l) (suc i) vs ≡ x ∷ sets l i vs
  sets-cons x l i [] = refl
  sets-cons x l i (v ∷ vs) = sets-cons x (set l i v) (suc i) vs

  sets-after : (xs ys : List A) (i j : ℕ) (vs : List A) → j ≡ length xs + i → sets (xs ++ ys) j vs ≡ xs ++ sets ys i vs
  sets-after [] ys i j vs e = let z : j ≡ i = omega arith in rw z
  sets-after (x ∷ xs) ys i zero vs e = let z : ⊥ = omega arith in absurd z
  sets-after (x ∷ xs) ys i (suc j) vs e = sets-cons x (xs ++ ys) j vs ∙ ap (λ (m : List A). x ∷ m) (sets-after xs ys i j vs (omega arith))

  pub sets-append : (l : List A) (i : ℕ) (us vs : List A) → sets l i (us ++ vs) ≡ sets (sets l i us) (i + length us) vs
  sets-append l i [] vs = let e : i + 0 ≡ i = omega arith in rw e
  sets-append l i (u ∷ us) vs =
      let e : i + suc (length us) ≡ suc i + length us = omega arith in
      rw e (sets-append (set l i u) (suc i) us vs)

  -- What stands there is stored again.
  pub sets-own : (l : List A) (i n : ℕ) → i + n ≤ length l → sets l i (take n (drop i l)) ≡ l
  sets-own l i n h =
      let part = take n (drop i l) in
      let s : length part ≡ n = simp (length-take, length-drop) (omega arith) in
      sets-eq part l i (rw s h)
      ∙ rw (s, append_assoc (take i l) part (drop (i + n) l), ← drop-drop n i l, take-append-drop n (drop i l), take-append-drop i l)

-- ---- a bucket's bytes
filled-length : (n : ℕ) (xs : List Slot) → length (filled n (map slot_bytes xs)) ≡ 32 * n
unfolding filled
filled-length zero xs = refl
filled-length (suc n) [] = simp (length-append, length-replicate) (let h = filled-length n [] in omega arith)
filled-length (suc n) (x ∷ xs) = let h = filled-length n xs in let s = slot-length x in simp length-append (omega arith)

-- One more slot.
filled-snoc : (n : ℕ) (xs : List Slot) (x : Slot) → length xs < n → filled n (map slot_bytes (xs ++ x ∷ [])) ≡ sets (filled n (map slot_bytes xs)) (32 * length xs) (slot_bytes x)
unfolding filled
filled-snoc zero xs x h = let z : ⊥ = omega arith in absurd z
filled-snoc (suc n) [] x h =
    let s = slot-length x in
    let l = length-replicate {A = ℕ} 32 0 in
    sym (sets-eq (slot_bytes x) (replicate 32 0 ++ filled n []) 0 (rw (s, length-append (replicate 32 0) (filled n []), l) (omega arith))
    ∙ ap (λ (r : List ℕ). slot_bytes x ++ r) (drop_at (replicate 32 0) (filled n []) (0 + length (slot_bytes x)) (l ∙ omega arith)))
filled-snoc (suc n) (y ∷ xs) x h =
    let s = slot-length y in
    ap (λ (r : List ℕ). slot_bytes y ++ r) (filled-snoc n xs x (omega arith))
    ∙ sym (sets-after (slot_bytes y) (filled n (map slot_bytes xs)) (32 * length xs) (32 * suc (length xs)) (slot_bytes x) (omega arith))

-- ---- a bucket of the tree
-- Other bytes for a bucket's are a run of stores.
pub with-sets : (tree : List ℕ) (b : ℕ) (part : List ℕ) → length part ≡ bucket_length → bucket_start b + bucket_length ≤ length tree → with_bucket tree b part ≡ sets tree (bucket_start b) part
unfolding with_bucket
with-sets tree b part n h = sym (sets-eq part tree (bucket_start b) (rw n h) ∙ rw n (append_assoc (take (bucket_start b) tree) part (drop (bucket_start b + bucket_length) tree)))

-- A slot stored in the part of a bucket is stored in the tree.
pub part-stored : (tree : List ℕ) (b j : ℕ) (vs : List ℕ) → bucket_start b + bucket_length ≤ length tree → j + length vs ≤ bucket_length
    → with_bucket tree b (sets (take bucket_length (drop (bucket_start b) tree)) j vs) ≡ sets tree (bucket_start b + j) vs
unfolding with_bucket
part-stored tree b j vs h g =
    let part = take bucket_length (drop (bucket_start b) tree) in
    let n : length part ≡ bucket_length = simp (length-take, length-drop) (omega arith) in
    with-sets tree b (sets part j vs) (length-sets part j vs ∙ n) h
    ∙ sym (sets-within tree (bucket_start b) j part vs (omega arith))
    ∙ ap (λ (m : List ℕ). sets m (bucket_start b + j) vs) (sets-own tree (bucket_start b) bucket_length h)

-- ---- the path's buckets
bytes-are : (xs : List Slot) → map words_format.bytes xs ≡ map slot_bytes xs
unfolding words_format
bytes-are xs = refl

bucket-sized : (xs : List Slot) → length (bucket_bytes (map words_format.bytes xs)) ≡ bucket_length
bucket-sized xs = ap (λ (l : List (List ℕ)). length (bucket_bytes l)) (bytes-are xs) ∙ filled-length 4 xs

bucket-more : (xs : List Slot) (x : Slot) → length xs < 4 → bucket_bytes (map words_format.bytes (xs ++ x ∷ [])) ≡ sets (bucket_bytes (map words_format.bytes xs)) (32 * length xs) (slot_bytes x)
bucket-more xs x h = rw (bytes-are xs, bytes-are (xs ++ x ∷ [])) (filled-snoc 4 xs x h)

-- A bucket written and then a store above it, or the other way round.
with-exchange : (tree : List ℕ) (b : ℕ) (xs : List Slot) (at : ℕ) (vs : List ℕ) → bucket_start b + bucket_length ≤ length tree → bucket_start b + bucket_length ≤ at
    → sets (with_bucket tree b (bucket_bytes (map words_format.bytes xs))) at vs ≡ with_bucket (sets tree at vs) b (bucket_bytes (map words_format.bytes xs))
with-exchange tree b xs at vs h g =
    let part = bucket_bytes (map words_format.bytes xs) in
    let n = bucket-sized xs in
    ap (λ (m : List ℕ). sets m at vs) (with-sets tree b part n h)
    ∙ sets-exchange tree (bucket_start b) at part vs (rw n g)
    ∙ sym (with-sets (sets tree at vs) b part n (rw (length-sets tree at vs) h))

pub with-length : (tree : List ℕ) (b : ℕ) (xs : List Slot) → bucket_start b + bucket_length ≤ length tree → length (with_bucket tree b (bucket_bytes (map words_format.bytes xs))) ≡ length tree
with-length tree b xs h = ap length (with-sets tree b (bucket_bytes (map words_format.bytes xs)) (bucket-sized xs) h) ∙ length-sets tree (bucket_start b) (bucket_bytes (map words_format.bytes xs))

-- A store above all buckets that are written.
written-exchange : (n b : ℕ) (cs : List (List Slot)) (tree : List ℕ) (at : ℕ) (vs : List ℕ) → bucket_start b + bucket_length ≤ length tree → bucket_start b + bucket_length ≤ at
    → sets (written words_format tree (halvings n b) cs) at vs ≡ written words_format (sets tree at vs) (halvings n b) cs
unfolding written halvings
written-exchange zero b [] tree at vs h g = refl
written-exchange zero b (c ∷ cs) tree at vs h g = with-exchange tree b c at vs h g
written-exchange (suc n) b [] tree at vs h g = refl
written-exchange (suc n) b (c ∷ cs) tree at vs h g =
    written-exchange n (b / 2) cs (with_bucket tree b (bucket_bytes (map words_format.bytes c))) at vs (rw (with-length tree b c h) (omega arith)) (omega arith)
    ∙ ap (λ (m : List ℕ). written words_format m (halvings n (b / 2)) cs) (with-exchange tree b c at vs h g)

pub written-length : (n b : ℕ) (cs : List (List Slot)) (tree : List ℕ) → bucket_start b + bucket_length ≤ length tree → length (written words_format tree (halvings n b) cs) ≡ length tree
unfolding written halvings
written-length zero b [] tree h = refl
written-length zero b (c ∷ cs) tree h = with-length tree b c h
written-length (suc n) b [] tree h = refl
written-length (suc n) b (c ∷ cs) tree h =
    let e = with-length tree b c h in
    written-length n (b / 2) cs (with_bucket tree b (bucket_bytes (map words_format.bytes c))) (rw e (omega arith)) ∙ e

-- One more slot of the bucket that is written first.
with-more : (tree : List ℕ) (b : ℕ) (c : List Slot) (x : Slot) → bucket_start b + bucket_length ≤ length tree → length c < 4
    → sets (with_bucket tree b (bucket_bytes (map words_format.bytes c))) (bucket_start b + 32 * length c) (slot_bytes x) ≡ with_bucket tree b (bucket_bytes (map words_format.bytes (c ++ x ∷ [])))
with-more tree b c x h l =
    let part = bucket_bytes (map words_format.bytes c) in
    let n = bucket-sized c in
    let s = slot-length x in
    ap (λ (m : List ℕ). sets m (bucket_start b + 32 * length c) (slot_bytes x)) (with-sets tree b part n h)
    ∙ sets-within tree (bucket_start b) (32 * length c) part (slot_bytes x) (omega arith)
    ∙ ap (sets tree (bucket_start b)) (sym (bucket-more c x l))
    ∙ sym (with-sets tree b (bucket_bytes (map words_format.bytes (c ++ x ∷ []))) (bucket-sized (c ++ x ∷ [])) h)

-- One more slot of a bucket of the path is the store after those that it holds.
pub written-more : (n b : ℕ) (cs : List (List Slot)) (tree : List ℕ) (i : ℕ) (x : Slot) → 2 ^ n ≤ b → bucket_start b + bucket_length ≤ length tree
    → i ≤ n → i < length cs → length (get_or cs i []) < 4
    → sets (written words_format tree (halvings n b) cs) (bucket_start (halved i b) + 32 * length (get_or cs i [])) (slot_bytes x)
    ≡ written words_format tree (halvings n b) (added words_format cs i x)
unfolding written halvings halved
written-more n b [] tree i x p h g l f = let z : ⊥ = omega arith in absurd z
written-more zero b (c ∷ cs) tree zero x p h g l f = with-more tree b c x h f
written-more zero b (c ∷ cs) tree (suc i) x p h g l f = let z : ⊥ = omega arith in absurd z
written-more (suc n) b (c ∷ cs) tree zero x p h g l f =
    let q : 2 ^ suc n ≤ b = p in
    let o = pow_pos n in
    written-exchange n (b / 2) cs (with_bucket tree b (bucket_bytes (map words_format.bytes c))) (bucket_start b + 32 * length c) (slot_bytes x) (rw (with-length tree b c h) (omega arith)) (omega arith)
    ∙ ap (λ (m : List ℕ). written words_format m (halvings n (b / 2)) cs) (with-more tree b c x h f)
written-more (suc n) b (c ∷ cs) tree (suc i) x p h g l f =
    written-more n (b / 2) cs (with_bucket tree b (bucket_bytes (map words_format.bytes c))) i x (let q : 2 ^ suc n ≤ b = p in omega arith) (rw (with-length tree b c h) (omega arith)) (omega arith) (omega arith) f

-- ---- the path cleared
pub cleared-written : (bs tree : List ℕ) → cleared tree bs ≡ written words_format tree bs (empties bs)
unfolding cleared written
cleared-written [] tree = refl
cleared-written (b ∷ bs) tree = cleared-written bs (with_bucket tree b (bucket_bytes []))

-- A part of the tree that was lent and written is a bucket's.
pub bucket-lent : (tree part : List ℕ) (b a n : ℕ) → a ≡ bucket_start b → n ≡ bucket_length → take a tree ++ (part ++ drop n (drop a tree)) ≡ with_bucket tree b part
unfolding with_bucket
bucket-lent tree part b a n p q = rw (drop-drop n a tree, p, q)
