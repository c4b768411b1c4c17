-- The write half: it keeps the tree a tree, changes no slot of a bucket that it does not write, and what the written buckets then hold
-- and what still waits are, in another order, what waited; no written slot is bad.
use Rattle.std.specs.Prelude.{◌≡◌, length, get_or}
use Rattle.std.proofs.Math.Path.{refl, ap}
use Rattle.std.proofs.Common.{sym, ◌∙◌, subst}
use mathlib.Core.List.Memᴰ
use mathlib.Core.List.{List, [], ◌∷◌, ◌++◌, append_assoc, map, Memᴰ}
use Prim.Native.Nat.{ℕ, zero, suc, ◌≤◌, ◌<◌}
use native.Mathlib.Omega.{arith}
use Rattle.list_spec.specs.Perm.{Perm, trans}
use Rattle.list_laws.specs.PermLaws.{perm-refl, perm-append-left}
use Rattle.list_spec.specs.Distinct.{Distinct, All}
use Rattle.list_laws.specs.DistinctLaws.{all_nil, all_cons, all_append, all_left, all_right, all-perm}
use Rattle.slot_spec.specs.LittleEndian.{Bytes}
use Rattle.slot_spec.specs.Tree.{slot_length, bucket_length}
use Rattle.slot_spec.specs.Slot.{bucket_bytes}
use Rattle.round_spec.specs.Format.{Format, Read, full, empty}
use Rattle.round_spec.specs.Round.{slot_at, with_bucket, read_bucket, read_buckets, Written, choose, evict}
use Rattle.round_spec.specs.Whole.{good_ones, IsTree, InTree}
use Rattle.round_laws.specs.Lawful.{Lawful}
use Rattle.round_laws.specs.Places.{zero_slot, with-bucket-is-tree, slot-at-same, slot-at-other, filled-length, filled-slot, filled-bytes}
use Rattle.round_laws.specs.Readings.{NotBad, good-append, bucket-same}
use Rattle.round_laws.specs.Lists.{Passing, choose-perm, choose-few, choose-passes}

module _ {E : Type 0} (F : Format E) where
  -- The tree after bucket b took its elements.
  abbrev pub after_bucket : ℕ → ℕ → List E → List ℕ → List ℕ
  after_bucket k b ws tree = with_bucket tree b (bucket_bytes (map F.bytes (choose F k b 4 ws).ins))

  pub evict-none : (k : ℕ) (ws : List E) (tree : List ℕ) → evict F k [] ws tree ≡ record { waiting = ws; tree = tree }
  unfolding evict
  evict-none k ws tree = refl

  pub evict-step : (k b : ℕ) (bs : List ℕ) (ws : List E) (tree : List ℕ)
      → evict F k (b ∷ bs) ws tree ≡ evict F k bs (choose F k b 4 ws).left (after_bucket k b ws tree)
  unfolding evict
  evict-step k b bs ws tree = refl

module _ {E : Type 0} where
  -- What slot j of a bucket with these elements is read as.
  slot_read : List E → ℕ → Read E
  slot_read [] j = empty
  slot_read (e ∷ es) zero = full e
  slot_read (e ∷ es) (suc j) = slot_read es j

  abbrev four_read : List E → List (Read E)
  four_read es = slot_read es 0 ∷ slot_read es 1 ∷ slot_read es 2 ∷ slot_read es 3 ∷ []

  four-good : (es : List E) → length es ≤ 4 → good_ones (four_read es) ≡ es
  unfolding slot_read good_ones
  four-good [] l = refl
  four-good (a ∷ []) l = refl
  four-good (a ∷ b ∷ []) l = refl
  four-good (a ∷ b ∷ c ∷ []) l = refl
  four-good (a ∷ b ∷ c ∷ d ∷ []) l = refl
  four-good (a ∷ b ∷ c ∷ d ∷ e ∷ es) l = let z : ⊥ = omega arith in absurd z

  slot-not-bad : (es : List E) (j : ℕ) → NotBad (slot_read es j)
  unfolding slot_read
  slot-not-bad [] j = tt
  slot-not-bad (e ∷ es) zero = tt
  slot-not-bad (e ∷ es) (suc j) = slot-not-bad es j

  four-not-bad : (es : List E) → All NotBad (four_read es)
  four-not-bad es =
      all_cons {P = NotBad} (slot-not-bad es 0)
      (all_cons {P = NotBad} (slot-not-bad es 1)
      (all_cons {P = NotBad} (slot-not-bad es 2)
      (all_cons {P = NotBad} (slot-not-bad es 3) (all_nil NotBad))))

module _ {E : Type 0} (F : Format E) {Proper : ℕ → E → Type 0} (lawful : Lawful F Proper) (k : ℕ) where
  -- ---- one bucket
  pub slots-sized : (es : List E) → All (λ s. length s ≡ slot_length) (map F.bytes es)
  slots-sized es s m =
      let r = Memᴰ.of_map F.bytes es m in
      subst (λ (x : List ℕ). length x ≡ slot_length) r.2 (lawful.slot-sized r.0)

  slots-bytes : (es : List E) → All Bytes (map F.bytes es)
  slots-bytes es s m = let r = Memᴰ.of_map F.bytes es m in subst Bytes r.2 (lawful.slot-bytes r.0)

  bucket-length : (es : List E) → length (bucket_bytes (map F.bytes es)) ≡ bucket_length
  bucket-length es = filled-length 4 (map F.bytes es) (slots-sized es)

  pub after-is-tree : (b : ℕ) (ws : List E) (tree : List ℕ) → InTree k b → IsTree k tree → IsTree k (after_bucket F k b ws tree)
  after-is-tree b ws tree in_tree is =
      let es = (choose F k b 4 ws).ins in
      with-bucket-is-tree k tree is b in_tree (bucket_bytes (map F.bytes es)) (bucket-length es)
      (filled-bytes 4 (map F.bytes es) (slots-bytes es))

  pub after-other : (b : ℕ) (ws : List E) (tree : List ℕ) → InTree k b → IsTree k tree
      → (c j : ℕ) → InTree k c → (c ≡ b → ⊥) → j < 4 → slot_at (after_bucket F k b ws tree) c j ≡ slot_at tree c j
  after-other b ws tree in_tree is =
      let es = (choose F k b 4 ws).ins in
      slot-at-other k tree is b in_tree (bucket_bytes (map F.bytes es)) (bucket-length es)

  slot_read_lem : (b : ℕ) (es : List E) → All (Proper k) es → All (Passing F k b) es → (j : ℕ) → F.read k b (get_or (map F.bytes es) j zero_slot) ≡ slot_read es j
  unfolding slot_read
  slot_read_lem b [] p q j = lawful.zero-empty k b
  slot_read_lem b (e ∷ es) p q zero = lawful.reads-back k b e (p e (Memᴰ.head refl)) (q e (Memᴰ.head refl))
  slot_read_lem b (e ∷ es) p q (suc j) = slot_read_lem b es (λ a m. p a (Memᴰ.tail m)) (λ a m. q a (Memᴰ.tail m)) j

  chosen-proper : (b : ℕ) (ws : List E) → All (Proper k) ws → All (Proper k) (choose F k b 4 ws).ins
  chosen-proper b ws p =
      all_left {P = Proper k} (choose F k b 4 ws).left (all-perm {P = Proper k} (choose-perm F k b 4 ws) p)

  pub left-proper : (b : ℕ) (ws : List E) → All (Proper k) ws → All (Proper k) (choose F k b 4 ws).left
  left-proper b ws p =
      all_right {P = Proper k} (choose F k b 4 ws).ins (all-perm {P = Proper k} (choose-perm F k b 4 ws) p)

  after_read : (b : ℕ) (ws : List E) (tree : List ℕ) → InTree k b → IsTree k tree → All (Proper k) ws
      → read_bucket F k (after_bucket F k b ws tree) b ≡ four_read (choose F k b 4 ws).ins
  unfolding read_bucket
  after_read b ws tree in_tree is p =
      let es = (choose F k b 4 ws).ins in
      let slots = map F.bytes es in
      let same : (j : ℕ) → j < 4 → F.read k b (slot_at (after_bucket F k b ws tree) b j) ≡ slot_read es j =
      λ j g. ap (F.read k b) (slot-at-same k tree is b in_tree (bucket_bytes slots) (bucket-length es) j g ∙ filled-slot 4 j slots (slots-sized es) g)
      ∙ slot_read_lem b es (chosen-proper b ws p) (choose-passes F k b 4 ws) j in
      rw (same 0 (omega arith), same 1 (omega arith), same 2 (omega arith), same 3 (omega arith))

  -- ---- bucket by bucket
  pub evict-is-tree : (bs : List ℕ) (ws : List E) (tree : List ℕ) → All (InTree k) bs → IsTree k tree → IsTree k (evict F k bs ws tree).tree
  evict-is-tree [] ws tree in_tree is = rw evict-none is
  evict-is-tree (b ∷ bs) ws tree in_tree is =
      rw evict-step
      (evict-is-tree bs (choose F k b 4 ws).left (after_bucket F k b ws tree) (λ c m. in_tree c (Memᴰ.tail m))
      (after-is-tree b ws tree (in_tree b (Memᴰ.head refl)) is))

  -- A bucket that is not among the written keeps its slots.
  pub evict-other : (bs : List ℕ) (ws : List E) (tree : List ℕ) → All (InTree k) bs → IsTree k tree
      → (c j : ℕ) → InTree k c → (Memᴰ c bs → ⊥) → j < 4 → slot_at (evict F k bs ws tree).tree c j ≡ slot_at tree c j
  evict-other [] ws tree in_tree is c j there off g = rw evict-none refl
  evict-other (b ∷ bs) ws tree in_tree is c j there off g =
      let here = in_tree b (Memᴰ.head refl) in
      rw evict-step
      (evict-other bs (choose F k b 4 ws).left (after_bucket F k b ws tree) (λ a m. in_tree a (Memᴰ.tail m))
      (after-is-tree b ws tree here is) c j there (λ m. off (Memᴰ.tail m)) g)
      ∙ after-other b ws tree here is c j there (λ e. off (Memᴰ.head e)) g

  -- The first of the buckets reads at the end as it did when it was written.
  evict-first : (b : ℕ) (bs : List ℕ) (ws : List E) (tree : List ℕ) → All (InTree k) (b ∷ bs) → Distinct (b ∷ bs) → IsTree k tree → All (Proper k) ws
      → read_bucket F k (evict F k bs (choose F k b 4 ws).left (after_bucket F k b ws tree)).tree b ≡ four_read (choose F k b 4 ws).ins
  evict-first b bs ws tree in_tree d is p =
      let here = in_tree b (Memᴰ.head refl) in
      let left = (choose F k b 4 ws).left in
      let after = after_bucket F k b ws tree in
      bucket-same F k (evict F k bs left after).tree after b
      (λ j g. evict-other bs left after (λ a m. in_tree a (Memᴰ.tail m)) (after-is-tree b ws tree here is) b j here d.0 g)
      ∙ after_read b ws tree here is p

  -- What waited is what the written buckets hold and what waits still.
  pub evict-perm : (bs : List ℕ) (ws : List E) (tree : List ℕ) → All (InTree k) bs → Distinct bs → IsTree k tree → All (Proper k) ws
      → Perm ws (good_ones (read_buckets F k (evict F k bs ws tree).tree bs) ++ (evict F k bs ws tree).waiting)
  unfolding read_buckets good_ones
  evict-perm [] ws tree in_tree d is p = rw evict-none (perm-refl ws)
  evict-perm (b ∷ bs) ws tree in_tree d is p =
      let c = choose F k b 4 ws in
      let here = in_tree b (Memᴰ.head refl) in
      let after = after_bucket F k b ws tree in
      let r = evict F k bs c.left after in
      let more = evict-perm bs c.left after (λ a m. in_tree a (Memᴰ.tail m)) d.1 (after-is-tree b ws tree here is) (left-proper b ws p) in
      let first : good_ones (read_bucket F k r.tree b) ≡ c.ins = ap good_ones (evict-first b bs ws tree in_tree d is p) ∙ four-good c.ins (choose-few F k b 4 ws) in
      subst (λ (w : Written E). Perm ws (good_ones (read_buckets F k w.tree (b ∷ bs)) ++ w.waiting)) (sym (evict-step F k b bs ws tree))
      (rw (
        good-append (read_bucket F k r.tree b) (read_buckets F k r.tree bs),
        first,
        append_assoc c.ins (good_ones (read_buckets F k r.tree bs)) r.waiting,
      )
      (trans (choose-perm F k b 4 ws) (perm-append-left c.ins more)))

  pub evict-none-bad : (bs : List ℕ) (ws : List E) (tree : List ℕ) → All (InTree k) bs → Distinct bs → IsTree k tree → All (Proper k) ws
      → All NotBad (read_buckets F k (evict F k bs ws tree).tree bs)
  unfolding read_buckets
  evict-none-bad [] ws tree in_tree d is p = all_nil NotBad
  evict-none-bad (b ∷ bs) ws tree in_tree d is p =
      let c = choose F k b 4 ws in
      let here = in_tree b (Memᴰ.head refl) in
      let after = after_bucket F k b ws tree in
      let r = evict F k bs c.left after in
      let more = evict-none-bad bs c.left after (λ a m. in_tree a (Memᴰ.tail m)) d.1 (after-is-tree b ws tree here is) (left-proper b ws p) in
      subst (λ (w : Written E). All NotBad (read_buckets F k w.tree (b ∷ bs))) (sym (evict-step F k b bs ws tree))
      (rw (evict-first b bs ws tree in_tree d is p) (all_append {P = NotBad} (four_read c.ins) (four-not-bad c.ins) more))

  -- What waits still is proper.
  pub evict-proper : (bs : List ℕ) (ws : List E) (tree : List ℕ) → All (Proper k) ws → All (Proper k) (evict F k bs ws tree).waiting
  evict-proper [] ws tree p = rw evict-none p
  evict-proper (b ∷ bs) ws tree p =
      rw evict-step (evict-proper bs (choose F k b 4 ws).left (after_bucket F k b ws tree) (left-proper b ws p))
