-- A kept store stays kept by a round: no slot is bad, no key is twice, and the key of what was taken is held, first of the held. So it
-- does when held or new elements come to wait, and a fresh store is kept.
use Rattle.std.proofs.Math.Path.{◌≡◌, refl, subst}
use Rattle.std.proofs.Common.{sym, ◌∙◌, ap, arith}
use mathlib.Core.List.Memᴰ
use mathlib.Core.List.{List, [], ◌∷◌, ◌++◌, map-append, append-nil}
use Rattle.std.proofs.Math.Option.{Option, some}
use Rattle.std.specs.Prelude.{ℕ, zero, suc, ◌+◌, ◌*◌, ◌^◌, ◌≤◌, ◌<◌, take, drop, replicate}
use Rattle.list_spec.specs.Perm.{Perm, trans}
use Rattle.list_laws.specs.PermLaws.{perm-sym, perm-append-left, perm-append-right, perm-map}
use Rattle.list_spec.specs.Distinct.{Distinct, All}
use Rattle.list_laws.specs.DistinctLaws.{all_nil, all_append, all_right, all-perm, distinct-perm}
use Rattle.list_laws.specs.Shuffle.{part, ◌&◌, shuffle}
use Rattle.std.proofs.lemmas.List.{length-replicate}
use Rattle.slot_spec.specs.Tree.{path, slot_length, bucket_start, tree_length}
use Rattle.round_spec.specs.Format.{Format, Read, full, empty, bad}
use Rattle.round_spec.specs.Round.{Wish, Hand, Written, slot_at, keys_of, read_buckets, join, read_half, write_half}
use Rattle.round_spec.specs.Whole.{all_buckets, good_ones, listed, IsTree, contents, KeptStore, InTree}
use Rattle.round_laws.specs.Lawful.{Lawful}
use Rattle.round_laws.specs.Paths.{all-in-tree, path-in-tree, path-distinct, path-and-others, others-off, others-in-tree}
use Rattle.round_laws.specs.Places.{zero_slot, zero-bytes, slot-fits}
use Rattle.round_laws.specs.Readings.{NotBad, all-good-known, all-good-says, readings-append, readings-perm, bucket-readings, reading-of}
use Rattle.round_laws.specs.Lists.{join-perm}
use Rattle.round_laws.specs.Evict.{evict-none-bad}
use Rattle.round_laws.specs.NothingLost.{write-is-tree, write-off-path, hand-proper, round-proper, nothing-lost}

module _ {E : Type 0} (F : Format E) {Proper : ℕ → E → Type 0} (k : ℕ) (tree : List ℕ) where
  -- ---- what waits and what is held
  module _ (waiting : List E) (held : List ℕ) (kept : KeptStore F Proper k tree waiting held) where
    -- Other keys are held.
    pub kept-holding : (others : List ℕ) → Distinct (keys_of F (contents F k tree) ++ (keys_of F waiting ++ others)) → KeptStore F Proper k tree waiting others
    kept-holding others d =
        record { is-tree = kept.is-tree; none-bad = kept.none-bad; none-twice = d; proper = kept.proper }

    -- The held keys in another order.
    pub kept-perm : {others : List ℕ} → Perm held others → KeptStore F Proper k tree waiting others
    kept-perm {others} p =
        kept-holding others
        (distinct-perm (perm-append-left (keys_of F (contents F k tree)) (perm-append-left (keys_of F waiting) p)) kept.none-twice)

  -- Held elements come to wait.
  pub kept-returned : (waiting es : List E) (held : List ℕ) → KeptStore F Proper k tree waiting (keys_of F es ++ held) → All (Proper k) es
      → KeptStore F Proper k tree (join F es waiting) held
  kept-returned waiting es held kept p =
      let keys : Perm (keys_of F (join F es waiting)) (keys_of F es ++ keys_of F waiting) = rw map-append at (perm-map F.key (join-perm F es waiting)) in
      record {
        is-tree = kept.is-tree;
        none-bad = kept.none-bad;
        none-twice =
            distinct-perm
            (perm-append-left (keys_of F (contents F k tree))
            (trans
            (shuffle (keys_of F waiting ∷ keys_of F es ∷ held ∷ []) (part 0 & (part 1 & part 2)) ((part 1 & part 0) & part 2) refl)
            (perm-append-right held (perm-sym keys))))
            kept.none-twice;
        proper = all-perm {P = Proper k} (perm-sym (join-perm F es waiting)) (all_append {P = Proper k} es p kept.proper);
      }

  -- New elements come to wait, with keys that are nowhere else, and none is held any more.
  pub kept-joined : (waiting es : List E) (held : List ℕ) → KeptStore F Proper k tree waiting held → All (Proper k) es
      → Distinct (keys_of F (contents F k tree) ++ (keys_of F waiting ++ keys_of F es)) → KeptStore F Proper k tree (join F es waiting) []
  kept-joined waiting es held kept p d =
      kept-returned waiting es [] (kept-holding waiting held kept (keys_of F es ++ []) (rw append-nil d)) p

-- ---- the round
module _ {E : Type 0} (F : Format E) {Proper : ℕ → E → Type 0} (lawful : Lawful F Proper) (k t : ℕ) (leaf : t < 2 ^ k) (tree : List ℕ) where
  -- The write half alone leaves no bad slot where there was none off the path.
  pub write-none-bad : IsTree k tree → (ws : List E) → All (Proper k) ws → All NotBad (read_buckets F k tree (all_buckets k))
      → All NotBad (read_buckets F k (write_half F k t ws tree).tree (all_buckets k))
  write-none-bad is ws p good =
      let r = path-and-others k t leaf in
      let others = r.0 in
      let after = (write_half F k t ws tree).tree in
      let same = write-off-path F lawful k t leaf tree is ws others (others-in-tree k t others r.1) (others-off k t others r.1) in
      let before : All NotBad (read_buckets F k tree others) =
      all_right {P = NotBad} (read_buckets F k tree (path k t)) (rw readings-append at (all-perm {P = NotBad} (readings-perm F k tree r.1) good)) in
      all-perm {P = NotBad} (readings-perm F k after (perm-sym r.1))
      (rw (readings-append F k after (path k t) others, same)
      (all_append {P = NotBad} (read_buckets F k after (path k t))
      (evict-none-bad F lawful k (path k t) ws tree (path-in-tree k t leaf) (path-distinct k t) is p) before))

  module _ (waiting : List E) (held : List ℕ) (kept : KeptStore F Proper k tree waiting held) (w : Option Wish) (h : Hand E)
      (read : read_half F k tree t w held waiting ≡ some h) where
    abbrev closed : Written E
    closed = write_half F k t h.waiting tree

    -- The key of what was taken is held, before the others.
    pub kept-round : KeptStore F Proper k closed.tree closed.waiting (keys_of F (listed h.taken) ++ held)
    unfolding contents
    kept-round =
        let is = kept.is-tree in
        let good = (all-good-says (read_buckets F k tree (all_buckets k)) (contents F k tree) kept.none-bad).0 in
        let lost = nothing-lost F lawful k t leaf tree is w held waiting kept.proper h read in
        let keys : Perm (keys_of F (contents F k tree) ++ keys_of F waiting) (keys_of F (contents F k closed.tree) ++ (keys_of F closed.waiting ++ keys_of F (listed h.taken))) =
        rw (map-append F.key (contents F k tree) waiting, map-append F.key (contents F k closed.tree) (closed.waiting ++ listed h.taken), map-append F.key closed.waiting (listed h.taken))
        at (perm-map F.key lost) in
        record {
          is-tree = write-is-tree F lawful k t leaf tree is h.waiting;
          none-bad =
              all-good-known (read_buckets F k closed.tree (all_buckets k))
              (write-none-bad is h.waiting (hand-proper F lawful k t leaf tree is w held waiting kept.proper h read) good);
          none-twice =
              distinct-perm
              (trans
              (shuffle (keys_of F (contents F k tree) ∷ keys_of F waiting ∷ held ∷ []) (part 0 & (part 1 & part 2)) ((part 0 & part 1) & part 2) refl)
              (trans (perm-append-right held keys)
              (shuffle (keys_of F (contents F k closed.tree) ∷ keys_of F closed.waiting ∷ keys_of F (listed h.taken) ∷ held ∷ [])
              ((part 0 & (part 1 & part 2)) & part 3) (part 0 & (part 1 & (part 2 & part 3))) refl)))
              kept.none-twice;
          proper = round-proper F lawful k t leaf tree is w held waiting kept.proper h read;
        }

-- ---- a fresh store
zero-part : (n m c : ℕ) → n + m ≤ c → take {A = ℕ} m (drop n (replicate c 0)) ≡ replicate m 0
zero-part zero zero c h = refl
zero-part zero (suc m) zero h = let z : ⊥ = omega arith in absurd z
zero-part zero (suc m) (suc c) h = ap (λ (r : List ℕ). 0 ∷ r) (zero-part zero m c (omega arith))
zero-part (suc n) m zero h = let z : ⊥ = omega arith in absurd z
zero-part (suc n) m (suc c) h = zero-part n m c (omega arith)

module _ {E : Type 0} (F : Format E) {Proper : ℕ → E → Type 0} (lawful : Lawful F Proper) (k : ℕ) where
  abbrev fresh : List ℕ
  fresh = replicate (tree_length k) 0

  pub fresh-is-tree : IsTree k fresh
  fresh-is-tree = record { sized = length-replicate (tree_length k) 0; bytes = zero-bytes (tree_length k) }

  fresh-slot : (b j : ℕ) → InTree k b → j < 4 → slot_at fresh b j ≡ zero_slot
  fresh-slot b j in_tree g =
      zero-part (bucket_start b + slot_length * j) slot_length (tree_length k) (slot-fits k b j in_tree g)

  fresh-readings : (bs : List ℕ) → All (InTree k) bs → All (λ r. r ≡ empty) (read_buckets F k fresh bs)
  fresh-readings bs in_tree r m =
      let s = reading-of F k fresh bs r m in
      let q = bucket-readings F k fresh s.0 r s.2 in
      q.2 ∙ ap (F.read k s.0) (fresh-slot s.0 q.0 (in_tree s.0 s.1) q.1) ∙ lawful.zero-empty k s.0

  empty-good : (rs : List (Read E)) → All (λ r. r ≡ empty) rs → good_ones rs ≡ []
  unfolding good_ones
  empty-good [] h = refl
  empty-good (full e ∷ rs) h = let q = h (full e) (Memᴰ.head refl) in let z : ◌≡◌ {A = ℕ} 0 1 = cc in absurd (omega arith)
  empty-good (empty ∷ rs) h = empty-good rs (λ r m. h r (Memᴰ.tail m))
  empty-good (bad ∷ rs) h = empty-good rs (λ r m. h r (Memᴰ.tail m))

  -- The zero tree holds nothing.
  pub fresh-empty : contents F k fresh ≡ []
  unfolding contents
  fresh-empty = empty-good (read_buckets F k fresh (all_buckets k)) (fresh-readings (all_buckets k) (all-in-tree k))

  -- The store that a good opening leaves is kept.
  pub fresh_kept : KeptStore F Proper k fresh [] []
  unfolding contents
  fresh_kept =
      record {
        is-tree = fresh-is-tree;
        none-bad =
            all-good-known (read_buckets F k fresh (all_buckets k))
            (λ r m. subst NotBad (sym (fresh-readings (all_buckets k) (all-in-tree k) r m)) tt);
        none-twice = rw fresh-empty tt;
        proper = all_nil (Proper k);
      }
