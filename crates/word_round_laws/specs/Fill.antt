-- A path filled in one pass over the elements: each goes to the lowest bucket of the path that its own path passes and that has
-- room. `FillLaws.antt` shows that this is the method's filling, bucket by bucket.
use Rattle.std.specs.Prelude.{ℕ, zero, suc, ◌+◌, ◌-◌, ◌&&◌, List, [], ◌∷◌, ◌++◌, map, ltb, length, drop, get_or, set}
use Rattle.std.specs.Int.Bits.{bit_xor}
use Rattle.std.specs.Int.Count.{count_leading_zeros}
use Rattle.std.proofs.lemmas.List.Edits.{sets}
use Rattle.list_spec.specs.Choice.{pick}
use Rattle.slot_spec.specs.Tree.{passes}
use Rattle.slot_spec.specs.Slot.{slot_bytes, bucket_bytes}
use Rattle.round_spec.specs.Format.{Format}
use Rattle.round_spec.specs.Round.{choose, with_bucket}
use Rattle.slot_spec.specs.Row.{zero_slot}

-- The level from which on two leaves' paths are one: the length in digits of the number in which the leaves differ.
abbrev pub meeting : ℕ → ℕ → ℕ
meeting a b = 64 - count_leading_zeros 64 (bit_xor a b)

-- How many buckets stand before the first that has room, of the numbers of slots that are used in each.
unfoldable pub crowded : List ℕ → ℕ
crowded [] = zero
crowded (u ∷ us) = pick (ltb u 4) zero (suc (crowded us))

-- The first level from a given one on that has room.
abbrev pub room_from : ℕ → List ℕ → ℕ
room_from from us = from + crowded (drop from us)

-- The tree with zero bytes in some buckets.
unfoldable pub cleared : List ℕ → List ℕ → List ℕ
cleared tree [] = tree
cleared tree (b ∷ bs) = cleared (with_bucket tree b (bucket_bytes [])) bs

-- The tree with zero bytes in some slots, by the bytes where they start.
unfoldable pub emptied : List ℕ → List ℕ → List ℕ
emptied tree [] = tree
emptied tree (at ∷ ats) = emptied (sets tree at (slot_bytes zero_slot)) ats

-- What the buckets of a path hold, and the elements that are left.
pub record Filling (E : Type 0) : Type 0 where
  pub contents : List (List E)
  pub left : List E

module _ {E : Type 0} (F : Format E) where
  -- Each bucket, in the order given, takes up to as many as it has room for beside what it holds.
  unfoldable pub fill : ℕ → List ℕ → List (List E) → List E → Filling E
  fill k [] cs ws = record { contents = cs; left = ws }
  fill k (b ∷ bs) [] ws = record { contents = []; left = ws }
  fill k (b ∷ bs) (c ∷ cs) ws =
      record {
        contents = (c ++ (choose F k b (4 - length c) ws).ins) ∷ (fill k bs cs (choose F k b (4 - length c) ws).left).contents;
        left = (fill k bs cs (choose F k b (4 - length c) ws).left).left;
      }

  -- The place of the first bucket that a tag's path passes and that has room; their number if there is none.
  unfoldable pub home : ℕ → List ℕ → List (List E) → ℕ → ℕ
  home k [] cs tag = zero
  home k (b ∷ bs) [] tag = zero
  home k (b ∷ bs) (c ∷ cs) tag = pick (ltb (length c) 4 && passes k tag b) zero (suc (home k bs cs tag))

  -- An element joins what a bucket holds.
  abbrev pub added : List (List E) → ℕ → E → List (List E)
  added cs h e = set cs h (get_or cs h [] ++ e ∷ [])

  -- The tree with what some buckets hold written to them.
  unfoldable pub written : List ℕ → List ℕ → List (List E) → List ℕ
  written tree [] cs = tree
  written tree (b ∷ bs) [] = tree
  written tree (b ∷ bs) (c ∷ cs) = written (with_bucket tree b (bucket_bytes (map F.bytes c))) bs cs

-- Some buckets that hold nothing.
abbrev pub empties : {E : Type 0} → List ℕ → List (List E)
empties bs = map (λ (b : ℕ). []) bs
