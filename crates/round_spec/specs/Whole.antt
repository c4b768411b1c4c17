-- The whole tree's elements, and a store that is kept.
use Rattle.std.specs.Prelude.{◌≡◌, true, List, [], ◌∷◌, ◌++◌, ℕ, zero, suc, ◌+◌, ◌-◌, ◌^◌, ◌≤◌, ◌<◌, length, replicate}
use Rattle.std.proofs.Math.Option.{Option, none, some}
use Rattle.list_spec.specs.Distinct.{Distinct, All}
use Rattle.slot_spec.specs.LittleEndian.{Bytes}
use Rattle.slot_spec.specs.Tree.{tree_length}
use Rattle.round_spec.specs.Format.{Format, Read, full, empty, bad}
use Rattle.round_spec.specs.Round.{all_good, read_buckets, keys_of}
use Rattle.list_spec.specs.Ascending.{ascending}

-- Buckets 1 to n, and all buckets of a tree of size k.
unfoldable pub up_to : ℕ → List ℕ
up_to zero = []
up_to (suc n) = up_to n ++ (suc n ∷ [])

abbrev pub all_buckets : ℕ → List ℕ
all_buckets k = up_to (2 ^ (k + 1) - 1)

-- A bucket of a tree of size k.
abbrev pub InTree : ℕ → ℕ → Type 0
InTree k b = (1 ≤ b) × (b < 2 ^ (k + 1))

module _ {E : Type 0} where
  -- The elements that good slots hold; bad ones hold none.
  unfoldable pub good_ones : List (Read E) → List E
  good_ones [] = []
  good_ones (full e ∷ rs) = e ∷ good_ones rs
  good_ones (empty ∷ rs) = good_ones rs
  good_ones (bad ∷ rs) = good_ones rs

  -- What a round took, as a list.
  abbrev pub listed : Option E → List E
  listed none = []
  listed (some e) = e ∷ []

-- A lent tree of size k: its length, and bytes.
pub record IsTree (k : ℕ) (tree : List ℕ) : Type 0 where
  pub sized : length tree ≡ tree_length k
  pub bytes : Bytes tree

module _ {E : Type 0} (F : Format E) where
  -- All that good slots of the whole tree hold.
  unfoldable pub contents : ℕ → List ℕ → List E
  contents k tree = good_ones (read_buckets F k tree (all_buckets k))

  -- A kept store: no slot is bad, and no key is twice among tree, waiting and held.
  pub record KeptStore (Proper : ℕ → E → Type 0) (k : ℕ) (tree : List ℕ) (waiting : List E) (held : List ℕ) : Type 0 where
    pub is-tree : IsTree k tree
    pub none-bad : all_good (read_buckets F k tree (all_buckets k)) ≡ some (contents k tree)
    pub none-twice : Distinct (keys_of F (contents k tree) ++ (keys_of F waiting ++ held))
    pub proper : All (Proper k) waiting

  -- Waiting elements in ascending order of keys.
  abbrev pub Ascending : List E → Type 0
  Ascending es = ascending (keys_of F es) ≡ true
