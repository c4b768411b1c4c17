-- One round over a tree and the waiting elements (document 01's "waiting nodes", the stash of a Path ORAM), in the paper's
-- order: read the path, join in key order, take the wanted one, fill bucket by bucket from the leaf up.
use Rattle.std.specs.Prelude.{ℕ, zero, suc, ◌+◌, ◌*◌, Bool, true, not, ◌&&◌, List, [], ◌∷◌, ◌++◌, map, eqb, ltb, take, drop}
use Rattle.std.proofs.Math.Option.{Option, none, some}
use Rattle.list_spec.specs.Choice.{pick}
use Rattle.slot_spec.specs.Tree.{path, passes, among, slot_length, bucket_start, bucket_length}
use Rattle.slot_spec.specs.Slot.{bucket_bytes}
use Rattle.round_spec.specs.Format.{Format, Read, full, empty, bad}

-- ---- the tree's bytes
-- The bytes of slot j of bucket b.
abbrev pub slot_at : List ℕ → ℕ → ℕ → List ℕ
slot_at tree b j = take slot_length (drop (bucket_start b + slot_length * j) tree)

-- The tree with other bytes for those of bucket b.
unfoldable pub with_bucket : List ℕ → ℕ → List ℕ → List ℕ
with_bucket tree b bs = take (bucket_start b) tree ++ (bs ++ drop (bucket_start b + bucket_length) tree)

-- No number stands twice.
unfoldable pub none_twice : List ℕ → Bool
none_twice [] = true
none_twice (n ∷ ns) = not (among n ns) && none_twice ns

-- A wanted element: its key, and the tag of the link that leads to it.
pub record Wish : Type 0 where
  pub key : ℕ
  pub tag : ℕ

-- What a round holds in hand between its halves: the element that it took out, if it wanted one, and those that wait.
pub record Hand (E : Type 0) : Type 0 where
  pub taken : Option E
  pub waiting : List E

-- Of some elements, those that a bucket takes and those that are left.
pub record Chosen (E : Type 0) : Type 0 where
  pub ins : List E
  pub left : List E

-- What a round's write half leaves.
pub record Written (E : Type 0) : Type 0 where
  pub waiting : List E
  pub tree : List ℕ

module _ {E : Type 0} where
  -- The elements of some readings; none if one is bad.
  unfoldable pub all_good : List (Read E) → Option (List E)
  all_good [] = some []
  all_good (empty ∷ rs) = all_good rs
  all_good (bad ∷ rs) = none
  all_good (full e ∷ rs) = add_first e (all_good rs)
    where
      add_first : E → Option (List E) → Option (List E)
      add_first e none = none
      add_first e (some es) = some (e ∷ es)

module _ {E : Type 0} (F : Format E) where
  abbrev pub keys_of : List E → List ℕ
  keys_of es = map F.key es

  -- ---- the read half
  -- The four readings of a bucket, and those of some buckets.
  unfoldable pub read_bucket : ℕ → List ℕ → ℕ → List (Read E)
  read_bucket k tree b =
      F.read k b (slot_at tree b 0)
      ∷ F.read k b (slot_at tree b 1)
      ∷ F.read k b (slot_at tree b 2)
      ∷ F.read k b (slot_at tree b 3)
      ∷ []

  unfoldable pub read_buckets : ℕ → List ℕ → List ℕ → List (Read E)
  read_buckets k tree [] = []
  read_buckets k tree (b ∷ bs) = read_bucket k tree b ++ read_buckets k tree bs

  -- An element joins others in key order; where its key is there already it stands second.
  unfoldable pub insert : E → List E → List E
  insert e [] = e ∷ []
  insert e (w ∷ ws) = pick (ltb (F.key e) (F.key w)) (e ∷ w ∷ ws) (w ∷ insert e ws)

  unfoldable pub join : List E → List E → List E
  join [] ws = ws
  join (e ∷ es) ws = join es (insert e ws)

  -- The first element with a key is taken out.
  unfoldable pub take_first : ℕ → List E → Hand E
  take_first key [] = record { taken = none; waiting = [] }
  take_first key (w ∷ ws) =
      pick (eqb key (F.key w)) (record { taken = some w; waiting = ws })
      (record { taken = (take_first key ws).taken; waiting = w ∷ (take_first key ws).waiting })

  -- The wanted element is there, under the link's tag.
  unfoldable pub tagged : ℕ → Hand E → Option (Hand E)
  tagged tag h = elim h.taken [ none ↦ none | some e ↦ pick (eqb (F.tag e) tag) (some h) none ]

  unfoldable pub granted : Option Wish → List E → Option (Hand E)
  granted none ws = some (record { taken = none; waiting = ws })
  granted (some w) ws = tagged w.tag (take_first w.key ws)

  -- The joined elements; none where one key stands twice among path, waiting and held.
  unfoldable pub joined : (held : List ℕ) (waiting : List E) → Option (List E) → Option (List E)
  joined held waiting none = none
  joined held waiting (some es) = pick (none_twice (keys_of es ++ (keys_of waiting ++ held))) (some (join es waiting)) none

  unfoldable pub granted_from : Option Wish → Option (List E) → Option (Hand E)
  granted_from w none = none
  granted_from w (some ws) = granted w ws

  -- The read half of a round of leaf t: none is damage. `held` are the keys of the nodes that the call holds.
  unfoldable pub read_half : (size : ℕ) (tree : List ℕ) (t : ℕ) → Option Wish → (held : List ℕ) → List E → Option (Hand E)
  read_half k tree t w held waiting =
      granted_from w (joined held waiting (all_good (read_buckets k tree (path k t))))

  -- ---- the write half
  abbrev pub taking : E → Chosen E → Chosen E
  taking e c = record { ins = e ∷ c.ins; left = c.left }

  abbrev pub leaving : E → Chosen E → Chosen E
  leaving e c = record { ins = c.ins; left = e ∷ c.left }

  -- The first n of the elements whose own path passes bucket b.
  unfoldable pub choose : (size bucket n : ℕ) → List E → Chosen E
  choose k b n [] = record { ins = []; left = [] }
  choose k b zero (e ∷ es) = record { ins = []; left = e ∷ es }
  choose k b (suc n) (e ∷ es) =
      pick (passes k (F.tag e) b) (taking e (choose k b n es)) (leaving e (choose k b (suc n) es))

  -- Bucket by bucket, in the order given: each takes up to four, lowest key first; its other slots are zero bytes.
  unfoldable pub evict : (size : ℕ) → List ℕ → List E → List ℕ → Written E
  evict k [] ws tree = record { waiting = ws; tree = tree }
  evict k (b ∷ bs) ws tree =
      evict k bs (choose k b 4 ws).left (with_bucket tree b (bucket_bytes (map F.bytes (choose k b 4 ws).ins)))

  -- The write half of a round of leaf t: leaf bucket first, root last.
  abbrev pub write_half : (size : ℕ) (t : ℕ) → List E → List ℕ → Written E
  write_half k t ws tree = evict k (path k t) ws tree

-- At a round's close at most 64 nodes wait and are held.
abbrev pub stash_limit : ℕ
stash_limit = 64

abbrev pub exceeds_limit : (waiting held : ℕ) → Bool
exceeds_limit waiting held = ltb stash_limit (waiting + held)
