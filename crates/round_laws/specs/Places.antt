-- Slots of a tree in which one bucket has other bytes: that bucket's slots are theirs, every other slot is as it was, and the tree is
-- a tree still.
use Rattle.std.specs.Prelude.{◌≡◌, refl, List, [], ◌∷◌, ◌++◌, ℕ, zero, suc, ◌+◌, ◌-◌, ◌*◌, ◌≤◌, ◌<◌, take, get_or, replicate}
use Rattle.std.proofs.Common.{sym, ◌∙◌, arith, length-append, length-take, length-drop, take-append-drop, drop-drop, take_at, length-take-le}
use Rattle.std.proofs.Math.Path.{ap}
use mathlib.Core.List.Memᴰ
use Rattle.std.proofs.Math.Decide.{dec_lt}
use Rattle.std.proofs.Math.ListN.{length, drop}
use Rattle.std.proofs.lemmas.List.{length-replicate, take-append-le, drop-append-le}
use Rattle.std.proofs.Math.Seq.{drop-append-add}
use Rattle.list_spec.specs.Distinct.{All}
use Rattle.slot_spec.specs.LittleEndian.{Bytes}
use Rattle.slot_laws.specs.LittleEndianLaws.{bytes_take, bytes_drop, bytes-append}
use Rattle.slot_spec.specs.Tree.{slot_length, bucket_length, bucket_start, tree_length}
use Rattle.slot_spec.specs.Slot.{filled}
use Rattle.round_spec.specs.Round.{slot_at, with_bucket}
use Rattle.round_spec.specs.Whole.{IsTree, InTree}

-- ---- parts of joined lists
module _ {A : Type 0} where
  pub part-before : (n m : ℕ) (xs ys : List A) → n + m ≤ length xs → take m (drop n (xs ++ ys)) ≡ take m (drop n xs)
  part-before n m xs ys h =
      rw (drop-append-le n xs ys (omega arith)) (take-append-le m (drop n xs) ys (simp length-drop (omega arith)))

  pub part-after : (n m : ℕ) (xs ys : List A) → n ≡ length xs + m → drop n (xs ++ ys) ≡ drop m ys
  part-after n m xs ys e = rw e (drop-append-add xs ys m)

-- ---- places
start_fits : (k b : ℕ) → InTree k b → bucket_start b + bucket_length ≤ tree_length k
start_fits k b h = omega arith

pub slot-fits : (k b j : ℕ) → InTree k b → j < 4 → bucket_start b + slot_length * j + slot_length ≤ tree_length k
slot-fits k b j h g = omega (arith, start_fits k b h)

module _ (k : ℕ) (tree : List ℕ) (is : IsTree k tree) where
  -- A slot of a tree has a slot's length and bytes.
  pub slot-length : (b j : ℕ) → InTree k b → j < 4 → length (slot_at tree b j) ≡ slot_length
  slot-length b j h g =
      let l = is.sized in
      simp (length-take, length-drop) (omega (arith, slot-fits k b j h g))

  pub slot-bytes : (b j : ℕ) → Bytes (slot_at tree b j)
  slot-bytes b j =
      bytes_take slot_length (drop (bucket_start b + slot_length * j) tree)
      (bytes_drop (bucket_start b + slot_length * j) tree is.bytes)

  module _ (b : ℕ) (in_tree : InTree k b) (bs : List ℕ) (whole : length bs ≡ bucket_length) where
    start-length : length (take (bucket_start b) tree) ≡ bucket_start b
    start-length =
        let l = is.sized in
        length-take-le (bucket_start b) tree (omega (arith, start_fits k b in_tree))

    pub with-bucket-sized : length (with_bucket tree b bs) ≡ tree_length k
    unfolding with_bucket
    with-bucket-sized =
        let l = is.sized in
        let s = start-length in
        simp (length-append, length-drop) (omega (arith, start_fits k b in_tree))

    pub with-bucket-is-tree : Bytes bs → IsTree k (with_bucket tree b bs)
    unfolding with_bucket
    with-bucket-is-tree h =
        record {
          sized = with-bucket-sized;
          bytes =
              bytes-append (take (bucket_start b) tree) (bs ++ drop (bucket_start b + bucket_length) tree)
              (bytes_take (bucket_start b) tree is.bytes)
              (bytes-append bs (drop (bucket_start b + bucket_length) tree) h
              (bytes_drop (bucket_start b + bucket_length) tree is.bytes));
        }

    -- The bucket's own slots are the parts of its new bytes.
    pub slot-at-same : (j : ℕ) → j < 4 → slot_at (with_bucket tree b bs) b j ≡ take slot_length (drop (slot_length * j) bs)
    unfolding with_bucket
    slot-at-same j g =
        let s = start-length in
        ap (take slot_length)
        (part-after (bucket_start b + slot_length * j) (slot_length * j) (take (bucket_start b) tree)
        (bs ++ drop (bucket_start b + bucket_length) tree) (omega arith))
        ∙ part-before (slot_length * j) slot_length bs (drop (bucket_start b + bucket_length) tree) (omega arith)

    -- Every other bucket's slots are as they were.
    pub slot-at-other : (c j : ℕ) → InTree k c → (c ≡ b → ⊥) → j < 4 → slot_at (with_bucket tree b bs) c j ≡ slot_at tree c j
    unfolding with_bucket
    slot-at-other c j other ne g = go (dec_lt c b)
      where
        l : length tree ≡ tree_length k
        l = is.sized

        go : Dec (c < b) → slot_at (with_bucket tree b bs) c j ≡ slot_at tree c j
        go (yes less) =
            let s = start-length in
            let at = bucket_start c + slot_length * j in
            let before : at + slot_length ≤ bucket_start b = omega arith in
            part-before at slot_length (take (bucket_start b) tree) (bs ++ drop (bucket_start b + bucket_length) tree) (omega arith)
            ∙ sym (part-before at slot_length (take (bucket_start b) tree) (drop (bucket_start b) tree) (omega arith))
            ∙ ap (λ (x : List ℕ). take slot_length (drop at x)) (take-append-drop (bucket_start b) tree)
        go (no not-less) =
            let s = start-length in
            let at = bucket_start c + slot_length * j in
            let over = at - (bucket_start b + bucket_length) in
            let after : bucket_start b + bucket_length + over ≡ at = omega arith in
            ap (take slot_length)
            (part-after at (bucket_length + over) (take (bucket_start b) tree) (bs ++ drop (bucket_start b + bucket_length) tree) (omega arith)
            ∙ part-after (bucket_length + over) over bs (drop (bucket_start b + bucket_length) tree) (omega arith)
            ∙ drop-drop over (bucket_start b + bucket_length) tree
            ∙ ap (λ (n : ℕ). drop n tree) after)

-- ---- the bytes of a bucket, slot by slot
abbrev pub zero_slot : List ℕ
zero_slot = replicate slot_length 0

pub filled-length : (n : ℕ) (slots : List (List ℕ)) → All (λ s. length s ≡ slot_length) slots → length (filled n slots) ≡ slot_length * n
unfolding filled
filled-length zero slots h = refl
filled-length (suc n) [] h =
    let more = filled-length n [] h in
    simp (length-append, length-replicate) (omega arith)
filled-length (suc n) (s ∷ slots) h =
    let more = filled-length n slots (λ x m. h x (Memᴰ.tail m)) in
    let first = h s (Memᴰ.head refl) in
    simp length-append (omega arith)

later-slot : (j : ℕ) (s rest : List ℕ) → length s ≡ slot_length → drop (slot_length * suc j) (s ++ rest) ≡ drop (slot_length * j) rest
later-slot j s rest l = part-after (slot_length * suc j) (slot_length * j) s rest (omega arith)

pub filled-slot : (n j : ℕ) (slots : List (List ℕ)) → All (λ s. length s ≡ slot_length) slots → j < n
    → take slot_length (drop (slot_length * j) (filled n slots)) ≡ get_or slots j zero_slot
unfolding filled
filled-slot zero j slots h g = let z : ⊥ = omega arith in absurd z
filled-slot (suc n) zero [] h g = take_at zero_slot (filled n []) slot_length refl
filled-slot (suc n) (suc j) [] h g =
    ap (take slot_length) (later-slot j zero_slot (filled n []) refl) ∙ filled-slot n j [] h (omega arith)
filled-slot (suc n) zero (s ∷ slots) h g = take_at s (filled n slots) slot_length (h s (Memᴰ.head refl))
filled-slot (suc n) (suc j) (s ∷ slots) h g =
    ap (take slot_length) (later-slot j s (filled n slots) (h s (Memᴰ.head refl)))
    ∙ filled-slot n j slots (λ x m. h x (Memᴰ.tail m)) (omega arith)

pub zero-bytes : (n : ℕ) → Bytes (replicate n 0)
unfolding Bytes
zero-bytes zero = tt
zero-bytes (suc n) = (omega arith, zero-bytes n)

pub filled-bytes : (n : ℕ) (slots : List (List ℕ)) → All Bytes slots → Bytes (filled n slots)
unfolding filled Bytes
filled-bytes zero slots h = tt
filled-bytes (suc n) [] h = bytes-append zero_slot (filled n []) (zero-bytes slot_length) (filled-bytes n [] h)
filled-bytes (suc n) (s ∷ slots) h =
    bytes-append s (filled n slots) (h s (Memᴰ.head refl)) (filled-bytes n slots (λ x m. h x (Memᴰ.tail m)))
