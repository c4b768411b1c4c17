-- Clearing only the full slots of a path is clearing the path: zero bytes that are written to an all-zero slot change nothing, and
-- zero bytes can be written in any order.
use Rattle.std.specs.Prelude.{◌≡◌, refl, Bool, true, false, List, [], ◌∷◌, ◌++◌, ℕ, zero, suc, ◌+◌, ◌-◌, ◌*◌, ◌/◌, ◌%◌, ◌^◌, ◌≤◌, ◌<◌, eqb, length, take, drop, get_or, set, replicate}
use Rattle.std.proofs.Common.{sym, ◌∙◌, ap, ap₂, add-one, arith, length-take, length-drop, drop_of_length-le, drop-cons, get_or-take, eqb-true}
use mathlib.Core.List.Memᴰ
use Rattle.std.proofs.lemmas.List.Edits.{sets}
use Rattle.std.proofs.Math.Seq.{length-sets}
use Rattle.std.proofs.lemmas.List.{set_comm}
use Rattle.std.proofs.lemmas.Bool.{eqb-false}
use Rattle.list_spec.specs.Choice.{pick}
use Rattle.list_spec.specs.Distinct.{All}
use Rattle.slot_spec.specs.Tree.{slot_length, bucket_start, bucket_length, tree_length, halvings, leaf_bucket, path}
use Rattle.slot_spec.specs.Slot.{all_zero, slot_bytes, filled, bucket_bytes}
use Rattle.slot_laws.specs.SlotLaws.{all-zero-replicate, slot-length}
use Rattle.slot_spec.specs.LittleEndian.{bytes}
use Rattle.round_spec.specs.Round.{with_bucket}
use Rattle.slot_spec.specs.Row.{zero_slot}
use Rattle.word_round_laws.specs.SlotRow.{levels}
use Rattle.word_round_laws.specs.Fill.{cleared, emptied}
use Rattle.word_round_laws.specs.Gather.{slot_from, four_from, slot_starts, full_starts, PathGathered}
use Rattle.list_laws.specs.DistinctLaws.{all_nil, all_cons, all_append, all_get_d}
use Rattle.word_round_laws.specs.GatherLaws.{Within, inside, starts-within, full-all}
use Rattle.word_round_laws.specs.StoreLaws.{sets-append, sets-own, with-sets, part-stored, bucket-lent}

-- ---- runs of zero bytes
zero-bytes : slot_bytes zero_slot ≡ replicate slot_length 0
unfolding slot_bytes bytes
zero-bytes = refl

set-zeros : (l : List ℕ) (i j : ℕ) → set (set l i 0) j 0 ≡ set (set l j 0) i 0
set-zeros l i j = go (eqb i j) refl
  where
    go : (t : Bool) → eqb i j ≡ t → set (set l i 0) j 0 ≡ set (set l j 0) i 0
    go true q = rw (eqb-true i j q)
    go false q = set_comm l i j 0 0 (eqb-false i j q)

zero-exchange : (l : List ℕ) (i j n : ℕ) → set (sets l j (replicate n 0)) i 0 ≡ sets (set l i 0) j (replicate n 0)
zero-exchange l i j zero = refl
zero-exchange l i j (suc n) =
    zero-exchange (set l j 0) i (suc j) n
    ∙ ap (λ (m : List ℕ). sets m (suc j) (replicate n 0)) (set-zeros l j i)

zeros-exchange : (l : List ℕ) (i m j n : ℕ) → sets (sets l j (replicate n 0)) i (replicate m 0) ≡ sets (sets l i (replicate m 0)) j (replicate n 0)
zeros-exchange l i zero j n = refl
zeros-exchange l i (suc m) j n =
    ap (λ (k : List ℕ). sets k (suc i) (replicate m 0)) (zero-exchange l i j n)
    ∙ zeros-exchange (set l i 0) (suc i) m j n

-- ---- some slots emptied
emptied-append : (tree xs ys : List ℕ) → emptied tree (xs ++ ys) ≡ emptied (emptied tree xs) ys
unfolding emptied
emptied-append tree [] ys = refl
emptied-append tree (x ∷ xs) ys = emptied-append (sets tree x (slot_bytes zero_slot)) xs ys

-- One before the others, or after them.
emptied-exchange : (tree : List ℕ) (at : ℕ) (ats : List ℕ) → emptied (sets tree at (slot_bytes zero_slot)) ats ≡ sets (emptied tree ats) at (slot_bytes zero_slot)
unfolding emptied
emptied-exchange tree at [] = refl
emptied-exchange tree at (x ∷ ats) =
    ap (λ (m : List ℕ). emptied m ats) (rw zero-bytes (zeros-exchange tree x slot_length at slot_length))
    ∙ emptied-exchange (sets tree x (slot_bytes zero_slot)) at ats

-- A slot that is all zero stays as it is.
empty-same : (tree : List ℕ) (at : ℕ) → Within tree at → all_zero (slot_from tree at) ≡ true → sets tree at (slot_bytes zero_slot) ≡ tree
empty-same tree at h z =
    let n : length (slot_from tree at) ≡ slot_length = simp (length-take, length-drop) (omega arith) in
    let e : slot_bytes zero_slot ≡ slot_from tree at = zero-bytes ∙ sym (all-zero-replicate (slot_from tree at) z ∙ ap (λ (i : ℕ). replicate i 0) n) in
    ap (sets tree at) e ∙ sets-own tree at slot_length h

pub full-emptied : (tree ats : List ℕ) → All (Within tree) ats → emptied tree (full_starts tree ats) ≡ emptied tree ats
unfolding full_starts emptied
full-emptied tree [] h = refl
full-emptied tree (at ∷ ats) h =
    go (full-emptied tree ats (λ a m. h a (Memᴰ.tail m))) (h at (Memᴰ.head refl)) (all_zero (slot_from tree at)) refl
  where
    go : emptied tree (full_starts tree ats) ≡ emptied tree ats → Within tree at → (z : Bool) → all_zero (slot_from tree at) ≡ z
        → emptied tree (pick z [] (at ∷ []) ++ full_starts tree ats) ≡ emptied (sets tree at (slot_bytes zero_slot)) ats
    go more w true q = more ∙ ap (λ (m : List ℕ). emptied m ats) (sym (empty-same tree at w q))
    go more w false q =
        emptied-exchange tree at (full_starts tree ats)
        ∙ ap (λ (m : List ℕ). sets m at (slot_bytes zero_slot)) more
        ∙ sym (emptied-exchange tree at ats)

-- ---- buckets emptied slot by slot
-- The first of some slots gets zero bytes, and then the others.
zeros-first : (tree : List ℕ) (at next n : ℕ) → next ≡ at + slot_length → sets tree at (filled (suc n) []) ≡ sets (sets tree at (slot_bytes zero_slot)) next (filled n [])
unfolding filled
zeros-first tree at next n e = sets-append tree at (replicate slot_length 0) (filled n []) ∙ rw (zero-bytes, e)

bucket-emptied : (tree : List ℕ) (b : ℕ) → bucket_start b + bucket_length ≤ length tree → with_bucket tree b (bucket_bytes []) ≡ emptied tree (four_from (bucket_start b))
unfolding filled emptied
bucket-emptied tree b h =
    let at = bucket_start b in
    let one = sets tree at (slot_bytes zero_slot) in
    let two = sets one (at + 32) (slot_bytes zero_slot) in
    let three = sets two (at + 64) (slot_bytes zero_slot) in
    let z : at + 0 ≡ at = omega arith in
    rw z
    (with-sets tree b (bucket_bytes []) refl h
    ∙ zeros-first tree at (at + 32) 3 refl
    ∙ zeros-first one (at + 32) (at + 64) 2 (omega arith)
    ∙ zeros-first two (at + 64) (at + 96) 1 (omega arith)
    ∙ zeros-first three (at + 96) (at + 128) 0 (omega arith))

emptied-length : (tree ats : List ℕ) → length (emptied tree ats) ≡ length tree
unfolding emptied
emptied-length tree [] = refl
emptied-length tree (at ∷ ats) = emptied-length (sets tree at (slot_bytes zero_slot)) ats ∙ length-sets tree at (slot_bytes zero_slot)

path-emptied : (n b : ℕ) (tree : List ℕ) → bucket_start b + bucket_length ≤ length tree → cleared tree (halvings n b) ≡ emptied tree (slot_starts (halvings n b))
unfolding halvings cleared slot_starts
path-emptied zero b tree h = bucket-emptied tree b h
path-emptied (suc n) b tree h =
    let e = bucket-emptied tree b h in
    let rest = slot_starts (halvings n (b / 2)) in
    ap (λ (m : List ℕ). cleared m (halvings n (b / 2))) e
    ∙ path-emptied n (b / 2) (emptied tree (four_from (bucket_start b))) (rw (emptied-length tree (four_from (bucket_start b))) (omega arith))
    ∙ sym (emptied-append tree (four_from (bucket_start b)) rest)

-- ---- a slot in its bucket
-- It starts at a multiple of a slot's length.
abbrev pub Aligned : ℕ → Type 0
Aligned at = at % slot_length ≡ 0

four-aligned : (b : ℕ) (rest : List ℕ) → All Aligned rest → All Aligned (four_from (bucket_start b) ++ rest)
four-aligned b rest more =
    let at = bucket_start b in
    all_append {P = Aligned} (four_from at) {ys = rest}
    (all_cons {P = Aligned} {xs = (at + slot_length * 1) ∷ (at + slot_length * 2) ∷ (at + slot_length * 3) ∷ []} (omega arith)
    (all_cons {P = Aligned} {xs = (at + slot_length * 2) ∷ (at + slot_length * 3) ∷ []} (omega arith)
    (all_cons {P = Aligned} {xs = (at + slot_length * 3) ∷ []} (omega arith)
    (all_cons {P = Aligned} {xs = []} (omega arith) (all_nil Aligned)))))
    more

starts-aligned : (n b : ℕ) → All Aligned (slot_starts (halvings n b))
unfolding halvings slot_starts
starts-aligned zero b = four-aligned b [] (all_nil Aligned)
starts-aligned (suc n) b = four-aligned b (slot_starts (halvings n (b / 2))) (starts-aligned n (b / 2))

-- Number i of a path's full slots.
pub start-aligned : (k t : ℕ) (tree starts : List ℕ) (i : ℕ) → starts ≡ full_starts tree (slot_starts (path k t)) → i < length starts → Aligned (get_or starts i 0)
start-aligned k t tree starts i is h =
    all_get_d {P = Aligned} starts
    (rw is (full-all {P = Aligned} tree (slot_starts (path k t)) (starts-aligned k (leaf_bucket k t)))) i 0 h

-- Written as number j of its bucket's part.
pub slot-cleared : (tree part after : List ℕ) (at a n : ℕ) → at + slot_length ≤ length tree → length tree % bucket_length ≡ 0 → Aligned at
    → a ≡ at / bucket_length * bucket_length → n ≡ bucket_length → part ≡ take n (drop a tree) → after ≡ sets part (32 * ((at - a) / slot_length)) (slot_bytes zero_slot)
    → take a tree ++ (after ++ drop n (drop a tree)) ≡ sets tree at (slot_bytes zero_slot)
slot-cleared tree part after at a n h m al q r p e =
    let b = at / bucket_length + 1 in
    let start : a ≡ bucket_start b = omega (arith, q) in
    let off = 32 * ((at - a) / slot_length) in
    let sum : bucket_start b + off ≡ at = omega (arith, q, al) in
    let inside : bucket_start b + bucket_length ≤ length tree = omega (arith, q, h, m, al) in
    let short : length (slot_bytes zero_slot) ≡ 32 = slot-length zero_slot in
    let stored = part-stored tree b off (slot_bytes zero_slot) inside (omega (arith, q, al, short)) in
    let part-is : after ≡ sets (take bucket_length (drop (bucket_start b) tree)) off (slot_bytes zero_slot) =
    e ∙ ap (λ (l : List ℕ). sets l off (slot_bytes zero_slot)) (p ∙ ap₂ (λ (x y : ℕ). take x (drop y tree)) r start) in
    bucket-lent tree after b a n start r
    ∙ ap (with_bucket tree b) part-is
    ∙ stored
    ∙ ap (λ (x : ℕ). sets tree x (slot_bytes zero_slot)) sum

-- ---- the loop over the full slots
-- One more is emptied.
pub emptied-turn : (tree after starts : List ℕ) (i : ℕ) → i < length starts → after ≡ sets tree (get_or starts i 0) (slot_bytes zero_slot)
    → emptied tree (drop i starts) ≡ emptied after (drop (i + 1) starts)
unfolding emptied
emptied-turn tree after starts i h e = rw (add-one i, drop-cons starts i 0 h, e)

pub emptied-end : (tree starts : List ℕ) (i : ℕ) → length starts ≤ i → emptied tree (drop i starts) ≡ tree
unfolding emptied
emptied-end tree starts i h = ap (emptied tree) (drop_of_length-le starts {i = i} h)

-- The path is cleared once its full slots are emptied.
pub path-cleared : (k t : ℕ) (tree starts : List ℕ) → t < 2 ^ k → length tree ≡ tree_length k → starts ≡ full_starts tree (slot_starts (path k t))
    → emptied tree starts ≡ cleared tree (path k t)
path-cleared k t tree starts leaf tree-sized is =
    let h = inside k t tree leaf tree-sized in
    ap (emptied tree) is
    ∙ full-emptied tree (slot_starts (path k t)) (starts-within k (leaf_bucket k t) tree h)
    ∙ sym (path-emptied k (leaf_bucket k t) tree h)
