-- Opening, check by check.
use Rattle.std.specs.Prelude.{◌≡◌, refl, true, false, List, [], ◌∷◌, ◌++◌, ℕ, zero, suc, ◌+◌, ◌^◌, ◌<◌, ◌≤◌, ◌%◌, length, take, drop, replicate}
use Rattle.std.proofs.Common.{sym, ◌∙◌, ap, ap₂, subst, append_assoc, zero-add, suc-add, arith, pow_mono, drop-drop}
use Rattle.std.proofs.lemmas.List.{length-replicate}
use Rattle.std.proofs.Math.Seq.{take-append_seam, drop-append_seam}
use borrow.Author.Tests.{eq-eqb, ne_eqb}
use Rattle.slot_spec.specs.Tree.{bucket_length, tree_length}
use Rattle.slot_spec.specs.Slot.{filled, bucket_bytes}
use Rattle.state_spec.specs.Fit.{in_range, largest_structure, largest_size}
use Rattle.state_spec.specs.Opening.{opened, closed_with, fresh}

module _ (structure size : ℕ) (tree : List ℕ) where
  pub no-structure : in_range structure largest_structure ≡ false → opened structure size tree ≡ record { state = closed_with 11; tree = tree }
  unfolding opened
  no-structure a = rw a

  pub no_size : in_range structure largest_structure ≡ true → in_range size largest_size ≡ false
      → opened structure size tree ≡ record { state = closed_with 12; tree = tree }
  unfolding opened
  no_size a b = rw (a, b)

  pub other_length : in_range structure largest_structure ≡ true → in_range size largest_size ≡ true → (length tree ≡ tree_length size → ⊥)
      → opened structure size tree ≡ record { state = closed_with 3; tree = tree }
  unfolding opened
  other_length a b h = rw (a, b, ne_eqb (length tree) (tree_length size) h)

  pub good-opening : in_range structure largest_structure ≡ true → in_range size largest_size ≡ true → length tree ≡ tree_length size
      → opened structure size tree ≡ record { state = fresh structure size; tree = replicate (length tree) 0 }
  unfolding opened
  good-opening a b h = rw (a, b, eq-eqb (length tree) (tree_length size) h)

-- ---- the tree is cleared bucket by bucket
abbrev pub zeros : ℕ → List ℕ
zeros n = replicate n 0

zeros-more : (a n : ℕ) → zeros a ++ zeros n ≡ zeros (a + n)
zeros-more zero n = ap zeros (sym (zero-add n))
zeros-more (suc a) n = ap (λ (l : List ℕ). 0 ∷ l) (zeros-more a n) ∙ ap zeros (sym (suc-add a n))

empty-bucket : bucket_bytes [] ≡ zeros bucket_length
unfolding filled
empty-bucket = refl

-- One bucket more: what was lent on came back as zero bytes.
pub cleared_more : (tree now part : List ℕ) (a n : ℕ) → n ≡ bucket_length → now ≡ zeros a ++ drop a tree → part ≡ bucket_bytes []
    → take a now ++ (part ++ drop n (drop a now)) ≡ zeros (a + bucket_length) ++ drop (a + bucket_length) tree
cleared_more tree now part a n q e p =
    let l : length (zeros a) ≡ a = length-replicate a 0 in
    let first : take a now ≡ zeros a = ap (take a) e ∙ subst (λ (i : ℕ). take i (zeros a ++ drop a tree) ≡ zeros a) l (take-append_seam (zeros a) (drop a tree)) in
    let rest : drop a now ≡ drop a tree = ap (drop a) e ∙ subst (λ (i : ℕ). drop i (zeros a ++ drop a tree) ≡ drop a tree) l (drop-append_seam (zeros a) (drop a tree)) in
    ap₂ (λ (x y : List ℕ). x ++ y) first (ap₂ (λ (x y : List ℕ). x ++ y) (p ∙ empty-bucket) (ap₂ drop q rest ∙ drop-drop bucket_length a tree))
    ∙ sym (append_assoc (zeros a) (zeros bucket_length) (drop (a + bucket_length) tree))
    ∙ ap (λ (x : List ℕ). x ++ drop (a + bucket_length) tree) (zeros-more a bucket_length)

-- A tree of a size up to 8 has whole buckets, and not too many.
pub whole-buckets : (k n : ℕ) → k ≤ 8 → n ≡ tree_length k → (n < 2 ^ 32) × (n % bucket_length ≡ 0)
whole-buckets k n h e = let p : 2 ^ (k + 1) ≤ 2 ^ 9 = pow_mono {i = k + 1} {j = 9} (omega arith) in (omega (arith, e), omega (arith, e))
