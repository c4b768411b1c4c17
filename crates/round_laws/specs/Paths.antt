-- The buckets of a path are buckets of the tree, none of them twice: so all buckets are, in another order, the path and the others.
use Rattle.std.specs.Prelude.{◌≡◌, refl, ◌⊎◌, ℕ, zero, suc, ◌+◌, ◌-◌, ◌*◌, ◌/◌, ◌^◌, ◌≤◌, ◌<◌}
use Rattle.std.proofs.Common.{sym, inl, inr, pow-suc, add-one, arith, pow_pos}
use mathlib.Core.List.Memᴰ
use mathlib.Core.List.{List, [], ◌∷◌, ◌++◌, Memᴰ}
use Rattle.std.proofs.Math.Decide.{dec_le}
use Rattle.list_spec.specs.Perm.{Perm, cons, trans}
use Rattle.list_laws.specs.PermLaws.{perm-refl, perm-sym, perm-remove, perm-member}
use Rattle.list_spec.specs.Distinct.{Distinct, Disjoint, All}
use Rattle.list_laws.specs.DistinctLaws.{all_nil, all_cons, all_append, distinct-perm, distinct_append, distinct-disjoint}
use Rattle.slot_spec.specs.Tree.{halvings, path}
use Rattle.round_spec.specs.Whole.{up_to, all_buckets, InTree}

-- ---- all buckets
up-to-range : (n : ℕ) → All (λ b. (1 ≤ b) × (b ≤ n)) (up_to n)
unfolding up_to
up-to-range zero = all_nil (λ b. (1 ≤ b) × (b ≤ zero))
up-to-range (suc n) =
    let before = up-to-range n in
    all_append {P = λ b. (1 ≤ b) × (b ≤ suc n)} (up_to n) (λ b m. let r = before b m in (r.0, omega arith))
    (λ b m. let e = Memᴰ.eq_of_singleton m in (omega arith, omega arith))

up-to-member : (n b : ℕ) → 1 ≤ b → b ≤ n → Memᴰ b (up_to n)
unfolding up_to
up-to-member zero b h g = let z : ⊥ = omega arith in absurd z
up-to-member (suc n) b h g = go (up-to-member n b h) (dec_le b n)
  where
    go : (b ≤ n → Memᴰ b (up_to n)) → Dec (b ≤ n) → Memᴰ b (up_to n ++ (suc n ∷ []))
    go more (yes l) = Memᴰ.append_left (suc n ∷ []) (more l)
    go more (no l) = Memᴰ.append_right (up_to n) (Memᴰ.head (omega arith))

up-to-distinct : (n : ℕ) → Distinct (up_to n)
unfolding up_to
up-to-distinct zero = tt
up-to-distinct (suc n) =
    distinct_append (up_to n) (suc n ∷ []) (up-to-distinct n) (Memᴰ.not-nil, tt)
    (λ b m k. let r = up-to-range n b m in let e = Memᴰ.eq_of_singleton k in let z : ⊥ = omega arith in z)

pub all-in-tree : (k : ℕ) → All (InTree k) (all_buckets k)
all-in-tree k b m =
    let r = up-to-range (2 ^ (k + 1) - 1) b m in
    let p : 0 < 2 ^ (k + 1) = pow_pos (k + 1) in
    (r.0, omega arith)

pub in-tree-member : (k b : ℕ) → InTree k b → Memᴰ b (all_buckets k)
in-tree-member k b h = up-to-member (2 ^ (k + 1) - 1) b h.0 (omega arith)

pub all-distinct : (k : ℕ) → Distinct (all_buckets k)
all-distinct k = up-to-distinct (2 ^ (k + 1) - 1)

-- ---- a path
halvings-range : (n b : ℕ) → 2 ^ n ≤ b → All (λ c. (1 ≤ c) × (c ≤ b)) (halvings n b)
unfolding halvings
halvings-range zero b h = all_cons {P = λ c. (1 ≤ c) × (c ≤ b)} (omega arith, omega arith) (all_nil (λ c. (1 ≤ c) × (c ≤ b)))
halvings-range (suc n) b h =
    let more = halvings-range n (b / 2) (omega arith) in
    let p : 0 < 2 ^ n = pow_pos n in
    all_cons {P = λ c. (1 ≤ c) × (c ≤ b)} (omega arith, omega arith)
    (λ c m. let r = more c m in (r.0, omega arith))

-- Halving falls strictly.
halvings-distinct : (n b : ℕ) → 2 ^ n ≤ b → Distinct (halvings n b)
unfolding halvings
halvings-distinct zero b h = (Memᴰ.not-nil, tt)
halvings-distinct (suc n) b h =
    let p : 0 < 2 ^ n = pow_pos n in (
      λ m. let r = halvings-range n (b / 2) (omega arith) b m in let z : ⊥ = omega arith in z,
      halvings-distinct n (b / 2) (omega arith),
    )

pub path-distinct : (k t : ℕ) → Distinct (path k t)
path-distinct k t = halvings-distinct k (2 ^ k + t) (omega arith)

pub path-in-tree : (k t : ℕ) → t < 2 ^ k → All (InTree k) (path k t)
path-in-tree k t h b m =
    let r = halvings-range k (2 ^ k + t) (omega arith) b m in
    let e : 2 ^ (k + 1) ≡ 2 ^ k * 2 = rw add-one (pow-suc 2 k) in
    (r.0, omega arith)

-- ---- the others
-- Elements that stand in a list come to its front.
gathered : {A : Type 0} (xs ys : List A) → Distinct xs → All (λ a. Memᴰ a ys) xs → (zs : List A) × Perm ys (xs ++ zs)
gathered [] ys d h = (ys, perm-refl ys)
gathered {A} (x ∷ xs) ys d h =
    let r = perm-remove (h x (Memᴰ.head refl)) in
    let s = gathered xs r.0 d.1 (λ a m. go a m (Memᴰ.cases_cons (perm-member r.1 (h a (Memᴰ.tail m))))) in
    (s.0, trans r.1 (cons x s.1))
  where
    go : (a : A) → Memᴰ a xs → {zs : List A} → (a ≡ x) ⊎ Memᴰ a zs → Memᴰ a zs
    go a m (inl e) = absurd (d.0 (Memᴰ.cast (sym e) m))
    go a m (inr n) = n

-- All buckets are those of the path and the others.
pub path-and-others : (k t : ℕ) → t < 2 ^ k → (others : List ℕ) × Perm (all_buckets k) (path k t ++ others)
path-and-others k t h =
    gathered (path k t) (all_buckets k) (path-distinct k t) (λ b m. in-tree-member k b (path-in-tree k t h b m))

-- The others are off the path.
pub others-off : (k t : ℕ) (others : List ℕ) → Perm (all_buckets k) (path k t ++ others) → Disjoint (path k t) others
others-off k t others p = distinct-disjoint (path k t) others (distinct-perm p (all-distinct k))

pub others-in-tree : (k t : ℕ) (others : List ℕ) → Perm (all_buckets k) (path k t ++ others) → All (InTree k) others
others-in-tree k t others p b m = all-in-tree k b (perm-member (perm-sym p) (Memᴰ.append_right (path k t) m))
