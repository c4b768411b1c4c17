-- The plain heap as a collection with repeats: it stays ascending, and equal collections are equal lists.
use Rattle.std.specs.Prelude.{◌≡◌, refl, Bool, true, false, List, [], ◌∷◌, ℕ, suc, ◌≤◌, ltb, leb, length}
use Rattle.std.proofs.Common.{sym, ap₂, le_refl, arith, leb-true, leb-false}
use mathlib.Core.List.Memᴰ
use Rattle.list_spec.specs.Choice.{pick}
use Rattle.list_spec.specs.Perm.{Perm, cons, swap, trans}
use Rattle.list_spec.specs.Distinct.{All}
use Rattle.list_laws.specs.PermLaws.{perm-refl, perm-sym, perm-of-eq, perm-length, perm-member, perm-nil, perm-cancel}
use Rattle.list_laws.specs.DistinctLaws.{all_nil, all_cons, all-perm}
use Rattle.method_spec.specs.Answer.{heap, Op, add, take}
use Rattle.method_spec.specs.Plain.{enter, taken_from, plain}
use Rattle.method_spec.specs.HeapShape.{Sorted}

-- ---- one more number

pub enter-perm : (v : ℕ) (vs : List ℕ) → Perm (enter v vs) (v ∷ vs)
unfolding enter
enter-perm v [] = perm-refl (v ∷ [])
enter-perm v (w ∷ ws) = go (leb v w) (enter-perm v ws)
  where
    go : (b : Bool) → Perm (enter v ws) (v ∷ ws) → Perm (pick b (v ∷ w ∷ ws) (w ∷ enter v ws)) (v ∷ w ∷ ws)
    go true p = perm-refl (v ∷ w ∷ ws)
    go false p = trans (cons w p) (swap w v ws)

pub enter-length : (v : ℕ) (vs : List ℕ) → length (enter v vs) ≡ suc (length vs)
enter-length v vs = perm-length (enter-perm v vs)

pub enter-sorted : (v : ℕ) (vs : List ℕ) → Sorted vs → Sorted (enter v vs)
unfolding enter
enter-sorted v [] h = (all_nil (λ w. v ≤ w), tt)
enter-sorted v (w ∷ ws) h = go (leb v w) refl (enter-sorted v ws h.1)
  where
    go : (b : Bool) → leb v w ≡ b → Sorted (enter v ws) → Sorted (pick b (v ∷ w ∷ ws) (w ∷ enter v ws))
    go true t s =
        let le = leb-true v w t in
        (all_cons {P = λ x. v ≤ x} le (λ x m. omega (arith, h.0 x m)), h)
    go false t s =
        let le = leb-false v w t in
        let less : w ≤ v = omega arith in
        (all-perm {P = λ x. w ≤ x} (perm-sym (enter-perm v ws)) (all_cons {P = λ x. w ≤ x} less h.0), s)

-- ---- calls

-- What the plain heap holds stays ascending.
pub plain-sorted : (limit : ℕ) (op : Op heap) (vs : List ℕ) → Sorted vs → Sorted (plain limit op vs).contents
unfolding plain taken_from
plain-sorted limit (add v) vs h = go (ltb (length vs) limit) refl
  where
    go : (b : Bool) → ltb (length vs) limit ≡ b → Sorted (plain limit (add v) vs).contents
    go true e = rw e (enter-sorted v vs h)
    go false e = rw e h
plain-sorted limit take [] h = tt
plain-sorted limit take (v ∷ vs) h = h.1

-- ---- equal collections

-- The first of an ascending list is at most each number of the collection.
first-least : (v : ℕ) (vs : List ℕ) → Sorted (v ∷ vs) → All (λ w. v ≤ w) (v ∷ vs)
first-least v vs h = all_cons {P = λ w. v ≤ w} (le_refl v) h.0

pub sorted-once : (vs ws : List ℕ) → Sorted vs → Sorted ws → Perm vs ws → vs ≡ ws
sorted-once [] ws h k p = sym (perm-nil (perm-sym p))
sorted-once (v ∷ vs) [] h k p = perm-nil p
sorted-once (v ∷ vs) (w ∷ ws) h k p =
    let low : v ≤ w = first-least v vs h w (perm-member (perm-sym p) (Memᴰ.head refl)) in
    let high : w ≤ v = first-least w ws k v (perm-member p (Memᴰ.head refl)) in
    let same : v ≡ w = omega arith in
    let others : Perm vs ws = perm-cancel (trans p (perm-of-eq (ap₂ (λ (a : ℕ) (l : List ℕ). a ∷ l) (sym same) refl))) in
    ap₂ (λ (a : ℕ) (l : List ℕ). a ∷ l) same (sorted-once vs ws h.1 k.1 others)
