-- The waiting elements stay in ascending order of keys: joined, with one taken out, chosen from and evicted. What is left of a list is a
-- sublist of it. Ascending keys are distinct.
use Rattle.std.specs.Prelude.{◌≡◌, Bool, ℕ, ◌<◌, eqb}
use Rattle.std.proofs.Math.Path.{refl, ap}
use Rattle.std.proofs.Common.{◌∙◌, ⊎_elim}
use Rattle.std.proofs.Math.Bool.{true, false, and-eq-true_iff}
use mathlib.Core.List.Memᴰ
use mathlib.Core.List.Sublistᴰ
use mathlib.Core.List.{List, [], ◌∷◌, ◌++◌, Memᴰ, Sublistᴰ}
use Rattle.std.proofs.Math.Option.{Option, none, some}
use native.Mathlib.Omega.{arith}
use borrow.Author.Tests.{ltb-true, ltb-false, lt-ltb}
use Rattle.std.proofs.Math.Dec.{ltb}
use Rattle.list_spec.specs.Choice.{pick}
use Rattle.list_spec.specs.Ascending.{ascending_from, ascending}
use Rattle.list_spec.specs.Perm.{trans}
use Rattle.list_laws.specs.PermLaws.{perm-sym, perm-front, perm-append-left, perm-map}
use Rattle.list_spec.specs.Distinct.{Distinct, All}
use Rattle.list_laws.specs.DistinctLaws.{all_nil, all_cons, all-perm, distinct-perm}
use Rattle.slot_spec.specs.Tree.{path}
use Rattle.round_spec.specs.Format.{Format}
use Rattle.round_spec.specs.Round.{Hand, Wish, keys_of, insert, join, take_first, granted, choose, evict, read_half, write_half}
use Rattle.round_laws.specs.Lists.{insert-perm, choose-keeps}
use Rattle.round_laws.specs.Evict.{after_bucket, evict-none, evict-step}
use Rattle.round_laws.specs.ReadHalf.{distinct-but-last, tagged-same, found, read-half-says}
use Rattle.round_spec.specs.Whole.{Ascending}

sublist-member : {A : Type 0} {a : A} {xs ys : List A} → Sublistᴰ xs ys → Memᴰ a xs → Memᴰ a ys
sublist-member Sublistᴰ.slnil m = m
sublist-member (Sublistᴰ.cons l) m = Memᴰ.tail (sublist-member l m)
sublist-member {a} (Sublistᴰ.cons-cons {a = x} {b = y} {l₁ = xs} {l₂ = ys} q l) m =
    ⊎_elim {A = a ≡ x} {B = Memᴰ a xs} {C = Memᴰ a (y ∷ ys)} (λ e. Memᴰ.head (e ∙ q))
    (λ n. Memᴰ.tail (sublist-member l n)) (Memᴰ.cases_cons m)

module _ {E : Type 0} (F : Format E) where
  -- The key of each element is less than those of all after it.
  Sorted : List E → Type 0
  Sorted [] = Unit
  Sorted (e ∷ es) = All (λ a. F.key e < F.key a) es × Sorted es

  sorted-from : (e : E) (es : List E) → ascending_from (F.key e) (keys_of F es) ≡ true → Sorted (e ∷ es)
  unfolding ascending_from Sorted
  sorted-from e [] h = (all_nil (λ a. F.key e < F.key a), tt)
  sorted-from e (a ∷ es) h =
      let r = (and-eq-true_iff (ltb (F.key e) (F.key a)) (ascending_from (F.key a) (keys_of F es))).0 h in
      let less = ltb-true (F.key e) (F.key a) r.0 in
      let more = sorted-from a es r.1 in
      (all_cons {P = λ d. F.key e < F.key d} less (λ d m. omega (arith, more.0 d m)), more)

  from_sorted : (e : E) (es : List E) → Sorted (e ∷ es) → ascending_from (F.key e) (keys_of F es) ≡ true
  unfolding ascending_from Sorted
  from_sorted e [] s = refl
  from_sorted e (a ∷ es) s = rw (lt-ltb (F.key e) (F.key a) (s.0 a (Memᴰ.head refl))) (from_sorted a es s.1)

  to_sorted : (es : List E) → Ascending F es → Sorted es
  unfolding ascending Sorted
  to_sorted [] h = tt
  to_sorted (e ∷ es) h = sorted-from e es h

  of-sorted : (es : List E) → Sorted es → Ascending F es
  unfolding ascending
  of-sorted [] s = refl
  of-sorted (e ∷ es) s = from_sorted e es s

  sorted-distinct : (es : List E) → Sorted es → Distinct (keys_of F es)
  unfolding Sorted
  sorted-distinct [] s = tt
  sorted-distinct (e ∷ es) s = (
    λ m. let r = Memᴰ.of_map F.key es m in let less = s.0 r.0 r.1 in let q = r.2 in let z : ⊥ = omega arith in z,
    sorted-distinct es s.1,
  )

  -- Ascending keys are distinct.
  pub ascending-distinct : (es : List E) → Ascending F es → Distinct (keys_of F es)
  ascending-distinct es h = sorted-distinct es (to_sorted es h)

  -- ---- what is left of a list
  sorted-sublist : {es ws : List E} → Sublistᴰ es ws → Sorted ws → Sorted es
  unfolding Sorted
  sorted-sublist Sublistᴰ.slnil s = tt
  sorted-sublist (Sublistᴰ.cons l) s = sorted-sublist l s.1
  sorted-sublist (Sublistᴰ.cons-cons {a = e} {b = w} {l₁ = es} {l₂ = ws} q l) s = (
    λ a m. let less = s.0 a (sublist-member l m) in let same : F.key e ≡ F.key w = ap F.key q in omega arith,
    sorted-sublist l s.1,
  )

  pub ascending-sublist : {es ws : List E} → Sublistᴰ es ws → Ascending F ws → Ascending F es
  ascending-sublist {es} {ws} l h = of-sorted es (sorted-sublist l (to_sorted ws h))

  -- ---- join
  insert-sorted : (e : E) (ws : List E) → (¬ Memᴰ (F.key e) (keys_of F ws)) → Sorted ws → Sorted (insert F e ws)
  unfolding insert Sorted
  insert-sorted e [] new s = (all_nil (λ a. F.key e < F.key a), tt)
  insert-sorted e (w ∷ ws) new s =
      go (insert-sorted e ws (λ m. new (Memᴰ.tail m)) s.1) (ltb (F.key e) (F.key w)) refl
    where
      go : Sorted (insert F e ws) → (t : Bool) → ltb (F.key e) (F.key w) ≡ t → Sorted (pick t (e ∷ w ∷ ws) (w ∷ insert F e ws))
      go more true q =
          let less = ltb-true (F.key e) (F.key w) q in
          (all_cons {P = λ a. F.key e < F.key a} less (λ a m. omega (arith, s.0 a m)), (s.0, s.1))
      go more false q =
          let le = ltb-false (F.key e) (F.key w) q in
          let other : F.key e ≡ F.key w → ⊥ = λ p. new (Memᴰ.head p) in
          let less : F.key w < F.key e = omega arith in
          (all-perm {P = λ a. F.key w < F.key a} (perm-sym (insert-perm F e ws)) (all_cons {P = λ a. F.key w < F.key a} less s.0), more)

  pub ascending-insert : (e : E) (ws : List E) → (¬ Memᴰ (F.key e) (keys_of F ws)) → Ascending F ws → Ascending F (insert F e ws)
  ascending-insert e ws new h = of-sorted (insert F e ws) (insert-sorted e ws new (to_sorted ws h))

  pub ascending-join : (es ws : List E) → Distinct (keys_of F es ++ keys_of F ws) → Ascending F ws → Ascending F (join F es ws)
  unfolding join
  ascending-join [] ws d h = h
  ascending-join (e ∷ es) ws d h =
      ascending-join es (insert F e ws)
      (distinct-perm
      (trans (perm-sym (perm-front (keys_of F es) (F.key e) (keys_of F ws)))
      (perm-append-left (keys_of F es) (perm-sym (perm-map F.key (insert-perm F e ws)))))
      d)
      (ascending-insert e ws (λ m. d.0 (Memᴰ.append_right (keys_of F es) m)) h)

  -- ---- take out
  pub take-sublist : (key : ℕ) (ws : List E) → Sublistᴰ (take_first F key ws).waiting ws
  unfolding take_first
  take-sublist key [] = Sublistᴰ.slnil
  take-sublist key (w ∷ ws) = go (eqb key (F.key w)) (take-sublist key ws)
    where
      go : (t : Bool) → Sublistᴰ (take_first F key ws).waiting ws
          → (let h : Hand E = pick t (record { taken = some w; waiting = ws }) (record { taken = (take_first F key ws).taken; waiting = w ∷ (take_first F key ws).waiting }) in
          Sublistᴰ h.waiting (w ∷ ws))
      go true l = Sublistᴰ.cons (Sublistᴰ.refl ws)
      go false l = Sublistᴰ.cons-cons refl l

  pub granted-sublist : (w : Option Wish) (ws : List E) (h : Hand E) → granted F w ws ≡ some h → Sublistᴰ h.waiting ws
  unfolding granted
  granted-sublist none ws h q = let e : h ≡ record { taken = none; waiting = ws } = cc in rw e (Sublistᴰ.refl ws)
  granted-sublist (some w) ws h q =
      let e = tagged-same F w.tag (take_first F w.key ws) h q in
      rw e (take-sublist w.key ws)

  -- ---- choose and evict
  pub chosen-sublist : (k b n : ℕ) (ws : List E) → Sublistᴰ (choose F k b n ws).ins ws
  chosen-sublist k b =
      choose-keeps F k b (λ n ws c. Sublistᴰ c.ins ws) (λ n ws. Sublistᴰ.nil-sublist ws)
      (λ n e es c q l. Sublistᴰ.cons-cons refl l) (λ n e es c l. Sublistᴰ.cons l)

  pub left-sublist : (k b n : ℕ) (ws : List E) → Sublistᴰ (choose F k b n ws).left ws
  left-sublist k b =
      choose-keeps F k b (λ n ws c. Sublistᴰ c.left ws) (λ n ws. Sublistᴰ.refl ws)
      (λ n e es c q l. Sublistᴰ.cons l) (λ n e es c l. Sublistᴰ.cons-cons refl l)

  pub evict-sublist : (k : ℕ) (bs : List ℕ) (ws : List E) (tree : List ℕ) → Sublistᴰ (evict F k bs ws tree).waiting ws
  evict-sublist k [] ws tree = rw evict-none (Sublistᴰ.refl ws)
  evict-sublist k (b ∷ bs) ws tree =
      rw evict-step
      (Sublistᴰ.trans (evict-sublist k bs (choose F k b 4 ws).left (after_bucket F k b ws tree)) (left-sublist k b 4 ws))

  -- ---- the round
  module _ (k : ℕ) (tree : List ℕ) (t : ℕ) (w : Option Wish) (held : List ℕ) (waiting : List E) (h : Hand E)
      (read : read_half F k tree t w held waiting ≡ some h) (before : Ascending F waiting) where
    -- After the read half.
    pub ascending-read : Ascending F h.waiting
    ascending-read =
        let r = read-half-says F k tree t w held waiting h read in
        ascending-sublist (granted-sublist w (join F (found F k tree t) waiting) h r.grants)
        (ascending-join (found F k tree t) waiting
        (distinct-but-last (keys_of F (found F k tree t)) (keys_of F waiting) held r.none-twice) before)

    -- After the round.
    pub ascending-round : Ascending F (write_half F k t h.waiting tree).waiting
    ascending-round = ascending-sublist (evict-sublist k (path k t) h.waiting tree) ascending-read
