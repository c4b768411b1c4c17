-- Openings over bytes, check by check.
use Rattle.std.specs.Prelude.{◌≡◌, Result, Ok, Err, Bool, not, ◌&&◌, List, ◌++◌, ℕ, ◌+◌, ◌*◌, ◌%◌, ◌^◌, ◌≤◌, ◌<◌, eqb, drop}
use Rattle.std.proofs.Math.Path.{refl}
use Rattle.std.proofs.Common.{sym, ◌∙◌, ap, ap₂, arith, pow_mono, drop_at}
use Rattle.std.proofs.Math.Bool.{true, false}
use Rattle.std.proofs.Math.ListN.{length, replicate}
use Rattle.std.proofs.lemmas.List.{length-replicate, replicate-append-replicate}
use borrow.Author.Tests.{eqb-true, eq-eqb, ne_eqb}
use Rattle.list_spec.specs.Choice.{pick}
use Rattle.slot_spec.specs.Tree.{slot_length, bucket_length, tree_length}
use Rattle.state_spec.specs.Fit.{in_range, largest_structure, largest_size, places, no_place}
use Rattle.state_spec.specs.Opening.{Opened, empty, closed_with, fresh, opened}
use Rattle.state_laws.specs.FitLaws.{in-range-true}
use Rattle.lent_bytes_spec.specs.declared.StateHead.{StateHead}
use Rattle.lent_bytes_spec.specs.StateBytes.{head_length, state_length, head_bytes, places_bytes, head_for, state_bytes}
use Rattle.lent_bytes_laws.specs.PlaceLaws.{places-none}
use Rattle.host_spec.specs.Host.{host_opening, host_opened}
use Rattle.opening.specs.declared.Unopened.{Unopened}
use Rattle.opening.specs.declared.Unopened.TheVariants.{UnknownStructure, UnknownSize, TreeLength}
use Rattle.opening.specs.Number.{opening_number, number_of, found_number}

abbrev numbered : Bool → Bool → Bool → ℕ
numbered a b c = pick (not a) 11 (pick (not b) 12 (pick (not c) 3 0))

module _ (structure size : ℕ) (tree : List ℕ) where
  abbrev known : Bool
  known = in_range structure largest_structure

  abbrev sized : Bool
  sized = in_range size largest_size

  abbrev long : Bool
  long = eqb (length tree) (tree_length size)

  abbrev number : ℕ
  number = opening_number structure size (length tree)

  abbrev outcome : Bool → Bool → Bool → Opened
  outcome a b c =
      pick (not a) (record { state = closed_with 11; tree = tree }) (pick (not b) (record { state = closed_with 12; tree = tree })
      (pick (not c) (record { state = closed_with 3; tree = tree }) (record { state = fresh structure size; tree = replicate (length tree) 0 })))

  -- Where it is not refused, structure and size are known and the tree has its length.
  pub number-none : number ≡ 0 → ((structure ≤ largest_structure) × ((1 ≤ size) × (size ≤ largest_size))) × (length tree ≡ tree_length size)
  unfolding opening_number
  number-none e = go known refl sized refl long refl e
    where
      go : (a : Bool) → known ≡ a → (b : Bool) → sized ≡ b → (c : Bool) → long ≡ c → numbered a b c ≡ 0
          → ((structure ≤ largest_structure) × ((1 ≤ size) × (size ≤ largest_size))) × (length tree ≡ tree_length size)
      go false ea b eb c ec e = let z : ⊥ = omega (arith, e) in absurd z
      go true ea false eb c ec e = let z : ⊥ = omega (arith, e) in absurd z
      go true ea true eb false ec e = let z : ⊥ = omega (arith, e) in absurd z
      go true ea true eb true ec e = (((in-range-true structure largest_structure ea).1, in-range-true size largest_size eb), eqb-true (length tree) (tree_length size) ec)

  pub opens : number ≡ 0 → opened structure size tree ≡ record { state = fresh structure size; tree = replicate (length tree) 0 }
  unfolding opening_number opened
  opens e = go known sized long e
    where
      go : (a b c : Bool) → numbered a b c ≡ 0
          → outcome a b c ≡ record { state = fresh structure size; tree = replicate (length tree) 0 }
      go false b c e = let z : ⊥ = omega (arith, e) in absurd z
      go true false c e = let z : ⊥ = omega (arith, e) in absurd z
      go true true false e = let z : ⊥ = omega (arith, e) in absurd z
      go true true true e = refl

  pub refuses : (number ≡ 0 → ⊥) → opened structure size tree ≡ record { state = closed_with number; tree = tree }
  unfolding opening_number opened
  refuses n = go known sized long n
    where
      go : (a b c : Bool) → (numbered a b c ≡ 0 → ⊥)
          → outcome a b c ≡ record { state = closed_with (numbered a b c); tree = tree }
      go false b c n = refl
      go true false c n = refl
      go true true false n = refl
      go true true true n = absurd (n refl)

  -- ---- the entry
  module _ (state : List ℕ) where
    pub bad-length : (length state ≡ state_length → ⊥) → host_opening 18 state tree ≡ host_opened structure size state tree
    unfolding host_opened
    bad-length n = rw (ne_eqb (length state) state_length n)

    module _ (good : length state ≡ state_length) where
      pub entry-refuses : (after : List ℕ) → (number ≡ 0 → ⊥) → after ≡ state_bytes (empty number 0 0) → host_opening number after tree ≡ host_opened structure size state tree
      unfolding host_opened
      entry-refuses after n e = rw (eq-eqb (length state) state_length good, refuses n, e)

      pub entry-opens : (after cleared : List ℕ) → number ≡ 0 → after ≡ state_bytes (empty 0 structure size) → cleared ≡ replicate (length tree) 0
          → host_opening 0 after cleared ≡ host_opened structure size state tree
      unfolding host_opened
      entry-opens after cleared z e f = rw (eq-eqb (length state) state_length good, opens z, e, f)

-- What a check found, by its number.
number-some : (cause : Unopened) → number_of cause ≡ 0 → ⊥
number-some UnknownStructure e = omega (arith, e)
number-some UnknownSize e = omega (arith, e)
number-some TreeLength e = omega (arith, e)

module _ {number : ℕ} (found : Result Unit Unopened) (e : found_number found ≡ number) where
  pub found-cause : (cause : Unopened) → found ≡ Err cause → (number_of cause ≡ number) × (number ≡ 0 → ⊥)
  found-cause cause is =
      let same : number_of cause ≡ number = sym (ap found_number is) ∙ e in
      (same, λ z. number-some cause (same ∙ z))

  pub found-none : ((cause : Unopened) → found ≡ Err cause → ⊥) → number ≡ 0
  found-none none = sym e ∙ go found none
    where
      go : (r : Result Unit Unopened) → ((cause : Unopened) → r ≡ Err cause → ⊥) → found_number r ≡ 0
      go (Ok u) none = refl
      go (Err cause) none = absurd (none cause refl)

-- A tree can be cleared bucket by bucket.
pub tree-clears : (size : ℕ) (tree : List ℕ) → size ≤ largest_size → length tree ≡ tree_length size → (length tree < 2 ^ 32) × (length tree % bucket_length ≡ 0)
tree-clears size tree small sized =
    let p : 2 ^ (size + 1) ≤ 2 ^ 9 = pow_mono {i = size + 1} {j = 9} (omega (arith, small)) in
    (omega (arith, p, sized), omega (arith, sized))

-- ---- an empty state
abbrev pub empty_head : (mark structure size : ℕ) → StateHead
empty_head mark structure size =
    record { mark = mark; structure = structure; size = size; height = 0; entries = 0; waiting = 0; key = 0; tag = 0; ahead = 0 }

empty-head : (mark structure size : ℕ) → empty_head mark structure size ≡ head_for (empty mark structure size)
empty-head mark structure size = go (eqb structure 4)
  where
    go : (b : Bool) → empty_head mark structure size ≡ record { mark = mark; structure = structure; size = size; height = 0; entries = 0; waiting = 0; key = pick (b && true) 0 0; tag = 0; ahead = 0 }
    go true = refl
    go false = refl

-- Zero bytes, then the head.
pub empty-written : (state : List ℕ) (mark structure size : ℕ) → length state ≡ state_length → (zeros left : List ℕ) → zeros ≡ replicate (length state) 0
    → left ≡ head_bytes (empty_head mark structure size) ++ drop head_length zeros → left ≡ state_bytes (empty mark structure size)
unfolding state_bytes
empty-written state mark structure size whole zeros left ez el =
    let split : replicate {A = ℕ} (length state) 0 ≡ replicate head_length 0 ++ replicate (slot_length * places) 0 =
    ap (λ (n : ℕ). replicate n 0) whole ∙ sym (replicate-append-replicate {A = ℕ} head_length (slot_length * places) 0) in
    let rest : drop head_length zeros ≡ places_bytes (replicate places no_place) =
    ap (drop head_length) (ez ∙ split)
    ∙ drop_at (replicate head_length 0) (replicate (slot_length * places) 0) head_length (length-replicate {A = ℕ} head_length 0)
    ∙ sym (places-none places) in
    el ∙ ap₂ (λ (xs ys : List ℕ). xs ++ ys) (ap head_bytes (empty-head mark structure size)) rest
