-- Laws of the input's parts: the tree that is lent is bounded, and a good opening has a size of 1 to 8.
use Rattle.std.specs.Prelude.{◌≡◌, refl, Bool, true, false, List, ℕ, ◌+◌, ◌≤◌, eqb, length}
use Rattle.std.proofs.Common.{arith, pow_mono}
use Rattle.slot_spec.specs.Tree.{tree_length}
use Rattle.state_spec.specs.Fit.{in_range, largest_structure, largest_size}
use Rattle.state_laws.specs.FitLaws.{in-range-true}
use Rattle.state_spec.specs.Opening.{opened}
use Rattle.host_spec.specs.Lengths.{tree_lent}
use Rattle.walk_spec.specs.Input.{largest_tree}

-- ---- opening
pub lent-most : (size : ℕ) → tree_lent size ≤ largest_tree
lent-most size = go (in_range size largest_size) refl
  where
    go : (b : Bool) → in_range size largest_size ≡ b → tree_lent size ≤ largest_tree
    go true e = rw e (omega (arith, pow_mono {i = size + 1} {j = 9} (omega (arith, (in-range-true size largest_size e).1))))
    go false e = rw e (omega arith)

-- An opening that is not refused leaves a state with a size of 1 to 8.
pub open-size : (structure size : ℕ) (tree : List ℕ) → (opened structure size tree).state.mark ≡ 0
    → (1 ≤ (opened structure size tree).state.size) × ((opened structure size tree).state.size ≤ largest_size)
unfolding opened
open-size structure size tree unmarked =
    go (in_range structure largest_structure) (in_range size largest_size) (eqb (length tree) (tree_length size)) refl refl refl
  where
    go : (s k l : Bool) → in_range structure largest_structure ≡ s → in_range size largest_size ≡ k → eqb (length tree) (tree_length size) ≡ l
        → (1 ≤ (opened structure size tree).state.size) × ((opened structure size tree).state.size ≤ largest_size)
    go false k l a b d = let e : ◌≡◌ {A = ℕ} 11 0 = rw a at unmarked in let z : ⊥ = omega arith in absurd z
    go true false l a b d = let e : ◌≡◌ {A = ℕ} 12 0 = rw (a, b) at unmarked in let z : ⊥ = omega arith in absurd z
    go true true false a b d = let e : ◌≡◌ {A = ℕ} 3 0 = rw (a, b, d) at unmarked in let z : ⊥ = omega arith in absurd z
    go true true true a b d = rw (a, b, d) (in-range-true size largest_size b)
