-- The balance as eight bits hold it.
use Rattle.std.specs.Prelude.{ℕ, ◌≡◌, refl, Bool, true, false, ℤ, pos, ◌-ℤ◌, neg_ℤ, eqb}
use Rattle.std.proofs.Common.{arith, SFits, of_z, to_z}
use Rattle.std.specs.Int.Signed.{le_z}
use Rattle.std.specs.Int.{w8}
use Rattle.method_spec.specs.Node.{Node}
use Rattle.method_spec.specs.Map.{balance_of, balance_from, tall, leans_out}
use Rattle.run_laws.specs.BalanceLaws.{Balance, two, one, none, minus_one, minus-two, five-balances}

module _ {left right : ℕ} where
  kept : {b : ℤ} → Balance left right b → to_z w8 (of_z w8 b) ≡ b
  kept (two h) = refl
  kept (one h) = refl
  kept (none h) = refl
  kept (minus_one h) = refl
  kept (minus-two h) = refl

  negated_fits : {b : ℤ} → Balance left right b → SFits w8 (pos 0 -ℤ to_z w8 (of_z w8 b))
  negated_fits (two h) = record { sfits = omega arith }
  negated_fits (one h) = record { sfits = omega arith }
  negated_fits (none h) = record { sfits = omega arith }
  negated_fits (minus_one h) = record { sfits = omega arith }
  negated_fits (minus-two h) = record { sfits = omega arith }

  negated : {b : ℤ} → Balance left right b → to_z w8 (of_z w8 (pos 0 -ℤ to_z w8 (of_z w8 b))) ≡ neg_ℤ b
  negated (two h) = refl
  negated (one h) = refl
  negated (none h) = refl
  negated (minus_one h) = refl
  negated (minus-two h) = refl

  -- What the code asks of a balance and of its negation is what the method asks.
  is-two : {b : ℤ} → Balance left right b → (eqb (of_z w8 b) 2 ≡ le_z (pos 2) b) × (eqb (of_z w8 (neg_ℤ b)) 2 ≡ le_z (pos 2) (neg_ℤ b))
  is-two (two h) = (refl, refl)
  is-two (one h) = (refl, refl)
  is-two (none h) = (refl, refl)
  is-two (minus_one h) = (refl, refl)
  is-two (minus-two h) = (refl, refl)

  negative : {b : ℤ} → Balance left right b → to_z w8 (of_z w8 (neg_ℤ b)) ≡ neg_ℤ b
  negative (two h) = refl
  negative (one h) = refl
  negative (none h) = refl
  negative (minus_one h) = refl
  negative (minus-two h) = refl

-- The balance and its negation, as eight bits hold them.
pub balance-kept : (n : Node ℕ) → to_z w8 (of_z w8 (balance_of n)) ≡ balance_of n
balance-kept n = kept (five-balances n)

pub balance-fits : (n : Node ℕ) → SFits w8 (pos 0 -ℤ to_z w8 (of_z w8 (balance_of n)))
balance-fits n = negated_fits (five-balances n)

pub balance-negated : (n : Node ℕ) → to_z w8 (of_z w8 (pos 0 -ℤ to_z w8 (of_z w8 (balance_of n)))) ≡ balance_from false n
balance-negated n = negated (five-balances n)

pub tall-test : (s : Bool) (n : Node ℕ) → eqb (of_z w8 (balance_from s n)) 2 ≡ tall s n
tall-test true n = (is-two (five-balances n)).0
tall-test false n = (is-two (five-balances n)).1

pub out-test : (s : Bool) (n : Node ℕ) → le_z (pos 0) (to_z w8 (of_z w8 (balance_from s n))) ≡ leans_out s n
out-test true n = rw (kept (five-balances n))
out-test false n = rw (negative (five-balances n))
