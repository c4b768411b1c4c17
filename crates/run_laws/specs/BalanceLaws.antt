-- The balance in heights: what each of the five balances says of a node's side heights, and the map's tests as tests on heights.
use Rattle.std.specs.Prelude.{ℕ, suc, min, ◌-◌, ◌<◌, ◌≡◌, Bool, true, false, not, ℤ, pos, negsuc, neg_ℤ, ltb, leb}
use Rattle.std.proofs.Common.{arith, sym, ap, ◌∙◌, lt-ltb, le-ltb, le-leb}
use Rattle.std.proofs.Math.Decide.{dec_lt}
use Rattle.std.specs.Int.Signed.{le_z}
use Rattle.std.proofs.lemmas.Bool.{lt-leb}
use Rattle.method_spec.specs.Node.{Node, child}
use Rattle.method_spec.specs.Map.{balance_of, tall, leans_out}

pub data Balance (left right : ℕ) : ℤ → Type 0 where
  two : suc right < left → Balance left right (pos 2)
  one : left ≡ suc right → Balance left right (pos 1)
  none : left ≡ right → Balance left right (pos 0)
  minus_one : right ≡ suc left → Balance left right (negsuc 0)
  minus-two : suc left < right → Balance left right (negsuc 1)

module _ {T : Type 0} (n : Node T) where
  abbrev l : ℕ
  l = n.left.height

  abbrev r : ℕ
  r = n.right.height

  balance-left : r < suc l → balance_of n ≡ pos (min (l - r) 2)
  unfolding balance_of
  balance-left h = rw (le-ltb l r (omega arith))

  balance-right : l < r → balance_of n ≡ negsuc (min (r - suc l) 1)
  unfolding balance_of
  balance-right h = rw (lt-ltb l r h)

  pub balance-two : suc r < l → balance_of n ≡ pos 2
  balance-two h = balance-left (omega arith) ∙ ap pos (omega arith)

  pub balance-one : l ≡ suc r → balance_of n ≡ pos 1
  balance-one h = balance-left (omega arith) ∙ ap pos (omega arith)

  pub balance-zero : l ≡ r → balance_of n ≡ pos 0
  balance-zero h = balance-left (omega arith) ∙ ap pos (omega arith)

  pub balance-minus-one : r ≡ suc l → balance_of n ≡ negsuc 0
  balance-minus-one h = balance-right (omega arith) ∙ ap negsuc (omega arith)

  pub balance-minus-two : suc l < r → balance_of n ≡ negsuc 1
  balance-minus-two h = balance-right (omega arith) ∙ ap negsuc (omega arith)

  pub five-balances : Balance l r (balance_of n)
  five-balances = go (dec_lt (suc r) l) (dec_lt r l) (dec_lt (suc l) r) (dec_lt l r)
    where
      go : Dec (suc r < l) → Dec (r < l) → Dec (suc l < r) → Dec (l < r) → Balance l r (balance_of n)
      go (yes p) b c d = rw (balance-two p) (two p)
      go (no a) (yes p) c d = rw (balance-one (omega arith)) (one (omega arith))
      go (no a) (no b) (yes p) d = rw (balance-minus-two p) (minus-two p)
      go (no a) (no b) (no c) (yes p) = rw (balance-minus-one (omega arith)) (minus_one (omega arith))
      go (no a) (no b) (no c) (no d) = rw (balance-zero (omega arith)) (none (omega arith))

-- ---- the tests

module _ {left right : ℕ} where
  tall-left : {b : ℤ} → Balance left right b → le_z (pos 2) b ≡ ltb (suc right) left
  tall-left (two h) = sym (lt-ltb (suc right) left h)
  tall-left (one h) = sym (le-ltb (suc right) left (omega arith))
  tall-left (none h) = sym (le-ltb (suc right) left (omega arith))
  tall-left (minus_one h) = sym (le-ltb (suc right) left (omega arith))
  tall-left (minus-two h) = sym (le-ltb (suc right) left (omega arith))

  tall-right : {b : ℤ} → Balance left right b → le_z (pos 2) (neg_ℤ b) ≡ ltb (suc left) right
  tall-right (two h) = sym (le-ltb (suc left) right (omega arith))
  tall-right (one h) = sym (le-ltb (suc left) right (omega arith))
  tall-right (none h) = sym (le-ltb (suc left) right (omega arith))
  tall-right (minus_one h) = sym (le-ltb (suc left) right (omega arith))
  tall-right (minus-two h) = sym (lt-ltb (suc left) right h)

  out-left : {b : ℤ} → Balance left right b → le_z (pos 0) b ≡ leb right left
  out-left (two h) = sym (le-leb right left (omega arith))
  out-left (one h) = sym (le-leb right left (omega arith))
  out-left (none h) = sym (le-leb right left (omega arith))
  out-left (minus_one h) = sym (lt-leb right left (omega arith))
  out-left (minus-two h) = sym (lt-leb right left (omega arith))

  out-right : {b : ℤ} → Balance left right b → le_z (pos 0) (neg_ℤ b) ≡ leb left right
  out-right (two h) = sym (lt-leb left right (omega arith))
  out-right (one h) = sym (lt-leb left right (omega arith))
  out-right (none h) = sym (le-leb left right (omega arith))
  out-right (minus_one h) = sym (le-leb left right (omega arith))
  out-right (minus-two h) = sym (le-leb left right (omega arith))

module _ {T : Type 0} where
  -- A side is too tall exactly where it is higher than the other by two or more.
  pub tall-heights : (s : Bool) (n : Node T) → tall s n ≡ ltb (suc (child (not s) n).height) (child s n).height
  tall-heights true n = tall-left (five-balances n)
  tall-heights false n = tall-right (five-balances n)

  -- A child leans outward, or not at all, exactly where its height on that side is not the lesser.
  pub leans-heights : (s : Bool) (c : Node T) → leans_out s c ≡ leb (child (not s) c).height (child s c).height
  leans-heights true c = out-left (five-balances c)
  leans-heights false c = out-right (five-balances c)
