-- Where a link stands, as a word and back.
use Rattle.std.specs.Prelude.{◌≡◌, Bool, true, false, ℕ, ◌+◌, ◌*◌, ◌/◌, ◌%◌, ◌<◌, eqb}
use Rattle.std.proofs.Common.{arith, ne_eqb, eq-eqb}
use Rattle.method_spec.specs.Prog.{root, side}
use Rattle.node_rows.specs.Row.{from_in}

pub from-root : (x : ℕ) → x ≡ 0 → from_in x ≡ root
unfolding from_in
from-root x h = rw (eq-eqb x 0 h)

pub from-side : (x k : ℕ) (s : Bool) → (x ≡ 0 → ⊥) → x / 2 % 4294967296 ≡ k → eqb (x % 2) 1 ≡ s → from_in x ≡ side k s
unfolding from_in
from-side x k s h a b = rw (ne_eqb x 0 h, a, b)

pub from-left : (k : ℕ) → k < 4294967296 → from_in (8589934592 + 2 * k + 1) ≡ side k true
from-left k h = from-side (8589934592 + 2 * k + 1) k true (λ z. omega arith) (omega arith) (eq-eqb ((8589934592 + 2 * k + 1) % 2) 1 (omega arith))

pub from-right : (k : ℕ) → k < 4294967296 → from_in (8589934592 + 2 * k) ≡ side k false
from-right k h = from-side (8589934592 + 2 * k) k false (λ z. omega arith) (omega arith) (ne_eqb ((8589934592 + 2 * k) % 2) 1 (λ z. omega arith))
