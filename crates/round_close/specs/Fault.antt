-- The mark that a fault leaves on its store, and a round's close.
use Rattle.std.specs.Prelude.{◌≡◌, refl, ℕ, ◌+◌, Bool, true, false, Option, Some, None, is_some}
use Rattle.std.proofs.Common.{◌∙◌, ap, arith}
use Rattle.list_spec.specs.Choice.{pick}
use Rattle.round_spec.specs.Round.{exceeds_limit}
use Rattle.round_close.specs.declared.Fault.{Fault}
use Rattle.round_close.specs.declared.Fault.TheVariants.{Damage, Overflow}
use Rattle.round_close.specs.declared.Close.{Close}

abbrev pub mark_of : Option Fault → ℕ
mark_of None = 0
mark_of (Some Damage) = 8
mark_of (Some Overflow) = 9

-- An overflow, if there are more than may be.
abbrev pub overflow_if : Bool → Option Fault
overflow_if many = pick many (Some Overflow) None

abbrev pub closing : (waiting held : ℕ) → Close
closing waiting held = record { count = waiting + held; fault = overflow_if (exceeds_limit waiting held) }

-- ---- laws
pub overflow-mark : (many : Bool) → mark_of (overflow_if many) ≡ pick many 9 0
overflow-mark true = refl
overflow-mark false = refl

pub closed-mark : (c : Close) (waiting held : ℕ) → c ≡ closing waiting held → mark_of c.fault ≡ pick (exceeds_limit waiting held) 9 0
closed-mark c waiting held is = ap (λ (x : Close). mark_of x.fault) is ∙ overflow-mark (exceeds_limit waiting held)

pub fault-marks : (f : Option Fault) → is_some f ≡ true → mark_of f ≡ 0 → ⊥
fault-marks None t e = let z : ◌≡◌ {A = ℕ} 0 1 = cc in absurd (omega arith)
fault-marks (Some Damage) t e = let z : ◌≡◌ {A = ℕ} 0 1 = cc in absurd (omega arith)
fault-marks (Some Overflow) t e = let z : ◌≡◌ {A = ℕ} 0 1 = cc in absurd (omega arith)

pub no-fault : (f : Option Fault) → is_some f ≡ false → mark_of f ≡ 0
no-fault None t = refl
no-fault (Some f) t = let z : ◌≡◌ {A = ℕ} 0 1 = cc in absurd (omega arith)
