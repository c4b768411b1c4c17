-- A program on the nodes that were fetched for it so far, in fetch order: what it is still missing, or its result and the
-- nodes that it has not taken.
use Rattle.std.specs.Prelude.{◌≡◌, ℕ, List, [], ◌∷◌}
use Rattle.std.proofs.Math.Option.{Option, none, some}
use Rattle.method_spec.specs.Node.{Link, Node}
use Rattle.method_spec.specs.Prog.{Want, Prog, done, want}
use Rattle.method_spec.specs.Answer as method
use Rattle.method_spec.specs.Outcome.{Outcome}
use Rattle.operation_spec.specs.Method.{to_want, nothing}
use Rattle.operation_spec.specs.declared.Want as want

pub data Resumed (T A : Type 0) : Type 0 where
  missing : Want T → Resumed T A
  finished : A → List (Node T) → Resumed T A

module _ {T A : Type 0} where
  unfoldable pub resume : Prog T A → List (Node T) → Resumed T A
  resume (done a) ns = finished a ns
  resume (want w k) [] = missing w
  resume (want w k) (n ∷ ns) = resume (k n) ns

  -- Where a program came to its end, a statement holds of the result and the nodes that are left.
  abbrev pub Ends : (A → List (Node T) → Type 0) → Resumed T A → Type 0
  Ends P (missing w) = Unit
  Ends P (finished a ns) = P a ns

module _ {T A B : Type 0} where
  -- What is done with a result, where there is one.
  abbrev pub follow : Resumed T A → (A → List (Node T) → Resumed T B) → Resumed T B
  follow (missing w) f = missing w
  follow (finished a ns) f = f a ns

-- ---- the code's values
module _ {A : Type 0} where
  -- The program misses that node.
  abbrev pub Misses : Prog ℕ A → List (Node ℕ) → want.Want → Type 0
  Misses p ns w = resume p ns ≡ missing (to_want w)

  -- The node that is missing, if one is.
  abbrev pub wanted_of : Resumed ℕ A → Option (Want ℕ)
  wanted_of (missing w) = some w
  wanted_of (finished a ns) = none

-- The result, or nothing.
abbrev pub outcome_of : Link ℕ → ℕ → Resumed ℕ (Outcome ℕ) → Outcome ℕ
outcome_of root entries (missing w) = nothing root entries method.absent
outcome_of root entries (finished o ns) = o
