-- A call as a program that stops where it needs a node: it wants the node behind a link, and goes on with that node.
use Rattle.std.specs.Prelude.{ℕ, Bool, List, [], ◌∷◌}
use Rattle.std.proofs.Math.Option.{Option, none}
use Rattle.method_spec.specs.Node.{Link, Node}

-- Where a link stands: it is the root link, or a side of the node with that key.
pub data From : Type 0 where
  root : From
  side : ℕ → Bool → From

-- A wanted node: the link that leads to it, where that link stands, and the nearest keys below and above that the
-- walk passed on its way.
pub record Want (T : Type 0) : Type 0 where
  pub link : Link T
  pub from : From
  pub low : Option ℕ
  pub high : Option ℕ

-- The root link, as a wanted one.
abbrev pub start : {T : Type 0} → Link T → Want T
start l = record { link = l; from = root; low = none; high = none }

pub data Prog (T A : Type 0) : Type 0 where
  done : A → Prog T A
  want : Want T → (Node T → Prog T A) → Prog T A

module _ {T A B : Type 0} where
  unfoldable pub bind : Prog T A → (A → Prog T B) → Prog T B
  bind (done a) f = f a
  bind (want w k) f = want w (λ n. bind (k n) f)

module _ {T A : Type 0} where
  -- The program after it was given nodes, in the order in which it wanted them.
  unfoldable pub after : Prog T A → List (Node T) → Prog T A
  after (done a) ns = done a
  after (want w k) [] = want w k
  after (want w k) (n ∷ ns) = after (k n) ns
