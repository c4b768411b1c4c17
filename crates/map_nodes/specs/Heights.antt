-- Bounds of the heights in subtrees at hand.
use Rattle.std.specs.Prelude.{ℕ, ◌≤◌}
use Rattle.std.proofs.Math.Option.{Option, none, some}
use Rattle.method_spec.specs.Node.{Node}
use Rattle.method_spec.specs.Map.{Sub, stub, top}
use Rattle.node_rows.specs.Heights.{Low}

module _ {T : Type 0} (most : ℕ) where
  abbrev pub LowKid : Option (Node T) → Type 0
  LowKid none = Unit
  LowKid (some n) = Low most n

  abbrev pub LowSub : Sub T → Type 0
  LowSub (stub l) = l.height ≤ most
  LowSub (top n l r) = Low most n × (LowKid l × LowKid r)
