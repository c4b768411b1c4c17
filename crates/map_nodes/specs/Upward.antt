-- The way up with rotations, or without, and the room that a subtree at hand takes.
use Rattle.std.specs.Prelude.{ℕ, suc, Bool, true, false, List, length}
use Rattle.method_spec.specs.Node.{Node}
use Rattle.method_spec.specs.Prog.{Prog, done}
use Rattle.method_spec.specs.Map.{Step, Sub, Built, kids, climb, unwind}

unfoldable pub upward : Bool → List (Step ℕ) → Sub ℕ → List (Node ℕ) → Prog ℕ (Built ℕ)
upward true path b out = climb path b out
upward false path b out = done (unwind path b out)

-- Room for the children at hand of a subtree, and a top node.
abbrev pub weight : {T : Type 0} → Sub T → ℕ
weight b = suc (length (kids b))
