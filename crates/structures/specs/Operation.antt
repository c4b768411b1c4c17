-- What the operations ask of their callers, and a program after the held nodes.
use Rattle.std.specs.Prelude.{ℕ, ◌≤◌, ◌≡◌, List, length}
use Rattle.slot_spec.specs.declared.Link.{Link}
use Rattle.method_spec.specs.Prog.{Prog, after}
use Rattle.method_spec.specs.Outcome.{Outcome}
use Rattle.leaf_spec.specs.Convert.{to_link}
use Rattle.operation_spec.specs.declared.Op.{Op}
use Rattle.operation_spec.specs.declared.Spares.{Spares}
use Rattle.operation_spec.specs.Method.{program_for}
use Rattle.node_rows.specs.Row.{words, fetches}
use Rattle.node_rows.specs.Heights.{Lows}
use Rattle.node_rows.specs.Held.{Held, held_in, nodes_of}

-- Held nodes and a root link so low that a byte holds what rotations make of their heights. Those of a store that fits are.
pub record LowHeld (root : Link) (row : List ℕ) (count : ℕ) : Type 0 where
  pub sized : length row ≡ words
  pub few : count ≤ fetches
  pub low : Lows 100 (nodes_of (held_in row count))
  pub root-low : root.height ≤ 100

-- The program of an operation, after the held nodes.
abbrev pub after_held : Op → Spares → (limit entries : ℕ) → Link → Held → Prog ℕ (Outcome ℕ)
after_held op spares limit entries root h = after (program_for op spares limit entries (to_link root)) (nodes_of h)
