use Prim.Native.Nat.{ℕ, ◌-◌, ◌≤◌}
use mathlib.Core.Path.{◌≡◌}
use lib.ListN.{length}
use Rattle.method_spec.specs.Node.{Node}
use Rattle.operation_spec.specs.Method.{to_from}
use Rattle.node_rows.specs.Row.{words}
use Rattle.tag_moves.specs.Moved.{fetch_of}
use Rattle.tag_moves.specs.MoveLaws.{Moving}
use Rattle.tag_moves.proofs.move_links.Given as goal

abbrev pub invariant-loop-i : goal.invariant-loop-i
invariant-loop-i l =
    ((m : Node ℕ) → m.tag ≡ l.tag → Moving (fetch_of (to_from l.from) m) l.initial.held l.held l.i) × (length l.held ≡ words)
