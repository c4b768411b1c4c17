-- What comes of the way up, and what its end asks.
use Rattle.std.specs.Prelude.{ℕ, ◌+◌, ◌≤◌, ◌≡◌, List, length, drop, Result, Ok, Err}
use Rattle.method_spec.specs.Outcome.{Outcome}
use Rattle.slot_spec.specs.declared.Link as link
use Rattle.operation_spec.specs.declared.Want as want
use Rattle.operation_spec.specs.Method.{to_want}
use Rattle.operations.specs.Resume.{Resumed, missing, resume}
use Rattle.node_rows.specs.Row.{places, words}
use Rattle.node_rows.specs.Held.{Held, nodes_of}
use Rattle.map_nodes.specs.Method.{to_sub}
use Rattle.map_nodes.specs.Heights.{LowSub}
use Rattle.map_nodes.specs.Upward.{weight}
use Rattle.map_changes.specs.declared.Bottom.{Bottom}
use Rattle.map_changes.specs.Bottom.{up_from}
use Rattle.map_ascent.specs.declared.Climbed.{Climbed}

-- What comes of the way up from the bottom, or the node that is missing before it.
abbrev pub from_bottom : ℕ → link.Link → Held → Result Bottom want.Want → Resumed ℕ (Outcome ℕ)
from_bottom key root h (Ok b) = resume (up_from key root h b) (drop b.at (nodes_of h))
from_bottom key root h (Err w) = missing (to_want w)

-- Room in a row for the nodes at hand at a climb's end, and low heights.
pub record RoomToFinish (ws : List ℕ) (c : Climbed) : Type 0 where
  pub long : length ws ≡ words
  pub room : c.count + weight (to_sub c.sub) ≤ places
  pub low : LowSub 250 (to_sub c.sub)
