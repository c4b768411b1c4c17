-- The way to a position over the fetched nodes, of which the first are its nodes, from the root on.
use Rattle.std.specs.Prelude.{ℕ, zero, suc, ◌≤◌, ◌≡◌, Bool, true, List, [], ◌∷◌, length, get_or}
use Rattle.method_spec.specs.Prog.{Want}
use Rattle.method_spec.specs.Heap.{Pass, way_to, beneath}
use Rattle.node_rows.specs.Held.{Held, held_at}
use Rattle.heap_descent.specs.declared.way.Way.{Way}

-- A way has the turns of its position.
pub record Leads (w : Way) : Type 0 where
  pub turns : w.depth ≡ length (way_to w.position)
  pub few : w.depth ≤ 15

-- The side on which a way goes on at a level.
abbrev pub turn_at : List Bool → ℕ → Bool
turn_at way i = get_or way i true

-- The node that is wanted after the first i nodes of a way; at first w is.
unfoldable pub want_at : Held → Want ℕ → List Bool → ℕ → Want ℕ
want_at h w way zero = w
want_at h w way (suc i) = beneath (held_at h i) (turn_at way i)

-- The first i nodes of a way, as they were fetched, the last first.
unfoldable pub trail : Held → List Bool → ℕ → List (Pass ℕ)
trail h way zero = []
trail h way (suc i) = record { node = held_at h i; way = turn_at way i } ∷ trail h way i
