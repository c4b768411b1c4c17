-- One level of the way up, as the code says it: what it made, or the node that it misses.
use Rattle.std.specs.Prelude.{ℕ, ◌≤◌, ◌≡◌, Bool, true, false, not, List, ◌++◌, drop, Result, MatchResult}
use Rattle.std.proofs.Math.Option.{Option}
use Rattle.list_spec.specs.Choice.{pick}
use Rattle.method_spec.specs.Node.{Node, child}
use Rattle.method_spec.specs.Prog.{Want, Prog, done, bind}
use Rattle.method_spec.specs.Map.{Step, Sub, Built, Rotated, kid, beside, below, step_at, listed, leans_out, fetched_top, single, double, raise, rest}
use Rattle.leaf_spec.specs.Convert.{to_node}
use Rattle.operations.specs.Resume.{missing, finished, resume, Misses}
use Rattle.node_rows.specs.Held.{Held, nodes_of}
use Rattle.map_nodes.specs.Method.{to_kid, to_sub}
use Rattle.node_rows.specs.Heights.{Low}
use Rattle.operation_spec.specs.declared.Want as want
use Rattle.rotations.specs.declared.rotation.Rotated as rotated
use Rattle.rotations.specs.declared.raise.Opened.{Opened}
use Rattle.rotations.specs.declared.raise.Others.{Others}
use Rattle.rotations.specs.declared.raise.Raised.{Raised}

abbrev pub to_rotated : rotated.Rotated → Rotated ℕ
to_rotated r = record { up = to_node r.up; down = to_node r.down }

-- The node that is at hand or fetched next.
pub record Opens (k : Option (Node ℕ)) (h : Held) (next : ℕ) (r : Opened) : Type 0 where
  pub resumes : (w : Want ℕ) → resume (fetched_top w k) (drop next (nodes_of h)) ≡ finished (to_node r.node) (drop r.next (nodes_of h))
  pub within : r.next ≤ h.count
  pub low : Low 250 (to_node r.node)

-- There is none: then the wanted one is missing.
pub record Lacks (k : Option (Node ℕ)) (h : Held) (next : ℕ) : Type 0 where
  pub misses : (w : Want ℕ) → resume (fetched_top w k) (drop next (nodes_of h)) ≡ missing w

-- The nodes that are done with.
abbrev pub list_of : Others → List (Node ℕ)
list_of o = (listed (to_kid o.left) ++ listed (to_kid o.right)) ++ listed (to_kid o.top)

abbrev pub built_of : Raised → Built ℕ
built_of r = record { sub = to_sub r.sub; out = listed (to_kid r.aside) ++ list_of r.others }

-- The code's result is what the program comes to on the held nodes from `next` on.
pub record Raises (p : Prog ℕ (Built ℕ)) (h : Held) (next : ℕ) (r : Raised) : Type 0 where
  pub resumes : resume p (drop next (nodes_of h)) ≡ finished (built_of r) (drop r.next (nodes_of h))
  pub within : r.next ≤ h.count

-- That, or the node that the program misses there.
abbrev pub RaisesIfHeld : Prog ℕ (Built ℕ) → Held → ℕ → Result Raised want.Want → Type 0
RaisesIfHeld p h next r = MatchResult r (Raises p h next) (Misses p (drop next (nodes_of h)))

-- A rotation where the child c on the tall side s is at hand.
unfoldable pub turn_over : Step ℕ → Bool → Node ℕ → Node ℕ → Sub ℕ → List (Node ℕ) → Prog ℕ (Built ℕ)
turn_over p s n c near others =
    pick (leans_out s c)
    (done (single s n c (kid s near) (kid (not s) near) others))
    (bind (fetched_top (below (step_at (beside p s (child s n)) c (not s))) (kid (not s) near))
    (λ g. done (double s n c g (kid s near) others)))

-- A level with rotations, or without.
abbrev pub level : Bool → Step ℕ → Sub ℕ → Prog ℕ (Built ℕ)
level true p b = raise p b
level false p b = done (rest p b)
