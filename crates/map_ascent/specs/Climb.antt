-- The way up, as the code goes it.
use Rattle.std.specs.Prelude.{ℕ, suc, ◌+◌, ◌*◌, ◌-◌, ◌≤◌, ◌≡◌, List, length, drop, Result, MatchResult}
use Rattle.method_spec.specs.Prog.{start}
use Rattle.method_spec.specs.Map.{Step, Built}
use Rattle.slot_spec.specs.declared.Link as link
use Rattle.leaf_spec.specs.Convert.{to_link}
use Rattle.operation_spec.specs.declared.Want as want
use Rattle.operations.specs.Resume.{resume, finished, Misses}
use Rattle.node_rows.specs.Row.{places, words}
use Rattle.node_rows.specs.Held.{Held, held_in, nodes_of}
use Rattle.map_nodes.specs.declared.Sub as sub
use Rattle.map_nodes.specs.Method.{to_sub}
use Rattle.map_nodes.specs.Heights.{LowSub}
use Rattle.map_nodes.specs.Upward.{upward, weight}
use Rattle.map_changes.specs.declared.Bottom.{Bottom}
use Rattle.map_descent.specs.PathTo.{path_to}
use Rattle.map_changes.specs.Bottom.{way_up}
use Rattle.map_ascent.specs.declared.Climbed.{Climbed}

-- A climb's subtree at hand, and the nodes that are done with, in the first places of a row.
abbrev pub climbed_in : List ℕ → Climbed → Built ℕ
climbed_in ws r = record { sub = to_sub r.sub; out = nodes_of (held_in ws r.count) }

module _ (key : ℕ) (root : link.Link) (h : Held) (b : Bottom) where
  -- The first i steps of the path to the bottom, the last first.
  abbrev pub steps_to : ℕ → List (Step ℕ)
  steps_to i = path_to key h (start (to_link root)) b.found b.length i

  -- What the climb gives: what the method's way up comes to on the held nodes, with room for the nodes at hand too.
  pub record ClimbsTo (ws : List ℕ) (r : Climbed) : Type 0 where
    pub resumes : resume (way_up key root h b) (drop b.at (nodes_of h)) ≡ finished (climbed_in ws r) (drop r.next (nodes_of h))
    pub long : length ws ≡ words
    pub room : r.count + weight (to_sub r.sub) ≤ places
    pub low : LowSub 250 (to_sub r.sub)

  -- That, or the node that the way up misses.
  abbrev pub ClimbsIfHeld : List ℕ → Result Climbed want.Want → Type 0
  ClimbsIfHeld ws r = MatchResult r (ClimbsTo ws) (Misses (way_up key root h b) (drop b.at (nodes_of h)))

  -- With i steps of the path left to climb.
  pub record Climbing (ws : List ℕ) (count : ℕ) (s : sub.Sub) (next i : ℕ) : Type 0 where
    pub resumes : resume (upward b.rotating (steps_to i) (to_sub s) (nodes_of (held_in ws count))) (drop next (nodes_of h))
        ≡ resume (way_up key root h b) (drop b.at (nodes_of h))
    pub long : length ws ≡ words
    pub levels : i ≤ b.length
    pub within : next ≤ h.count
    pub low : LowSub (100 + 2 * (b.length - i)) (to_sub s)
    pub room : count + i + weight (to_sub s) ≤ suc next
