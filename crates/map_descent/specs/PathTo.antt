-- The path of a walk down that has come to its end, by the numbers of the fetched nodes.
use Rattle.std.specs.Prelude.{ℕ, zero, suc, Bool, List, [], ◌∷◌, eqb, ltb}
use Rattle.list_spec.specs.Choice.{pick}
use Rattle.method_spec.specs.Prog.{Want}
use Rattle.method_spec.specs.Map.{Step, swapped}
use Rattle.node_rows.specs.Held.{Held, held_at}
use Rattle.map_descent.specs.Walk.{passed, by_key}

module _ (key : ℕ) (h : Held) (w : Want ℕ) (found : ℕ) where
  -- By key before the node `found`, there to the right, and after it to the left.
  abbrev pub ways_to : ℕ → Bool
  ways_to i = pick (ltb i found) (by_key key h i) (ltb found i)

  -- The step over the node i; the node `found` has the entry of the node `last` for its own.
  abbrev pub step_to : (last i : ℕ) → Step ℕ
  step_to last i = pick (eqb i found) (swapped (passed h w ways_to i) (held_at h last)) (passed h w ways_to i)

  -- The steps over the first i nodes, the last first.
  unfoldable pub path_to : (last i : ℕ) → List (Step ℕ)
  path_to last zero = []
  path_to last (suc i) = step_to last i ∷ path_to last i
