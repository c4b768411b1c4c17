-- The path of a walk down, step by step; and that it is the method's.
use Prim.Native.Nat.{ℕ, zero, suc, ◌+◌, ◌≤◌, ◌<◌}
use Rattle.std.proofs.Common.{arith, add-one, ◌∙◌, ap₂, eq-eqb, ne_eqb, lt-ltb, le-ltb}
use Rattle.std.proofs.Math.Decide.{dec_lt}
use Rattle.std.specs.Prelude.{◌≡◌, refl, Bool, true, false, eqb, ltb, get_or}
use Rattle.std.proofs.Math.Path.{sym, ap}
use mathlib.Core.List.{List, [], ◌∷◌, ◌++◌}
use Rattle.list_spec.specs.Choice.{pick}
use Rattle.method_spec.specs.Prog.{Want}
use Rattle.method_spec.specs.Map.{Step, step_at, below, swapped}
use Rattle.slot_spec.specs.declared.Node as node
use Rattle.slot_spec.specs.Slot.{no_node}
use Rattle.leaf_spec.specs.Convert.{to_node}
use Rattle.node_rows.specs.Heights.{Low}
use Rattle.node_rows.specs.Held.{Held, held_at, HeldFrom}
use Rattle.node_rows.specs.HeldLaws.{held_low}
use Rattle.map_descent.specs.Walk.{want_at, passed, trail, by_key, after, LeftFrom}
use Rattle.map_descent.specs.WalkLaws.{held_fits, want-first, want-next, trail-none, trail-next}
use Rattle.map_descent.specs.LowestLaws.{after-found, after_next}
use Rattle.map_descent.specs.PathTo.{ways_to, step_to, path_to}

-- ---- one step

-- The path over no node, and over one node more.
pub path-none : (key : ℕ) (h : Held) (w : Want ℕ) (found last : ℕ) → path_to key h w found last 0 ≡ []
unfolding path_to
path-none key h w found last = refl

pub path-more : (key : ℕ) (h : Held) (w : Want ℕ) (found last i : ℕ)
    → path_to key h w found last (suc i) ≡ step_to key h w found last i ∷ path_to key h w found last i
unfolding path_to
path-more key h w found last i = refl

module _ (key : ℕ) (h : Held) (w : Want ℕ) (found last : ℕ) (from : HeldFrom 100 h 0) (enough : last ≤ h.count) where
  pub low_step : (i : ℕ) → i < last → Low 100 (step_to key h w found last i).node
  low_step i k = go (eqb i found)
    where
      low : Low 100 (held_at h i)
      low = held_low h i 100 from.low (omega arith) (held_fits from)

      go : (t : Bool) → Low 100 (pick t (swapped (passed h w (ways_to key h w found) i) (held_at h last)) (passed h w (ways_to key h w found) i)).node
      go true = low
      go false = low

-- The step as the code puts it together of the node i, and the node that it wants below.
module _ (key : ℕ) (h : Held) (w : Want ℕ) (found i : ℕ) {v : Want ℕ} (now : v ≡ want_at h w (ways_to key h w found) i)
    {n : node.Node} (held : n ≡ get_or h.nodes i no_node) {s : Bool} (side : s ≡ pick (ltb i found) (ltb key n.key) (ltb found i))
    {q : Step ℕ} (step : q ≡ step_at v (to_node n) s) where
  passes : q ≡ passed h w (ways_to key h w found) i
  passes = step ∙ rw (now, side, held)

  pub step_is : (last : ℕ) {x : Step ℕ} {y : node.Node} → y ≡ get_or h.nodes last no_node → x ≡ pick (eqb i found) (swapped q (to_node y)) q
      → x ≡ step_to key h w found last i
  step_is last f g = g ∙ rw (passes, f)

  pub want_is : {u : Want ℕ} → u ≡ below q → u ≡ want_at h w (ways_to key h w found) (i + 1)
  want_is f = rw (add-one i) (f ∙ ap below passes ∙ sym (want-next h w (ways_to key h w found) i))

-- ---- the method's path

-- Where two walks go the same ways, they want the same nodes and pass the same steps.
module _ (h : Held) (w : Want ℕ) (f g : ℕ → Bool) where
  same-want : (i : ℕ) → ((j : ℕ) → j < i → f j ≡ g j) → want_at h w f i ≡ want_at h w g i
  same-want zero e = want-first h w f ∙ sym (want-first h w g)
  same-want (suc i) e =
      want-next h w f i
      ∙ ap below (rw (e i (omega arith), same-want i (λ j k. e j (omega arith))))
      ∙ sym (want-next h w g i)

module _ (key : ℕ) (h : Held) (w : Want ℕ) (found last : ℕ) where
  ways : ℕ → Bool
  ways = ways_to key h w found

  by_key_lem : (i : ℕ) → i < found → ways i ≡ by_key key h i
  unfolding ways
  by_key_lem i k = rw (lt-ltb i found k)

  want-found : (i : ℕ) → i ≤ found → want_at h w ways i ≡ want_at h w (by_key key h) i
  want-found i k = same-want h w ways (by_key key h) i (λ j m. by_key_lem j (omega arith))

  -- Before the node with the key it is the walk's.
  pub path-before : (i : ℕ) → i ≤ found → path_to key h w found last i ≡ trail h w (by_key key h) i
  unfolding ways
  path-before zero k = path-none key h w found last ∙ sym (trail-none h w (by_key key h))
  path-before (suc i) k =
      path-more key h w found last i
      ∙ rw (ne_eqb i found (λ e. omega arith), path-before i (omega arith), want-found i (omega arith), by_key_lem i (omega arith))
      (sym (trail-next h w (by_key key h) i))

  -- The node with the key, as the walk passes it to the right.
  at-found : Step ℕ
  at-found = step_at (want_at h w (by_key key h) found) (held_at h found) false

  passed-found : passed h w (ways_to key h w found) found ≡ at-found
  unfolding ways at-found
  passed-found = rw (le-ltb found found (omega arith), want-found found (omega arith))

  step-found : step_to key h w found last found ≡ swapped at-found (held_at h last)
  step-found = rw (eq-eqb found found refl) (ap (λ (s : Step ℕ). swapped s (held_at h last)) passed-found)

  -- Past it: the steps to the next larger key's node, and that node's entry in its place.
  pub path-past : (i : ℕ) → found < i → path_to key h w found last i
      ≡ after h w (ways_to key h w found) found i
      ++ (swapped (step_at (want_at h w (by_key key h) found) (held_at h found) false) (held_at h last) ∷ trail h w (by_key key h) found)
  unfolding at-found
  path-past zero k = absurd (omega arith)
  path-past (suc i) k = go (dec_lt found i) (λ m. path-past i m)
    where
      rest : List (Step ℕ)
      rest = swapped at-found (held_at h last) ∷ trail h w (by_key key h) found

      go : Dec (found < i) → (found < i → path_to key h w found last i ≡ after h w (ways_to key h w found) found i ++ rest)
          → path_to key h w found last (suc i) ≡ after h w (ways_to key h w found) found (suc i) ++ rest
      go (yes m) before =
          path-more key h w found last i
          ∙ rw (ne_eqb i found (λ e. omega arith), before m, after_next h w (ways_to key h w found) found i m)
      go (no m) before =
          let e : i ≡ found = omega arith in
          rw e
          (path-more key h w found last found
          ∙ ap₂ (λ (s : Step ℕ) (l : List (Step ℕ)). s ∷ l) step-found (path-before found (omega arith))
          ∙ ap (λ (l : List (Step ℕ)). l ++ rest) (sym (after-found h w (ways_to key h w found) found)))

  pub left-from : LeftFrom h w (ways_to key h w found) found (below (step_at (want_at h w (by_key key h) found) (held_at h found) false))
  unfolding at-found
  left-from = record { there = want-next h w (ways_to key h w found) found ∙ ap below passed-found; left = λ i k. rw (le-ltb i found (omega arith)) (lt-ltb found i k) }
