-- The row of a queue's nodes: a cell more, keys, fetch test.
use Rattle.std.specs.Prelude.{◌≡◌, refl, true}
use Rattle.std.proofs.Common.{ap₂, le_refl, eq-eqb}
use mathlib.Core.List.{List, [], ◌∷◌, ◌++◌}
use Prim.Native.Nat.{ℕ, suc, ◌+◌, ◌≤◌}
use native.Mathlib.Omega.{arith}
use Rattle.std.proofs.Math.ListN.{length}
use Rattle.list_spec.specs.Distinct.{Distinct, All}
use Rattle.list_laws.specs.DistinctLaws.{all_nil, all_cons}
use Rattle.method_spec.specs.Node.{Node, Cell}
use Rattle.method_spec.specs.Prog.{Want}
use Rattle.method_spec.specs.Queue.{queue_test}
use Rattle.method_spec.specs.QueueShape.{tag_next, row_node, row}
use Rattle.run_laws.specs.Fetches.{keys}

module _ {T : Type 0} (nil : T) where
  -- ---- a cell more at the end
  next_more : (cs : List (Cell T)) (c : Cell T) (ahead : T) → tag_next (cs ++ (c ∷ [])) ahead ≡ tag_next cs c.tag
  next_more [] c ahead = refl
  next_more (b ∷ cs) c ahead = refl

  pub row_more : (first : ℕ) (cs : List (Cell T)) (c : Cell T) (ahead : T)
      → row nil first (cs ++ (c ∷ [])) ahead ≡ row nil first cs c.tag ++ (row_node nil (first + length cs) c ahead ∷ [])
  unfolding row
  row_more first [] c ahead = let e : first + 0 ≡ first = omega arith in rw e
  row_more first (b ∷ cs) c ahead =
      let e : first + suc (length cs) ≡ suc first + length cs = omega arith in
      rw e
      (ap₂ (λ (t : T) (ns : List (Node T)). row_node nil first b t ∷ ns) (next_more cs c ahead) (row_more (suc first) cs c ahead))

  -- ---- keys
  row-keys : (first : ℕ) (cs : List (Cell T)) (ahead : T) → All (λ k. first ≤ k) (keys (row nil first cs ahead))
  unfolding row
  row-keys first [] ahead = all_nil (λ k. first ≤ k)
  row-keys first (c ∷ cs) ahead =
      all_cons {P = λ k. first ≤ k} (le_refl first) (λ k m. let h = row-keys (suc first) cs ahead k m in omega arith)

  pub row-distinct : (first : ℕ) (cs : List (Cell T)) (ahead : T) → Distinct (keys (row nil first cs ahead))
  unfolding row
  row-distinct first [] ahead = tt
  row-distinct first (c ∷ cs) ahead =
      (λ m. let h = row-keys (suc first) cs ahead first m in omega arith, row-distinct (suc first) cs ahead)

  -- ---- the fetch test
  pub row-passes : (w : Want T) (key : ℕ) (c : Cell T) (next : T) → queue_test w (row_node nil key c next) ≡ true
  unfolding queue_test
  row-passes w key c next = rw (eq-eqb (suc key) (suc key) refl)
