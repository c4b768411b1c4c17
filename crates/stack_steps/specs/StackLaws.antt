-- The stack's programs: what they want, and what they come to.
use Rattle.std.specs.Prelude.{ℕ, suc, pred, ◌≤◌, ◌<◌, ◌≡◌, [], ◌∷◌}
use Rattle.std.proofs.Math.Option.{none, some}
use Rattle.std.proofs.Common.{eq-eqb, ne_eqb, lt-ltb, le-ltb}
use Rattle.method_spec.specs.Node.{Link, Node}
use Rattle.method_spec.specs.Node as node
use Rattle.method_spec.specs.Answer.{pushed, popped, empty, full}
use Rattle.method_spec.specs.Prog.{done, after, start}
use Rattle.method_spec.specs.Stack.{push_prog, pop_prog}
use Rattle.operation_spec.specs.Method.{nothing, wanted_in}

module _ (value tag entries limit : ℕ) (l : Link ℕ) where
  pub push-full : limit ≤ entries → push_prog 0 value tag entries limit l ≡ done (nothing l entries full)
  unfolding push_prog
  push-full k = rw (le-ltb entries limit k)

  pub push-one : entries < limit
      → push_prog 0 value tag entries limit l
      ≡ done
      (record {
        nodes = record { key = suc entries; value = value; tag = tag; left = l; right = node.absent 0 } ∷ [];
        root = record { height = 1; key = suc entries; tag = tag };
        entries = suc entries;
        answer = pushed;
      })
  unfolding push_prog
  push-one k = rw (lt-ltb entries limit k)

module _ (entries : ℕ) (l : Link ℕ) where
  pub pop-wants-none : l.height ≡ 0 → wanted_in (pop_prog entries l) ≡ none
  unfolding pop_prog
  pop-wants-none e = rw (eq-eqb l.height 0 e)

  pub pop-wants-top : (l.height ≡ 0 → ⊥) → wanted_in (pop_prog entries l) ≡ some (start l)
  unfolding pop_prog
  pop-wants-top e = rw (ne_eqb l.height 0 e)

  module _ (n : Node ℕ) where
    pub pop-empty : l.height ≡ 0 → after (pop_prog entries l) (n ∷ []) ≡ done (nothing l entries empty)
    unfolding pop_prog after
    pop-empty e = rw (eq-eqb l.height 0 e)

    pub pop-top : (l.height ≡ 0 → ⊥) → after (pop_prog entries l) (n ∷ []) ≡ done (nothing n.left (pred entries) (popped n.value))
    unfolding pop_prog after
    pop-top e = rw (ne_eqb l.height 0 e)
