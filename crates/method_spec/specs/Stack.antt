-- The stack's walk and step. Its links all have height 1.
use Rattle.std.specs.Prelude.{ℕ, suc, pred, Bool, false, [], ◌∷◌, eqb, ltb}
use Rattle.list_spec.specs.Choice.{pick}
use Rattle.method_spec.specs.Node.{Link, Node, absent}
use Rattle.method_spec.specs.Prog.{Want, Prog, done, want, start}
use Rattle.method_spec.specs.Answer.{pushed, popped, empty, full}
use Rattle.method_spec.specs.Outcome.{Outcome}

module _ {T : Type 0} where
  -- A push fetches none: a node with key entries + 1 whose left link is the old top.
  unfoldable pub push_prog : (nil : T) (value : ℕ) (tag : T) (entries limit : ℕ) → Link T → Prog T (Outcome T)
  push_prog nil value tag entries limit l =
      pick (ltb entries limit)
      (done
      (record {
        nodes = record { key = suc entries; value = value; tag = tag; left = l; right = absent nil } ∷ [];
        root = record { height = 1; key = suc entries; tag = tag };
        entries = suc entries;
        answer = pushed;
      }))
      (done (record { nodes = []; root = l; entries = entries; answer = full }))

  -- A pop fetches the top, and the root link becomes its left link.
  unfoldable pub pop_prog : (entries : ℕ) → Link T → Prog T (Outcome T)
  pop_prog entries l =
      pick (eqb l.height 0) (done (record { nodes = []; root = l; entries = entries; answer = empty }))
      (want (start l)
      (λ n. done
      (record { nodes = []; root = n.left; entries = pred entries; answer = popped n.value })))

  -- The stack's fetch test: no right link, and a left link of height 1 to the key before, absent exactly at key 1.
  unfoldable pub stack_test : Want T → Node T → Bool
  stack_test w n =
      pick (eqb n.right.height 0)
      (pick (eqb n.key 1) (eqb n.left.height 0)
      (pick (eqb n.left.height 1) (eqb (suc n.left.key) n.key) false)) false
