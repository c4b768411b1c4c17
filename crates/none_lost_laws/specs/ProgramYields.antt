-- The stack's programs, and those of every structure, on any content: the nodes of the outcome are within their bounds, and their entries are
-- those of the nodes given, as far as the structure keeps them together, but for what the answer says.
use Rattle.std.specs.Prelude.{◌≡◌, Bool, true, false, [], ◌∷◌, eqb, ltb}
use Prim.Native.Nat.{ℕ, suc, ◌^◌, ◌≤◌, ◌<◌}
use Rattle.std.proofs.Common.{arith, eqb-true}
use Rattle.list_spec.specs.Choice.{pick}
use Rattle.list_laws.specs.ChoiceLaws.{pick-both}
use Rattle.method_spec.specs.Node.{Link, Ahead, Node, absent}
use Rattle.method_spec.specs.Prog.{Want}
use Rattle.method_spec.specs.Answer as answer
use Rattle.method_spec.specs.Answer.{Structure, Op}
use Rattle.method_spec.specs.Stack.{push_prog, pop_prog, stack_test}
use Rattle.method_spec.specs.Rounds.{spare}
use Rattle.method_spec.specs.Call.{program, test}
use Rattle.none_lost_laws.specs.Fitting.{LinkFits, NodeFits, link-more, absent-fits, one-fits, proper-node}
use Rattle.none_lost_laws.specs.Yields.{ends, asks, yields-map, yields-pick}
use Rattle.none_lost_laws.specs.AtHand.{at-hand-none, at-hand-given, at-hand-aside, at-hand-add}
use Rattle.none_lost_laws.specs.Given.{Given, YieldsBy}
use Rattle.leaf_spec.specs.Entries.{OpFits, KeyLeft}
use Rattle.method_spec.specs.Changes.{key_asked, value_asked, taken_out, brought_in, Answers, push-pushed, push-full, pop-popped, pop-empty}
use Rattle.none_lost_laws.specs.Changes.{most_high, Yielded, Made, yielded-made}
use Rattle.none_lost_laws.specs.MapYields.{map-yields}
use Rattle.none_lost_laws.specs.HeapYields.{heap-yields}
use Rattle.none_lost_laws.specs.QueueYields.{queue-yields}

-- ---- the stack
-- The stack's test bounds a node's heights by 1.
stack-tested : (w : Want ℕ) (n : Node ℕ) → stack_test w n ≡ true → (n.left.height ≤ 1) × (n.right.height ≤ 1)
unfolding stack_test
stack-tested w n e =
    let r = pick-both (eqb n.right.height 0) _ e in
    let right = eqb-true n.right.height 0 r.0 in
    (left (eqb n.key 1) r.1, omega arith)
  where
    left : (t : Bool) → pick t (eqb n.left.height 0) (pick (eqb n.left.height 1) (eqb (suc n.left.key) n.key) false) ≡ true
        → n.left.height ≤ 1
    left true e = let z = eqb-true n.left.height 0 e in omega arith
    left false e = let z = eqb-true n.left.height 1 (pick-both _ _ e).0 in omega arith

popped-fits : {k b : ℕ} {w : Want ℕ} {n : Node ℕ} → 1 ≤ b → Given k stack_test w n → NodeFits k b n
popped-fits {k} {b} {w} {n} le got =
    let low = stack-tested w n got.passed in proper-node k got.proper (omega arith) (omega arith)

module _ {k h : ℕ} (spares : ℕ → ℕ) (limit entries : ℕ) (a : Ahead ℕ) (l : Link ℕ) (leaf : spares 0 < 2 ^ k) (f : LinkFits k h l) where
  stack-yields : suc entries < 2 ^ 32 → (op : Op answer.stack) → OpFits op
      → YieldsBy k stack_test (Yielded k h (key_asked op entries a.key l) (value_asked op) (Answers op)) (program 0 op spares limit entries a l) []
  unfolding program push_prog pop_prog key_asked value_asked taken_out brought_in
  stack-yields small (answer.push value) fits =
      let n : Node ℕ = record { key = suc entries; value = value; tag = spares 0; left = l; right = absent 0 } in
      let fn : NodeFits k (most_high h) n =
      record { own = record { key = small; value = fits; tag = leaf }; left = link-more (omega arith) f; right = absent-fits } in
      yields-pick (ltb entries limit)
      (ends
      (record {
        kind = push-pushed;
        nodes = at-hand-add fn at-hand-none;
        root = one-fits (omega arith) small leaf;
      }))
      (ends (record { kind = push-full; nodes = at-hand-none; root = link-more (omega arith) f }))
  stack-yields small answer.pop fits =
      yields-pick (eqb l.height 0) (ends (record { kind = pop-empty; nodes = at-hand-none; root = link-more (omega arith) f }))
      (asks f.tag (λ n got.
      let fn : NodeFits k (most_high h) n = popped-fits (omega arith) got in
      ends
      (record {
        kind = pop-popped;
        nodes = rw (← got.named) (at-hand-aside (n ∷ []) (at-hand-given fn at-hand-none));
        root = link-more (omega arith) fn.left;
      })))

-- ---- every structure
-- There is a key for what is stored, the spare draws and the tag drawn ahead are leaves, and the root link is in order.
pub program-yields : {s : Structure} {k h : ℕ} (op : Op s) (spares : ℕ → ℕ) (limit entries : ℕ) (a : Ahead ℕ) (l : Link ℕ)
    → OpFits op → KeyLeft op a.key → ((i : ℕ) → i < spare s → spares i < 2 ^ k) → a.tag < 2 ^ k → suc entries < 2 ^ 32 → LinkFits k h l
    → YieldsBy k (test s entries) (Made s k h (key_asked op entries a.key l) (value_asked op) (Answers op)) (program 0 op spares limit entries a l) []
unfolding test spare
program-yields {s = answer.map} op spares limit entries a l fits key_left leaves ahead small f =
    yields-map (λ o held y. yielded-made answer.map y) (map-yields spares limit entries a l (leaves 0 (omega arith)) f op fits)
program-yields {s = answer.stack} op spares limit entries a l fits key_left leaves ahead small f =
    yields-map (λ o held y. yielded-made answer.stack y) (stack-yields spares limit entries a l (leaves 0 (omega arith)) f small op fits)
program-yields {s = answer.heap} {k} {h} op spares limit entries a l fits key_left leaves ahead small f =
    heap-yields k h entries spares limit a l (leaves 0 (omega arith)) f small op fits
program-yields {s = answer.queue} op spares limit entries a l fits key_left leaves ahead small f =
    yields-map (λ o held y. yielded-made answer.queue y)
    (queue-yields spares limit entries a l (leaves 0 (omega arith)) (leaves 1 (omega arith)) ahead f op fits key_left)
