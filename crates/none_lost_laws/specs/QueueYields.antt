-- The queue's programs, on any content: the nodes of the outcome are within their bounds, and their entries are those of the nodes given, but for
-- what the answer says.
use Rattle.std.specs.Prelude.{◌&&◌, [], ◌∷◌, ℕ, suc, ◌^◌, ◌≤◌, ◌<◌, eqb, ltb}
use Rattle.std.proofs.Math.Bool.{and-eq-true_iff}
use native.Mathlib.Omega.{arith}
use Rattle.std.proofs.Common.{eqb-true}
use Rattle.list_laws.specs.ChoiceLaws.{either}
use Rattle.method_spec.specs.Node.{Link, Ahead, Node}
use Rattle.method_spec.specs.Prog.{Want}
use Rattle.method_spec.specs.Answer as answer
use Rattle.method_spec.specs.Answer.{Op}
use Rattle.method_spec.specs.Queue.{newest, enqueue_prog, dequeue_prog, queue_test}
use Rattle.method_spec.specs.Call.{program}
use Rattle.leaf_spec.specs.Entries.{OpFits, KeyLeft}
use Rattle.none_lost_laws.specs.Fitting.{LinkFits, NodeFits, link-more, absent-fits, one-fits, proper-node}
use Rattle.none_lost_laws.specs.Yields.{ends, asks, yields-pick}
use Rattle.none_lost_laws.specs.AtHand.{at-hand-none, at-hand-given, at-hand-aside, at-hand-add}
use Rattle.none_lost_laws.specs.Given.{Given, YieldsBy}
use Rattle.method_spec.specs.Changes.{key_asked, value_asked, taken_out, brought_in, Answers, enqueue-queued, enqueue-full, dequeue-dequeued, dequeue-empty}
use Rattle.none_lost_laws.specs.Changes.{most_high, Yielded}

-- The queue's test bounds a node's heights by 1.
dequeued-fits : {k b : ℕ} {w : Want ℕ} {n : Node ℕ} → 1 ≤ b → Given k queue_test w n → NodeFits k b n
unfolding queue_test
dequeued-fits {k} {b} {w} {n} le got =
    let first = (and-eq-true_iff (eqb n.left.height 1) (eqb n.left.key (suc n.key) && eqb n.right.height 0)).0 got.passed in
    let others = (and-eq-true_iff (eqb n.left.key (suc n.key)) (eqb n.right.height 0)).0 first.1 in
    let left = eqb-true n.left.height 1 first.0 in
    let right = eqb-true n.right.height 0 others.1 in
    proper-node k got.proper (omega arith) (omega arith)

module _ {k h : ℕ} (spares : ℕ → ℕ) (limit entries : ℕ) (a : Ahead ℕ) (l : Link ℕ) (first : spares 0 < 2 ^ k) (second : spares 1 < 2 ^ k)
    (ahead : a.tag < 2 ^ k) (f : LinkFits k h l) where
  pub queue-yields : (op : Op answer.queue) → OpFits op → KeyLeft op a.key
      → YieldsBy k queue_test (Yielded k h (key_asked op entries a.key l) (value_asked op) (Answers op)) (program 0 op spares limit entries a l) []
  unfolding program enqueue_prog dequeue_prog key_asked value_asked taken_out brought_in
  queue-yields (answer.enqueue value) fits key_left =
      let n = newest 0 value (spares 0) (spares 1) entries a in
      let tag : n.tag < 2 ^ k = either (λ t. t < 2 ^ k) (eqb entries 0) first ahead in
      let key : n.key < 2 ^ 32 = omega arith in
      let fn : NodeFits k (most_high h) n =
      record { own = record { key = key; value = fits; tag = tag }; left = one-fits (omega arith) key_left second; right = absent-fits } in
      yields-pick (ltb entries limit)
      (ends
      (record {
        kind = enqueue-queued;
        nodes = at-hand-add fn at-hand-none;
        root = either (LinkFits k (suc (most_high h))) (eqb entries 0) (one-fits (omega arith) key tag) (link-more (omega arith) f);
      }))
      (ends (record { kind = enqueue-full; nodes = at-hand-none; root = link-more (omega arith) f }))
  queue-yields answer.dequeue fits key_left =
      yields-pick (eqb entries 0) (ends (record { kind = dequeue-empty; nodes = at-hand-none; root = link-more (omega arith) f }))
      (asks f.tag (λ n got.
      let fn : NodeFits k (most_high h) n = dequeued-fits (omega arith) got in
      ends
      (record {
        kind = dequeue-dequeued;
        nodes = rw (← got.named) (at-hand-aside (n ∷ []) (at-hand-given fn at-hand-none));
        root = either (LinkFits k (suc (most_high h))) (eqb entries 1) absent-fits (link-more (omega arith) fn.left);
      })))
