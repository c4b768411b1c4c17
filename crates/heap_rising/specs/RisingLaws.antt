-- The way up from a new position, level by level.
use Rattle.std.specs.Prelude.{ℕ, suc, ◌+◌, ◌-◌, ◌≤◌, ◌<◌, ◌≡◌, refl, Bool, true, false, List, [], ◌∷◌, ◌++◌, length, set}
use Rattle.std.proofs.Common.{arith, add-one, sym, ◌∙◌, append_assoc}
use Rattle.std.proofs.Math.Path.{ap}
use borrow.Author.Tests.{lt-ltb, le-ltb}
use Rattle.method_spec.specs.Node.{Node, with_value, link_one}
use Rattle.method_spec.specs.Heap.{Pass, over, settled, rise, topmost}
use Rattle.slot_spec.specs.declared.Node as node
use Rattle.slot_spec.specs.Row.{nodes_from}
use Rattle.leaf_spec.specs.Convert.{to_node}
use Rattle.node_rows.specs.Row.{words}
use Rattle.node_rows.specs.Held.{Held, held_in, nodes_of, held_at}
use Rattle.node_rows.specs.HeldLaws.{row_more}
use Rattle.heap_descent.specs.Way.{turn_at, trail}
use Rattle.heap_descent.specs.NodeLaws.{link-kept}
use Rattle.heap_descent.specs.WayLaws.{trail-none, trail-next}
use Rattle.heap_rising.specs.declared.Lifted.{Lifted}
use Rattle.heap_rising.specs.Rising.{upward, LiftsTo, RisesTo, Rises}

-- ---- one level
module _ (n p : Node ℕ) (left : Bool) {upper : node.Node} (is : to_node upper ≡ over (record { node = p; way = left }) n) where
  over-link : link_one (to_node upper) ≡ link_one p
  over-link = ap link_one is ∙ link-kept left p (link_one n)

  module _ {rising : Bool} (e : rising ≡ true) where
    pub lift-on : n.value < p.value → {a b : node.Node} → to_node a ≡ with_value p.value n → to_node b ≡ with_value n.value (to_node upper)
        → LiftsTo n p left rising (record { lower = a; upper = b; rising = true })
    unfolding rise
    lift-on k f g =
        record {
          makes = λ path. rw (e, lt-ltb n.value p.value k, f, g ∙ ap (with_value n.value) is);
          link = ap link_one g ∙ over-link;
        }

    pub lift-rests : p.value ≤ n.value → {a : node.Node} → to_node a ≡ n → LiftsTo n p left rising (record { lower = a; upper = upper; rising = false })
    unfolding rise
    lift-rests k f =
        record { makes = λ path. rw (e, le-ltb n.value p.value k, f, is); link = over-link }

  pub lift-settled : {rising : Bool} → rising ≡ false → {a : node.Node} → to_node a ≡ n → LiftsTo n p left rising (record { lower = a; upper = upper; rising = false })
  unfolding settled
  lift-settled e f = record { makes = λ path. rw (e, f, is); link = over-link }

-- ---- all levels
upward-end : (rising : Bool) (n : Node ℕ) → upward rising n [] ≡ n ∷ []
unfolding rise settled
upward-end true n = refl
upward-end false n = refl

topmost-link : (n m : Node ℕ) → link_one n ≡ link_one m → (path : List (Pass ℕ)) → link_one (topmost n path) ≡ link_one (topmost m path)
unfolding topmost
topmost-link n m e [] = e
topmost-link n m e (p ∷ path) = refl

topmost-next : (n : Node ℕ) (p : Pass ℕ) (path : List (Pass ℕ)) → topmost n (p ∷ path) ≡ topmost p.node path
unfolding topmost
topmost-next n p path = refl

topmost-none : (n : Node ℕ) → topmost n [] ≡ n
unfolding topmost
topmost-none n = refl

module _ (h : Held) (way : List Bool) (n : Node ℕ) where
  pub rise-start : (ws : List ℕ) (depth : ℕ) → depth ≡ length way → length ws ≡ words → Rises h way n ws 0 true n depth
  rise-start ws depth e long = record { makes = rw e; root = rw e; long = long; counted = omega arith }

  module _ {ws : List ℕ} {dn : ℕ} {rising : Bool} {top : Node ℕ} {i : ℕ} (few : length way ≤ 15) (now : Rises h way n ws dn rising top i) where
    pub rise-level : {j at more : ℕ} → i ≡ suc j → at ≡ dn → more ≡ dn + 1 → {p : node.Node} {left : Bool} {r : Lifted} {ws' : List ℕ}
        → to_node p ≡ held_at h j → left ≡ turn_at way j
        → LiftsTo top (to_node p) left rising r → nodes_from ws' ≡ set (nodes_from ws) at r.lower → length ws' ≡ words
        → Rises h way n ws' more r.rising (to_node r.upper) j
    rise-level {j} {at} s here then {p} {left} {r} {ws'} e f lifts placed long =
        let stored : nodes_from ws' ≡ set (nodes_from ws) dn r.lower = rw here at placed in
        let pass : Pass ℕ = record { node = to_node p; way = left } in
        let next : trail h way i ≡ pass ∷ trail h way j = ap (trail h way) s ∙ trail-next h way j ∙ rw (e, f) in
        let before = nodes_of (held_in ws dn) in
        let rest = upward r.rising (to_node r.upper) (trail h way j) in
        record {
          makes =
              rw (then, add-one dn, row_more ws now.long ws' dn r.lower (omega (arith, now.counted)) stored)
              (append_assoc before (to_node r.lower ∷ []) rest
              ∙ ap (λ (l : List (Node ℕ)). before ++ l) (sym (lifts.makes (trail h way j)))
              ∙ ap (λ (l : List (Pass ℕ)). before ++ upward rising top l) (sym next)
              ∙ now.makes);
          root =
              topmost-link (to_node r.upper) (to_node p) lifts.link (trail h way j)
              ∙ ap link_one (sym (topmost-next top pass (trail h way j)))
              ∙ ap (λ (l : List (Pass ℕ)). link_one (topmost top l)) (sym next)
              ∙ now.root;
          long = long;
          counted = omega (arith, now.counted);
        }

    pub rise-end : {at : ℕ} → i ≡ 0 → at ≡ dn → {m : node.Node} {ws' : List ℕ} → to_node m ≡ top → nodes_from ws' ≡ set (nodes_from ws) at m → length ws' ≡ words
        → RisesTo h way n ws' top
    rise-end e here {m} {ws'} f placed long =
        let stored : nodes_from ws' ≡ set (nodes_from ws) dn m = rw here at placed in
        let d : suc (length way) ≡ suc dn = omega (arith, now.counted) in
        let none : trail h way i ≡ [] = ap (trail h way) e ∙ trail-none h way in
        let before = nodes_of (held_in ws dn) in
        record {
          makes =
              rw (d, row_more ws now.long ws' dn m (omega (arith, now.counted)) stored, f)
              (ap (λ (l : List (Node ℕ)). before ++ l) (sym (upward-end rising top))
              ∙ ap (λ (l : List (Pass ℕ)). before ++ upward rising top l) (sym none)
              ∙ now.makes);
          root = ap link_one (sym (topmost-none top)) ∙ ap (λ (l : List (Pass ℕ)). link_one (topmost top l)) (sym none) ∙ now.root;
          long = long;
        }
