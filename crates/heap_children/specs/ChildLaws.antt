-- The children of a node, case by case.
use Rattle.std.specs.Prelude.{ℕ, suc, ◌+◌, ◌≤◌, ◌<◌, ◌≡◌, refl, Bool, true, false, not, length, drop}
use native.Mathlib.Omega.{arith}
use Rattle.std.proofs.Common.{add-one, sym, ◌∙◌, ap, eq-eqb, ne_eqb, le-leb}
use mathlib.Core.List.{List, [], ◌∷◌}
use Rattle.std.proofs.Math.ListN.{get_or-eq_default}
use Rattle.std.proofs.lemmas.Bool.{lt-leb}
use Rattle.list_spec.specs.Choice.{pick}
use Rattle.method_spec.specs.Node.{Node, child, with_child, link_one}
use Rattle.method_spec.specs.Prog.{Want, Prog, bind}
use Rattle.method_spec.specs.Heap.{Pass, beneath, child_of, smaller, above}
use Rattle.slot_spec.specs.declared.Link as link
use Rattle.slot_spec.specs.declared.Node as node
use Rattle.leaf_spec.specs.Convert.{to_link}
use Rattle.operation_spec.specs.declared.Want as want
use Rattle.operation_spec.specs.Method.{to_want}
use Rattle.operations.specs.Resume.{missing, finished, resume, follow, Misses}
use Rattle.operations.specs.ResumeLaws.{resume-done, resume-want, resume-missing, resume-bind}
use Rattle.node_rows.specs.Held.{Held, nodes_of, held_at}
use Rattle.node_rows.specs.HeldLaws.{held_next, held_none}
use Rattle.heap_spans.specs.declared.Span.{Span}
use Rattle.heap_children.specs.declared.Child.{Child}
use Rattle.heap_spans.specs.Spans.{no_span, fetched, passes_from, passes_of}
use Rattle.heap_spans.specs.SpanLaws.{node-off, node-link, node-value, passes_none, passes-next, passes-length}
use Rattle.heap_children.specs.Children.{Onward, ChildTo, ChildWaits, ChildrenTo, ChildrenWait, lower_from, LowerOf}

-- ---- the method's child on the nodes at hand

module _ (w : Want ℕ) where
  at-hand : (below : List (Pass ℕ)) (ns : List (Node ℕ)) → 0 < length below → resume (child_of w below) ns ≡ finished below ns
  unfolding child_of
  at-hand [] ns h = let z : ⊥ = omega arith in absurd z
  at-hand (p ∷ below) ns h = resume-done (p ∷ below) ns

  no-child : (ns : List (Node ℕ)) → w.link.height ≡ 0 → resume (child_of w []) ns ≡ finished [] ns
  unfolding child_of
  no-child ns e = rw (eq-eqb w.link.height 0 e) (resume-done [] ns)

  module _ (e : w.link.height ≡ 0 → ⊥) where
    child-missing : resume (child_of w []) [] ≡ missing w
    unfolding child_of
    child-missing = rw (ne_eqb w.link.height 0 e) (resume-missing w _)

    child-fetched : (n : Node ℕ) (ns : List (Node ℕ)) → resume (child_of w []) (n ∷ ns) ≡ finished (record { node = n; way = true } ∷ []) ns
    unfolding child_of
    child-fetched n ns = rw (ne_eqb w.link.height 0 e) (resume-want w _ n ns ∙ resume-done _ ns)

-- A fetched node beyond the way.
pass-fetched : (nodes : List node.Node) (way : List Bool) (i : ℕ) → length way ≤ i → passes_from nodes way 1 i ≡ record { node = fetched nodes i; way = true } ∷ []
pass-fetched nodes way i h =
    passes-next nodes way 1 i (omega arith)
    ∙ rw (node-off nodes way i h, get_or-eq_default way true {n = i} h, passes_none nodes way 0 (i + 1) refl)

bare-span : (below : Span) → below.length ≡ 0 → (h : Held) (way : List Bool) → passes_of h.nodes way below ≡ []
bare-span below e h way = passes_none h.nodes way below.length below.at e

-- ---- one child, as the code has it

module _ {n : Node ℕ} {left : Bool} {below : Span} {count next : ℕ} (inside : below.at + below.length ≤ count) (within : next ≤ count) where
  pub child-at-hand : 0 < below.length → ChildTo n left below count next (record { span = below; next = next })
  child-at-hand k =
      record {
        resumes = λ h way e on.
            at-hand (beneath n left) (passes_of h.nodes way below) (drop next (nodes_of h))
            (omega (arith, passes-length h.nodes way below.length below.at));
        onward = omega arith;
        within = within;
        inside = inside;
        counted = refl;
      }

  module _ (bare : below.length ≡ 0) {l : link.Link} (is : to_link l ≡ child left n) where
    pub child-none : l.height ≡ 0 → ChildTo n left below count next (record { span = below; next = next })
    child-none z =
        record {
          resumes = λ h way e on. rw (bare-span below bare h way) (no-child (beneath n left) (drop next (nodes_of h)) (rw (← is) z));
          onward = omega arith;
          within = within;
          inside = inside;
          counted = refl;
        }

    module _ (z : l.height ≡ 0 → ⊥) where
      pub child-waits : next ≡ count → {w : want.Want} → to_want w ≡ beneath n left
          → ChildWaits n left below count next w
      child-waits k f =
          record {
            misses = λ h way e on.
                rw (bare-span below bare h way, held_none h next (omega arith) on.room, f) (child-missing (beneath n left) (rw (← is) z));
          }

      pub child-next : (next ≡ count → ⊥)
          → ChildTo n left below count next (record { span = record { at = next; length = 1 }; next = next + 1 })
      child-next k =
          record {
            resumes = λ h way e on.
                rw (bare-span below bare h way, held_next h next (omega arith) on.room, pass-fetched h.nodes way next on.past, add-one next)
                (child-fetched (beneath n left) (rw (← is) z) (held_at h next) (drop (suc next) (nodes_of h)));
            onward = omega arith;
            within = omega arith;
            inside = omega arith;
            counted = omega (arith, bare);
          }

-- ---- both children

module _ (nodes : List node.Node) (way : List Bool) (below : Span) where
  left-side : (turn : Bool) → pick turn (passes_of nodes way below) [] ≡ passes_of nodes way (pick turn below no_span)
  left-side true = refl
  left-side false = sym (passes_none nodes way 0 0 refl)

  right_side : (turn : Bool) → pick turn [] (passes_of nodes way below) ≡ passes_of nodes way (pick (not turn) below no_span)
  right_side true = sym (passes_none nodes way 0 0 refl)
  right_side false = refl

-- What is at hand on one side only is as many nodes, and as well inside.
pub side-inside : (t : Bool) (below : Span) (count : ℕ) → below.at + below.length ≤ count
    → (pick t below no_span).at + (pick t below no_span).length ≤ count
side-inside true below count h = h
side-inside false below count h = omega arith

sides-counted : (t : Bool) (below : Span) → (pick t below no_span).length + (pick (not t) below no_span).length ≡ below.length
sides-counted true below = omega arith
sides-counted false below = omega arith

-- The program of both children, by what comes of the first.
module _ (n : Node ℕ) (turn : Bool) (below : Span) (next : ℕ) where
  module _ (h : Held) (way : List Bool) (f : (left right : List (Pass ℕ)) → Prog ℕ (List (Node ℕ))) where
    by_first : resume
        (bind (child_of (beneath n true) (pick turn (passes_of h.nodes way below) []))
        (λ x. bind (child_of (beneath n false) (pick turn [] (passes_of h.nodes way below))) (f x)))
        (drop next (nodes_of h))
        ≡ follow (resume (child_of (beneath n true) (passes_of h.nodes way (pick turn below no_span))) (drop next (nodes_of h)))
        (λ x rest. resume (bind (child_of (beneath n false) (pick turn [] (passes_of h.nodes way below))) (f x)) rest)
    by_first =
        resume-bind (child_of (beneath n true) (pick turn (passes_of h.nodes way below) []))
        (λ x. bind (child_of (beneath n false) (pick turn [] (passes_of h.nodes way below))) (f x)) (drop next (nodes_of h))
        ∙ ap (λ (l : List (Pass ℕ)). follow (resume (child_of (beneath n true) l) (drop next (nodes_of h)))
        (λ x rest. resume (bind (child_of (beneath n false) (pick turn [] (passes_of h.nodes way below))) (f x)) rest))
        (left-side h.nodes way below turn)

module _ {n : Node ℕ} (turn : Bool) (below : Span) {count next : ℕ} where
  pub children-missing : {w : want.Want} → ChildWaits n true (pick turn below no_span) count next w → ChildrenWait n turn below count next w
  children-missing first = record { misses = λ h way e on f. by_first n turn below next h way f ∙ rw (first.misses h way e on) }

  module _ {a : Child} (first : ChildTo n true (pick turn below no_span) count next a) where
    module _ (h : Held) (way : List Bool) (e : h.count ≡ count) (on : Onward h way next) (f : (left right : List (Pass ℕ)) → Prog ℕ (List (Node ℕ))) where
      by-second : resume
          (bind (child_of (beneath n true) (pick turn (passes_of h.nodes way below) []))
          (λ x. bind (child_of (beneath n false) (pick turn [] (passes_of h.nodes way below))) (f x)))
          (drop next (nodes_of h))
          ≡ follow (resume (child_of (beneath n false) (passes_of h.nodes way (pick (not turn) below no_span))) (drop a.next (nodes_of h)))
          (λ x rest. resume (f (passes_of h.nodes way a.span) x) rest)
      by-second =
          by_first n turn below next h way f
          ∙ rw (first.resumes h way e on)
          (resume-bind (child_of (beneath n false) (pick turn [] (passes_of h.nodes way below))) (f (passes_of h.nodes way a.span)) (drop a.next (nodes_of h))
          ∙ ap (λ (l : List (Pass ℕ)). follow (resume (child_of (beneath n false) l) (drop a.next (nodes_of h))) (λ x rest. resume (f (passes_of h.nodes way a.span) x) rest))
          (right_side h.nodes way below turn))

      onward-too : Onward h way a.next
      onward-too = record { room = on.room; past = omega (arith, on.past, first.onward) }

    pub children_waiting : {w : want.Want} → ChildWaits n false (pick (not turn) below no_span) count a.next w → ChildrenWait n turn below count next w
    children_waiting second =
        record { misses = λ h way e on f. by-second h way e on f ∙ rw (second.misses h way e (onward-too h way e on f)) }

    pub children-both : {b : Child} → ChildTo n false (pick (not turn) below no_span) count a.next b
        → ChildrenTo n turn below count next (record { left = a.span; right = b.span; next = b.next })
    children-both {b} second =
        record {
          resumes = λ h way e on f. by-second h way e on f ∙ rw (second.resumes h way e (onward-too h way e on f));
          onward = omega (arith, first.onward, second.onward);
          within = second.within;
          left-inside = first.inside;
          right-inside = second.inside;
          counted = omega (arith, first.counted, second.counted, sides-counted turn below);
        }

-- ---- the node above them

module _ (nodes : List node.Node) (way : List Bool) (s : Bool) (n : Node ℕ) (span : Span) where
  pub above-none : span.length ≡ 0 → above s (passes_of nodes way span) n ≡ n
  above-none e = rw (passes_none nodes way span.length span.at e)

  pub above-one : (span.length ≡ 0 → ⊥) → above s (passes_of nodes way span) n ≡ with_child s n (link_one (fetched nodes span.at))
  above-one e =
      rw (passes-next nodes way span.length span.at (omega arith)) (ap (with_child s n) (node-link nodes way span.at))

-- ---- the smaller child

only-left : (a : List (Pass ℕ)) → smaller a [] ≡ lower_from a []
only-left [] = refl
only-left (p ∷ a) = refl

only-right : (b : List (Pass ℕ)) → smaller [] b ≡ lower_from b []
only-right [] = refl
only-right (p ∷ b) = refl

module _ (nodes : List node.Node) {left right : Span} where
  left-low : ((way : List Bool) → smaller (passes_of nodes way left) (passes_of nodes way right) ≡ lower_from (passes_of nodes way left) (passes_of nodes way right))
      → LowerOf nodes left right (record { low = left; others = right })
  left-low e = record { chooses = e; counted = refl; inside = λ most a b. (a, b) }

  right-low : ((way : List Bool) → smaller (passes_of nodes way left) (passes_of nodes way right) ≡ lower_from (passes_of nodes way right) (passes_of nodes way left))
      → LowerOf nodes left right (record { low = right; others = left })
  right-low e = record { chooses = e; counted = omega arith; inside = λ most a b. (b, a) }

  pub no-right : right.length ≡ 0 → LowerOf nodes left right (record { low = left; others = right })
  no-right e = left-low (λ way. rw (passes_none nodes way right.length right.at e) (only-left (passes_of nodes way left)))

  pub no-left : left.length ≡ 0 → LowerOf nodes left right (record { low = right; others = left })
  no-left e = right-low (λ way. rw (passes_none nodes way left.length left.at e) (only-right (passes_of nodes way right)))

  module _ (a : left.length ≡ 0 → ⊥) (b : right.length ≡ 0 → ⊥) where
    pub left-smaller : (fetched nodes left.at).value ≤ (fetched nodes right.at).value → LowerOf nodes left right (record { low = left; others = right })
    left-smaller h =
        left-low (λ way. rw (
          passes-next nodes way left.length left.at (omega arith),
          passes-next nodes way right.length right.at (omega arith),
          node-value nodes way left.at,
          node-value nodes way right.at,
          le-leb (fetched nodes left.at).value (fetched nodes right.at).value h,
        ))

    pub right-smaller : (fetched nodes right.at).value < (fetched nodes left.at).value → LowerOf nodes left right (record { low = right; others = left })
    right-smaller h =
        right-low (λ way. rw (
          passes-next nodes way left.length left.at (omega arith),
          passes-next nodes way right.length right.at (omega arith),
          node-value nodes way left.at,
          node-value nodes way right.at,
          lt-leb (fetched nodes left.at).value (fetched nodes right.at).value h,
        ))
