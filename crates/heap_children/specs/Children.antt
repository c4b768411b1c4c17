-- What the code says of a node's children.
use Rattle.std.specs.Prelude.{ℕ, ◌+◌, ◌≤◌, ◌≡◌, Bool, true, false, List, [], ◌∷◌, length, drop, Result, MatchResult}
use Rattle.list_spec.specs.Choice.{pick}
use Rattle.method_spec.specs.Node.{Node}
use Rattle.method_spec.specs.Prog.{Prog, bind}
use Rattle.method_spec.specs.Heap.{Pass, Lower, childless, lower, beneath, child_of, smaller}
use Rattle.slot_spec.specs.declared.Node as node
use Rattle.operation_spec.specs.declared.Want as want
use Rattle.operations.specs.Resume.{resume, finished, Misses}
use Rattle.node_rows.specs.Held.{Held, nodes_of}
use Rattle.heap_spans.specs.declared.Span.{Span}
use Rattle.heap_children.specs.declared.Child.{Child}
use Rattle.heap_children.specs.declared.Children.{Children}
use Rattle.heap_children.specs.declared.Lower as code
use Rattle.heap_spans.specs.Spans.{passes_of}

-- The fetched nodes from `next` on, which are beyond the way.
pub record Onward (h : Held) (way : List Bool) (next : ℕ) : Type 0 where
  pub room : h.count ≤ length h.nodes
  pub past : length way ≤ next

module _ (n : Node ℕ) where
  -- The child on a side, where `below` is at hand.
  pub record ChildTo (left : Bool) (below : Span) (count next : ℕ) (r : Child) : Type 0 where
    pub resumes : (h : Held) (way : List Bool) → h.count ≡ count → Onward h way next
        → resume (child_of (beneath n left) (passes_of h.nodes way below)) (drop next (nodes_of h))
        ≡ finished (passes_of h.nodes way r.span) (drop r.next (nodes_of h))
    pub onward : next ≤ r.next
    pub within : r.next ≤ count
    pub inside : r.span.at + r.span.length ≤ count
    pub counted : r.span.length + next ≡ below.length + r.next

  -- That, or the node that is missing.
  pub record ChildWaits (left : Bool) (below : Span) (count next : ℕ) (w : want.Want) : Type 0 where
    pub misses : (h : Held) (way : List Bool) → h.count ≡ count → Onward h way next
        → Misses (child_of (beneath n left) (passes_of h.nodes way below)) (drop next (nodes_of h)) w

  abbrev pub ChildIfHeld : (left : Bool) (below : Span) (count next : ℕ) → Result Child want.Want → Type 0
  ChildIfHeld left below count next r = MatchResult r (ChildTo left below count next) (ChildWaits left below count next)

  -- Both children, and what follows.
  pub record ChildrenTo (turn : Bool) (below : Span) (count next : ℕ) (r : Children) : Type 0 where
    pub resumes : (h : Held) (way : List Bool) → h.count ≡ count → Onward h way next → (f : (left right : List (Pass ℕ)) → Prog ℕ (List (Node ℕ)))
        → resume
        (bind (child_of (beneath n true) (pick turn (passes_of h.nodes way below) []))
        (λ a. bind (child_of (beneath n false) (pick turn [] (passes_of h.nodes way below))) (f a)))
        (drop next (nodes_of h))
        ≡ resume (f (passes_of h.nodes way r.left) (passes_of h.nodes way r.right)) (drop r.next (nodes_of h))
    pub onward : next ≤ r.next
    pub within : r.next ≤ count
    pub left-inside : r.left.at + r.left.length ≤ count
    pub right-inside : r.right.at + r.right.length ≤ count
    pub counted : r.left.length + r.right.length + next ≡ below.length + r.next

  -- That, or the node that is missing.
  pub record ChildrenWait (turn : Bool) (below : Span) (count next : ℕ) (w : want.Want) : Type 0 where
    pub misses : (h : Held) (way : List Bool) → h.count ≡ count → Onward h way next → (f : (left right : List (Pass ℕ)) → Prog ℕ (List (Node ℕ)))
        → Misses
        (bind (child_of (beneath n true) (pick turn (passes_of h.nodes way below) []))
        (λ a. bind (child_of (beneath n false) (pick turn [] (passes_of h.nodes way below))) (f a)))
        (drop next (nodes_of h)) w

  abbrev pub ChildrenIfHeld : (turn : Bool) (below : Span) (count next : ℕ) → Result Children want.Want → Type 0
  ChildrenIfHeld turn below count next r = MatchResult r (ChildrenTo turn below count next) (ChildrenWait turn below count next)

-- The smaller child and the others, as the method has them.
abbrev pub lower_from : (low others : List (Pass ℕ)) → Lower ℕ
lower_from [] others = childless
lower_from (p ∷ below) others = lower p below others

pub record LowerOf (nodes : List node.Node) (left right : Span) (r : code.Lower) : Type 0 where
  pub chooses : (way : List Bool) → smaller (passes_of nodes way left) (passes_of nodes way right) ≡ lower_from (passes_of nodes way r.low) (passes_of nodes way r.others)
  pub counted : r.low.length + r.others.length ≡ left.length + right.length
  pub inside : (most : ℕ) → left.at + left.length ≤ most → right.at + right.length ≤ most
      → (r.low.at + r.low.length ≤ most) × (r.others.at + r.others.length ≤ most)
