-- A number that sinks, as the code goes down.
use Rattle.std.specs.Prelude.{ℕ, suc, ◌+◌, ◌-◌, ◌≤◌, ◌<◌, ◌≡◌, Bool, true, false, List, [], ◌∷◌, ◌++◌, ltb, length, drop, Option, Some, None, Result, IfSome, MatchResult}
use Rattle.method_spec.specs.Node.{Node}
use Rattle.method_spec.specs.Heap.{Pass, smaller, above, sunk, sink}
use Rattle.slot_spec.specs.declared.Node as node
use Rattle.operation_spec.specs.declared.Want as want
use Rattle.operation_spec.specs.Method.{to_want}
use Rattle.operations.specs.Resume.{Resumed, missing, finished, resume, follow}
use Rattle.node_rows.specs.Row.{places, words}
use Rattle.node_rows.specs.Held.{Held, held_in, nodes_of}
use Rattle.heap_spans.specs.declared.Span.{Span}
use Rattle.heap_children.specs.declared.Children.{Children}
use Rattle.heap_sinking.specs.declared.Sinking.{Sinking}
use Rattle.heap_spans.specs.Spans.{below_first, pass_in, passes_from, passes_of}

-- Whether the number v sinks below the first node of a way down, if there is one.
abbrev pub sinks_in : ℕ → List (Pass ℕ) → Bool
sinks_in v [] = false
sinks_in v (p ∷ below) = ltb p.node.value v

-- Room in a row for a node and both its children.
pub record Placed (count : ℕ) (c : Children) : Type 0 where
  pub left : c.left.at + c.left.length ≤ places
  pub right : c.right.at + c.right.length ≤ places
  pub room : count + c.left.length + c.right.length < places

module _ (nodes : List node.Node) (way : List Bool) (v : ℕ) where
  -- What comes of v from the first node of a span on, after the first `made` nodes of a row.
  abbrev pub sink_from : (fuel : ℕ) → List ℕ → (made : ℕ) → Span → List (Node ℕ) → Resumed ℕ (List (Node ℕ))
  sink_from fuel ws made span ns =
      follow (resume (sink fuel v (pass_in nodes way span.at) (passes_of nodes way (below_first span))) ns)
      (λ out rest. finished (nodes_of (held_in ws made) ++ out) rest)

  -- The same after a turn: from the span on at which the number goes on, if it does.
  abbrev pub turned : (fuel : ℕ) → List ℕ → (made : ℕ) → Option Span → List (Node ℕ) → Resumed ℕ (List (Node ℕ))
  turned fuel ws made None ns = finished (nodes_of (held_in ws made)) ns
  turned fuel ws made (Some span) ns = sink_from fuel ws made span ns

  -- The span at which the number goes on past a node with its children.
  pub record GoesOn (c : Children) (count made : ℕ) (span : Span) : Type 0 where
    pub inside : (most : ℕ) → c.left.at + c.left.length ≤ most → c.right.at + c.right.length ≤ most → span.at + span.length ≤ most
    pub some : 0 < span.length
    pub counted : made + span.length ≡ count + 1 + (c.left.length + c.right.length)

  -- Past the node n with its children.
  pub record PassTo (n : Node ℕ) (c : Children) (ws : List ℕ) (count : ℕ) (ws' : List ℕ) (r : Sinking) : Type 0 where
    pub resumes : (fuel : ℕ) (ns : List (Node ℕ))
        → let a = passes_of nodes way c.left in
        let b = passes_of nodes way c.right in
        follow (resume (sunk (sink fuel v) v (above true a (above false b n)) a b (smaller a b)) ns)
        (λ out rest. finished (nodes_of (held_in ws count) ++ out) rest)
        ≡ turned fuel ws' r.made r.span ns
    pub long : length ws' ≡ words
    pub onward : r.next ≡ c.next
    pub goes : IfSome r.span (GoesOn c count r.made)
    pub few : r.made ≤ count + 1 + (c.left.length + c.right.length)

-- The number is at the first node of a span: of the fetched nodes that are taken all but the last position's are done with or at hand.
pub record SinkReady (count depth : ℕ) (span : Span) (next done : ℕ) : Type 0 where
  pub some : 0 < span.length
  pub inside : span.at + span.length ≤ count
  pub counted : done + span.length + 1 ≡ next
  pub past : depth ≤ next
  pub within : next ≤ count

module _ (h : Held) (way : List Bool) (v : ℕ) where
  pub record TurnTo (span : Span) (next done : ℕ) (ws ws' : List ℕ) (r : Sinking) : Type 0 where
    pub resumes : (fuel : ℕ)
        → sink_from h.nodes way v (suc fuel) ws done span (drop next (nodes_of h)) ≡ turned h.nodes way v fuel ws' r.made r.span (drop r.next (nodes_of h))
    pub long : length ws' ≡ words
    pub ready : IfSome r.span (λ low. SinkReady h.count (length way) low r.next r.made)
    pub few : r.made ≤ places

  -- That, or the node that the turn misses.
  abbrev pub TurnsIfHeld : (span : Span) (next done : ℕ) (ws ws' : List ℕ) → Result Sinking want.Want → Type 0
  TurnsIfHeld span next done ws ws' r =
      MatchResult r (TurnTo span next done ws ws') (λ w. (fuel : ℕ) → sink_from h.nodes way v (suc fuel) ws done span (drop next (nodes_of h)) ≡ missing (to_want w))

  -- All of it.
  abbrev pub sink_all : Resumed ℕ (List (Node ℕ))
  sink_all = resume (sink (length way) v (pass_in h.nodes way 0) (passes_from h.nodes way (length way - 1) 1)) (drop (suc (length way)) (nodes_of h))

  pub record SinksTo (ws : List ℕ) (r : Sinking) : Type 0 where
    pub resumes : sink_all ≡ finished (nodes_of (held_in ws r.made)) (drop r.next (nodes_of h))
    pub long : length ws ≡ words
    pub few : r.made ≤ places

  -- That, or the node that is missing.
  abbrev pub SinksIfHeld : List ℕ → Result Sinking want.Want → Type 0
  SinksIfHeld ws r = MatchResult r (SinksTo ws) (λ w. sink_all ≡ missing (to_want w))

  -- With so much fuel left.
  pub record Sinks (fuel : ℕ) (span : Span) (next done : ℕ) (ws : List ℕ) : Type 0 where
    pub resumes : sink_from h.nodes way v fuel ws done span (drop next (nodes_of h)) ≡ sink_all
    pub long : length ws ≡ words
    pub ready : SinkReady h.count (length way) span next done
