-- A number that sinks, turn by turn.
use Prim.Native.Nat.{ℕ, zero, suc, ◌+◌, ◌-◌, ◌≤◌, ◌<◌}
use native.Mathlib.Omega.{arith}
use Rattle.std.proofs.Common.{add-one, ◌∙◌, append_assoc, length-append}
use Rattle.std.specs.Prelude.{◌≡◌, Bool, List, [], ◌∷◌, ◌++◌, ltb, length, drop, Option, None, Some, IfSome}
use Rattle.std.proofs.Math.Path.{refl, sym, ap}
use Rattle.std.proofs.Math.Bool.{true, false}
use Rattle.method_spec.specs.Node.{Node, with_value}
use Rattle.method_spec.specs.Prog.{Prog}
use Rattle.method_spec.specs.Heap.{Pass, passed, smaller, above, sunk, sink}
use Rattle.slot_spec.specs.declared.Node as node
use Rattle.operation_spec.specs.declared.Want as want
use Rattle.operation_spec.specs.Method.{to_want}
use Rattle.operations.specs.Resume.{Resumed, missing, finished, resume, follow}
use Rattle.operations.specs.ResumeLaws.{resume-done, resume-map}
use Rattle.node_rows.specs.Row.{places, words}
use Rattle.node_rows.specs.Held.{Held, held_in, nodes_of, Lists}
use Rattle.heap_descent.specs.Way.{turn_at}
use Rattle.heap_spans.specs.declared.Span.{Span}
use Rattle.heap_children.specs.declared.Children.{Children}
use Rattle.heap_children.specs.declared.Lower as code
use Rattle.heap_sinking.specs.declared.Sinking.{Sinking}
use Rattle.heap_spans.specs.Spans.{below_first, fetched, node_in, pass_in, passes_from, passes_of}
use Rattle.heap_spans.specs.SpanLaws.{node-value, passes_none, passes-next, passed_length, first_counted}
use Rattle.heap_children.specs.Children.{ChildrenTo, ChildrenWait, lower_from, LowerOf}
use Rattle.heap_sinking.specs.Sinking.{sinks_in, Placed, sink_from, turned, GoesOn, PassTo, SinkReady, TurnTo, sink_all, SinksTo, Sinks}

-- ---- whether it sinks
module _ (nodes : List node.Node) (v : ℕ) (low : Span) (way : List Bool) where
  pub sinks-none : low.length ≡ 0 → false ≡ sinks_in v (passes_of nodes way low)
  sinks-none e = rw (passes_none nodes way low.length low.at e)

  pub sinks-by : (low.length ≡ 0 → ⊥) → ltb (fetched nodes low.at).value v ≡ sinks_in v (passes_of nodes way low)
  sinks-by e = rw (passes-next nodes way low.length low.at (omega arith), node-value nodes way low.at)

  pub sinks-some : sinks_in v (passes_of nodes way low) ≡ true → 0 < low.length
  sinks-some e = go low.length e
    where
      go : (n : ℕ) → sinks_in v (passes_from nodes way n low.at) ≡ true → 0 < n
      go zero d = let f = rw (passes_none nodes way 0 low.at refl) at d in let z : ◌≡◌ {A = ℕ} 0 1 = cc in absurd (omega arith)
      go (suc n) d = omega arith

-- ---- the method's turn, once both children are there
module _ (further : Pass ℕ → List (Pass ℕ) → Prog ℕ (List (Node ℕ))) (v : ℕ) (n : Node ℕ) (a b : List (Pass ℕ)) where
  rests : (low others : List (Pass ℕ)) (ns : List (Node ℕ)) → sinks_in v low ≡ false
      → resume (sunk further v n a b (lower_from low others)) ns ≡ finished (with_value v n ∷ (passed a ++ passed b)) ns
  rests [] others ns e = resume-done _ ns
  rests (p ∷ below) others ns e = rw e (resume-done _ ns)

  goes : (p : Pass ℕ) (below others : List (Pass ℕ)) (ns : List (Node ℕ)) → sinks_in v (p ∷ below) ≡ true
      → resume (sunk further v n a b (lower_from (p ∷ below) others)) ns
      ≡ follow (resume (further p below) ns) (λ out rest. finished (with_value p.node.value n ∷ (passed others ++ out)) rest)
  goes p below others ns e =
      rw e (resume-map (further p below) (λ out. with_value p.node.value n ∷ (passed others ++ out)) ns)

-- Results that are put together in two ways.
follow-follow : (r : Resumed ℕ (List (Node ℕ))) (f g k : List (Node ℕ) → List (Node ℕ)) → ((out : List (Node ℕ)) → g (f out) ≡ k out)
    → follow (follow r (λ out rest. finished (f out) rest)) (λ out rest. finished (g out) rest) ≡ follow r (λ out rest. finished (k out) rest)
follow-follow (missing w) f g k e = refl
follow-follow (finished out rest) f g k e = ap (λ (l : List (Node ℕ)). finished l rest) (e out)

follow-none : (r : Resumed ℕ (List (Node ℕ))) → follow r (λ out rest. finished out rest) ≡ r
follow-none (missing w) = refl
follow-none (finished out rest) = refl

-- ---- past a node
-- The node with its links to both children.
abbrev pub joined : List node.Node → List Bool → Node ℕ → Children → Node ℕ
joined nodes way n c = above true (passes_of nodes way c.left) (above false (passes_of nodes way c.right) n)

module _ (nodes : List node.Node) (way : List Bool) (ws : List ℕ) (count : ℕ) where
  list_counted : (a b : Span) {x : Node ℕ} {ws' : List ℕ} {k : ℕ}
      → Lists ws count (x ∷ (passed (passes_of nodes way a) ++ passed (passes_of nodes way b))) ws' k → k ≡ count + 1 + (a.length + b.length)
  list_counted a b lists =
      omega (
        arith,
        lists.counted,
        length-append (passed (passes_of nodes way a)) (passed (passes_of nodes way b)),
        passed_length nodes way a.length a.at,
        passed_length nodes way b.length b.at,
      )

module _ (nodes : List node.Node) (way : List Bool) (v : ℕ) (n : Node ℕ) (c : Children) (ws : List ℕ) (count : ℕ) where
  module _ {l : code.Lower} (chosen : LowerOf nodes c.left c.right l) {x : Node ℕ} {ws' : List ℕ} {k : ℕ} where
    pub pass_on : sinks_in v (passes_of nodes way l.low) ≡ true → {val : ℕ} → val ≡ (fetched nodes l.low.at).value → x ≡ with_value val (joined nodes way n c)
        → Lists ws count (x ∷ passed (passes_of nodes way l.others)) ws' k
        → PassTo nodes way v n c ws count ws' (record { span = Some l.low; next = c.next; made = k })
    pass_on e d f lists =
        let low = l.low in
        let out₁ = passed (passes_of nodes way l.others) in
        let some = sinks-some nodes v low way e in
        let cons = passes-next nodes way low.length low.at some in
        let counted = first_counted nodes way l.others lists in
        record {
          resumes = λ fuel ns.
              let a = passes_of nodes way c.left in
              let b = passes_of nodes way c.right in
              rw (chosen.chooses way, cons)
              (ap (λ (r : Resumed ℕ (List (Node ℕ))). follow r (λ out rest. finished (nodes_of (held_in ws count) ++ out) rest))
              (goes (sink fuel v) v (above true a (above false b n)) a b (pass_in nodes way low.at) (passes_of nodes way (below_first low)) (passes_of nodes way l.others) ns (rw cons at e))
              ∙ follow-follow (resume (sink fuel v (pass_in nodes way low.at) (passes_of nodes way (below_first low))) ns)
              (λ out. with_value (node_in nodes way low.at).value (above true a (above false b n)) ∷ (out₁ ++ out)) (λ out. nodes_of (held_in ws count) ++ out) (λ out. nodes_of (held_in ws' k) ++ out)
              (λ out. rw (lists.first, f, d, node-value nodes way low.at) (sym (append_assoc (nodes_of (held_in ws count)) (_ ∷ out₁) out))));
          long = lists.long;
          onward = refl;
          goes = record { inside = λ most p q. (chosen.inside most p q).0; some = some; counted = omega (arith, counted, chosen.counted) };
          few = omega (arith, counted, chosen.counted);
        }

    pub pass-rests : sinks_in v (passes_of nodes way l.low) ≡ false → x ≡ with_value v (joined nodes way n c)
        → Lists ws count (x ∷ (passed (passes_of nodes way c.left) ++ passed (passes_of nodes way c.right))) ws' k
        → PassTo nodes way v n c ws count ws' (record { span = None; next = c.next; made = k })
    pass-rests e f lists =
        record {
          resumes = λ fuel ns.
              let a = passes_of nodes way c.left in
              let b = passes_of nodes way c.right in
              rw (chosen.chooses way, lists.first, f)
              (ap (λ (r : Resumed ℕ (List (Node ℕ))). follow r (λ out rest. finished (nodes_of (held_in ws count) ++ out) rest))
              (rests (sink fuel v) v (above true a (above false b n)) a b (passes_of nodes way l.low) (passes_of nodes way l.others) ns e));
          long = lists.long;
          onward = refl;
          goes = tt;
          few = omega (arith, list_counted nodes way ws count c.left c.right lists);
        }

-- The node with another number and its links, put together from its parts.
pub valued : (nodes : List node.Node) (way : List Bool) (n : Node ℕ) (c : Children) {x m k : Node ℕ} (val : ℕ)
    → x ≡ with_value val m → m ≡ above true (passes_of nodes way c.left) k → k ≡ above false (passes_of nodes way c.right) n → x ≡ with_value val (joined nodes way n c)
valued nodes way n c val e f g = e ∙ ap (with_value val) (f ∙ ap (above true (passes_of nodes way c.left)) g)

-- ---- one turn
module _ (h : Held) (way : List Bool) (v : ℕ) (span : Span) (next dn : ℕ) (ws : List ℕ) where
  pub turn-missing : h.count ≤ length h.nodes → SinkReady h.count (length way) span next dn → {w : want.Want}
      → ChildrenWait (node_in h.nodes way span.at) (turn_at way span.at) (below_first span) h.count next w
      → (fuel : ℕ) → sink_from h.nodes way v (suc fuel) ws dn span (drop next (nodes_of h)) ≡ missing (to_want w)
  unfolding sink
  turn-missing fits ready kids fuel =
      ap (λ (r : Resumed ℕ (List (Node ℕ))). follow r (λ out rest. finished (nodes_of (held_in ws dn) ++ out) rest))
      (kids.misses h way refl (record { room = fits; past = ready.past })
      (λ a b. sunk (sink fuel v) v (above true a (above false b (node_in h.nodes way span.at))) a b (smaller a b)))

  module _ (fits : h.count ≤ length h.nodes) (most : h.count ≤ places)
      (ready : SinkReady h.count (length way) span next dn) {c : Children}
      (kids : ChildrenTo (node_in h.nodes way span.at) (turn_at way span.at) (below_first span) h.count next c) where
    level : (fuel : ℕ)
        → sink_from h.nodes way v (suc fuel) ws dn span (drop next (nodes_of h))
        ≡ follow
        (resume
        (sunk (sink fuel v) v (joined h.nodes way (node_in h.nodes way span.at) c) (passes_of h.nodes way c.left) (passes_of h.nodes way c.right) (smaller (passes_of h.nodes way c.left) (passes_of h.nodes way c.right)))
        (drop c.next (nodes_of h)))
        (λ out rest. finished (nodes_of (held_in ws dn) ++ out) rest)
    unfolding sink
    level fuel =
        ap (λ (r : Resumed ℕ (List (Node ℕ))). follow r (λ out rest. finished (nodes_of (held_in ws dn) ++ out) rest))
        (kids.resumes h way refl (record { room = fits; past = ready.past })
        (λ a b. sunk (sink fuel v) v (above true a (above false b (node_in h.nodes way span.at))) a b (smaller a b)))

    pub turn-placed : Placed dn c
    turn-placed =
        record {
          left = omega (arith, kids.left-inside);
          right = omega (arith, kids.right-inside);
          room = omega (arith, kids.counted, kids.within, ready.counted, ready.some);
        }

    goes-ready : (made to : ℕ) (low : Option Span) → to ≡ c.next → IfSome low (GoesOn h.nodes way v c dn made)
        → IfSome low (λ s. SinkReady h.count (length way) s to made)
    goes-ready made to None e g = tt
    goes-ready made to (Some s) e g =
        record {
          some = g.some;
          inside = g.inside h.count kids.left-inside kids.right-inside;
          counted = omega (arith, g.counted, e, kids.counted, ready.counted, ready.some);
          past = omega (arith, e, kids.onward, ready.past);
          within = omega (arith, e, kids.within);
        }

    pub turn-passes : {ws' : List ℕ} {r : Sinking} → PassTo h.nodes way v (node_in h.nodes way span.at) c ws dn ws' r → TurnTo h way v span next dn ws ws' r
    turn-passes {ws'} {r} past =
        record {
          resumes = λ fuel. level fuel ∙ rw past.onward (past.resumes fuel (drop c.next (nodes_of h)));
          long = past.long;
          ready = goes-ready r.made r.next r.span past.onward past.goes;
          few = omega (arith, past.few, kids.counted, kids.within, ready.counted, ready.some);
        }

-- ---- all turns
module _ (h : Held) (way : List Bool) (v : ℕ) where
  pub sink-start : (depth : ℕ) (ws : List ℕ) {left : ℕ} → left ≡ depth → depth ≡ length way → 0 < depth → depth < h.count → length ws ≡ words
      → Sinks h way v left (record { at = 0; length = depth }) (depth + 1) 0 ws
  sink-start depth ws l e some k long =
      rw l
      record {
        resumes = rw (add-one depth, e) (follow-none (sink_all h way v));
        long = long;
        ready = record { some = some; inside = omega arith; counted = omega arith; past = omega arith; within = omega arith };
      }

  module _ {fuel : ℕ} {span : Span} {next dn : ℕ} {ws : List ℕ} (now : Sinks h way v fuel span next dn ws) where
    module _ (less : ℕ) (more : fuel ≡ suc less) where
      pub sink-missing : (w : want.Want) → ((f : ℕ) → sink_from h.nodes way v (suc f) ws dn span (drop next (nodes_of h)) ≡ missing (to_want w))
          → sink_all h way v ≡ missing (to_want w)
      sink-missing w e = sym now.resumes ∙ rw more (e less)

      module _ {ws' : List ℕ} {r : Sinking} (turn : TurnTo h way v span next dn ws ws' r) where
        turning : turned h.nodes way v less ws' r.made r.span (drop r.next (nodes_of h)) ≡ sink_all h way v
        turning = sym (turn.resumes less) ∙ rw (← more) now.resumes

        pub sink-turn : {low : Span} → r.span ≡ Some low → Sinks h way v less low r.next r.made ws'
        sink-turn g = record { resumes = rw g at turning; long = turn.long; ready = rw g at turn.ready }

        pub sink_ends : r.span ≡ None → SinksTo h way v ws' r
        sink_ends g = record { resumes = sym (rw g at turning); long = turn.long; few = turn.few }

    -- No fuel is left.
    pub sink-last : fuel ≡ 0 → {x : Node ℕ} → x ≡ with_value v (node_in h.nodes way span.at) → {ws' : List ℕ} {k : ℕ}
        → Lists ws dn (x ∷ passed (passes_of h.nodes way (below_first span))) ws' k
        → h.count ≤ places → SinksTo h way v ws' (record { span = None; next = next; made = k })
    unfolding sink
    sink-last e f {ws'} {k} lists most =
        record {
          resumes =
              sym now.resumes
              ∙ rw (e, lists.first, f)
              (ap (λ (r : Resumed ℕ (List (Node ℕ))). follow r (λ out rest. finished (nodes_of (held_in ws dn) ++ out) rest)) (resume-done _ (drop next (nodes_of h))));
          long = lists.long;
          few = omega (
            arith,
            first_counted h.nodes way (below_first span) lists,
            now.ready.counted,
            now.ready.within,
            now.ready.some,
          );
        }
