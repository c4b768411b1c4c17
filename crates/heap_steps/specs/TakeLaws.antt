-- The heap's take on the nodes at hand.
use Prim.Native.Nat.{ℕ, suc, pred, ◌-◌, ◌≤◌, ◌<◌}
use Rattle.std.specs.Result.{result_err}
use Rattle.std.proofs.Common.{arith, ◌∙◌, ap, eq-eqb, ne_eqb}
use Rattle.std.proofs.Math.Decide.{dec_lt}
use Rattle.std.specs.Prelude.{◌≡◌, refl, List, [], drop, get_or, Result, Ok, Err}
use Rattle.std.proofs.Math.ListN.{length}
use Rattle.method_spec.specs.Node.{Link, Node, absent, link_one}
use Rattle.method_spec.specs.Prog.{Prog, want, start}
use Rattle.method_spec.specs.Answer.{taken, empty}
use Rattle.method_spec.specs.Outcome.{Outcome}
use Rattle.method_spec.specs.Heap.{Reached, way_to, descend, downward, sink, replace_root, take_prog}
use Rattle.slot_spec.specs.declared.Link as link
use Rattle.slot_spec.specs.declared.Node as node
use Rattle.slot_spec.specs.Slot.{no_node}
use Rattle.slot_spec.specs.Row.{nodes_from}
use Rattle.leaf_spec.specs.Convert.{to_link, to_node}
use Rattle.operation_spec.specs.declared.Want as want
use Rattle.operation_spec.specs.declared.Answer.TheVariants.{Taken}
use Rattle.operation_spec.specs.Method.{nothing, to_want, to_wanted, to_outcome}
use Rattle.operations.specs.Resume.{Resumed, missing, finished, resume, follow, wanted_of, outcome_of}
use Rattle.operations.specs.ResumeLaws.{resume-done, resume-want, resume-missing, resume-bind, resume-map}
use Rattle.node_rows.specs.Row.{places, words}
use Rattle.node_rows.specs.Held.{Held, held_in, nodes_of, held_at}
use Rattle.node_rows.specs.HeldLaws.{held_next, held_none, held-room}
use Rattle.heap_descent.specs.declared.way.Way.{Way}
use Rattle.heap_descent.specs.Way.{Leads, want_at, trail}
use Rattle.heap_descent.specs.WayLaws.{descend-missing, descend-end}
use Rattle.heap_spans.specs.Spans.{pass_in, passes_from}
use Rattle.heap_spans.specs.SpanLaws.{node-link, node-value, passes_none, passes-next, passes-length, downward-passes}
use Rattle.heap_sinking.specs.declared.Sinking.{Sinking}
use Rattle.heap_sinking.specs.Sinking.{sink_all, SinksTo, SinksIfHeld}

-- A take's outcome, with those nodes and that root link.
abbrev pub shrunk : Link ℕ → (entries value : ℕ) → List (Node ℕ) → Outcome ℕ
shrunk l entries value out = record { nodes = out; root = l; entries = pred entries; answer = taken value }

module _ (entries : ℕ) (l : Link ℕ) where
  pub take-empty : (ns : List (Node ℕ)) → entries ≡ 0 → resume (take_prog 0 entries l) ns ≡ finished (nothing l entries empty) ns
  unfolding take_prog
  take-empty ns e = rw (eq-eqb entries 0 e) (resume-done _ ns)

  module _ (h : Held) (few : h.count ≤ length h.nodes) (k : entries ≡ 0 → ⊥) where
    -- The last position's node, once the way has come to it.
    abbrev last_of : Reached ℕ → Prog ℕ (Outcome ℕ)
    last_of r = want r.end (λ z. replace_root 0 entries z (downward (absent 0) r.path []))

    by_way : resume (take_prog 0 entries l) (nodes_of h)
        ≡ follow (resume (descend (way_to entries) (start l) []) (nodes_of h)) (λ r rest. resume (last_of r) rest)
    unfolding take_prog
    by_way = rw (ne_eqb entries 0 k) (resume-bind (descend (way_to entries) (start l) []) last_of (nodes_of h))

    at-end : length (way_to entries) ≤ h.count
        → let way = way_to entries in
        resume (take_prog 0 entries l) (nodes_of h)
        ≡ resume (last_of (record { end = want_at h (start l) way (length way); path = trail h way (length way) })) (drop (length way) (nodes_of h))
    at-end m = by_way ∙ ap (λ (r : Resumed ℕ (Reached ℕ)). follow r (λ r rest. resume (last_of r) rest)) (descend-end h (start l) (way_to entries) few m)

    take-missing : h.count ≤ length (way_to entries) → resume (take_prog 0 entries l) (nodes_of h) ≡ missing (want_at h (start l) (way_to entries) h.count)
    take-missing m = go (dec_lt h.count (length (way_to entries)))
      where
        go : Dec (h.count < length (way_to entries)) → resume (take_prog 0 entries l) (nodes_of h) ≡ missing (want_at h (start l) (way_to entries) h.count)
        go (yes n) = by_way ∙ ap (λ (r : Resumed ℕ (Reached ℕ)). follow r (λ r rest. resume (last_of r) rest)) (descend-missing h (start l) (way_to entries) few n)
        go (no n) =
            let e : length (way_to entries) ≡ h.count = omega arith in
            at-end (omega arith) ∙ rw (e, held_none h h.count (omega arith) few) (resume-missing (want_at h (start l) (way_to entries) h.count) _)

    module _ (m : length (way_to entries) < h.count) where
      with-last : let way = way_to entries in
          resume (take_prog 0 entries l) (nodes_of h)
          ≡ resume (replace_root 0 entries (held_at h (length way)) (passes_from h.nodes way (length way) 0)) (drop (suc (length way)) (nodes_of h))
      with-last =
          let way = way_to entries in
          at-end (omega arith)
          ∙ rw (held_next h (length way) m few)
          (resume-want _ _ (held_at h (length way)) (drop (suc (length way)) (nodes_of h)) ∙ rw (downward-passes h way))

      take-only : length (way_to entries) ≡ 0
          → resume (take_prog 0 entries l) (nodes_of h) ≡ finished (shrunk (absent 0) entries (held_at h 0).value []) (drop 1 (nodes_of h))
      unfolding replace_root
      take-only e = with-last ∙ rw (e, passes_none h.nodes (way_to entries) 0 0 refl) (resume-done _ (drop 1 (nodes_of h)))

      take-sinks : (length (way_to entries) ≡ 0 → ⊥)
          → let way = way_to entries in
          resume (take_prog 0 entries l) (nodes_of h)
          ≡ follow (sink_all h way (held_at h (length way)).value) (λ out rest. finished (shrunk (link_one (held_at h 0)) entries (held_at h 0).value out) rest)
      unfolding replace_root
      take-sinks e =
          let way = way_to entries in
          let below = passes_from h.nodes way (length way - 1) 1 in
          let fuel : suc (length below) ≡ length way = omega (arith, passes-length h.nodes way (length way - 1) 1) in
          with-last
          ∙ rw (passes-next h.nodes way (length way) 0 (omega arith))
          (resume-map (sink (suc (length below)) (held_at h (length way)).value (pass_in h.nodes way 0) below) _ (drop (suc (length way)) (nodes_of h))
          ∙ rw (fuel, node-link h.nodes way 0, node-value h.nodes way 0))

-- As the code has it.
module _ (entries : ℕ) (root : link.Link) (ws : List ℕ) (count : ℕ) (long : length ws ≡ words) (most : count ≤ places) (k : entries ≡ 0 → ⊥) (way : Way)
    (to : way.position ≡ entries) (leads : Leads way) where
  deep : way.depth ≡ length (way_to entries)
  deep = leads.turns ∙ ap (λ (i : ℕ). length (way_to i)) to

  pub take-stops : count ≤ way.depth
      → resume (take_prog 0 entries (to_link root)) (nodes_of (held_in ws count)) ≡ missing (want_at (held_in ws count) (start (to_link root)) (way_to way.position) count)
  take-stops m = rw to (take-missing entries (to_link root) (held_in ws count) (held-room ws long count most) k (omega (arith, deep)))

  module _ (m : way.depth < count) where
    pub take_last : way.depth ≡ 0 → {z : node.Node} → z ≡ get_or (nodes_from ws) way.depth no_node
        → resume (take_prog 0 entries (to_link root)) (nodes_of (held_in ws count)) ≡ finished (shrunk (absent 0) entries z.value []) (drop 1 (nodes_of (held_in ws count)))
    take_last e f =
        rw (f, e) (take-only entries (to_link root) (held_in ws count) (held-room ws long count most) k (omega (arith, deep)) (omega (arith, deep)))

    pub take-clears : way.depth ≡ 0 → {z : node.Node} → z ≡ get_or (nodes_from ws) way.depth no_node → {l : link.Link} → to_link l ≡ absent 0 → {fewer : ℕ} → fewer ≡ pred entries
        → to_outcome (record { made = 0; root = l; entries = fewer; answer = Ok (Taken z.value) }) []
        ≡ outcome_of (to_link root) entries (resume (take_prog 0 entries (to_link root)) (nodes_of (held_in ws count)))
    take-clears e f g fewer = rw (take_last e f, g, fewer)

    module _ (e : way.depth ≡ 0 → ⊥) {z : node.Node} (f : z ≡ get_or (nodes_from ws) way.depth no_node) where
      by-sinking : resume (take_prog 0 entries (to_link root)) (nodes_of (held_in ws count))
          ≡ follow (sink_all (held_in ws count) (way_to way.position) z.value)
          (λ out rest. finished (shrunk (link_one (held_at (held_in ws count) 0)) entries (held_at (held_in ws count) 0).value out) rest)
      by-sinking =
          let v : z.value ≡ (held_at (held_in ws count) (length (way_to entries))).value = ap (λ (n : node.Node). n.value) (f ∙ ap (λ (i : ℕ). get_or (nodes_from ws) i no_node) deep) in
          take-sinks entries (to_link root) (held_in ws count) (held-room ws long count most) k (omega (arith, deep)) (λ d. e (deep ∙ d))
          ∙ rw (to, v)

      pub take-misses : (w : want.Want) → sink_all (held_in ws count) (way_to way.position) z.value ≡ missing (to_want w)
          → resume (take_prog 0 entries (to_link root)) (nodes_of (held_in ws count)) ≡ missing (to_want w)
      take-misses w d = by-sinking ∙ rw d

      module _ {ws' : List ℕ} {r : Sinking} (sinks : SinksTo (held_in ws count) (way_to way.position) z.value ws' r) where
        taken-all : resume (take_prog 0 entries (to_link root)) (nodes_of (held_in ws count))
            ≡ finished (shrunk (link_one (held_at (held_in ws count) 0)) entries (held_at (held_in ws count) 0).value (nodes_of (held_in ws' r.made))) (drop r.next (nodes_of (held_in ws count)))
        taken-all = by-sinking ∙ rw sinks.resumes

        pub take-makes : {top : node.Node} → top ≡ get_or (nodes_from ws) 0 no_node → {l : link.Link} → to_link l ≡ link_one (to_node top) → {fewer : ℕ} → fewer ≡ pred entries
            → (to_outcome (record { made = r.made; root = l; entries = fewer; answer = Ok (Taken top.value) }) (nodes_of (held_in ws' r.made))
            ≡ outcome_of (to_link root) entries (resume (take_prog 0 entries (to_link root)) (nodes_of (held_in ws count))))
            × (r.made ≤ places)
        take-makes t u fewer = (rw (taken-all, u, fewer, t), sinks.few)

      -- The node that is missing where the number sinks is wanted.
      pub take-wants : (ws' : List ℕ) (r : Result Sinking want.Want) → SinksIfHeld (held_in ws count) (way_to way.position) z.value ws' r
          → to_wanted (result_err r) ≡ wanted_of (resume (take_prog 0 entries (to_link root)) (nodes_of (held_in ws count)))
      take-wants ws' (Ok r) sinks = rw (taken-all sinks)
      take-wants ws' (Err w) misses = rw (take-misses w misses)
