-- The heap's add on the nodes at hand.
use Rattle.std.specs.Prelude.{ℕ, suc, ◌+◌, ◌≤◌, ◌<◌, ◌≡◌, List, [], length, drop, Ok}
use Rattle.std.proofs.Common.{arith, add-one, ◌∙◌, ap, lt-ltb, le-ltb}
use Rattle.std.proofs.Math.Option.{none}
use Rattle.method_spec.specs.Node.{Link, Node, link_one}
use Rattle.method_spec.specs.Answer.{added, full}
use Rattle.method_spec.specs.Outcome.{Outcome}
use Rattle.method_spec.specs.Prog.{start}
use Rattle.method_spec.specs.Heap.{Reached, way_to, descend, new_node, rise, topmost, add_prog}
use Rattle.slot_spec.specs.declared.Link as link
use Rattle.slot_spec.specs.declared.Node as node
use Rattle.leaf_spec.specs.Convert.{to_link, to_node}
use Rattle.operation_spec.specs.declared.Answer.TheVariants.{Added}
use Rattle.operation_spec.specs.Method.{nothing, to_outcome}
use Rattle.operations.specs.Resume.{Resumed, missing, finished, resume, follow, wanted_of, outcome_of}
use Rattle.operations.specs.ResumeLaws.{resume-done, resume-map}
use Rattle.node_rows.specs.Row.{places, words}
use Rattle.node_rows.specs.Held.{Held, held_in, nodes_of}
use Rattle.node_rows.specs.HeldLaws.{held-room}
use Rattle.heap_descent.specs.declared.way.Way.{Way}
use Rattle.heap_descent.specs.Way.{Leads, want_at, trail}
use Rattle.heap_descent.specs.WayLaws.{descend-missing, descend-end}
use Rattle.heap_rising.specs.Rising.{RisesTo}

module _ (value tag entries limit : ℕ) (l : Link ℕ) where
  pub add-full : (ns : List (Node ℕ)) → limit ≤ entries → resume (add_prog 0 value tag entries limit l) ns ≡ finished (nothing l entries full) ns
  unfolding add_prog
  add-full ns k = rw (le-ltb entries limit k) (resume-done _ ns)

  -- An add's outcome, once the nodes of the way are there.
  abbrev grown : Reached ℕ → Outcome ℕ
  grown r =
      let new = new_node 0 value tag entries in
      record { nodes = rise new r.path; root = link_one (topmost new r.path); entries = suc entries; answer = added }

  module _ (h : Held) (few : h.count ≤ length h.nodes) (k : entries < limit) where
    by_way : resume (add_prog 0 value tag entries limit l) (nodes_of h)
        ≡ follow (resume (descend (way_to (suc entries)) (start l) []) (nodes_of h)) (λ r rest. finished (grown r) rest)
    unfolding add_prog
    by_way = rw (lt-ltb entries limit k) (resume-map (descend (way_to (suc entries)) (start l) []) grown (nodes_of h))

    add-missing : h.count < length (way_to (suc entries))
        → resume (add_prog 0 value tag entries limit l) (nodes_of h) ≡ missing (want_at h (start l) (way_to (suc entries)) h.count)
    add-missing m =
        by_way
        ∙ ap (λ (r : Resumed ℕ (Reached ℕ)). follow r (λ r rest. finished (grown r) rest)) (descend-missing h (start l) (way_to (suc entries)) few m)

    add-grown : length (way_to (suc entries)) ≤ h.count
        → let way = way_to (suc entries) in
        resume (add_prog 0 value tag entries limit l) (nodes_of h)
        ≡ finished (grown (record { end = want_at h (start l) way (length way); path = trail h way (length way) })) (drop (length way) (nodes_of h))
    add-grown m =
        by_way
        ∙ ap (λ (r : Resumed ℕ (Reached ℕ)). follow r (λ r rest. finished (grown r) rest)) (descend-end h (start l) (way_to (suc entries)) few m)

-- As the code has it.
module _ (value tag entries limit : ℕ) (root : link.Link) (ws : List ℕ) (count : ℕ) (long : length ws ≡ words) (most : count ≤ places) (k : entries < limit) (way : Way)
    (to : way.position ≡ entries + 1) (leads : Leads way) where
  to-next : way.position ≡ suc entries
  to-next = to ∙ add-one entries

  deep : way.depth ≡ length (way_to (suc entries))
  deep = leads.turns ∙ ap (λ (i : ℕ). length (way_to i)) to-next

  pub add-stops : count < way.depth
      → resume (add_prog 0 value tag entries limit (to_link root)) (nodes_of (held_in ws count))
      ≡ missing (want_at (held_in ws count) (start (to_link root)) (way_to way.position) count)
  add-stops m =
      rw to-next (add-missing value tag entries limit (to_link root) (held_in ws count) (held-room ws long count most) k (omega (arith, deep)))

  pub add-ends : way.depth ≤ count → wanted_of (resume (add_prog 0 value tag entries limit (to_link root)) (nodes_of (held_in ws count))) ≡ none
  add-ends m =
      rw (add-grown value tag entries limit (to_link root) (held_in ws count) (held-room ws long count most) k (omega (arith, deep)))

  pub add-makes : way.depth ≤ count → {n top : node.Node} {ws' : List ℕ} → to_node n ≡ new_node 0 value tag entries
      → RisesTo (held_in ws count) (way_to way.position) (to_node n) ws' (to_node top) → {l : link.Link} → to_link l ≡ link_one (to_node top)
      → (to_outcome (record { made = way.depth + 1; root = l; entries = entries + 1; answer = Ok Added }) (nodes_of (held_in ws' (way.depth + 1)))
      ≡ outcome_of (to_link root) entries (resume (add_prog 0 value tag entries limit (to_link root)) (nodes_of (held_in ws count))))
      × (way.depth + 1 ≤ places)
  add-makes m {n} {top} {ws'} e rises f =
      let up = rw (to-next, e) at rises in (
        rw (
          add-grown value tag entries limit (to_link root) (held_in ws count) (held-room ws long count most) k (omega (arith, deep)),
          f ∙ up.root,
          add-one way.depth,
          deep,
          up.makes,
          add-one entries,
        ),
        omega (arith, leads.few),
      )
