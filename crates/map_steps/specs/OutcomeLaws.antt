-- The outcome and the next wanted node, put together from their parts as the code computes them.
use Rattle.std.specs.Prelude.{ℕ, ◌+◌, ◌≤◌, ◌<◌, ◌≡◌, refl, true, false, List, length, drop, None, Some, Result, Ok, Err}
use Rattle.std.specs.Prelude as code
use Rattle.std.specs.Result.{result_err}
use Rattle.std.proofs.Common.{arith, ◌∙◌, length-append}
use Rattle.std.proofs.Math.Option.{none}
use Rattle.method_spec.specs.Prog.{Want, bind}
use Rattle.method_spec.specs.Outcome.{Outcome}
use Rattle.method_spec.specs.Map.{link_of, listed, top_of, kid, finish}
use Rattle.slot_spec.specs.declared.Link as link
use Rattle.leaf_spec.specs.Convert.{to_link}
use Rattle.operation_spec.specs.declared.Want as want
use Rattle.operation_spec.specs.declared.Answer.TheVariants.{Absent}
use Rattle.operation_spec.specs.declared.Outcome as outcome
use Rattle.operation_spec.specs.Method.{to_want, to_wanted, to_step_answer, to_outcome}
use Rattle.operations.specs.Resume.{missing, finished, outcome_of}
use Rattle.operations.specs.Resume.{Resumed, resume, follow, wanted_of, Misses}
use Rattle.operations.specs.ResumeLaws.{resume-map}
use Rattle.node_rows.specs.Row.{places, words}
use Rattle.node_rows.specs.Held.{Held, held_in, nodes_of, Lists}
use Rattle.node_rows.specs.HeldLaws.{lists-then}
use Rattle.map_nodes.specs.Method.{to_kid, to_sub}
use Rattle.map_nodes.specs.Upward.{upward}
use Rattle.map_changes.specs.declared.Bottom.{Bottom}
use Rattle.map_changes.specs.Bottom.{way_up}
use Rattle.map_ascent.specs.declared.Climbed.{Climbed}
use Rattle.map_ascent.specs.Climb.{climbed_in, ClimbsTo, ClimbsIfHeld}
use Rattle.map_steps.specs.Outcome.{from_bottom, RoomToFinish}
use Rattle.operation_spec.specs.declared.Answer as answer
use Rattle.operation_spec.specs.declared.Full.{Full}
use Rattle.slot_spec.specs.declared.Node as node

-- ---- the last nodes

pub listed-one : (k : code.Option node.Node) → length (listed (to_kid k)) ≤ 1
listed-one None = omega arith
listed-one (Some n) = omega arith

module _ (ws : List ℕ) (c : Climbed) (room : RoomToFinish ws c) (left right : code.Option node.Node) (l : to_kid left ≡ kid true (to_sub c.sub))
    (r : to_kid right ≡ kid false (to_sub c.sub)) where
  pub finish-room : c.count + length (listed (to_kid left)) + length (listed (to_kid right)) < places
  finish-room = rw (l, r) (omega (arith, room.room, length-append (listed (kid true (to_sub c.sub))) (listed (kid false (to_sub c.sub)))))

  pub finish-is : (last : code.Option node.Node) (t : to_kid last ≡ top_of (to_sub c.sub)) {some more all : List ℕ} {i j n : ℕ} {k : link.Link} (entries : ℕ) (a : code.Result answer.Answer Full)
      → Lists ws c.count (listed (to_kid left)) some i → Lists some i (listed (to_kid right)) more j → Lists more j (listed (to_kid last)) all n
      → to_link k ≡ link_of (to_sub c.sub)
      → (to_outcome (record { made = n; root = k; entries = entries; answer = a }) (nodes_of (held_in all n)) ≡ finish entries (to_step_answer a) (climbed_in ws c))
      × (n ≤ places)
  finish-is last t entries a u v w q = (
    rw ((lists-then ws c.count (lists-then ws c.count u v) w).first, q, l, r, t),
    omega (arith, finish-room, u.counted, v.counted, w.counted, listed-one last),
  )

-- ---- what is wanted, and the step

-- A step that makes no nodes, where one is missing.
pub unmade : (root : link.Link) (entries : ℕ) (ws : List ℕ) {o : outcome.Outcome} {x : Resumed ℕ (Outcome ℕ)} {w : Want ℕ}
    → o ≡ record { made = 0; root = root; entries = entries; answer = Ok Absent } → x ≡ missing w
    → (to_outcome o (nodes_of (held_in ws o.made)) ≡ outcome_of (to_link root) entries x) × (o.made ≤ places)
unmade root entries ws e f = rw (e, f) (refl, omega arith)

module _ (key : ℕ) (root : link.Link) (h : Held) (b : Bottom) where
  -- Without rotations no node is wanted on the way up.
  pub from-resting : b.rotating ≡ false → wanted_of (from_bottom key root h (Ok b)) ≡ none
  unfolding upward bind resume
  from-resting f = rw f

  from-climb : from_bottom key root h (Ok b)
      ≡ follow (resume (way_up key root h b) (drop b.at (nodes_of h)))
      (λ x ns. finished (finish b.entries (to_step_answer b.answer) x) ns)
  from-climb = resume-map (way_up key root h b) (finish b.entries (to_step_answer b.answer)) (drop b.at (nodes_of h))

  pub from-climbing : (w : want.Want) → Misses (way_up key root h b) (drop b.at (nodes_of h)) w → from_bottom key root h (Ok b) ≡ missing (to_want w)
  from-climbing w f = from-climb ∙ rw f

  module _ {ws : List ℕ} {r : Climbed} (climbs : ClimbsTo key root h b ws r) where
    from-end : from_bottom key root h (Ok b) ≡ finished (finish b.entries (to_step_answer b.answer) (climbed_in ws r)) (drop r.next (nodes_of h))
    from-end = from-climb ∙ rw climbs.resumes

    pub from-climbed : (entries : ℕ) {o : Outcome ℕ} → o ≡ finish b.entries (to_step_answer b.answer) (climbed_in ws r)
        → o ≡ outcome_of (to_link root) entries (from_bottom key root h (Ok b))
    from-climbed entries g = rw from-end g

  -- The node that a climb misses is wanted.
  pub from-rising : (ws : List ℕ) (r : Result Climbed want.Want) → ClimbsIfHeld key root h b ws r
      → to_wanted (result_err r) ≡ wanted_of (from_bottom key root h (Ok b))
  from-rising ws (Ok c) climbs = rw (from-end climbs)
  from-rising ws (Err w) misses = rw (from-climbing w misses)
