-- The way up turn by turn: the loop over the path, from its lowest step to the root's.
use Rattle.std.specs.Prelude.{ℕ, suc, ◌+◌, ◌*◌, ◌-◌, ◌≤◌, ◌<◌, ◌≡◌, Bool, true, false, List, [], ◌∷◌, ◌++◌, drop, set, None, Some}
use Rattle.std.specs.Prelude as code
use native.Mathlib.Omega.{arith}
use Rattle.std.proofs.Math.Path.{refl, subst}
use Rattle.std.proofs.Common.{sym, ◌∙◌, length-append}
use Rattle.std.proofs.Math.ListN.{length, length-drop}
use Rattle.method_spec.specs.Node.{Node}
use Rattle.method_spec.specs.Prog.{bind, start}
use Rattle.method_spec.specs.Map.{Step, Sub, listed, climb, unwind, raise}
use Rattle.slot_spec.specs.declared.Node as node
use Rattle.slot_spec.specs.declared.Link as link
use Rattle.slot_spec.specs.Row.{nodes_from}
use Rattle.leaf_spec.specs.Convert.{to_link, to_node}
use Rattle.operation_spec.specs.declared.Want as want
use Rattle.operations.specs.Resume.{resume, finished, follow, Ends, Misses}
use Rattle.operations.specs.ResumeLaws.{resume-bind}
use Rattle.node_rows.specs.Row.{places, words}
use Rattle.node_rows.specs.Heights.{Low, Lows}
use Rattle.node_rows.specs.Held.{Held, held_in, nodes_of, HeldFrom, Lists}
use Rattle.node_rows.specs.HeldLaws.{held-length, lows-drop, lists-nothing, lists-node}
use Rattle.map_nodes.specs.declared.Step as step
use Rattle.map_nodes.specs.declared.Sub as sub
use Rattle.map_nodes.specs.Method.{to_kid, to_sub, to_step}
use Rattle.map_nodes.specs.Heights.{LowSub}
use Rattle.map_nodes.specs.HeightLaws.{low-sub-more, low-more, lows-more}
use Rattle.map_nodes.specs.Upward.{upward, weight}
use Rattle.rotations.specs.declared.raise.Others.{Others}
use Rattle.rotations.specs.declared.raise.Raised.{Raised}
use Rattle.rotations.specs.Raise.{Raises, built_of, list_of, level}
use Rattle.rotations.specs.LevelLaws.{LevelKept, raise-kept, rest-kept}
use Rattle.map_changes.specs.declared.Bottom.{Bottom}
use Rattle.map_descent.specs.Walk.{Walks}
use Rattle.map_descent.specs.PathTo.{step_to, path_to}
use Rattle.map_descent.specs.PathLaws.{path-more}
use Rattle.map_changes.specs.Bottom.{BottomReady, way_up}
use Rattle.map_ascent.specs.Climb.{steps_to, ClimbsTo, Climbing}

-- ---- the method's way up

upward-step : (rotating : Bool) (p : Step ℕ) (path : List (Step ℕ)) (b : Sub ℕ) (out ns : List (Node ℕ))
    → resume (upward rotating (p ∷ path) b out) ns
    ≡ follow (resume (level rotating p b) ns) (λ r end. resume (upward rotating path r.sub (out ++ r.out)) end)
unfolding upward climb unwind bind resume
upward-step true p path b out ns = resume-bind (raise p b) (λ r. climb path r.sub (out ++ r.out)) ns
upward-step false p path b out ns = refl

upward-end : (rotating : Bool) (b : Sub ℕ) (out ns : List (Node ℕ)) → resume (upward rotating [] b out) ns ≡ finished (record { sub = b; out = out }) ns
unfolding upward climb unwind resume
upward-end true b out ns = refl
upward-end false b out ns = refl

level-kept : (most : ℕ) (rotating : Bool) (p : Step ℕ) (b : Sub ℕ) (ns : List (Node ℕ)) → Low most p.node → LowSub most b → Lows most ns
    → Ends (LevelKept (2 + most) (suc (weight b + length ns))) (resume (level rotating p b) ns)
unfolding resume
level-kept most true p b ns h k l = raise-kept most p b h k ns l
level-kept most false p b ns h k l = rest-kept most p b h k ns

-- ---- more nodes in a row

pub room-for-one : {k : code.Option node.Node} {n : node.Node} (count : ℕ) → k ≡ Some n → count + length (listed (to_kid k)) ≤ places → count < places
room-for-one count e h = let room = rw e at h in omega arith

module _ (ws : List ℕ) (count : ℕ) (long : length ws ≡ words) {k : code.Option node.Node} where
  pub lists-none : k ≡ None → Lists ws count (listed (to_kid k)) ws count
  lists-none e = rw e (lists-nothing ws long count)

  pub lists-one : {n : node.Node} {ws' : List ℕ} → k ≡ Some n → count < places → nodes_from ws' ≡ set (nodes_from ws) count n → length ws' ≡ words
      → Lists ws count (listed (to_kid k)) ws' (count + 1)
  lists-one e h stored long' = rw e (lists-node ws long count h stored long')

-- What a level is done with, counted.
pub level-room : (aside : code.Option node.Node) (o : Others)
    → length (listed (to_kid aside) ++ list_of o)
    ≡ length (listed (to_kid aside)) + length (listed (to_kid o.left)) + length (listed (to_kid o.right)) + length (listed (to_kid o.top))
level-room aside o = simp length-append (omega arith)

-- ---- turn by turn

module _ (key : ℕ) (root : link.Link) (h : Held) (b : Bottom) (walks : Walks root h) (ready : BottomReady key root h b) where
  path-none : steps_to key root h b 0 ≡ []
  unfolding path_to
  path-none = refl

  few : h.count ≤ length h.nodes
  few = omega (arith, walks.held.places, walks.held.few)

  pub climb-start : (ws : List ℕ) → length ws ≡ words → Climbing key root h b ws 0 b.sub b.at b.length
  climb-start ws long =
      record {
        resumes = refl;
        long = long;
        levels = omega arith;
        within = ready.within;
        low = low-sub-more 100 _ (omega arith) (to_sub b.sub) ready.low;
        room = omega (arith, ready.bare, ready.passed);
      }

  module _ {ws : List ℕ} {count : ℕ} {s : sub.Sub} {next i j : ℕ} (more : j ≡ suc i) (before : Climbing key root h b ws count s next j) where
    now : Climbing key root h b ws count s next (suc i)
    now = subst (λ (k : ℕ). Climbing key root h b ws count s next k) more before

    most : ℕ
    most = 100 + 2 * (b.length - suc i)

    low-now : LowSub 250 (to_sub s)
    low-now = low-sub-more (100 + 2 * (b.length - suc i)) 250 (omega (arith, ready.passed, ready.within, walks.held.few)) (to_sub s) now.low

    module _ (p : step.Step) (at : (to_step p ≡ step_to key h (start (to_link root)) b.found b.length i) × Low 100 (to_node p.node)) where
      pub climb-asks : HeldFrom 250 h next × (Low 250 (to_node p.node) × LowSub 250 (to_sub s))
      climb-asks = (
        record {
          places = walks.held.places;
          few = walks.held.few;
          within = now.within;
          low = lows-more 100 250 (omega arith) (nodes_of h) walks.held.low;
        },
        (low-more (to_node p.node) at.1 (omega arith), low-now),
      )

      resumes-step : resume (way_up key root h b) (drop b.at (nodes_of h))
          ≡ follow (resume (level b.rotating (to_step p) (to_sub s)) (drop next (nodes_of h)))
          (λ r end. resume (upward b.rotating (steps_to key root h b i) r.sub (nodes_of (held_in ws count) ++ r.out)) end)
      resumes-step =
          sym now.resumes ∙ rw (path-more key h (start (to_link root)) b.found b.length i, ← at.0)
          (upward-step b.rotating (to_step p) (steps_to key root h b i) (to_sub s) (nodes_of (held_in ws count)) (drop next (nodes_of h)))

      pub climb-missing : (w : want.Want) → Misses (level b.rotating (to_step p) (to_sub s)) (drop next (nodes_of h)) w
          → Misses (way_up key root h b) (drop b.at (nodes_of h)) w
      climb-missing w e = resumes-step ∙ rw e

      module _ {r : Raised} (raises : Raises (level b.rotating (to_step p) (to_sub s)) h next r) where
        kept : LevelKept (2 + most) (suc (weight (to_sub s) + length (drop next (nodes_of h)))) (built_of r) (drop r.next (nodes_of h))
        unfolding most
        kept =
            subst (Ends (LevelKept (2 + most) (suc (weight (to_sub s) + length (drop next (nodes_of h)))))) raises.resumes
            (level-kept most b.rotating (to_step p) (to_sub s) (drop next (nodes_of h))
            (low-more (to_node p.node) at.1 (omega arith)) now.low
            (lows-drop most next (nodes_of h) (lows-more 100 most (omega arith) (nodes_of h) walks.held.low)))

        -- Room for the nodes that are done with.
        pub climb-room : count + length (built_of r).out ≤ places
        climb-room =
            omega (
              arith,
              kept.room,
              now.room,
              now.within,
              walks.held.few,
              raises.within,
              length-drop next (nodes_of h),
              length-drop r.next (nodes_of h),
              held-length h few,
            )

        pub climb-level : {ws' : List ℕ} {count' : ℕ} → Lists ws count (built_of r).out ws' count'
            → Climbing key root h b ws' count' r.sub r.next i
        unfolding most
        climb-level w =
            record {
              resumes = rw w.first (sym (resumes-step ∙ rw raises.resumes));
              long = w.long;
              levels = omega (arith, now.levels);
              within = raises.within;
              low = low-sub-more (2 + most) (100 + 2 * (b.length - i)) (omega (arith, now.levels)) (to_sub r.sub) kept.low;
              room =
                  omega (
                    arith,
                    kept.room,
                    now.room,
                    now.within,
                    raises.within,
                    w.counted,
                    length-drop next (nodes_of h),
                    length-drop r.next (nodes_of h),
                    held-length h few,
                  );
            }

  pub climb-end : {ws : List ℕ} {count : ℕ} {s : sub.Sub} {next i : ℕ} → i ≡ 0 → Climbing key root h b ws count s next i
      → ClimbsTo key root h b ws (record { sub = s; count = count; next = next })
  climb-end {ws} {count} {s} {next} e last =
      let now = subst (λ (k : ℕ). Climbing key root h b ws count s next k) e last in
      record {
        resumes = sym now.resumes ∙ rw path-none (upward-end b.rotating (to_sub s) (nodes_of (held_in ws count)) (drop next (nodes_of h)));
        long = now.long;
        room = omega (arith, now.room, now.within, walks.held.few);
        low = low-sub-more (100 + 2 * (b.length - 0)) 250 (omega (arith, ready.passed, ready.within, walks.held.few)) (to_sub s) now.low;
      }
