-- Where the way up starts, as the code says it.
use Rattle.std.specs.Prelude.{ℕ, ◌+◌, ◌≤◌, ◌≡◌, [], Bool, true, get_or, drop, Result, Ok, MatchResult}
use Rattle.method_spec.specs.Prog.{Prog, done, bind, start}
use Rattle.method_spec.specs.Outcome.{Outcome}
use Rattle.method_spec.specs.Map.{Built, finish}
use Rattle.slot_spec.specs.declared.Link as link
use Rattle.slot_spec.specs.declared.Node as node
use Rattle.operation_spec.specs.declared.Want as want
use Rattle.map_nodes.specs.declared.Sub.TheVariants.{Stub}
use Rattle.operation_spec.specs.declared.Answer.TheVariants.{Removed}
use Rattle.map_nodes.specs.declared.Sub as sub
use Rattle.slot_spec.specs.Slot.{no_link, no_node}
use Rattle.leaf_spec.specs.Convert.{to_link}
use Rattle.operation_spec.specs.Method.{to_step_answer}
use Rattle.operations.specs.Resume.{resume, Misses}
use Rattle.node_rows.specs.Held.{Held, nodes_of}
use Rattle.map_nodes.specs.Method.{to_sub}
use Rattle.map_nodes.specs.Upward.{weight, upward}
use Rattle.map_nodes.specs.Heights.{LowSub}
use Rattle.map_changes.specs.declared.Bottom.{Bottom}
use Rattle.map_descent.specs.PathTo.{path_to}
use Rattle.operation_spec.specs.declared.Answer as answer
use Rattle.operation_spec.specs.declared.Full.{Full}

-- The code's two forms: the path ends at the node with the key, or where it would be; the path goes past that node.
abbrev pub bottom_at : Bool → sub.Sub → (length at entries : ℕ) → Result answer.Answer Full → Bottom
bottom_at rotating b length at entries a =
    record {
      rotating = rotating;
      sub = b;
      found = length;
      length = length;
      at = at;
      entries = entries;
      answer = a;
    }

-- A new node, and a node with a new value.
abbrev pub leaf_of : (key value tag : ℕ) → node.Node
leaf_of key value tag = record { value = value; key = key; tag = tag; left = no_link; right = no_link }

abbrev pub valued : ℕ → node.Node → node.Node
valued value n = record { value = value; key = n.key; tag = n.tag; left = n.left; right = n.right }

abbrev pub past_found : (last found entries value : ℕ) → Held → Bottom
past_found last found entries value h =
    record {
      rotating = true;
      sub = Stub (get_or h.nodes last no_node).right;
      found = found;
      length = last;
      at = last + 1;
      entries = entries;
      answer = Ok (Removed value);
    }

module _ (key : ℕ) (root : link.Link) (h : Held) where
  -- The way up from there, and what comes of it.
  abbrev pub way_up : Bottom → Prog ℕ (Built ℕ)
  way_up r = upward r.rotating (path_to key h (start (to_link root)) r.found r.length r.length) (to_sub r.sub) []

  abbrev pub up_from : Bottom → Prog ℕ (Outcome ℕ)
  up_from r = bind (way_up r) (λ b. done (finish r.entries (to_step_answer r.answer) b))

  -- What the way up asks.
  pub record BottomReady (r : Bottom) : Type 0 where
    pub passed : r.length ≤ r.at
    pub within : r.at ≤ h.count
    pub low : LowSub 100 (to_sub r.sub)
    pub bare : weight (to_sub r.sub) ≡ 1

  -- The program, on the held nodes, goes up from there.
  pub record StartsUp (p : Prog ℕ (Outcome ℕ)) (r : Bottom) : Type 0 where
    pub resumes : resume p (nodes_of h) ≡ resume (up_from r) (drop r.at (nodes_of h))
    pub ready : BottomReady r

  -- That, or the node that the program misses.
  abbrev pub StartsIfHeld : Prog ℕ (Outcome ℕ) → Result Bottom want.Want → Type 0
  StartsIfHeld p r = MatchResult r (StartsUp p) (Misses p (nodes_of h))
