-- What a round of a call needs and does, on the row that holds the waiting nodes.
use Rattle.std.specs.Prelude.{ℕ, ◌+◌, ◌^◌, ◌≤◌, ◌<◌, ◌≡◌, Bool, true, List, [], ◌∷◌, ◌++◌, map, eqb, length, is_some}
use Rattle.std.specs.Option.{unwrap_or}
use Rattle.list_spec.specs.Choice.{pick}
use Rattle.list_spec.specs.Distinct.{All}
use Rattle.slot_spec.specs.Slot.{no_node}
use Rattle.slot_spec.specs.declared.Node as node
use Rattle.method_spec.specs.Node.{Node, retag}
use Rattle.method_spec.specs.Prog.{Prog}
use Rattle.method_spec.specs.Outcome.{Outcome}
use Rattle.method_spec.specs.Call.{test}
use Rattle.round_spec.specs.Round.{keys_of, none_twice}
use Rattle.round_spec.specs.Whole.{IsTree, Ascending}
use Rattle.leaf_spec.specs.Leaf.{leaf_format}
use Rattle.leaf_spec.specs.Convert.{to_node}
use Rattle.stash_laws.specs.Waiting.{waiting_in, Holds}
use Rattle.bucket_call_spec.specs.Fetch.{Held, Going, Round, on, shut, idle_round, want_round}
use Rattle.bucket_call_spec.specs.Peak.{peak_at}
use Rattle.state_spec.specs.Ticket.{structure_of}
use Rattle.operation_spec.specs.declared.Want.{Want}
use Rattle.operation_spec.specs.Method.{to_from, to_want}
use Rattle.round_close.specs.Fault.{mark_of}
use Rattle.one_round.specs.declared.Rounded.{Rounded}
use Rattle.one_round.specs.declared.Took.{Took}

-- A store between two rounds, as the code has it: the first n slots wait.
abbrev pub going : (n : ℕ) (row tree : List ℕ) → List Held → List ℕ → Going
going n row tree held leaves = record { tree = tree; waiting = waiting_in n row; held = held; leaves = leaves }

-- How a round ended: with mark 0 the call goes on, else the store is closed with that mark.
abbrev pub ended_with : ℕ → Going → Prog ℕ (Outcome ℕ) → Round (Outcome ℕ)
ended_with mark g p = pick (eqb mark 0) (on g p) (shut mark g)

abbrev pub keys_waiting : ℕ → List ℕ → List ℕ
keys_waiting n row = keys_of leaf_format (waiting_in n row)

-- Before a round: the tree is one of that size, the leaf is in it, the waiting nodes' tags are leaves, their keys ascend and are
-- not held, and there is room for a path's nodes.
pub record RoundReady (k leaf n : ℕ) (row tree held : List ℕ) : Type 0 where
  pub small : k ≤ 8
  pub is_leaf : leaf < 2 ^ k
  pub is-tree : IsTree k tree
  pub holds : Holds n row
  pub tags : All (λ (m : Node ℕ). m.tag < 2 ^ k) (waiting_in n row)
  pub order : Ascending leaf_format (waiting_in n row)
  pub apart : none_twice (keys_waiting n row ++ held) ≡ true
  pub few : n + length held ≤ 65

-- After a round: what waits is in the row, in key order, and no key stands twice among those waiting and held.
pub record Rests (n : ℕ) (row held : List ℕ) : Type 0 where
  pub holds : Holds n row
  pub order : Ascending leaf_format (waiting_in n row)
  pub apart : none_twice (keys_waiting n row ++ held) ≡ true

-- A round of that leaf that wants none, whatever program goes on after it; and what it counts at its close.
pub record Idled (k leaf n : ℕ) (row tree held row' tree' : List ℕ) (r : Rounded) : Type 0 where
  pub round : (hs : List Held) (ls : List ℕ) (p : Prog ℕ (Outcome ℕ)) → map (λ (h : Held). h.node.key) hs ≡ held
      → idle_round k leaf p (going n row tree hs ls) ≡ ended_with (mark_of r.fault) (going r.waiting row' tree' hs (ls ++ (leaf ∷ []))) p
  pub counted : (hs : List Held) (ls : List ℕ) (p : Prog ℕ (Outcome ℕ)) → map (λ (h : Held). h.node.key) hs ≡ held
      → peak_at (idle_round k leaf p (going n row tree hs ls)) ≡ r.count
  pub rests : Rests r.waiting row' held

-- A round that wants a node: it is held from then on, under the round's draw d as its tag.
abbrev pub held_too : {A : Type 0} → Bool → A → List A
held_too taken a = pick taken (a ∷ []) []

abbrev pub taken_as : Want → ℕ → Node ℕ → Held
taken_as want d n = record { from = to_from want.from; node = retag d n }

-- Whether a node was taken out, and which.
abbrev pub took : Took → Bool
took r = is_some r.node

abbrev pub node_taken : Took → node.Node
node_taken r = unwrap_or r.node no_node

-- The test of a structure with so many entries, of a node that was found.
abbrev pub test_of : (structure entries : ℕ) → Want → node.Node → Bool
test_of structure entries want n = test (structure_of structure) entries (to_want want) (to_node n)

pub record Wanted (structure entries k n : ℕ) (want : Want) (row tree held row' tree' : List ℕ) (r : Took) : Type 0 where
  pub round : (hs : List Held) (ls : List ℕ) (d : ℕ) (c : Node ℕ → Prog ℕ (Outcome ℕ)) → map (λ (h : Held). h.node.key) hs ≡ held
      → want_round (structure_of structure) entries k d (to_want want) c (going n row tree hs ls)
      ≡ ended_with (mark_of r.fault)
      (going r.waiting row' tree' (hs ++ held_too (took r) (taken_as want d (to_node (node_taken r)))) (ls ++ (want.link.tag ∷ [])))
      (c (retag d (to_node (node_taken r))))
  pub counted : (hs : List Held) (ls : List ℕ) (d : ℕ) (c : Node ℕ → Prog ℕ (Outcome ℕ)) → map (λ (h : Held). h.node.key) hs ≡ held
      → peak_at (want_round (structure_of structure) entries k d (to_want want) c (going n row tree hs ls)) ≡ r.count
  pub goes_on : mark_of r.fault ≡ 0 → took r ≡ true
  pub tested : took r ≡ true → test (structure_of structure) entries (to_want want) (to_node (node_taken r)) ≡ true
  pub rests : Rests r.waiting row' (held ++ held_too (took r) (node_taken r).key)
