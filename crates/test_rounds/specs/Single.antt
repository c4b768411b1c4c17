-- A round by itself, over the row that holds the waiting nodes: nothing is held but the node that it takes out.
use Rattle.std.specs.Prelude as prelude
use Rattle.std.specs.Prelude.{Some, ℕ, ◌+◌, ◌≤◌, ◌≡◌, Bool, true, List, [], length, take}
use Rattle.std.proofs.Math.Option.{Option, none, some}
use Rattle.list_spec.specs.Choice.{pick}
use Rattle.slot_spec.specs.Tree.{tree_length}
use Rattle.slot_spec.specs.Slot.{fields_in, slot_bytes, node_of}
use Rattle.slot_spec.specs.declared.Slot.{Slot}
use Rattle.round_spec.specs.Round as round
use Rattle.round_spec.specs.Round.{Hand, keys_of, insert, read_half, write_half, exceeds_limit}
use Rattle.round_spec.specs.Nodes.{words_format}
use Rattle.word_round_laws.specs.SlotRow.{row_length, slots_in, Blank, Leaves}
use Rattle.list_spec.specs.Ascending.{ascending}
use Rattle.path_reader.specs.Look.{wish_of}
use Rattle.path_reader.specs.declared.Wish.{Wish}
use Rattle.round_close.specs.Fault.{mark_of}
use Rattle.test_rounds.specs.declared.Closed.{Closed}

-- What a round leaves: its mark, what waits, and the tree.
pub record RoundLeft : Type 0 where
  pub mark : ℕ
  pub waiting : List Slot
  pub tree : List ℕ

-- How many nodes are held when the round closes.
abbrev pub held_count : Option Slot → ℕ
held_count none = 0
held_count (some x) = 1

-- The round's close, of what its read half has in hand: damage leaves all as it was.
unfoldable pub closing : (size leaf : ℕ) (waiting : List Slot) (tree : List ℕ) → Option (Hand Slot) → RoundLeft
closing k t ws tree none = record { mark = 8; waiting = ws; tree = tree }
closing k t ws tree (some h) =
    record {
      mark = pick (exceeds_limit (length (write_half words_format k t h.waiting tree).waiting) (held_count h.taken)) 9 0;
      waiting = (write_half words_format k t h.waiting tree).waiting;
      tree = (write_half words_format k t h.waiting tree).tree;
    }

abbrev pub reading : (size leaf : ℕ) → Option round.Wish → List Slot → List ℕ → Option (Hand Slot)
reading k t wish ws tree = read_half words_format k tree t wish [] ws

abbrev pub round_of : (size leaf : ℕ) → Option round.Wish → List Slot → List ℕ → RoundLeft
round_of k t wish ws tree = closing k t ws tree (reading k t wish ws tree)

-- The first n slots of the row wait, and its other places are empty: the waiting keys ascend, their tags are leaves, and a path's nodes have
-- room beside them.
pub record Waits (k n : ℕ) (row : List ℕ) : Type 0 where
  pub sized : length row ≡ row_length
  pub few : n ≤ 65
  pub blank : Blank n row
  pub order : ascending (keys_of words_format (take n (slots_in row))) ≡ true
  pub leaves : Leaves k (take n (slots_in row))

-- A store between two rounds.
pub record Resting (k n : ℕ) (row tree : List ℕ) : Type 0 where
  pub small : k ≤ 8
  pub waits : Waits k n row
  pub tree-sized : length tree ≡ tree_length k

-- A slot came to wait.
pub record Waiting (k n : ℕ) (x : Slot) (row row' : List ℕ) (r : Bool) : Type 0 where
  pub joined : r ≡ true → take (n + 1) (slots_in row') ≡ insert words_format x (take n (slots_in row))
  pub waits : r ≡ true → Waits k (n + 1) row'

-- What a round did, and that the store rests after it unless too many wait.
pub record Rounded (k leaf : ℕ) (wish : prelude.Option Wish) (n : ℕ) (row tree row' tree' : List ℕ) (r : Closed) : Type 0 where
  pub round : round_of k leaf (wish_of wish) (take n (slots_in row)) tree ≡ record { mark = mark_of r.fault; waiting = take r.waiting (slots_in row'); tree = tree' }
  pub node : (h : Hand Slot) (x : Slot) → reading k leaf (wish_of wish) (take n (slots_in row)) tree ≡ some h → h.taken ≡ some x
      → r.node ≡ Some (node_of (fields_in (slot_bytes x)))
  pub rests : (mark_of r.fault ≡ 9 → ⊥) → Resting k r.waiting row' tree'

-- What several steps leave: a store at rest, unless the last has mark 9.
pub record Rests (k : ℕ) (row tree : List ℕ) (r : Closed) : Type 0 where
  pub rests : (mark_of r.fault ≡ 9 → ⊥) → Resting k r.waiting row tree
