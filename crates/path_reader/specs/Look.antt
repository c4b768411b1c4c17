-- What the read half of a round needs and promises, on slots.
use Rattle.std.specs.Prelude.{◌≡◌, Bool, true, false, List, ◌++◌, ℕ, ◌+◌, ◌*◌, ◌^◌, ◌≤◌, ◌<◌, length, take, get_or, Option, Some, None, Result, Ok, Err}
use Rattle.std.proofs.Math.Option as math
use Rattle.std.proofs.Math.Option.{none, some}
use Rattle.list_spec.specs.Choice.{pick}
use Rattle.slot_spec.specs.Tree.{path, tree_length}
use Rattle.slot_spec.specs.Slot.{fields_in, slot_bytes, node_of}
use Rattle.slot_spec.specs.declared.Slot.{Slot}
use Rattle.round_spec.specs.Round.{Hand, keys_of, none_twice, read_buckets, read_half}
use Rattle.round_spec.specs.Round as round
use Rattle.round_spec.specs.Nodes.{words_format}
use Rattle.word_round_laws.specs.SlotRow.{places, row_length, slots_in, Blank, levels, Leaves}
use Rattle.word_round_laws.specs.Gather.{PathGathered}
use Rattle.slot_spec.specs.Row.{zero_slot}
use Rattle.list_spec.specs.Ascending.{ascending}
use Rattle.word_round_laws.specs.Stash.{removed}
use Rattle.path_reader.specs.Joined.{AllJoined, NoneJoined}
use Rattle.path_reader.specs.Undo.{PathJoined}
use Rattle.path_reader.specs.declared.Damage.{Damage}
use Rattle.path_reader.specs.declared.Gathered.{Gathered}
use Rattle.path_reader.specs.declared.Looked.{Looked}
use Rattle.path_reader.specs.declared.Wish.{Wish}

abbrev pub wish_of : Option Wish → math.Option round.Wish
wish_of None = none
wish_of (Some w) = some (record { key = w.key; tag = w.tag })

abbrev pub wanted : Option Wish → Bool
wanted None = false
wanted (Some w) = true

-- What a round has in hand, of the joined slots and the place of the wanted one.
abbrev pub hand_of : Bool → ℕ → List Slot → Hand Slot
hand_of want at ws = record { taken = pick want (some (get_or ws at zero_slot)) none; waiting = removed want at ws }

-- The tree is one of that size, the leaf is in it, the first n slots of the row wait and its other places are empty, there is room for a
-- path's slots beside them, and the waiting keys ascend and are not held.
pub record Fit (k leaf n : ℕ) (waiting tree held : List ℕ) : Type 0 where
  pub size : k < levels
  pub is_leaf : leaf < 2 ^ k
  pub tree-sized : length tree ≡ tree_length k
  pub waiting-sized : length waiting ≡ row_length
  pub blank : Blank n waiting
  pub room : n + 4 * (k + 1) ≤ places
  pub order : ascending (keys_of words_format (take n (slots_in waiting))) ≡ true
  pub distinct : none_twice (keys_of words_format (take n (slots_in waiting)) ++ held) ≡ true

-- The answer is the read half's: all that it has in hand is in the row that is left, and of a wanted slot the node.
pub record Granted (k leaf : ℕ) (wish : Option Wish) (n : ℕ) (waiting tree held after : List ℕ) (r : Looked) : Type 0 where
  pub half : read_half words_format k tree leaf (wish_of wish) held (take n (slots_in waiting)) ≡ some (hand_of (wanted wish) r.at (take r.count (slots_in after)))
  pub blank : Blank r.count after
  pub within : r.count ≤ n + 4 * (k + 1)
  pub inside : wanted wish ≡ true → r.at < r.count
  pub node : wanted wish ≡ true → r.node ≡ node_of (fields_in (slot_bytes (get_or (slots_in after) r.at zero_slot)))
  pub leaves : Leaves k (take n (slots_in waiting)) → Leaves k (take r.count (slots_in after))

-- With damage the row is as it was.
pub record Refused (k leaf : ℕ) (wish : Option Wish) (n : ℕ) (waiting tree held after : List ℕ) : Type 0 where
  pub half : read_half words_format k tree leaf (wish_of wish) held (take n (slots_in waiting)) ≡ none
  pub same : after ≡ waiting

abbrev pub LookedFor : (k leaf : ℕ) (wish : Option Wish) (n : ℕ) (waiting tree held after : List ℕ) → Result Looked Damage → Type 0
LookedFor k leaf wish n waiting tree held after (Ok r) = Granted k leaf wish n waiting tree held after r
LookedFor k leaf wish n waiting tree held after (Err damage) = Refused k leaf wish n waiting tree held after

-- Where the path's full slots start, and that they joined.
pub record Gathers (k leaf n : ℕ) (waiting tree held from after : List ℕ) (count full : ℕ) : Type 0 where
  pub gathered : PathGathered k leaf tree from full
  pub joined : PathJoined k held (take n (slots_in waiting)) tree (take full from) count after

abbrev pub PathFound : (k leaf n : ℕ) (waiting tree held from after : List ℕ) → Result Looked Damage → Type 0
PathFound k leaf n waiting tree held from after (Ok r) = Gathers k leaf n waiting tree held from after r.count r.full
PathFound k leaf n waiting tree held from after (Err damage) = Unit {0}

-- The path of a leaf joined the first n of the row, or there is damage on it.
abbrev pub PathRead : (k leaf n : ℕ) (waiting tree held from after : List ℕ) → Result Gathered Damage → Type 0
PathRead k leaf n waiting tree held from after (Ok r) =
    AllJoined k held (read_buckets words_format k tree (path k leaf)) n waiting after r.count × Gathers k leaf n waiting tree held from after r.count r.full
PathRead k leaf n waiting tree held from after (Err damage) = NoneJoined held (read_buckets words_format k tree (path k leaf)) n waiting after
