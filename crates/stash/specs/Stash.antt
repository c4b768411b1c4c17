-- The waiting nodes of a state as slots in a lent row: loaded, joined by others, saved.
use Rattle.std.specs.Prelude.{◌≡◌, ℕ, ◌+◌, Bool, true, ◌&&◌, List, map, leb, length, take, set}
use Rattle.list_spec.specs.Choice.{pick}
use Rattle.list_spec.specs.Ascending.{ascending}
use Rattle.slot_spec.specs.declared.Link.{Link}
use Rattle.slot_spec.specs.declared.Ahead.{Ahead}
use Rattle.slot_spec.specs.declared.Node as node
use Rattle.method_spec.specs.Node.{Node}
use Rattle.round_spec.specs.Round.{join}
use Rattle.leaf_spec.specs.Convert.{to_node}
use Rattle.leaf_spec.specs.Leaf.{leaf_format}
use Rattle.word_round_laws.specs.SlotRow.{row_length, slots_in}
use Rattle.stash_laws.specs.Waiting.{words_for, InWidths, waiting_in, Holds}
use Rattle.state_spec.specs.declared.Place.{Place}
use Rattle.state_spec.specs.declared.State.{State}
use Rattle.state_spec.specs.Fit.{all_of, place_good, keys_in, used}
use Rattle.call_spec.specs.Store.{waiting_places}

-- The first r slots of the row are the waiting nodes of a state.
pub record Loaded (s : State) (row : List ℕ) (r : ℕ) : Type 0 where
  pub count : r ≡ s.count
  pub holds : Holds r row
  pub waiting : waiting_in r row ≡ map (λ (p : Place). to_node p.node) (used s)

-- A used place fits if it is good and its key at least `least`, one more than the key before it.
abbrev pub good_from : (size least : ℕ) → Place → Bool
good_from size least p = place_good size p && leb least p.node.key

-- All used places fit.
abbrev pub used_fit : State → Bool
used_fit s = all_of (place_good s.size) (used s) && ascending (keys_in (used s))

-- If place p was found to fit, its node is slot i of the row; else the slots stay.
pub record PlaceLoaded (i : ℕ) (p : Place) (before after : List ℕ) (r : Bool) : Type 0 where
  pub sized : length after ≡ row_length
  pub slots : slots_in after ≡ pick r (set (slots_in before) i (words_for (to_node p.node))) (slots_in before)
  pub ranged : r ≡ true → InWidths (to_node p.node)

-- The first `count` of some nodes joined those of the first n slots, in key order: r are there then.
pub record NodesJoined (n : ℕ) (nodes : List node.Node) (count : ℕ) (before after : List ℕ) (r : ℕ) : Type 0 where
  pub total : r ≡ n + count
  pub holds : Holds r after
  pub waiting : waiting_in r after ≡ join leaf_format (map to_node (take count nodes)) (waiting_in n before)

-- A state of this structure and size, with this mark, entries, root link, what is known ahead and waiting nodes.
abbrev pub saved : (structure size mark entries : ℕ) → Link → Ahead → List (Node ℕ) → State
saved structure size mark entries root ahead waiting =
    record {
      mark = mark;
      structure = structure;
      size = size;
      entries = entries;
      root = root;
      ahead = ahead;
      count = length waiting;
      places = waiting_places waiting;
    }
