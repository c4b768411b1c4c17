-- Opening: the state, and every byte of the lent tree.
use Rattle.std.specs.Prelude.{ℕ, not, List, eqb, length, replicate}
use Rattle.list_spec.specs.Choice.{pick}
use Rattle.slot_spec.specs.Tree.{tree_length}
use Rattle.slot_spec.specs.Slot.{no_link}
use Rattle.state_spec.specs.declared.State.{State}
use Rattle.state_spec.specs.Fit.{no_ahead, places, no_place, in_range, largest_structure, largest_size}

-- ---- states
-- A state with no entries and none waiting.
abbrev pub empty : (mark structure size : ℕ) → State
empty mark structure size =
    record {
      mark = mark;
      structure = structure;
      size = size;
      entries = 0;
      root = no_link;
      ahead = no_ahead;
      count = 0;
      places = replicate places no_place;
    }

-- A state with a mark that is otherwise zero.
abbrev pub closed_with : ℕ → State
closed_with mark = empty mark 0 0

abbrev pub fresh : (structure size : ℕ) → State
fresh structure size = empty 0 structure size

-- ---- opening
pub record Opened : Type 0 where
  pub state : State
  pub tree : List ℕ

-- Checks 11, 12, then 3; a good opening makes the tree all zero bytes and the state empty.
unfoldable pub opened : (structure size : ℕ) → List ℕ → Opened
opened structure size tree =
    pick (not (in_range structure largest_structure)) (record { state = closed_with 11; tree = tree })
    (pick (not (in_range size largest_size)) (record { state = closed_with 12; tree = tree })
    (pick (not (eqb (length tree) (tree_length size))) (record { state = closed_with 3; tree = tree })
    (record { state = fresh structure size; tree = replicate (length tree) 0 })))
