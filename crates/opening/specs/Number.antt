-- The number with which an opening is refused, by the tree's length; 0 if with none.
use Rattle.std.specs.Prelude.{ℕ, not, eqb, Result, Ok, Err}
use Rattle.list_spec.specs.Choice.{pick}
use Rattle.slot_spec.specs.Tree.{tree_length}
use Rattle.state_spec.specs.Fit.{in_range, largest_structure, largest_size}
use Rattle.opening.specs.declared.Unopened.{Unopened}
use Rattle.opening.specs.declared.Unopened.TheVariants.{UnknownStructure, UnknownSize, TreeLength}

unfoldable pub opening_number : (structure size length : ℕ) → ℕ
opening_number structure size length =
    pick (not (in_range structure largest_structure)) 11
    (pick (not (in_range size largest_size)) 12 (pick (not (eqb length (tree_length size))) 3 0))

-- The number of a cause, and of what a check found.
abbrev pub number_of : Unopened → ℕ
number_of UnknownStructure = 11
number_of UnknownSize = 12
number_of TreeLength = 3

abbrev pub found_number : {A : Type 0} → Result A Unopened → ℕ
found_number (Ok a) = 0
found_number (Err cause) = number_of cause
