-- The number with which a store is refused before its nodes are looked at, by the numbers of its state and the tree's length; 0 if with none.
use Rattle.std.specs.Prelude.{ℕ, Bool, not, ◌&&◌, Result, Ok, Err, eqb, leb}
use Rattle.list_spec.specs.Choice.{pick}
use Rattle.slot_spec.specs.Tree.{tree_length}
use Rattle.state_spec.specs.Fit.{in_range, largest_structure, largest_size, places}
use Rattle.readout_spec.specs.declared.NoFile.{NoFile}
use Rattle.readout_spec.specs.ReadOut.{closed_mark, number_of}

-- `known`, of the numbers alone.
abbrev pub known_numbers : (structure size count : ℕ) → Bool
known_numbers structure size count = in_range structure largest_structure && (in_range size largest_size && leb count places)

unfoldable pub refusal_of : (mark structure size count length : ℕ) → ℕ
refusal_of mark structure size count length =
    pick (not (closed_mark mark)) 14
    (pick (not (known_numbers structure size count)) 2 (pick (not (eqb length (tree_length size))) 3 0))

-- What a function returns, as that number.
abbrev pub number_if : {A : Type 0} → Result A NoFile → ℕ
number_if (Ok a) = 0
number_if (Err e) = number_of e
