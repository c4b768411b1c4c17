-- The lengths in bytes that a host must lend for a structure and size; 0 where there is no such structure or size.
use Rattle.std.specs.Prelude.{ℕ, ◌+◌, ◌*◌, Bool, ◌&&◌}
use Rattle.list_spec.specs.Choice.{pick}
use Rattle.slot_spec.specs.Tree.{tree_length}
use Rattle.state_spec.specs.Fit.{in_range, largest_structure, largest_size, places}
use Rattle.state_spec.specs.Fetching.{rounds_of, draws_of}
use Rattle.readout_spec.specs.Seen.{slot_count}
use Rattle.readout_spec.specs.File.{count_width, index_width, value_width}
use Rattle.lent_bytes_spec.specs.Numbers.{number_length}

abbrev pub known_size : ℕ → Bool
known_size size = in_range size largest_size

abbrev pub known_store : (structure size : ℕ) → Bool
known_store structure size = in_range structure largest_structure && known_size size

abbrev pub tree_lent : ℕ → ℕ
tree_lent size = pick (known_size size) (tree_length size) 0

-- The numbers without which a call is refused with 6, and the places without which it is refused with 7.
unfoldable pub tape_lent : (structure size : ℕ) → ℕ
tape_lent structure size = pick (known_store structure size) (number_length * draws_of structure size) 0

unfoldable pub trace_lent : (structure size : ℕ) → ℕ
trace_lent structure size = pick (known_store structure size) (number_length * (2 * rounds_of structure size)) 0

-- Enough for the file of every store of a size: an entry for each slot and each waiting place. What is left out takes less than an entry.
unfoldable pub file_lent : ℕ → ℕ
file_lent size = pick (known_size size) (count_width + (index_width + value_width) * (slot_count size + places)) 0
