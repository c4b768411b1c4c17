-- The number that stands for a letter in a row.
use Rattle.std.specs.Prelude.{ℕ, ◌%◌, List, get_or}

abbrev pub number_for : List ℕ → ℕ → ℕ
number_for row letter = get_or row (letter % 128) 0
