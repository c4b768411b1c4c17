-- How long a file's name is, and what stands before or after it.
use Rattle.std.specs.Prelude.{ℕ}

abbrev pub longest_name : ℕ
longest_name = 4000

-- A program's name with a colon and a blank.
abbrev pub longest_program : ℕ
longest_program = 16

abbrev pub longest_addition : ℕ
longest_addition = 32
