-- Reading out: the outcome, and every byte of the lent output buffer. State and tree are only read.
use Rattle.std.specs.Prelude.{ℕ, Bool, not, ◌&&◌, ◌||◌, List, ◌++◌, Result, Ok, Err, eqb, leb, ltb, length, drop}
use Rattle.list_spec.specs.Choice.{pick}
use Rattle.slot_spec.specs.Tree.{tree_length}
use Rattle.state_spec.specs.declared.State.{State}
use Rattle.state_spec.specs.Fit.{in_range, largest_structure, largest_size, places}
use Rattle.readout_spec.specs.declared.NoFile.{NoFile}
use Rattle.readout_spec.specs.declared.NoFile.TheVariants.{Unfit, TreeLength, NotClosed, ShortBuffer}
use Rattle.readout_spec.specs.Taken.{entries, report}
use Rattle.readout_spec.specs.File.{file}

-- The file of a store.
abbrev pub file_of : State → List ℕ → List ℕ
file_of s tree = file (entries s tree) (report s tree)

-- ---- the checks
-- 14 "when the mark is neither 8 nor 9"
abbrev pub closed_mark : ℕ → Bool
closed_mark mark = eqb mark 8 || eqb mark 9

-- 2 "when structure or size is unknown or over 101 nodes wait"
abbrev pub known : State → Bool
known s =
    in_range s.structure largest_structure && (in_range s.size largest_size && leb s.count places)

-- ---- the operation
-- What reading out brings: the length of the file that was written, or the number of a refusal.
pub data ReadOut : Type 0 where
  Written : (length : ℕ) → ReadOut
  Refused : (number : ℕ) → ReadOut

pub record ReadOutLeft : Type 0 where
  pub result : ReadOut
  pub out : List ℕ

-- What a function that returns r leaves of the output buffer.
abbrev pub read_out_leaving : ReadOut → List ℕ → ReadOutLeft
read_out_leaving r out = record { result = r; out = out }

-- "None of them writes a byte."
abbrev pub read_out_refusing : ℕ → List ℕ → ReadOutLeft
read_out_refusing n out = read_out_leaving (Refused n) out

-- "It returns the file's length and changes no other byte."
abbrev pub writing : List ℕ → List ℕ → ReadOutLeft
writing bytes out = read_out_leaving (Written (length bytes)) (bytes ++ drop (length bytes) out)

unfoldable pub read_out : State → (tree out : List ℕ) → ReadOutLeft
read_out s tree out =
    pick (not (closed_mark s.mark)) (read_out_refusing 14 out)
    (pick (not (known s)) (read_out_refusing 2 out)
    (pick (not (eqb (length tree) (tree_length s.size))) (read_out_refusing 3 out)
    (pick (ltb (length out) (length (file_of s tree))) (read_out_refusing 15 out) (writing (file_of s tree) out))))

-- ---- what a function returns
-- The refusals' numbers.
abbrev pub number_of : NoFile → ℕ
number_of Unfit = 2
number_of TreeLength = 3
number_of NotClosed = 14
number_of ShortBuffer = 15

abbrev pub to_read_out : Result ℕ NoFile → ReadOut
to_read_out (Ok n) = Written n
to_read_out (Err e) = Refused (number_of e)

-- ---- as two numbers
-- 0 where a file was written, or the number of the refusal.
unfoldable pub read_out_number : ReadOut → ℕ
read_out_number (Written n) = 0
read_out_number (Refused n) = n

-- The file's length, or 0.
unfoldable pub length_of : ReadOut → ℕ
length_of (Written n) = n
length_of (Refused n) = 0
