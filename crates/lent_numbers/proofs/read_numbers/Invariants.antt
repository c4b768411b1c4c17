-- `lent_numbers::read_numbers` meets its contract. The invariant: the first i numbers are read.
use mathlib.Core.Path.{◌≡◌}
use lib.ListN.{take}
use Rattle.lent_bytes_spec.specs.Numbers.{numbers_in}
use Rattle.lent_numbers.proofs.read_numbers.Given as goal

abbrev pub invariant-loop-i : goal.invariant-loop-i
invariant-loop-i l = take l.i l.numbers ≡ numbers_in l.i l.bytes
