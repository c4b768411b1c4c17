-- `lent_numbers::write_numbers` meets its contract. The invariant: the first i numbers are written.
use mathlib.Core.Path.{◌≡◌}
use lib.ListN.{take}
use lib.Seq.{sets}
use Rattle.lent_bytes_spec.specs.Numbers.{numbers_bytes}
use Rattle.lent_numbers.proofs.write_numbers.Given as goal

abbrev pub invariant-loop-i : goal.invariant-loop-i
invariant-loop-i l = l.bytes ≡ sets l.initial.bytes 0 (numbers_bytes (take l.i l.numbers))
