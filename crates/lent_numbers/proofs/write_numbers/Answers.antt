-- `lent_numbers::write_numbers` meets its contract. The invariant: the first i numbers are written.
use mathlib.Core.Path.{refl}
use native.Mathlib.Omega.{arith}
use Rattle.lent_bytes_laws.specs.NumbersLaws.{numbers-put-none, numbers-copied}
use Rattle.lent_numbers.proofs.write_numbers.Goals as goal

pub loop-i-init : goal.loop-i-init
loop-i-init c = numbers-put-none c.args.bytes.now c.args.numbers.now

pub loop-i-preserved : goal.loop-i-preserved
loop-i-preserved c =
    let l = c.loop-i in
    rw (c.copy_from_slice.ensures.after, c.to_le_bytes.ensures)
    (numbers-copied c.args.bytes.now l.bytes c.args.numbers.now l.i _ _ l.invariant (omega arith) refl (omega arith) (omega arith))
