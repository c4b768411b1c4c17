-- `lent_numbers::read_numbers` meets its contract. The invariant: the first i numbers are read.
use Prim.Native.Nat.{◌+◌, ◌*◌}
use mathlib.Core.Path.{◌≡◌, refl}
use lib.ListN.{get_or}
use native.Mathlib.Omega.{arith}
use Rattle.lent_bytes_laws.specs.NumbersLaws.{numbers-none, numbers-next}
use Rattle.lent_numbers.proofs.read_numbers.Goals as goal

pub loop-i-init : goal.loop-i-init
loop-i-init c = numbers-none c.args.bytes.now c.args.numbers.now

pub loop-i-preserved : goal.loop-i-preserved
loop-i-preserved c =
    let l = c.loop-i in
    let bs = c.args.bytes.now in
    let sum : c.from_le_bytes.result ≡ get_or bs (2 * l.i) 0 + 256 * get_or bs (2 * l.i + 1) 0 = omega (arith, c.from_le_bytes.ensures) in
    rw sum (numbers-next bs l.numbers l.i _ l.invariant (omega arith) refl (omega arith))
