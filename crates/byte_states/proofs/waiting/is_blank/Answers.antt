-- `byte_states::waiting::is_blank` meets its contract. The invariant: there are no digits exactly if the first a bytes are zero.
use mathlib.Core.Path.{◌≡◌, ◌∙◌, ap}
use Prim.Native.Nat.{◌+◌, ◌*◌}
use lib.Bits.{bit_or}
use lib.Seq.{take_all}
use Rattle.slot_spec.specs.Tree.{slot_length}
use Rattle.slot_spec.specs.Slot.{all_zero}
use Rattle.slot_laws.specs.SlotLaws.{Words}
use Rattle.byte_states.specs.PlacesFitLaws.{blank_none, blank-more, blank-all}
use native.Mathlib.Omega.{arith}
use Rattle.byte_states.proofs.waiting.is_blank.Goals as goal

pub loop-a-init : goal.loop-a-init
loop-a-init c = (blank_none c.args.slots.now, (omega arith, omega arith))

pub loop-a-preserved : goal.loop-a-preserved
loop-a-preserved c =
    let l = c.loop-a in
    let x = c.load-x in
    let y = c.load-y in
    let wx : Words x.result = omega (arith, x.type_inv) in
    let wy : Words y.result = omega (arith, y.type_inv) in
    let s = c.args.slots.now in
    let one = blank-more s l.a l.first l.second l.third l.fourth x.result wx l.invariant.0 x.ensures in
    let two = blank-more s (l.a + slot_length) (bit_or l.first x.result.a) (bit_or l.second x.result.b) (bit_or l.third x.result.c) (bit_or l.fourth x.result.d) y.result wy one
    y.ensures in
    let e : l.a + 2 * slot_length ≡ l.a + slot_length + slot_length = omega arith in (
      rw e two,
      (omega (arith, c.loop-a-test.true, l.invariant.1.1, c.requires.1), omega (arith, l.invariant.1.1)),
    )

pub returns-then-slots-a : goal.returns-then-slots-a
returns-then-slots-a c =
    let l = c.loop-a in
    blank-all l.first l.second l.third l.fourth ∙ l.invariant.0 ∙ ap all_zero (take_all l.a c.args.slots.now c.if-slots-a.true)

pub returns : goal.returns
returns c =
    let l = c.loop-a in
    let z = c.load-z in
    let w : Words z.result = omega (arith, z.type_inv) in
    let s = c.args.slots.now in
    blank-all (bit_or l.first z.result.a) (bit_or l.second z.result.b) (bit_or l.third z.result.c) (bit_or l.fourth z.result.d)
    ∙ blank-more s l.a l.first l.second l.third l.fourth z.result w l.invariant.0 z.ensures
    ∙ ap all_zero (take_all (l.a + slot_length) s (omega (arith, c.loop-a-test.false)))
