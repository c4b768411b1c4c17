-- `path_reader::gather_bucket` meets its contract. The invariant: the starts of the full ones of the first j slots are gathered, the others are left to ask.
use mathlib.Core.Path.{◌∙◌}
use mathlib.Core.List.{◌++◌}
use Prim.Native.Nat.{◌+◌, ◌*◌}
use lib.ListN.{take, length-set}
use Rattle.slot_spec.specs.Slot.{all_zero, slot_bytes}
use Rattle.word_round_laws.specs.Gather.{four_from, full_starts}
use Rattle.word_round_laws.specs.GatherLaws.{full-one, gather-four, gather-four-end}
use native.Mathlib.Omega.{arith}
use Rattle.path_slots.proofs.gather_bucket.Goals as goal

pub loop-j-preserved : goal.loop-j-preserved
loop-j-preserved c =
    let a = c.args in
    let l = c.loop-j in
    let t = c.loop-j-test.true in
    let x = c.load in
    let before = take a.m a.from.now ++ full_starts a.tree.now (four_from a.start) in
    let u = full-one (all_zero (slot_bytes x.result)) in (
      omega (arith, c.full-count.ensures, l.invariant.0),
      gather-four a.tree.now before l.from l.count a.start l.j (slot_bytes x.result) c.full-count.result t (omega (arith, l.invariant.0)) x.ensures c.full-count.ensures l.invariant.1,
    )

pub returns : goal.returns
returns c =
    let a = c.args in
    let l = c.loop-j in
    let before = take a.m a.from.now ++ full_starts a.tree.now (four_from a.start) in
    (omega (arith, l.invariant.0), gather-four-end a.tree.now before l.from l.count a.start l.j (omega arith) l.invariant.1)
