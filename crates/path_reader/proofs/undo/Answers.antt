-- `path_reader::undo` meets its contract. The invariant: the first i are left of those that joined.
use Prim.Native.Nat.{◌-◌, ◌<◌, ◌≤◌}
use lib.ListN.{get_or}
use Rattle.slot_laws.specs.SlotLaws.{Words}
use Rattle.word_round_laws.specs.SlotRow.{places}
use Rattle.word_round_laws.specs.UndoLaws.{FullAt}
use Rattle.path_reader.specs.UndoneLaws.{last-full, count_fits, last-inside, undoing-turn, undoing-end}
use native.Mathlib.Omega.{arith}
use borrow.Author.Rules.{rules}
use Rattle.path_reader.proofs.undo.Goals as goal

pub load-x-requires : goal.load-x-requires
load-x-requires c =
    let more : 0 < c.loop-i.i =
    (omega (arith, c.loop-i-test.true)) in
    let last : FullAt c.args.tree.now (get_or c.args.starts.now (c.loop-i.i - 1) 0) =
    (let a = c.args in
    let l = c.loop-i in
    last-full a.tree.now a.starts.now a.m a.s.now l.s l.count l.i c.requires.1 l.invariant more) in
    last.0

pub take_out-requires : goal.take_out-requires
take_out-requires c =
    let more : 0 < c.loop-i.i =
    (omega (arith, c.loop-i-test.true)) in
    let fits : c.loop-i.count ≤ places =
    (let a = c.args in
    let l = c.loop-i in
    count_fits a.tree.now a.starts.now a.m a.s.now l.s l.count l.i c.requires.1 l.invariant more) in
    let words : Words c.load-x.result =
    (omega (arith, c.load-x.type_inv)) in
    let inside : c.find-at.result < c.loop-i.count =
    (let a = c.args in
    let l = c.loop-i in
    let x = c.load-x in
    last-inside a.tree.now a.starts.now a.m a.s.now l.s l.count l.i c.requires.1 l.invariant more
    x.result words x.ensures c.key_of.result c.find-at.result c.key_of.ensures c.find-at.ensures) in
    (search rules, fits, inside)

pub overflow_sub-count : goal.overflow_sub-count
overflow_sub-count c =
    let more : 0 < c.loop-i.i =
    (omega (arith, c.loop-i-test.true)) in
    let words : Words c.load-x.result =
    (omega (arith, c.load-x.type_inv)) in
    let inside : c.find-at.result < c.loop-i.count =
    (let a = c.args in
    let l = c.loop-i in
    let x = c.load-x in
    last-inside a.tree.now a.starts.now a.m a.s.now l.s l.count l.i c.requires.1 l.invariant more
    x.result words x.ensures c.key_of.result c.find-at.result c.key_of.ensures c.find-at.ensures) in
    omega (arith, inside)

pub loop-i-preserved : goal.loop-i-preserved
loop-i-preserved c =
    let more : 0 < c.loop-i.i =
    (omega (arith, c.loop-i-test.true)) in
    let words : Words c.load-x.result =
    (omega (arith, c.load-x.type_inv)) in
    let a = c.args in
    let l = c.loop-i in
    let x = c.load-x in
    let o = c.take_out in
    undoing-turn a.tree.now a.starts.now a.m a.s.now l.s l.count l.i c.requires.1 l.invariant more
    x.result words x.ensures c.key_of.result c.find-at.result c.key_of.ensures c.find-at.ensures
    o.new.s o.ensures.0 o.ensures.1

pub returns : goal.returns
returns c =
    let a = c.args in
    let l = c.loop-i in
    undoing-end a.tree.now a.starts.now a.m a.s.now l.s l.count l.i l.invariant (omega (arith, c.loop-i-test.false))
