-- `path_clearing::clear_path` meets its contract: turn by turn.
use Rattle.std.proofs.Common.{◌≡◌, sym, ◌∙◌, length, get_or, arith, take_all}
use Rattle.std.proofs.Math.Seq.{length-sets}
use Rattle.slot_spec.specs.Slot.{slot_bytes}
use Rattle.slot_spec.specs.Row.{zero_slot}
use Rattle.word_round_laws.specs.GatherLaws.{start-within, start_small}
use Rattle.path_clearing.specs.ClearLaws.{emptied-turn, emptied-end, path-cleared, start-aligned}
use Rattle.path_clearing.proofs.clear_path.Goals as goal

pub clear_slot-requires : goal.clear_slot-requires
clear_slot-requires c =
    let a = c.args in
    let p = c.requires in
    let l = c.loop-start in
    let starts = a.starts.now in
    let all = take_all (length starts) starts (omega arith) ∙ p.3 in
    let w = start-within a.size a.leaf a.tree.now p.1 p.2 starts (length starts) l.start-index all c.loop-start-test.true (omega arith) in
    let v = start_small a.size a.leaf a.tree.now p.1 p.2 starts (length starts) l.start-index (omega (arith, p.0)) all c.loop-start-test.true (omega arith) in
    (l.invariant.0 ∙ p.2, rw l.invariant.0 w, v, start-aligned a.size a.leaf a.tree.now starts l.start-index p.3 c.loop-start-test.true)

pub loop-start-preserved : goal.loop-start-preserved
loop-start-preserved c =
    let a = c.args in
    let l = c.loop-start in
    let s = c.clear_slot in (
      rw s.ensures (length-sets l.tree (get_or a.starts.now l.start-index 0) (slot_bytes zero_slot)) ∙ l.invariant.0,
      l.invariant.1 ∙ emptied-turn l.tree s.new.tree a.starts.now l.start-index c.loop-start-test.true s.ensures,
    )

pub returns : goal.returns
returns c =
    let a = c.args in
    let p = c.requires in
    let l = c.loop-start in
    sym (l.invariant.1 ∙ emptied-end l.tree a.starts.now l.start-index (omega (arith, c.loop-start-test.false)))
    ∙ path-cleared a.size a.leaf a.tree.now a.starts.now p.1 p.2 p.3
