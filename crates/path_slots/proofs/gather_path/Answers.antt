-- `path_reader::gather_path` meets its contract. The invariant: the full slots of the buckets below a level are gathered, the other buckets are left to ask.
use mathlib.Core.Path.{◌≡◌}
use Prim.Native.Nat.{◌+◌}
use lib.ListN.{take}
use Rattle.slot_spec.specs.Tree.{path}
use Rattle.word_round_laws.specs.Gather.{slot_starts, full_starts}
use Rattle.word_round_laws.specs.GatherLaws.{gather-level, gather-end}
use native.Mathlib.Omega.{arith}
use borrow.Author.Rules.{rules}
use Rattle.path_slots.proofs.gather_path.Goals as goal

pub loop-level-preserved : goal.loop-level-preserved
loop-level-preserved c =
    let a = c.args in
    let l = c.loop-level in
    let g = c.gather_bucket-count in
    let starts = c.start_at in
    let all = full_starts a.tree.now (slot_starts (path a.size a.leaf)) in (
      omega (arith, g.ensures.0, l.invariant.0),
      search rules,
      gather-level a.size a.leaf l.level starts.result a.tree.now all (take l.count l.from) (take g.result g.new.from) (omega arith) starts.ensures.0 g.ensures.1 l.invariant.2,
    )

pub returns : goal.returns
returns c =
    let a = c.args in
    let l = c.loop-level in
    let all = full_starts a.tree.now (slot_starts (path a.size a.leaf)) in
    let e : l.level ≡ a.size + 1 = omega arith in
    record {
      sized = l.invariant.1;
      fewer = omega (arith, l.invariant.0);
      starts = gather-end a.size a.leaf l.level a.tree.now all (take l.count l.from) e l.invariant.2;
    }
