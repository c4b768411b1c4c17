-- `path_reader::read_path` meets its contract: turn by turn, and what was joined before damage is taken out again.
use Rattle.std.proofs.Common.{◌≡◌, refl, ◌∙◌, ap, List, map, ℕ, ◌≤◌, ◌<◌, length, take, drop, get_or, arith, rules}
use Rattle.word_round_laws.specs.SlotRow.{places, slots_in}
use Rattle.word_round_laws.specs.Gather.{read_from}
use Rattle.word_round_laws.specs.GatherLaws.{start-within}
use Rattle.path_reader.specs.Joined.{AllJoined}
use Rattle.path_reader.specs.JoinedLaws.{joined-none, joined-order, first-within, next-joined, next-damage, full-joined, full-damaged}
use Rattle.path_reader.specs.UndoneLaws.{first-joined, were-joined, undone-slots}
use Rattle.path_reader.proofs.read_path.Goals as goal

pub loop-i-init : goal.loop-i-init
loop-i-init c =
    let a = c.args in
    joined-none a.size a.held.now a.n a.s.now c.requires.blank

pub load-x-requires : goal.load-x-requires
load-x-requires c =
    let a = c.args in
    let p = c.requires in
    let g = c.gather_path-full in
    start-within a.size a.leaf a.tree.now p.is_leaf p.tree-sized g.new.from g.result c.loop-i.i g.ensures.starts c.loop-i-test.true
    (omega (arith, g.ensures.sized, g.ensures.fewer, p.size))

pub join_reading-requires : goal.join_reading-requires
join_reading-requires c =
    let a = c.args in
    let l = c.loop-i in
    let p = c.requires in
    let g = c.gather_path-full in
    let h = first-within a.size a.held.now a.tree.now g.new.from a.n a.s.now l.s l.i l.count l.invariant in (
      search rules,
      omega (arith, h, g.ensures.fewer, p.room, c.loop-i-test.true),
      joined-order a.size a.held.now (map (read_from a.size a.tree.now) (take l.i g.new.from)) a.n a.s.now l.s l.count l.invariant p.order,
      l.invariant.blank,
      p.size,
    )

pub undo-requires : goal.undo-requires
undo-requires c =
    let a = c.args in
    let l = c.loop-i in
    let p = c.requires in
    let g = c.gather_path-full in
    let h = first-within a.size a.held.now a.tree.now g.new.from a.n a.s.now l.s l.i l.count l.invariant in (
      search rules,
      were-joined a.size a.held.now (take a.n (slots_in a.s.now)) a.tree.now (take l.i g.new.from) l.count c.join_reading.new.s
          (first-joined a.size a.leaf a.tree.now p.is_leaf p.tree-sized g.new.from g.result g.ensures a.held.now a.n a.s.now l.s c.join_reading.new.s l.i l.count
          (omega (arith, c.loop-i-test.true)) (omega (arith, h, g.ensures.fewer, p.room, c.loop-i-test.true)) l.invariant c.in_default.ensures.same),
    )

pub returns-in_default : goal.returns-in_default
returns-in_default c =
    let a = c.args in
    let l = c.loop-i in
    let p = c.requires in
    let g = c.gather_path-full in
    let r = c.join_reading in
    let d = c.in_default.ensures in
    let few : g.result ≤ length g.new.from = omega (arith, g.ensures.sized, g.ensures.fewer, p.size) in
    let h = first-within a.size a.held.now a.tree.now g.new.from a.n a.s.now l.s l.i l.count l.invariant in
    let were = first-joined a.size a.leaf a.tree.now p.is_leaf p.tree-sized g.new.from g.result g.ensures a.held.now a.n a.s.now l.s r.new.s l.i l.count
    (omega (arith, c.loop-i-test.true)) (omega (arith, h, g.ensures.fewer, p.room, c.loop-i-test.true)) l.invariant d.same in
    let none_joined = next-damage a.size a.held.now a.tree.now g.new.from a.n a.s.now l.s r.new.s l.i l.count c.load-x.result (omega (arith, few, c.loop-i-test.true)) c.load-x.ensures l.invariant d g.result c.loop-i-test.true few in
    full-damaged a.size a.leaf a.tree.now p.is_leaf p.tree-sized a.held.now a.n a.s.now c.undo.new.s
    (rw g.ensures.starts at none_joined)
    (undone-slots a.size a.held.now a.tree.now (take l.i g.new.from) a.n l.count a.s.now r.new.s c.undo.new.s were c.undo.ensures (omega (arith, p.room)) p.blank (ap (drop l.count) d.same ∙ l.invariant.blank))

pub loop-i-preserved : goal.loop-i-preserved
loop-i-preserved c =
    let a = c.args in
    let l = c.loop-i in
    let g = c.gather_path-full in
    let few : g.result ≤ length g.new.from = omega (arith, g.ensures.sized, g.ensures.fewer, c.requires.size) in
    next-joined a.size a.held.now a.tree.now g.new.from a.n a.s.now l.s c.join_reading.new.s l.i l.count c.load-x.result (omega (arith, few, c.loop-i-test.true)) c.load-x.ensures l.invariant c.in-Ok.joined c.in-Ok.ensures

pub returns : goal.returns
returns c =
    let a = c.args in
    let p = c.requires in
    let l = c.loop-i in
    let g = c.gather_path-full in
    let e : l.i ≡ g.result = omega (arith, c.loop-i-test.false) in
    let j : AllJoined a.size a.held.now (map (read_from a.size a.tree.now) (take g.result g.new.from)) a.n a.s.now l.s l.count = rw e at l.invariant in
    let h = first-within a.size a.held.now a.tree.now g.new.from a.n a.s.now l.s g.result l.count j in (
      full-joined a.size a.leaf a.tree.now p.is_leaf p.tree-sized a.held.now a.n a.s.now l.s l.count (rw g.ensures.starts at j),
      record {
        gathered = g.ensures;
        joined = first-joined a.size a.leaf a.tree.now p.is_leaf p.tree-sized g.new.from g.result g.ensures a.held.now a.n a.s.now l.s l.s g.result l.count (omega arith) (omega (arith, h, g.ensures.fewer, p.room)) j refl;
      },
    )
