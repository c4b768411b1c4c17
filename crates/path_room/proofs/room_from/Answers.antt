-- `path_room::room_from` meets its contract. The invariant: no level before has room.
use mathlib.Core.Path.{◌≡◌, sym, ◌∙◌}
use Prim.Native.Nat.{◌+◌, ◌<◌}
use lib.ListN.{length, take, length-take}
use lib.Seq.{get_or-take}
use Rattle.path_room.specs.RoomLaws.{crowded-here, crowded-past, crowded-end}
use native.Mathlib.Omega.{arith}
use Rattle.path_room.proofs.room_from.Goals as goal

pub returns-then-used-level-lt-BUCKET_SLOTS : goal.returns-then-used-level-lt-BUCKET_SLOTS
returns-then-used-level-lt-BUCKET_SLOTS c =
    let a = c.args in
    let l = c.loop-level in
    let n : length (take (a.size + 1) a.used.now) ≡ a.size + 1 = simp length-take (omega arith) in
    let t : l.level < a.size + 1 = omega arith in
    let g = get_or-take (a.size + 1) a.used.now l.level 0 t in
    sym (l.invariant ∙ (let e = crowded-here (take (a.size + 1) a.used.now) l.level (omega arith) (rw g c.if-used-level-lt-BUCKET_SLOTS.true) in omega arith))

pub loop-level-preserved : goal.loop-level-preserved
loop-level-preserved c =
    let a = c.args in
    let l = c.loop-level in
    let n : length (take (a.size + 1) a.used.now) ≡ a.size + 1 = simp length-take (omega arith) in
    let t : l.level < a.size + 1 = omega arith in
    let g = get_or-take (a.size + 1) a.used.now l.level 0 t in
    l.invariant ∙ crowded-past (take (a.size + 1) a.used.now) l.level (omega arith) (rw g c.if-used-level-lt-BUCKET_SLOTS.false)

pub returns : goal.returns
returns c =
    let a = c.args in
    let l = c.loop-level in
    let n : length (take (a.size + 1) a.used.now) ≡ a.size + 1 = simp length-take (omega arith) in
    sym (l.invariant ∙ (let e = crowded-end (take (a.size + 1) a.used.now) l.level (omega arith) in omega arith))
