use mathlib.Core.Path.{sym}
use Rattle.heap_descent.specs.WayLaws.{way-turn}
use Rattle.heap_descent.proofs.way.goes_left.Goals as goal

pub returns : goal.returns
returns c =
    let s = c in
    let a = s.args in
    rw s.requires.turns (sym (way-turn a.way.position a.level (rw s.requires.turns at c.if-level-way.false)))
