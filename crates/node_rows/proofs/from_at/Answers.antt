use mathlib.Core.Path.{sym, refl}
use lib.ListN.{get_or}
use Rattle.node_rows.specs.RowLaws.{from-root, from-side}
use Rattle.node_rows.proofs.from_at.Goals as goal

pub returns-then-x-eq0 : goal.returns-then-x-eq0
returns-then-x-eq0 c =
    let a = c.args in sym (from-root (get_or a.froms.now a.i 0) c.if-x-eq0.true)

pub returns : goal.returns
returns c =
    let a = c.args in sym (from-side (get_or a.froms.now a.i 0) _ _ c.if-x-eq0.false refl refl)
