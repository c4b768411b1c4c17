use mathlib.Core.Path.{◌∙◌}
use native.Mathlib.Omega.{arith}
use Rattle.slot_laws.specs.RowLaws.{row-got}
use Rattle.node_rows.proofs.node_at.Goals as goal

pub returns : goal.returns
returns c =
    let a = c.args in
    c.node_of.ensures ∙ row-got a.i a.row.now (omega arith)
