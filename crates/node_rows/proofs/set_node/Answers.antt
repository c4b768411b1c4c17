use mathlib.Core.Path.{◌∙◌, ap}
use Prim.Native.Nat.{◌*◌}
use native.Mathlib.Omega.{arith}
use Rattle.slot_spec.specs.declared.Slot.{Slot}
use Rattle.slot_spec.specs.Row.{nodes_from}
use Rattle.slot_laws.specs.RowLaws.{stored, row_put, stored-length}
use Rattle.slot_laws.specs.Ranges.{node-ranges}
use borrow.Author.Rules.{rules}
use Rattle.node_rows.proofs.set_node.Goals as goal

pub returns : goal.returns
returns c =
    let a = c.args in (
      ap (λ (x : Slot). nodes_from (stored a.row.now (4 * a.i) x)) c.slot_of-x.ensures.1
          ∙ row_put a.i a.row.now a.n (node-ranges a.n (search rules)) (omega (arith, c.requires)),
      stored-length a.row.now (4 * a.i) c.slot_of-x.result ∙ c.told-row,
    )
