use borrow.Author.Rules.{rules}
use Rattle.leaf_spec.specs.Convert.{to_link}
use Rattle.node_rows.specs.Held.{held_in}
use Rattle.structures.specs.OperationLaws.{walks-of, ready-of, program-get, program-put, program-remove, program-add, program-take, outcome-by, outcome-up}
use Rattle.structures.proofs.OnlyTake.{only-take}
use Rattle.structures.proofs.step.Goals as goal

pub get-requires : goal.get-requires
get-requires c = walks-of c.requires.0

pub map_step-requires : goal.map_step-requires
map_step-requires c = (walks-of c.requires.0, ready-of _ _ _ _ c.get.result c.get.ensures)

pub put-requires : goal.put-requires
put-requires c = walks-of c.requires.0

pub map_step-requires-in-Put : goal.map_step-requires-in-Put
map_step-requires-in-Put c = (walks-of c.requires.0, ready-of _ _ _ _ c.put.result c.put.ensures)

pub remove-requires : goal.remove-requires
remove-requires c = walks-of c.requires.0

pub map_step-requires-in-Remove : goal.map_step-requires-in-Remove
map_step-requires-in-Remove c = (walks-of c.requires.0, ready-of _ _ _ _ c.remove.result c.remove.ensures)

pub returns-in-Get : goal.returns-in-Get
returns-in-Get c =
    let a = c.args in (
      outcome-up (program-get a.op a.spares a.limit a.entries (to_link a.root) c.in-Get.is) (held_in a.held.now a.count) _ a.root c.get.result
          c.get.ensures (to_link a.root) a.entries c.map_step.ensures.0,
      (c.map_step.ensures.1, search rules),
    )

pub returns-in-Put : goal.returns-in-Put
returns-in-Put c =
    let a = c.args in (
      outcome-up (program-put a.op a.spares a.limit a.entries (to_link a.root) c.in-Put.is) (held_in a.held.now a.count) _ a.root c.put.result
          c.put.ensures (to_link a.root) a.entries c.map_step-in-Put.ensures.0,
      (c.map_step-in-Put.ensures.1, search rules),
    )

pub returns-in-Remove : goal.returns-in-Remove
returns-in-Remove c =
    let a = c.args in (
      outcome-up (program-remove a.op a.spares a.limit a.entries (to_link a.root) c.in-Remove.is) (held_in a.held.now a.count) _ a.root c.remove.result
          c.remove.ensures (to_link a.root) a.entries c.map_step-in-Remove.ensures.0,
      (c.map_step-in-Remove.ensures.1, search rules),
    )

pub returns-in-Add : goal.returns-in-Add
returns-in-Add c =
    let a = c.args in
    let h = held_in a.held.now a.count in (
      outcome-by (program-add a.op a.spares a.limit a.entries (to_link a.root) c.in-Add.is) h (to_link a.root) a.entries c.add.ensures.0,
      (c.add.ensures.1, search rules),
    )

pub returns-in_default : goal.returns-in_default
returns-in_default c =
    let a = c.args in
    let d = c.in_default in
    let h = held_in a.held.now a.count in (
      outcome-by (program-take a.op a.spares a.limit a.entries (to_link a.root) (only-take a.op d.not-Get d.not-Put d.not-Remove d.not-Add c.requires.1.1)) h (to_link a.root) a.entries c.take.ensures.0,
      (c.take.ensures.1, search rules),
    )
