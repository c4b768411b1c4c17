use borrow.Author.Rules.{rules}
use Rattle.leaf_spec.specs.Convert.{to_link}
use Rattle.node_rows.specs.Held.{held_in}
use Rattle.structures.specs.OperationLaws.{walks-of, ready-of, program-get, program-put, program-remove, program-add, program-take, wanted_by, wanted_up}
use Rattle.structures.proofs.OnlyTake.{only-take}
use Rattle.structures.proofs.wanted.Goals as goal

pub get-requires : goal.get-requires
get-requires c = walks-of c.requires.0

pub map_wanted-requires : goal.map_wanted-requires
map_wanted-requires c = (walks-of c.requires.0, ready-of _ _ _ _ c.get.result c.get.ensures)

pub put-requires : goal.put-requires
put-requires c = walks-of c.requires.0

pub map_wanted-requires-in-Put : goal.map_wanted-requires-in-Put
map_wanted-requires-in-Put c = (walks-of c.requires.0, ready-of _ _ _ _ c.put.result c.put.ensures)

pub remove-requires : goal.remove-requires
remove-requires c = walks-of c.requires.0

pub map_wanted-requires-in-Remove : goal.map_wanted-requires-in-Remove
map_wanted-requires-in-Remove c = (walks-of c.requires.0, ready-of _ _ _ _ c.remove.result c.remove.ensures)

pub returns-in-Get : goal.returns-in-Get
returns-in-Get c =
    let a = c.args in (
      wanted_up (program-get a.op a.spares a.limit a.entries (to_link a.root) c.in-Get.is) (held_in a.held.now a.count) _ a.root c.get.result
          c.get.ensures c.map_wanted.ensures,
      search rules,
    )

pub returns-in-Put : goal.returns-in-Put
returns-in-Put c =
    let a = c.args in (
      wanted_up (program-put a.op a.spares a.limit a.entries (to_link a.root) c.in-Put.is) (held_in a.held.now a.count) _ a.root c.put.result
          c.put.ensures c.map_wanted-in-Put.ensures,
      search rules,
    )

pub returns-in-Remove : goal.returns-in-Remove
returns-in-Remove c =
    let a = c.args in (
      wanted_up (program-remove a.op a.spares a.limit a.entries (to_link a.root) c.in-Remove.is) (held_in a.held.now a.count) _ a.root c.remove.result
          c.remove.ensures c.map_wanted-in-Remove.ensures,
      search rules,
    )

pub returns-in-Add : goal.returns-in-Add
returns-in-Add c =
    let a = c.args in
    let h = held_in a.held.now a.count in
    (wanted_by (program-add a.op a.spares a.limit a.entries (to_link a.root) c.in-Add.is) h (c.add_wanted.ensures _ a.spares.first), c.requires.1.0)

pub returns-in_default : goal.returns-in_default
returns-in_default c =
    let a = c.args in
    let d = c.in_default in
    let h = held_in a.held.now a.count in
    (wanted_by (program-take a.op a.spares a.limit a.entries (to_link a.root) (only-take a.op d.not-Get d.not-Put d.not-Remove d.not-Add c.requires.1.1)) h c.take_wanted.ensures, search rules)
