use mathlib.Core.Path.{sym, ap}
use mathlib.Core.Option.{some}
use Rattle.leaf_spec.specs.Convert.{to_link}
use Rattle.node_rows.specs.Held.{held_in, nodes_of}
use Rattle.heap_steps.specs.AddLaws.{add-full, add-stops, add-ends}
use native.Mathlib.Omega.{arith}
use Rattle.heap_steps.proofs.add_wanted.Goals as goal

pub returns-then-count-way : goal.returns-then-count-way
returns-then-count-way c =
    let a = c.args in
    let way = c.way_to-way in
    λ value tag. rw (add-stops value tag a.entries a.limit a.root a.held.now a.count c.told-held c.requires (omega (arith, c.if-entries-limit.true)) way.result way.ensures.0 way.ensures.1 c.if-count-way.true)
    (ap some c.next_on.ensures)

pub returns-else-count-way : goal.returns-else-count-way
returns-else-count-way c =
    let a = c.args in
    let way = c.way_to-way in
    λ value tag. sym (add-ends value tag a.entries a.limit a.root a.held.now a.count c.told-held c.requires (omega (arith, c.if-entries-limit.true)) way.result way.ensures.0 way.ensures.1 c.if-count-way.false)

pub returns-else-entries-limit : goal.returns-else-entries-limit
returns-else-entries-limit c =
    let a = c.args in
    λ value tag. rw (add-full value tag a.entries a.limit (to_link a.root) (nodes_of (held_in a.held.now a.count)) (omega (arith, c.if-entries-limit.false)))
