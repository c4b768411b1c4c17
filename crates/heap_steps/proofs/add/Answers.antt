use native.Mathlib.Numerals.{add-one}
use Rattle.leaf_spec.specs.Convert.{to_link}
use Rattle.node_rows.specs.Held.{held_in, nodes_of}
use Rattle.operations.specs.LinkLaws.{no-link}
use Rattle.heap_steps.specs.AddLaws.{add-full, add-stops, add-makes}
use native.Mathlib.Omega.{arith}
use Rattle.heap_steps.proofs.add.Goals as goal

pub returns-then-entries-limit : goal.returns-then-entries-limit
returns-then-entries-limit c =
    let a = c.args in
    rw c.no_nodes.ensures (
      rw (add-full a.value a.tag a.entries a.limit (to_link a.root) (nodes_of (held_in a.held.now a.count)) c.if-entries-limit.true),
      omega arith,
    )

pub returns-then-count-way : goal.returns-then-count-way
returns-then-count-way c =
    let a = c.args in
    let way = c.way_to-way in
    rw c.no_nodes-then-count-way.ensures (
      rw (add-stops a.value a.tag a.entries a.limit a.root a.held.now a.count c.told-held c.requires c.if-entries-limit.false way.result way.ensures.0 way.ensures.1 c.if-count-way.true),
      omega arith,
    )

pub returns : goal.returns
returns c =
    let a = c.args in
    let way = c.way_to-way in
    add-makes a.value a.tag a.entries a.limit a.root a.held.now a.count c.told-held c.requires c.if-entries-limit.false way.result way.ensures.0 way.ensures.1 c.if-count-way.false
    (rw (c.from.ensures, add-one a.entries, no-link c.default.result c.default.ensures, no-link c.default-2.result c.default-2.ensures)) (c.rise.ensures a.count) c.link_one-top.ensures
