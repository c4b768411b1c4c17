use Rattle.leaf_spec.specs.Convert.{to_link}
use Rattle.node_rows.specs.Held.{held_in, nodes_of}
use Rattle.operations.specs.LinkLaws.{no-link}
use Rattle.heap_steps.specs.TakeLaws.{take-empty, take-stops, take-clears, take-misses, take-makes}
use native.Mathlib.Omega.{arith}
use Rattle.heap_steps.proofs.take.Goals as goal

pub returns-then-entries-eq0 : goal.returns-then-entries-eq0
returns-then-entries-eq0 c =
    let a = c.args in
    rw c.no_nodes.ensures (
      rw (take-empty a.entries (to_link a.root) (nodes_of (held_in a.held.now a.count)) c.if-entries-eq0.true),
      omega arith,
    )

pub returns-then-count-way : goal.returns-then-count-way
returns-then-count-way c =
    let a = c.args in
    let way = c.way_to-way in
    rw c.no_nodes-then-count-way.ensures (
      rw (take-stops a.entries a.root a.held.now a.count c.told-held c.requires c.if-entries-eq0.false way.result way.ensures.0 way.ensures.1 c.if-count-way.true),
      omega arith,
    )

pub returns-then-way-eq0 : goal.returns-then-way-eq0
returns-then-way-eq0 c =
    let a = c.args in
    let way = c.way_to-way in
    rw c.no_nodes-then-way-eq0.ensures (
      take-clears a.entries a.root a.held.now a.count c.told-held c.requires c.if-entries-eq0.false way.result way.ensures.0 way.ensures.1 c.if-count-way.false c.if-way-eq0.true c.node_at-z.ensures (no-link c.default.result c.default.ensures) c.one_less-fewer.ensures,
      omega arith,
    )

pub returns-in_default : goal.returns-in_default
returns-in_default c =
    let a = c.args in
    let way = c.way_to-way in
    rw c.no_nodes-in_default.ensures (
      rw (take-misses a.entries a.root a.held.now a.count c.told-held c.requires c.if-entries-eq0.false way.result way.ensures.0 way.ensures.1 c.if-count-way.false c.if-way-eq0.false c.node_at-z.ensures c.in_default.field-0 c.in_default.ensures),
      omega arith,
    )

pub returns : goal.returns
returns c =
    let a = c.args in
    let way = c.way_to-way in
    take-makes a.entries a.root a.held.now a.count c.told-held c.requires c.if-entries-eq0.false way.result way.ensures.0 way.ensures.1 c.if-count-way.false c.if-way-eq0.false c.node_at-z.ensures c.in-Ok.ensures
    c.node_at-top.ensures c.link_one.ensures c.one_less-fewer.ensures
