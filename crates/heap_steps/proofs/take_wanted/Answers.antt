use mathlib.Core.Path.{refl, ap}
use mathlib.Core.Option.{some}
use Rattle.leaf_spec.specs.Convert.{to_link}
use Rattle.node_rows.specs.Held.{held_in, nodes_of}
use Rattle.heap_steps.specs.TakeLaws.{take-empty, take-stops, take_last, take-wants}
use Rattle.heap_steps.proofs.take_wanted.Goals as goal

pub returns-then-entries-eq0 : goal.returns-then-entries-eq0
returns-then-entries-eq0 c =
    let a = c.args in
    rw (take-empty a.entries (to_link a.root) (nodes_of (held_in a.held.now a.count)) c.if-entries-eq0.true)

pub returns-then-count-way : goal.returns-then-count-way
returns-then-count-way c =
    let a = c.args in
    let way = c.way_to-way in
    rw (take-stops a.entries a.root a.held.now a.count c.told-held c.requires c.if-entries-eq0.false way.result way.ensures.0 way.ensures.1 c.if-count-way.true) (ap some c.next_on.ensures)

pub returns-then-way-eq0 : goal.returns-then-way-eq0
returns-then-way-eq0 c =
    let a = c.args in
    let way = c.way_to-way in
    rw (take_last a.entries a.root a.held.now a.count c.told-held c.requires c.if-entries-eq0.false way.result way.ensures.0 way.ensures.1 c.if-count-way.false c.if-way-eq0.true refl)

pub returns : goal.returns
returns c =
    let a = c.args in
    let way = c.way_to-way in
    rw c.err.ensures.value
    (take-wants a.entries a.root a.held.now a.count c.told-held c.requires c.if-entries-eq0.false way.result way.ensures.0 way.ensures.1 c.if-count-way.false c.if-way-eq0.false c.node_at-z.ensures c.sink.new.made c.sink.result c.sink.ensures)
