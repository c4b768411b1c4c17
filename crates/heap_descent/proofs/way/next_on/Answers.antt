use mathlib.Core.Path.{sym, ◌∙◌}
use Rattle.method_spec.specs.Heap.{way_to}
use Rattle.method_spec.specs.Prog.{start}
use Rattle.leaf_spec.specs.Convert.{to_link}
use Rattle.node_rows.specs.Held.{held_in}
use Rattle.heap_descent.specs.WayLaws.{want-first, want-next}
use Rattle.heap_descent.proofs.way.next_on.Goals as goal

pub returns-then-count-eq0 : goal.returns-then-count-eq0
returns-then-count-eq0 c =
    let a = c.args in
    c.start.ensures
    ∙ sym (want-first (held_in a.held.now a.count) (start (to_link a.root)) (way_to a.way.position) a.count c.if-count-eq0.true)

pub returns : goal.returns
returns c =
    let a = c.args in
    c.beneath.ensures
    ∙ rw (c.goes_left.ensures, c.node_at.ensures)
    (sym (want-next (held_in a.held.now a.count) (start (to_link a.root)) (way_to a.way.position) a.count c.if-count-eq0.false))
