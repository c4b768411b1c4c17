use mathlib.Core.Path.{sym, ◌∙◌}
use Rattle.heap_spans.specs.SpanLaws.{node-off, node-last, node-inner}
use native.Mathlib.Omega.{arith}
use Rattle.heap_spans.proofs.node_in.Goals as goal

pub returns-then-way-i : goal.returns-then-way-i
returns-then-way-i c =
    rw c.node_at-n.ensures (sym (node-off _ _ c.args.i (rw c.requires.0.turns at c.if-way-i.true)))

pub returns-then-way-i-2 : goal.returns-then-way-i-2
returns-then-way-i-2 c =
    c.with_child.ensures
    ∙ rw (c.goes_left-left.ensures, c.node_at-n.ensures, c.default.ensures.0, c.default.ensures.1.0, c.default.ensures.1.1)
    (sym (node-last _ _ c.args.i (omega (arith, c.requires.0.turns, c.if-way-i.false)) (omega (arith, c.requires.0.turns, c.if-way-i-2.true))))

pub returns : goal.returns
returns c =
    c.with_child-2.ensures
    ∙ rw (c.goes_left-left.ensures, c.node_at-n.ensures, c.link_one.ensures, c.node_at.ensures)
    (sym (node-inner _ _ c.args.i (omega (arith, c.requires.0.turns, c.if-way-i-2.false))))
