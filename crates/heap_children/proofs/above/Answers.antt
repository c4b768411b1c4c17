use mathlib.Core.Path.{sym, ◌∙◌}
use Rattle.leaf_spec.specs.Convert.{to_node}
use Rattle.heap_children.specs.ChildLaws.{above-none, above-one}
use Rattle.heap_children.proofs.above.Goals as goal

pub returns-then-span-eq0 : goal.returns-then-span-eq0
returns-then-span-eq0 c =
    let a = c.args in
    λ way. sym (above-none _ way a.left (to_node a.n) a.span c.if-span-eq0.true)

pub returns : goal.returns
returns c =
    let a = c.args in
    λ way. c.with_child.ensures ∙ rw (c.link_one.ensures, c.node_at.ensures) (sym (above-one _ way a.left (to_node a.n) a.span c.if-span-eq0.false))
