use mathlib.Core.Path.{sym, ◌∙◌, ap}
use Rattle.slot_spec.specs.declared.Node as node
use Rattle.method_spec.specs.Heap.{way_to}
use Rattle.leaf_spec.specs.Convert.{to_node}
use Rattle.node_rows.specs.Row.{places}
use Rattle.heap_sinking.specs.SinkLaws.{sinks-some, valued, pass_on, pass-rests}
use native.Mathlib.Omega.{arith}
use Rattle.heap_sinking.proofs.pass.Goals as goal

pub node_at-v-requires : goal.node_at-v-requires
node_at-v-requires c =
    let some = sinks-some _ c.args.value c.smaller-l.result.low (way_to c.args.way.position) (sym (c.sinks.ensures _) ∙ c.if-sinks.true) in
    omega (arith, some, (c.smaller-l.ensures.inside places c.requires.1.left c.requires.1.right).0)

pub returns-then-sinks : goal.returns-then-sinks
returns-then-sinks c =
    let a = c.args in
    let way = way_to a.way.position in
    pass_on _ way a.value (to_node a.n) a.c a.made.now a.count c.smaller-l.ensures (sym (c.sinks.ensures way) ∙ c.if-sinks.true)
    (ap (λ (n : node.Node). n.value) c.node_at-v.ensures)
    (valued _ way (to_node a.n) a.c _ c.with_value.ensures (c.above-m.ensures way) (c.above.ensures way)) c.list_first-more.ensures

pub returns : goal.returns
returns c =
    let a = c.args in
    let way = way_to a.way.position in
    pass-rests _ way a.value (to_node a.n) a.c a.made.now a.count c.smaller-l.ensures (sym (c.sinks.ensures way) ∙ c.if-sinks.false)
    (valued _ way (to_node a.n) a.c _ c.with_value-2.ensures (c.above-m.ensures way) (c.above.ensures way)) c.list_both-all.ensures
