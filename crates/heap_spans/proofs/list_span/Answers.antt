use native.Mathlib.Omega.{arith}
use Rattle.heap_spans.specs.SpanLaws.{listing_start, listing-turn}
use Rattle.heap_spans.proofs.list_span.Goals as goal

pub loop-i-init : goal.loop-i-init
loop-i-init c = let a = c.args in listing_start _ _ a.made.now a.count a.span.at c.told-made

pub loop-i-preserved : goal.loop-i-preserved
loop-i-preserved c =
    let a = c.args in
    listing-turn _ _ a.made.now a.count a.span.at c.loop-i.i c.loop-i.invariant (omega (arith, c.requires)) c.node_in.ensures c.set_node.ensures.0 c.set_node.ensures.1
