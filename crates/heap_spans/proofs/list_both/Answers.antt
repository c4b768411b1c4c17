use Rattle.heap_spans.specs.SpanLaws.{first_counted}
use native.Mathlib.Omega.{arith}
use Rattle.heap_spans.proofs.list_both.Goals as goal

pub list_span-requires : goal.list_span-requires
list_span-requires c =
    let first = c.list_first-more.ensures in
    (c.requires.0, c.requires.2, omega (arith, c.requires.3, first_counted _ _ c.args.first first))
