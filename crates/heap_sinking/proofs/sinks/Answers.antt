use native.Mathlib.Omega.{arith}
use borrow.Author.Tests.{le-ltb}
use Rattle.heap_sinking.specs.SinkLaws.{sinks-none, sinks-by}
use Rattle.heap_sinking.proofs.sinks.Goals as goal

pub returns-then-low-gt0 : goal.returns-then-low-gt0
returns-then-low-gt0 c =
    let a = c.args in
    λ way. rw c.node_at.ensures (sinks-by _ a.value a.low way (λ z. omega (arith, c.if-low-gt0.true)))

pub returns-else-low-gt0 : goal.returns-else-low-gt0
returns-else-low-gt0 c =
    let a = c.args in
    λ way. rw (le-ltb 0 a.low.length c.if-low-gt0.false) (sinks-none _ a.value a.low way (omega (arith, c.if-low-gt0.false)))
