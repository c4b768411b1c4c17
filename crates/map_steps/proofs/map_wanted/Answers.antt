use mathlib.Core.Path.{sym}
use borrow.Author.Tests.{not-true}
use Rattle.node_rows.specs.Held.{held_in}
use Rattle.map_steps.specs.OutcomeLaws.{from-resting, from-rising}
use Rattle.map_steps.proofs.map_wanted.Goals as goal

pub returns-then-not-b : goal.returns-then-not-b
returns-then-not-b c =
    let a = c.args in
    rw c.in-Ok.is (sym (from-resting a.key a.root (held_in a.held.now a.count) c.in-Ok.b (not-true c.in-Ok.b.rotating c.if-not-b.true)))

pub returns-else-not-b : goal.returns-else-not-b
returns-else-not-b c =
    let a = c.args in
    rw (c.in-Ok.is, c.err.ensures.value) (from-rising a.key a.root (held_in a.held.now a.count) c.in-Ok.b c.climb.new.made c.climb.result c.climb.ensures)
