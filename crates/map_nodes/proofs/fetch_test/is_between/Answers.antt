use Rattle.method_spec.specs.Map.{between}
use borrow.Author.Tests.{lt-ltb, le-ltb}
use Rattle.map_nodes.proofs.fetch_test.is_between.Goals as goal

pub returns-in-None-None : goal.returns-in-None-None
unfolding between
returns-in-None-None c = rw (c.in-None-None.is-0, c.in-None-None.is-1)

pub returns-in-None-Some : goal.returns-in-None-Some
unfolding between
returns-in-None-Some c = rw (c.in-None-Some.is-0, c.in-None-Some.is-1)

pub returns-in-Some-None : goal.returns-in-Some-None
unfolding between
returns-in-Some-None c = rw (c.in-Some-None.is-0, c.in-Some-None.is-1)

pub returns-then-a-key : goal.returns-then-a-key
unfolding between
returns-then-a-key c = rw (c.in-Some-Some.is-0, c.in-Some-Some.is-1, lt-ltb _ _ c.if-a-key.true)

pub returns-else-a-key : goal.returns-else-a-key
unfolding between
returns-else-a-key c = rw (c.in-Some-Some.is-0, c.in-Some-Some.is-1, le-ltb _ _ c.if-a-key.false)
