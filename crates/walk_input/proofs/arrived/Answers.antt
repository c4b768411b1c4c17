-- `walk_input::arrived` meets its contract, test by test.
use Rattle.std.proofs.Common.{lt-ltb, le-ltb, eq-eqb, ne_eqb}
use Rattle.walk_spec.specs.Input.{arrived_of}
use Rattle.walk_input.proofs.arrived.Goals as goal

pub returns-then-wanted-got : goal.returns-then-wanted-got
unfolding arrived_of
returns-then-wanted-got c = rw (le-ltb _ _ c.if-wanted-got.true)

pub returns-then-got-eq0 : goal.returns-then-got-eq0
unfolding arrived_of
returns-then-got-eq0 c = rw (lt-ltb _ _ c.if-wanted-got.false, eq-eqb _ _ c.if-got-eq0.true)

pub returns-else-got-eq0 : goal.returns-else-got-eq0
unfolding arrived_of
returns-else-got-eq0 c = rw (lt-ltb _ _ c.if-wanted-got.false, ne_eqb _ _ c.if-got-eq0.false)
