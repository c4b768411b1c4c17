use Rattle.node_rows.specs.Held.{held_in}
use Rattle.map_steps.specs.OutcomeLaws.{unmade, from-climbing, from-climbed}
use Rattle.map_steps.proofs.map_step.Goals as goal

pub returns-in_default-climb : goal.returns-in_default-climb
returns-in_default-climb c =
    let a = c.args in
    rw c.in-Ok.is
    (unmade a.root a.entries c.climb.new.made c.no_nodes-in_default-climb.ensures
    (from-climbing a.key a.root (held_in a.held.now a.count) c.in-Ok.b c.in_default-climb.field-0 c.in_default-climb.ensures))

pub returns : goal.returns
returns c =
    let a = c.args in
    rw c.in-Ok.is
    (from-climbed a.key a.root (held_in a.held.now a.count) c.in-Ok.b c.in-Ok-climb.ensures a.entries c.finish.ensures.0, c.finish.ensures.1)
