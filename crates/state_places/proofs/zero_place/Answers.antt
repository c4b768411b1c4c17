-- `fitness::zero_place` meets its contract: its numbers are zero together.
use Rattle.state_laws.specs.FitLaws.{node-together}
use Rattle.state_places.proofs.zero_place.Goals as goal

pub returns : goal.returns
returns c = rw c.if-p.false (node-together c.args.p.node)
