-- `tree_paths::leaves` meets its contract: a shift of 1 by at most 17 does not wrap.
use mathlib.Core.Path.{refl}
use Rattle.slot_laws.specs.TreeLaws.{shifted_one, power-range}
use Rattle.tree_paths.proofs.leaves.Goals as goal

pub returns : goal.returns
returns c =
    let e = shifted_one c.args.size c.requires in
    let r = power-range c.args.size c.requires in
    rw e ((refl, r))
