-- `call_ending::short::join_made` meets its contract.
use mathlib.Core.List.{[]}
use Rattle.stash.specs.StashLaws.{joined-none}
use Rattle.call_ending.proofs.short.join_made.Goals as goal

pub returns-in-None : goal.returns-in-None
returns-in-None c = rw c.in-None.is (joined-none c.args.n [] c.args.w.now c.requires.0)

pub returns-in-Some : goal.returns-in-Some
returns-in-Some c = rw c.in-Some.is c.join_node.ensures
