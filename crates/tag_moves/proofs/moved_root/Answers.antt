use Rattle.leaf_spec.specs.Convert.{to_link}
use Rattle.tag_moves.specs.MoveLaws.{moved-root-link, moved-side-link}
use Rattle.tag_moves.proofs.moved_root.Goals as goal

pub returns-in-Root : goal.returns-in-Root
returns-in-Root c = let a = c.args in λ m t. rw c.in-Root.is (moved-root-link (to_link a.root) m t)

pub returns-in_default : goal.returns-in_default
returns-in_default c = let a = c.args in λ m t. rw c.in_default.is (moved-side-link (to_link a.root) m _ _)
