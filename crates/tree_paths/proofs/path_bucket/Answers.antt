-- `tree_paths::path_bucket` meets its contract: the shift reaches the bucket that so many halvings reach.
use mathlib.Core.Path.{◌∙◌, ap}
use Prim.Native.Nat.{ℕ, ◌/◌, ◌^◌}
use Rattle.slot_laws.proofs.PathNumberLaws.{shift-reaches}
use Rattle.tree_paths.proofs.path_bucket.Goals as goal

pub returns : goal.returns
returns c =
    let a = c.args in
    ap (λ (b : ℕ). b / 2 ^ a.level) c.leaf_bucket.ensures ∙ shift-reaches a.size a.leaf a.level
