-- `tree_paths::passes_bucket` meets its contract: the bucket is 0, beyond the leaves, or as far from the root as one of the path.
use mathlib.Core.Path.{sym, ◌∙◌}
use Prim.Native.Nat.{◌<◌}
use Rattle.slot_laws.proofs.PathNumberLaws.{depth-is, shift-reaches, passes_none, passes-beyond, passes-by-shift}
use borrow.Author.Tests.{lt-leb}
use native.Mathlib.Omega.{arith}
use Rattle.tree_paths.proofs.passes_bucket.Goals as goal

pub returns-then-bucket-eq0 : goal.returns-then-bucket-eq0
returns-then-bucket-eq0 c = let a = c.args in let e = c.if-bucket-eq0.true in rw e (sym (passes_none a.size a.tag))

pub returns-then-depth-size : goal.returns-then-depth-size
returns-then-depth-size c =
    let a = c.args in
    let some : 0 < a.bucket = omega (arith, c.if-bucket-eq0.false) in
    let d = depth-is a.size a.tag a.bucket c.requires.1 some c.ranges.bucket.fits c.ilog2-depth.result c.ilog2-depth.ensures.power_le c.ilog2-depth.ensures.next_power_gt in
    rw (c.path_bucket.ensures, d, ← shift-reaches a.size a.tag _)
    (sym (passes-by-shift a.size a.tag a.bucket c.requires.1 some c.ranges.bucket.fits (rw d at c.if-depth-size.true)))

pub returns-else-depth-size : goal.returns-else-depth-size
returns-else-depth-size c =
    let a = c.args in
    let some : 0 < a.bucket = omega (arith, c.if-bucket-eq0.false) in
    let d = depth-is a.size a.tag a.bucket c.requires.1 some c.ranges.bucket.fits c.ilog2-depth.result c.ilog2-depth.ensures.power_le c.ilog2-depth.ensures.next_power_gt in
    lt-leb _ _ c.if-depth-size.false ∙ sym (passes-beyond a.size a.tag a.bucket c.requires.1 some c.ranges.bucket.fits (omega (arith, d)))
