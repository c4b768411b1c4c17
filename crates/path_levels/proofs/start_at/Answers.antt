-- `path_levels::start_at` meets its contract: the path's buckets are in the tree.
use Rattle.word_round_laws.specs.PathLaws.{bucket-positive, bucket-small, bucket-inside}
use native.Mathlib.Omega.{arith}
use Rattle.path_levels.proofs.start_at.Goals as goal

pub bucket_start-requires : goal.bucket_start-requires
bucket_start-requires c =
    let a = c.args in
    let p = c.requires in
    let e = c.path_bucket.ensures in
    (rw e (bucket-positive a.size a.leaf a.level p.1 p.2), rw e (bucket-small a.size a.leaf a.level p.1 p.2 (omega (arith, p.0))))

pub returns : goal.returns
returns c =
    let a = c.args in
    let p = c.requires in
    let e = c.path_bucket.ensures in
    let s = c.bucket_start.ensures in
    let i = bucket-inside a.size a.leaf a.level p.1 p.2 in
    let m = bucket-small a.size a.leaf a.level p.1 p.2 (omega (arith, p.0)) in
    (rw (← e) s, rw (s, e) i, rw (s, e) (omega arith))
