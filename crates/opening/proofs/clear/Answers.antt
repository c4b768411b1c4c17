-- `opening::clear` meets its contract. The invariant: the first buckets are zero, the others as they were.
use Rattle.std.proofs.Common.{◌≡◌, ◌∙◌, ap, ◌+◌, ◌-◌, ◌*◌, ◌++◌, ℕ, drop, replicate, arith, rules}
use Rattle.slot_spec.specs.Tree.{bucket_length}
use Rattle.state_laws.specs.OpeningLaws.{cleared_more}
use Rattle.opening.proofs.clear.Goals as goal

pub loop-bucket-preserved : goal.loop-bucket-preserved
loop-bucket-preserved c =
    let l = c.loop-bucket in
    let t = c.args.tree.now in
    let w = c.write_bucket in
    let a = bucket_length * l.bucket in
    let n : a + bucket_length - a ≡ bucket_length = omega arith in
    let next : a + bucket_length ≡ bucket_length * (l.bucket + 1) = omega arith in
    let more = cleared_more t l.tree w.new.part a (a + bucket_length - a) n l.invariant.1 w.ensures in
    (search rules, more ∙ ap (λ (k : ℕ). replicate k 0 ++ drop k t) next)
