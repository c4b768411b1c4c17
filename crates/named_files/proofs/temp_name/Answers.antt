-- There is room for both texts, and they lie within the buffer.
use Rattle.std.proofs.Common.{ap, sym, ℕ, List, ◌≤◌, length, length-take-le, arith}
use Rattle.io.specs.Counts.{IsPrefixLen}
use Rattle.walk_laws.specs.LinesLaws.{put-length}
use Rattle.named_files.proofs.temp_name.Goals as goal

pub put-requires-2 : goal.put-requires-2
put-requires-2 c =
    let s = c.new-text.ensures.fresh in
    let p = c.put.ensures.put in
    omega (arith, c.requires, s.1, ap length s.0, p.ends, put-length p)

counts : (n : ℕ) (xs : List ℕ) → n ≤ length xs → IsPrefixLen n xs
counts n xs h = (h, sym (length-take-le n xs h))

pub returns : goal.returns
returns c =
    let s = c.new-text.ensures.fresh in
    let p = c.put.ensures.put in
    let q = c.put-2.ensures.put in
    counts _ _ (omega (arith, c.requires, s.1, ap length s.0, p.ends, put-length p, q.ends, put-length q))
