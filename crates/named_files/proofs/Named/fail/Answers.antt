-- There is room for the three texts.
use Rattle.std.proofs.Common.{ap, length, arith}
use Rattle.walk_laws.specs.LinesLaws.{put-length}
use Rattle.named_files.proofs.Named.fail.Goals as goal

pub put-requires-2 : goal.put-requires-2
put-requires-2 c =
    let s = c.new-text.ensures.fresh in
    let p = c.put.ensures.put in
    omega (arith, c.args.self.short, c.requires, s.1, ap length s.0, p.ends, put-length p)

pub put-requires-3 : goal.put-requires-3
put-requires-3 c =
    let s = c.new-text.ensures.fresh in
    let p = c.put.ensures.put in
    let q = c.put-2.ensures.put in
    omega (arith, c.args.self.short, c.requires, s.1, ap length s.0, p.ends, put-length p, q.ends, put-length q)
