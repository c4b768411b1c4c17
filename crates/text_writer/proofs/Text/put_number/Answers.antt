-- A blank, then the number.
use Rattle.std.proofs.Common.{arith}
use Rattle.walk_laws.specs.LinesLaws.{number-starts, number-rest, number-one, put_then, put-length}
use Rattle.text_writer.proofs.Text.put_number.Goals as goal

pub put-requires : goal.put-requires
put-requires c = omega (arith, number-starts c.args.n c.args.self.now.end c.args.self.now.out.now c.requires)

pub put_decimal-requires : goal.put_decimal-requires
put_decimal-requires c =
    let p = c.put.ensures.put in
    omega (arith, p.ends, put-length p, number-rest c.args.n c.args.self.now.end c.args.self.now.out.now c.requires)

pub returns-clause-put : goal.returns-clause-put
returns-clause-put c = rw number-one (put_then c.put.ensures.put c.put_decimal.ensures.put)
