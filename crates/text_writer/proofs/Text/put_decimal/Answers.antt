-- The digits of the library are the decimal text.
use Rattle.std.proofs.Common.{rules}
use Rattle.walk_laws.specs.LinesLaws.{decimal-digits}
use Rattle.text_writer.proofs.Text.put_decimal.Goals as goal

pub put-requires : goal.put-requires
put-requires c =
    let d = decimal-digits c.args.n c.decimal-count.result c.decimal-count.ensures.len in
    rw (c.decimal-count.ensures.digits, d) (search rules)

pub returns-clause-put : goal.returns-clause-put
returns-clause-put c =
    let d = decimal-digits c.args.n c.decimal-count.result c.decimal-count.ensures.len in
    rw (← d, ← c.decimal-count.ensures.digits) c.put.ensures.put
