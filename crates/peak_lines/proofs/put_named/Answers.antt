-- `peak_lines::put_named` meets its contract: the word is put, and then the number.
use Rattle.std.proofs.Common.{arith, [], ◌∷◌, length-append}
use Rattle.walk_spec.specs.Lines.{numbers}
use Rattle.walk_laws.specs.LinesLaws.{put-length, put_then}
use Rattle.peak_lines.proofs.put_named.Goals as goal

pub put_number-requires : goal.put_number-requires
put_number-requires c =
    let p = c.put.ensures.put in
    omega (arith, c.requires, p.ends, put-length p, length-append c.args.word.now (numbers (c.args.n ∷ [])))

pub returns-clause-put : goal.returns-clause-put
returns-clause-put c = put_then c.put.ensures.put c.put_number.ensures.put
