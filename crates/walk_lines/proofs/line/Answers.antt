-- `walk_lines::line` meets its contract: it is the line of the reply's word and number.
use Rattle.std.proofs.Common.{◌≡◌, arith, ap, length, take}
use lib.ListN.{length-take}
use Rattle.std.proofs.lemmas.List.{take_min}
use Rattle.walk_spec.specs.Lines.{line_of}
use Rattle.walk_laws.specs.LinesLaws.{line_with, line-is, word-length}
use Rattle.walk_lines.proofs.line.Goals as goal

pub put_line-requires : goal.put_line-requires
put_line-requires g c =
    let r = c.requires in (
      omega (arith, ap length c.reply_word.ensures, word-length (g.C.Cause.told c.args.reply)),
      (rw length-take (omega (arith, r.0)), r.1),
    )

pub returns-clause-value : goal.returns-clause-value
returns-clause-value g c =
    let a = c.args in
    let reply = g.C.Cause.told a.reply in
    let first : take c.min.result a.trace.now ≡ take a.n a.trace.now = rw c.min.ensures (take_min a.n a.trace.now) in
    let same : line_with c.reply_word.result.now c.reply_shown.result (take c.min.result a.trace.now) ≡ line_of reply (take a.n a.trace.now) =
    rw (c.reply_word.ensures, c.reply_shown.ensures, first) (line-is reply (take a.n a.trace.now)) in
    rw same at c.put_line.ensures.value
