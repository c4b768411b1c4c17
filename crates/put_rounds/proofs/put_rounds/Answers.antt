-- `put_rounds::put_rounds` meets its contract: a key twice is damage that the first round finds, else they are idle rounds with nothing held.
use mathlib.Core.Path.{sym, ◌∙◌}
use Rattle.bucket_call_spec.specs.Call.{draw_of}
use Rattle.put_rounds.specs.PutLaws.{stepped-between, puts-twice}
use native.Mathlib.Omega.{arith}
use Rattle.put_rounds.proofs.put_rounds.Goals as goal

pub returns-then-not-ascends : goal.returns-then-not-ascends
returns-then-not-ascends c =
    let a = c.args in
    let ascends = c.ascends in
    puts-twice a.size a.n (draw_of a.size a.tape.now) a.rounds a.first a.w.now a.tree.now a.trace.now c.requires.0
    (sym ascends.ensures ∙ c.if-not-ascends.true) c.requires.1.0 c.draw_at.result c.draw_at.ensures.0

pub idle_rounds-requires : goal.idle_rounds-requires
idle_rounds-requires c =
    let ascends = c.ascends in
    (stepped-between c.requires.0 (sym ascends.ensures ∙ c.if-not-ascends.false), (omega (arith, c.requires.1), omega (arith, c.requires.1)))
