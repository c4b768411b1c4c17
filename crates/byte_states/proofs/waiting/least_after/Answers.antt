-- `byte_states::waiting::least_after` meets its contract, test by test.
use mathlib.Core.Path.{sym, ◌∙◌}
use Rattle.byte_states.specs.PlacesFit.{slot_at}
use Rattle.byte_states.specs.PlacesFitLaws.{after_none, after-low, after-key}
use borrow.Author.Rules.{rules}
use Rattle.byte_states.proofs.waiting.least_after.Goals as goal

pub returns-in_default : goal.returns-in_default
returns-in_default c =
    let a = c.args in
    let l = c.load-x in
    after_none a.size a.least (slot_at a.slots.now a.i) l.result l.ensures
    (λ n f. c.in_default.not-Full n (c.reading.ensures ∙ f))

pub returns-then-key-least : goal.returns-then-key-least
returns-then-key-least c =
    let a = c.args in
    let l = c.load-x in
    after-low a.size a.least (slot_at a.slots.now a.i) l.result l.ensures c.in-Full.n
    (sym c.reading.ensures ∙ c.in-Full.is) (rw c.from-key.ensures at c.if-key-least.true)

pub returns : goal.returns
returns c =
    let a = c.args in
    let l = c.load-x in
    rw c.from-key.ensures
    (after-key a.size a.least (slot_at a.slots.now a.i) l.result l.ensures c.in-Full.n
    (sym c.reading.ensures ∙ c.in-Full.is) (rw c.from-key.ensures at c.if-key-least.false))
