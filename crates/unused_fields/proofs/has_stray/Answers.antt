-- `unused_fields::has_stray` meets its contract: the key tells, and where it is in order the value.
use mathlib.Core.Path.{◌∙◌, ap}
use Rattle.state_spec.specs.Ticket.{stray}
use Rattle.unused_fields.specs.FieldLaws.{key-tells, value_tells}
use Rattle.unused_fields.proofs.has_stray.Goals as goal

pub returns-then-is_stray : goal.returns-then-is_stray
returns-then-is_stray c =
    let u = c.uses-used in
    let told = c.is_stray.ensures ∙ ap (stray u.result.key) (c.from-key.ensures ∙ c.key_in.ensures) in
    key-tells c.args.ticket.now u.result u.ensures c.requires c.is_stray.result told c.if-is_stray.true

pub returns-else-is_stray : goal.returns-else-is_stray
returns-else-is_stray c =
    let u = c.uses-used in
    let v = c.is_stray-else-is_stray in
    let told = c.is_stray.ensures ∙ ap (stray u.result.key) (c.from-key.ensures ∙ c.key_in.ensures) in
    value_tells c.args.ticket.now u.result u.ensures c.requires c.is_stray.result v.result told c.if-is_stray.false
    (v.ensures ∙ ap (stray u.result.value) c.value_in-value.ensures)
