use mathlib.Core.Path.{refl}
use Rattle.method_spec.specs.Prog.{done}
use Rattle.method_spec.specs.Map.{get_step}
use Rattle.leaf_spec.specs.Convert.{to_link}
use Rattle.operations.specs.ResumeLaws.{handed-on}
use Rattle.map_operations.specs.BottomLaws.{get-is, get-gap, get-hit, starts-missing, starts-gap, starts-hit, hit-low}
use Rattle.map_operations.proofs.get.Goals as goal

pub returns-in_err-d : goal.returns-in_err-d
returns-in_err-d c =
    let a = c.args in
    rw (get-is a.key a.entries (to_link a.root))
    (handed-on _ _ c.from_residual.result c.from_residual.ensures (starts-missing (λ x. done (get_step a.entries x)) c.in_err-d.field-0.0 c.in_err-d.ensures))

pub returns-in-None : goal.returns-in-None
returns-in-None c =
    let a = c.args in
    let down = c.in_ok-d.ensures in
    rw (get-is a.key a.entries (to_link a.root))
    (starts-gap c.requires down (λ x. done (get_step a.entries x)) c.in-None.is c.at_gap.ensures
    down.low refl (get-gap _ a.entries _))

pub returns-in-Some : goal.returns-in-Some
returns-in-Some c =
    let a = c.args in
    let down = c.in_ok-d.ensures in
    let e = c.in-Some.is in
    rw (get-is a.key a.entries (to_link a.root))
    (starts-hit c.requires down (λ x. done (get_step a.entries x)) e c.at_node.ensures
    (hit-low c.requires down e, (tt, tt)) refl (get-hit _ a.entries _ _))
