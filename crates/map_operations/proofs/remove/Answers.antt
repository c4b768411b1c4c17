use mathlib.Core.Path.{refl}
use Rattle.method_spec.specs.Map.{remove_step}
use Rattle.leaf_spec.specs.Convert.{to_link}
use Rattle.operations.specs.ResumeLaws.{handed-on}
use Rattle.map_operations.specs.BottomLaws.{remove-is, remove-gap, remove-left, remove-right, starts-missing, starts-gap, starts-hit, misses-past, starts-past, hit-low, hit-held}
use Rattle.map_operations.proofs.remove.Goals as goal

pub returns-in_err-d : goal.returns-in_err-d
returns-in_err-d c =
    let a = c.args in
    rw (remove-is a.key a.entries (to_link a.root))
    (handed-on _ _ c.from_residual.result c.from_residual.ensures (starts-missing (remove_step a.entries) c.in_err-d.field-0.0 c.in_err-d.ensures))

pub returns-in_default : goal.returns-in_default
returns-in_default c =
    let a = c.args in
    let down = c.in_ok-d.ensures in
    rw (remove-is a.key a.entries (to_link a.root))
    (starts-gap c.requires down (remove_step a.entries) c.in_default.is c.at_gap.ensures
    down.low refl (remove-gap _ a.entries _))

pub returns-then-n-eq0 : goal.returns-then-n-eq0
returns-then-n-eq0 c =
    let a = c.args in
    let down = c.in_ok-d.ensures in
    let e = c.in-Some.is in
    rw (remove-is a.key a.entries (to_link a.root))
    (starts-hit c.requires down (remove_step a.entries) e c.taken_out.ensures
    (hit-low c.requires down e).1 refl
    (rw c.one_less-fewer.ensures (remove-left _ a.entries _ _ c.if-n-eq0.true)))

pub returns-then-n-eq0-2 : goal.returns-then-n-eq0-2
returns-then-n-eq0-2 c =
    let a = c.args in
    let down = c.in_ok-d.ensures in
    let e = c.in-Some.is in
    rw (remove-is a.key a.entries (to_link a.root))
    (starts-hit c.requires down (remove_step a.entries) e c.taken_out-then-n-eq0-2.ensures
    (hit-low c.requires down e).0 refl
    (rw c.one_less-fewer.ensures (remove-right _ a.entries _ _ c.if-n-eq0.false c.if-n-eq0-2.true)))

pub returns-in_err-last : goal.returns-in_err-last
returns-in_err-last c =
    let a = c.args in
    let down = c.in_ok-d.ensures in
    let is = hit-held c.requires down c.in-Some.is in
    rw (remove-is a.key a.entries (to_link a.root))
    (handed-on _ _ c.from_residual-in_err-last.result c.from_residual-in_err-last.ensures
    (misses-past c.requires a.entries down c.in-Some.is (rw is at c.if-n-eq0.false) (rw is at c.if-n-eq0-2.false)
    c.in_err-last.field-0.0 c.in_err-last.ensures))

pub returns : goal.returns
returns c =
    let a = c.args in
    let down = c.in_ok-d.ensures in
    let is = hit-held c.requires down c.in-Some.is in
    rw (remove-is a.key a.entries (to_link a.root))
    (starts-past c.requires a.entries down c.in-Some.is (rw is at c.if-n-eq0.false) (rw is at c.if-n-eq0-2.false) c.in_ok-last.ensures
    (rw (c.one_less-fewer.ensures, is) at (c.past_found.ensures a.count)))
