use mathlib.Core.Path.{refl}
use native.Mathlib.Omega.{arith}
use native.Mathlib.Numerals.{add-one}
use Rattle.method_spec.specs.Map.{put_step}
use Rattle.leaf_spec.specs.Convert.{to_link}
use Rattle.operations.specs.ResumeLaws.{handed-on}
use Rattle.map_operations.specs.BottomLaws.{put_is, put-new, put-gap-full, put-replaced, starts-missing, starts-gap, starts-hit, hit-low}
use Rattle.map_operations.proofs.put.Goals as goal

pub returns-in_err-d : goal.returns-in_err-d
returns-in_err-d c =
    let a = c.args in
    rw (put_is a.key a.value a.tag a.entries a.limit (to_link a.root))
    (handed-on _ _ c.from_residual.result c.from_residual.ensures
    (starts-missing (put_step 0 a.key a.value a.tag a.entries a.limit) c.in_err-d.field-0.0 c.in_err-d.ensures))

pub returns-then-entries-limit : goal.returns-then-entries-limit
returns-then-entries-limit c =
    let a = c.args in
    rw (put_is a.key a.value a.tag a.entries a.limit (to_link a.root))
    (starts-gap c.requires c.in_ok-d.ensures (put_step 0 a.key a.value a.tag a.entries a.limit) c.in-None.is c.added.ensures
    ((omega arith, omega arith), (tt, tt)) refl
    (rw (add-one a.entries) (put-new _ a.entries a.key a.value a.tag a.limit _ c.if-entries-limit.true)))

pub returns-else-entries-limit : goal.returns-else-entries-limit
returns-else-entries-limit c =
    let a = c.args in
    let down = c.in_ok-d.ensures in
    rw (put_is a.key a.value a.tag a.entries a.limit (to_link a.root))
    (starts-gap c.requires down (put_step 0 a.key a.value a.tag a.entries a.limit) c.in-None.is c.at_gap.ensures
    down.low refl (put-gap-full _ a.entries a.key a.value a.tag a.limit _ c.if-entries-limit.false))

pub returns-in-Some : goal.returns-in-Some
returns-in-Some c =
    let a = c.args in
    let down = c.in_ok-d.ensures in
    let e = c.in-Some.is in
    rw (put_is a.key a.value a.tag a.entries a.limit (to_link a.root))
    (starts-hit c.requires down (put_step 0 a.key a.value a.tag a.entries a.limit) e c.replaced.ensures
    (hit-low c.requires down e, (tt, tt)) refl
    (put-replaced _ a.entries a.key a.value a.tag a.limit _ _))
