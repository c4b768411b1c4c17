use mathlib.Core.Path.{◌≡◌, sym, ◌∙◌, ap, subst}
use native.Mathlib.Omega.{arith}
use Prim.Native.Nat.{ℕ}
use Rattle.method_spec.specs.Prog.{Want}
use Rattle.method_spec.specs.Map.{Step}
use Rattle.operation_spec.specs.Method.{to_want}
use Rattle.node_rows.specs.Heights.{Low}
use Rattle.node_rows.specs.Held.{held_in}
use Rattle.map_descent.specs.Walk.{want_at}
use Rattle.map_descent.specs.WalkLaws.{want-first}
use Rattle.map_descent.specs.PathTo.{ways_to, step_to}
use Rattle.map_descent.specs.PathLaws.{low_step, step_is, want_is}
use Rattle.map_descent.proofs.path_steps.step_to.Goals as goal

pub loop-j-init : goal.loop-j-init
loop-j-init c = sym (want-first _ _ _)

pub loop-j-preserved : goal.loop-j-preserved
loop-j-preserved c =
    let a = c.args in
    want_is a.key (held_in a.held.now a.count) (to_want c.start-want.result) a.found c.loop-j.j c.loop-j.invariant
    c.node_at-n.ensures c.goes_left.ensures c.step_at.ensures c.below-want.ensures

pub returns : goal.returns
returns c =
    let a = c.args in
    let h = held_in a.held.now a.count in
    let w = to_want c.start-want.result in
    let ended : c.loop-j.j ≡ a.i = omega arith in
    let now = subst (λ (j : ℕ). to_want c.loop-j.want ≡ want_at h w (ways_to a.key h w a.found) j) ended c.loop-j.invariant in
    let is =
    step_is a.key h w a.found a.i now c.node_at-n-2.ensures
    c.goes_left-2.ensures c.step_at-2.ensures a.last c.node_at-y.ensures c.exchanged.ensures
    ∙ ap (λ (v : Want ℕ). step_to a.key h v a.found a.last a.i) c.start-want.ensures in
    (is, subst (λ (x : Step ℕ). Low 100 x.node) (sym is) (low_step a.key h _ a.found a.last c.requires.0.held c.requires.2 a.i c.requires.1))
