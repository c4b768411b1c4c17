-- `one_round::idle_round` meets its contract: one case of the round for each return.
use Rattle.std.proofs.Common.{◌≡◌, sym, subst, List, ℕ, None, Some, arith, rules}
use Rattle.std.proofs.Math.Bool.{false}
use Rattle.round_close.specs.declared.Fault.TheVariants.{Damage}
use Rattle.one_round.specs.OneRound.{Idled}
use Rattle.one_round.specs.ReadyLaws.{ready-fit}
use Rattle.one_round.specs.CloseLaws.{looked-joint}
use Rattle.one_round.specs.IdleLaws.{idle-damage, idle-goes}
use Rattle.one_round.proofs.idle_round.Goals as goal

pub look-requires : goal.look-requires
look-requires c = ready-fit c.requires

pub returns-in_default : goal.returns-in_default
returns-in_default c =
    let a = c.args in
    let refused = c.in_default.ensures.0 in
    subst (λ (row : List ℕ). Idled a.size a.leaf a.n a.w.now a.tree.now a.held.now row a.tree.now (record { fault = Some Damage; waiting = a.n; count = 0 }))
    (sym refused.same) (idle-damage c.requires refused)

pub settle-waiting-requires : goal.settle-waiting-requires
settle-waiting-requires c =
    let granted = c.in-Ok.ensures in (
      looked-joint c.requires None c.in-Ok.r granted.0 (search rules) false 0 (λ e. let z : ◌≡◌ {A = ℕ} 0 1 = cc in absurd (omega arith)),
      granted.1.gathered.starts,
    )

pub returns : goal.returns
returns c =
    idle-goes c.requires c.in-Ok.r c.in-Ok.ensures.0 c.close_of-count.result c.settle-waiting.ensures c.close_of-count.ensures
