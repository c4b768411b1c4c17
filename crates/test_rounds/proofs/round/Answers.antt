-- `test_rounds::round` meets its contract: one case of the round for each return.
use Rattle.std.proofs.Common.{◌≡◌, refl, ◌∙◌, ap, ℕ, Bool, Option, Some, None, is_some, rules}
use mir.Val.{bool_byte}
use Rattle.list_spec.specs.Choice.{pick}
use Rattle.path_reader.specs.Look.{wanted}
use Rattle.path_reader.specs.declared.Wish.{Wish}
use Rattle.test_rounds.specs.SingleLaws.{resting-fit, looked-joint, settled-as, round-damage, round-close}
use Rattle.test_rounds.proofs.round.Goals as goal

held_if : (wish : Option Wish) → bool_byte (is_some wish) ≡ pick {A = ℕ} (wanted wish) 1 0
held_if None = refl
held_if (Some w) = refl

pub look-requires : goal.look-requires
look-requires c = resting-fit c.requires.0 c.args.leaf c.requires.1

pub returns-in_default : goal.returns-in_default
returns-in_default c = round-damage c.requires.0 c.args.leaf c.args.wish c.in_default.ensures.0

pub settle-waiting-requires : goal.settle-waiting-requires
settle-waiting-requires c = (
  rw c.and-out.ensures (looked-joint c.requires.0 c.args.leaf c.requires.1 c.args.wish c.in-Ok.r c.in-Ok.ensures.0 (search rules)),
  c.in-Ok.ensures.1.gathered.starts,
)

pub returns : goal.returns
returns c =
    let wish = c.args.wish in
    let settled = settled-as wish c.in-Ok.r.at (rw c.and-out.ensures at c.settle-waiting.ensures) in
    let held : c.from.result ≡ pick {A = ℕ} (wanted wish) 1 0 = c.from.ensures ∙ ap bool_byte c.is_some.ensures ∙ held_if wish in
    rw c.and.ensures
    (round-close c.requires.0 c.args.leaf wish c.in-Ok.r c.in-Ok.ensures.0 settled c.from.result c.fault_at_close.result held c.fault_at_close.ensures c.settle-waiting.auto.tree)
