-- The checks 1 and 2 of a call, but for the places of the state.
use Rattle.std.specs.Prelude.{ℕ, not, eqb}
use Rattle.list_spec.specs.Choice.{pick}
use Rattle.slot_spec.specs.declared.Link.{Link}
use Rattle.slot_spec.specs.declared.Ahead.{Ahead}
use Rattle.state_spec.specs.Fit.{head_fits}

-- The number with which the head of a state is refused: 1 closed, 2 unfit, 0 neither.
unfoldable pub head_refusal : (mark structure size entries count : ℕ) → Link → Ahead → ℕ
head_refusal mark structure size entries count root ahead =
    pick (not (eqb mark 0)) 1 (pick (not (head_fits structure size entries count root ahead)) 2 0)
