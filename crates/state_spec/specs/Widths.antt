-- A state as a machine holds it: each number within its type's width.
use Rattle.std.specs.Prelude.{◌^◌, ◌<◌}
use Rattle.list_spec.specs.Distinct.{All}
use Rattle.slot_spec.specs.Slot.{Ranged}
use Rattle.slot_spec.specs.declared.Link.{Link}
use Rattle.state_spec.specs.declared.Place.{Place}
use Rattle.state_spec.specs.declared.State.{State}
use Rattle.state_spec.specs.Fit.{used}

abbrev pub LinkWidths : Link → Type 0
LinkWidths l = (l.height < 256) × ((l.key < 2 ^ 32) × (l.tag < 2 ^ 16))

pub record Widths (s : State) : Type 0 where
  pub entries : s.entries < 2 ^ 16
  pub root : LinkWidths s.root
  pub ahead : (s.ahead.key < 2 ^ 32) × (s.ahead.tag < 2 ^ 16)
  pub nodes : All (λ (p : Place). Ranged p.node) (used s)
