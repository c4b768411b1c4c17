-- The slots of a byte state by the places that they are read as.
use Rattle.std.specs.Prelude.{ℕ, Option, Some, None, ◌+◌, ◌*◌, List, take, drop}
use Rattle.list_spec.specs.Choice.{pick}
use Rattle.slot_spec.specs.Tree.{slot_length}
use Rattle.state_spec.specs.Fit.{places}
use Rattle.state_spec.specs.declared.Place.{Place}
use Rattle.state_spec.specs.declared.State.{State}
use Rattle.lent_bytes_spec.specs.declared.StateHead.{StateHead}
use Rattle.lent_bytes_spec.specs.StateBytes.{places_in, state_with}
use Rattle.stash.specs.Stash.{good_from}

-- The bytes of slot i, and the state of a head and slots.
abbrev pub slot_at : List ℕ → ℕ → List ℕ
slot_at slots i = take slot_length (drop (slot_length * i) slots)

abbrev pub state_of : StateHead → List ℕ → State
state_of h slots = state_with h (places_in places slots)

-- The least key that may follow a used place which fits, with a key of at least `least`.
abbrev pub least_after : (size least : ℕ) → Place → Option ℕ
least_after size least p = pick (good_from size least p) (Some (p.node.key + 1)) None
