-- The checks 1 and 2 of a byte state, but for its slots.
use Rattle.std.specs.Prelude.{ℕ, not, ◌&&◌, eqb}
use Rattle.list_spec.specs.Choice.{pick}
use Rattle.state_spec.specs.Fit.{head_fits}
use Rattle.lent_bytes_spec.specs.declared.StateHead.{StateHead}
use Rattle.lent_bytes_spec.specs.StateBytes.{root_in, ahead_in, key_fits}
use Rattle.fitness.specs.declared.Head.{Head}

-- The number with which the head is refused: 1 closed, 2 unfit, 0 neither.
unfoldable pub bytes_refusal : StateHead → ℕ
bytes_refusal h =
    pick (not (eqb h.mark 0)) 1
    (pick (not (key_fits h && head_fits h.structure h.size h.entries h.waiting (root_in h) (ahead_in h))) 2 0)

-- The head as the core takes it.
abbrev pub core_head : StateHead → Head
core_head h = record { structure = h.structure; size = h.size; entries = h.entries; root = root_in h; ahead = ahead_in h; waiting = h.waiting }
