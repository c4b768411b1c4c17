-- The rounds and the draws of a call, by the numbers that a state has.
use Rattle.std.specs.Prelude.{ℕ, ◌+◌, ◌*◌}
use Rattle.method_spec.specs.Rounds.{rounds, spare, draws}
use Rattle.state_spec.specs.Ticket.{structure_of}

-- F for the number of a structure and a size.
abbrev pub rounds_of : ℕ → ℕ → ℕ
rounds_of structure size = rounds (structure_of structure) size

-- The spare draws, and all draws.
abbrev pub spare_of : ℕ → ℕ
spare_of structure = spare (structure_of structure)

abbrev pub draws_of : ℕ → ℕ → ℕ
draws_of structure size = draws (structure_of structure) size

-- F is greatest for a map of the largest size.
abbrev pub most_rounds : ℕ
most_rounds = 33

-- The queue has two spare draws.
abbrev pub most_spare : ℕ
most_spare = 2

abbrev pub most_draws : ℕ
most_draws = 2 * most_rounds + most_spare
