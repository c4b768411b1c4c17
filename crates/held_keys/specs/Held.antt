-- How many nodes a call holds at most.
use Rattle.std.specs.Prelude.{ℕ}

-- As many as the most fetch rounds.
abbrev pub most_held : ℕ
most_held = 33
