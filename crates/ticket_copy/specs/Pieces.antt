-- How much of a file is copied at a time, and what a turn leaves.
use Rattle.std.specs.Prelude.{◌≡◌, List, ℕ, ◌*◌, ◌≤◌, length, take}
use Rattle.state_spec.specs.Ticket.{ticket_length}
use Rattle.ticket_copy_spec.specs.Copy.{file_copy, changed_in}

abbrev pub most_tickets : ℕ
most_tickets = 4096

abbrev pub longest_piece : ℕ
longest_piece = most_tickets * ticket_length

-- So many bytes came to the first room, the second has their copy, and so many of their tickets were changed.
pub record Copies (came count : ℕ) (piece copy : List ℕ) : Type 0 where
  pub within : came ≤ longest_piece
  pub copied : take came copy ≡ file_copy (take came piece)
  pub counted : count ≡ changed_in (take came piece)
