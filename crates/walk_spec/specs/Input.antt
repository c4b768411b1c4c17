-- What the walk program reads: "a structure byte, a size byte, then for each call a ticket and its 2F + 1 tape numbers", four for the
-- queue.
use Rattle.std.specs.Prelude.{ℕ, ◌+◌, ◌*◌, List, eqb, ltb, take, drop, ⊤, Result, Ok, Err}
use Rattle.list_spec.specs.Choice.{pick}
use Rattle.slot_spec.specs.Tree.{tree_length}
use Rattle.state_spec.specs.Fit.{largest_size}
use Rattle.state_spec.specs.Ticket.{ticket_length}
use Rattle.state_spec.specs.Fetching.{draws_of, most_draws}
use Rattle.lent_bytes_spec.specs.Numbers.{number_length, numbers_in}
use Rattle.walk_spec.specs.declared.Stop.{Stop}
use Rattle.walk_spec.specs.declared.Stop.TheVariants.{End, Short}

-- The bytes of one call.
abbrev pub record_length : ℕ → ℕ → ℕ
record_length structure size = ticket_length + number_length * draws_of structure size

abbrev pub longest_record : ℕ
longest_record = ticket_length + number_length * most_draws

abbrev pub ticket_in : List ℕ → List ℕ
ticket_in bs = take ticket_length bs

-- The tape numbers of a call follow its ticket.
abbrev pub tape_in : ℕ → List ℕ → List ℕ
tape_in n bs = numbers_in n (drop ticket_length bs)

-- How a part of the input with so many bytes came: whole, or the input ended before it or within it.
unfoldable pub arrived_of : ℕ → ℕ → Result ⊤ Stop
arrived_of got wanted = pick (ltb got wanted) (pick (eqb got 0) (Err End) (Err Short)) (Ok tt)

abbrev pub largest_tree : ℕ
largest_tree = tree_length largest_size
