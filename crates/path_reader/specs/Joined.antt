-- What joining the readings of slots comes to.
use Rattle.std.specs.Prelude.{◌≡◌, List, ℕ, ◌+◌, ◌≤◌, length, take, Result, Ok, Err}
use Rattle.std.proofs.Math.Option.{none, some}
use Rattle.slot_spec.specs.declared.Slot.{Slot}
use Rattle.round_spec.specs.Format.{Read}
use Rattle.round_spec.specs.Nodes.{words_format}
use Rattle.word_round_laws.specs.SlotRow.{Blank, Leaves, slots_in}
use Rattle.word_round_laws.specs.Stash.{join_readings}
use Rattle.path_reader.specs.declared.Damage.{Damage}

-- Readings of a tree of size k joined the first m slots of the row, which makes `count`, and the places past them are empty.
pub record AllJoined (k : ℕ) (held : List ℕ) (rs : List (Read Slot)) (m : ℕ) (before after : List ℕ) (count : ℕ) : Type 0 where
  pub within : count ≤ m + length rs
  pub joined : join_readings words_format held rs (take m (slots_in before)) ≡ some (take count (slots_in after))
  pub blank : Blank count after
  pub leaves : Leaves k (take m (slots_in before)) → Leaves k (take count (slots_in after))

-- Damage was found, and the row has the slots that it had.
pub record NoneJoined (held : List ℕ) (rs : List (Read Slot)) (m : ℕ) (before after : List ℕ) : Type 0 where
  pub refused : join_readings words_format held rs (take m (slots_in before)) ≡ none
  pub same : slots_in after ≡ slots_in before

abbrev pub ReadingsJoined : (k : ℕ) (held : List ℕ) (rs : List (Read Slot)) (m : ℕ) (before after : List ℕ) → Result ℕ Damage → Type 0
ReadingsJoined k held rs m before after (Ok count) = AllJoined k held rs m before after count
ReadingsJoined k held rs m before after (Err damage) = NoneJoined held rs m before after
