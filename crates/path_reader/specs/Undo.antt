-- What taking a path's slots out again needs and promises.
use Rattle.std.specs.Prelude.{◌≡◌, List, map, ℕ, ◌-◌, ◌≤◌, length, take}
use Rattle.std.proofs.Math.Option.{some}
use Rattle.list_spec.specs.Distinct.{All}
use Rattle.slot_spec.specs.declared.Slot.{Slot}
use Rattle.round_spec.specs.Nodes.{words_format}
use Rattle.word_round_laws.specs.SlotRow.{places, slots_in, Blank}
use Rattle.word_round_laws.specs.Stash.{join_readings}
use Rattle.word_round_laws.specs.Gather.{read_from}
use Rattle.word_round_laws.specs.UndoLaws.{FullAt}

-- The slots that start at some bytes, none of them an empty one, joined some waiting ones: the first m of the row are those then.
pub record PathJoined (k : ℕ) (held : List ℕ) (waiting : List Slot) (tree starts : List ℕ) (m : ℕ) (row : List ℕ) : Type 0 where
  pub fits : m ≤ places
  pub full : All (FullAt tree) starts
  pub slots : join_readings words_format held (map (read_from k tree) starts) waiting ≡ some (take m (slots_in row))

-- They did, for some size, held keys and waiting slots.
pub record WereJoined (tree starts : List ℕ) (m : ℕ) (row : List ℕ) : Type 0 where
  pub size : ℕ
  pub held : List ℕ
  pub waiting : List Slot
  pub were : PathJoined size held waiting tree starts m row

-- They were taken out again: the slots that they had joined are left, and the places past those are empty if the places past the joined ones were.
pub record Undone (tree starts : List ℕ) (m : ℕ) (before after : List ℕ) : Type 0 where
  pub left : (k : ℕ) (held : List ℕ) (waiting : List Slot)
      → join_readings words_format held (map (read_from k tree) starts) waiting ≡ some (take m (slots_in before))
      → take (m - length starts) (slots_in after) ≡ waiting
  pub blank : Blank m before → Blank (m - length starts) after
