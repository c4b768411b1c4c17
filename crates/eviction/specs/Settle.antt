-- What the write half of a round needs and promises, on words.
use Rattle.std.specs.Prelude.{◌≡◌, Bool, true, List, ℕ, ◌^◌, ◌≤◌, ◌<◌, length, take}
use Rattle.slot_spec.specs.Tree.{tree_length}
use Rattle.slot_spec.specs.declared.Slot.{Slot}
use Rattle.round_spec.specs.Round.{write_half}
use Rattle.round_spec.specs.Nodes.{words_format}
use Rattle.word_round_laws.specs.SlotRow.{places, row_length, slots_in, Blank, levels, Leaves}
use Rattle.word_round_laws.specs.Stash.{removed}

-- The path of a leaf was filled by some slots, at most m, and those that are left are the first r of the row, whose other places are empty.
pub record PathFilled (k leaf : ℕ) (ws : List Slot) (m : ℕ) (tree after tree' : List ℕ) (r : ℕ) : Type 0 where
  pub sized : length after ≡ row_length
  pub fewer : r ≤ m
  pub blank : Blank r after
  pub half : write_half words_format k leaf ws tree ≡ record { waiting = take r (slots_in after); tree = tree' }

-- The tree is one of that size, the leaf is in it, the first m slots of the row are the joined ones and its other places are empty, a wanted
-- one is among them, and every tag is a leaf.
pub record Joint (k leaf m : ℕ) (want : Bool) (at : ℕ) (row tree : List ℕ) : Type 0 where
  pub size : k < levels
  pub is_leaf : leaf < 2 ^ k
  pub tree-sized : length tree ≡ tree_length k
  pub sized : length row ≡ row_length
  pub blank : Blank m row
  pub room : m ≤ places
  pub inside : want ≡ true → at < m
  pub leaves : Leaves k (take m (slots_in row))

-- The tree and the slots that wait are the write half's, and no other place of the row has one.
pub record Settled (k leaf m : ℕ) (want : Bool) (at : ℕ) (row tree row' tree' : List ℕ) (r : ℕ) : Type 0 where
  pub sized : length row' ≡ row_length
  pub fewer : r ≤ m
  pub blank : Blank r row'
  pub half : write_half words_format k leaf (removed want at (take m (slots_in row))) tree ≡ record { waiting = take r (slots_in row'); tree = tree' }
  pub counted : r ≡ length (write_half words_format k leaf (removed want at (take m (slots_in row))) tree).waiting
