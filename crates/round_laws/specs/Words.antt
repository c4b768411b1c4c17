-- A round over the words that hold the nodes during a call is the round over the nodes: the same tree, and the words of the nodes that
-- wait and of the one that was taken.
use Rattle.std.specs.Prelude.{◌≡◌, refl, List, map, ℕ, ◌^◌, ◌<◌}
use Rattle.std.proofs.Common.{◌∙◌, ap}
use Rattle.std.proofs.Math.Option
use Rattle.std.proofs.Math.Option.{Option}
use Rattle.list_spec.specs.Distinct.{All}
use Rattle.slot_spec.specs.Slot.{Fields, fields_in, fields_of, read_slot, slot_bytes, slot_of, Ranged}
use Rattle.slot_laws.specs.SlotLaws.{fields-encoded, slot-encoded}
use Rattle.slot_spec.specs.declared.Node.{Node}
use Rattle.round_spec.specs.Format.{Read, full, empty, bad}
use Rattle.round_spec.specs.Round.{Wish, read_half, write_half}
use Rattle.round_spec.specs.Nodes.{node_format, reading_of, words_of, words_format}
use Rattle.round_spec.specs.Whole.{IsTree}
use Rattle.round_laws.specs.NodeLaws.{reading-full, read-ranged}
use Rattle.round_laws.specs.Same.{map_read, map_hand, map_written, Carries, read-half-carried, write-half-carried}

words-mapped : (r : Read Node) → words_of r ≡ map_read slot_of r
unfolding words_of
words-mapped (full n) = refl
words-mapped empty = refl
words-mapped bad = refl

slot-fields-in : (n : Node) → Ranged n → fields_in (slot_bytes (slot_of n)) ≡ fields_of n
slot-fields-in n r = ap fields_in (slot-encoded n r) ∙ fields-encoded n r

pub words-carried : Carries node_format words_format slot_of Ranged
unfolding words_format fields_of
words-carried =
    record {
      key = λ n r. ap (λ (f : Fields). f.key) (slot-fields-in n r);
      tag = λ n r. ap (λ (f : Fields). f.tag) (slot-fields-in n r);
      bytes = λ n r. slot-encoded n r;
      read = λ k b bs. words-mapped (reading_of (read_slot k b bs));
      reads = λ k b bs n h l e. read-ranged k b bs n h l (reading-full (read_slot k b bs) n e);
    }

pub words-read : (k : ℕ) (tree : List ℕ) → IsTree k tree → (t : ℕ) → t < 2 ^ k → (w : Option Wish) (held : List ℕ) (waiting : List Node) → All Ranged waiting
    → read_half words_format k tree t w held (map slot_of waiting) ≡ Option.map (map_hand slot_of) (read_half node_format k tree t w held waiting)
words-read = read-half-carried node_format words_format slot_of words-carried

pub words-write : (k t : ℕ) (ws : List Node) (tree : List ℕ) → All Ranged ws
    → write_half words_format k t (map slot_of ws) tree ≡ map_written slot_of (write_half node_format k t ws tree)
words-write = write-half-carried node_format words_format slot_of words-carried
