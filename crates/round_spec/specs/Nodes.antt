-- The format of the store's nodes, and that of the words which hold them during a call.
use Rattle.slot_spec.specs.Slot.{encode, read_slot, slot_bytes, slot_of, fields_in}
use Rattle.slot_spec.specs.declared.Node.{Node}
use Rattle.slot_spec.specs.declared.Slot.{Slot}
use Rattle.slot_spec.specs.declared.Reading.{Reading}
use Rattle.slot_spec.specs.declared.Reading.TheVariants.{Full, Empty, Bad}
use Rattle.round_spec.specs.Format.{Format, Read, full, empty, bad}

unfoldable pub reading_of : Reading → Read Node
reading_of (Full n) = full n
reading_of Empty = empty
reading_of Bad = bad

abbrev pub node_format : Format Node
node_format =
    record {
      key = λ n. n.key;
      tag = λ n. n.tag;
      bytes = encode;
      read = λ k b bs. reading_of (read_slot k b bs);
    }

-- The words of a node that was read.
unfoldable pub words_of : Read Node → Read Slot
words_of (full n) = full (slot_of n)
words_of empty = empty
words_of bad = bad

unfoldable pub words_format : Format Slot
words_format =
    record {
      key = λ x. (fields_in (slot_bytes x)).key;
      tag = λ x. (fields_in (slot_bytes x)).tag;
      bytes = slot_bytes;
      read = λ k b bs. words_of (reading_of (read_slot k b bs));
    }
