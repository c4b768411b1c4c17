-- Document 01's worked push, as rounds: size 2, tape 1 2 3. The fetch round wants none and is of leaf 1; then the new node waits,
-- with tag 2; the put round is of leaf 3. The node is then at byte 256, in bucket 3, and none waits.
use Rattle.std.specs.Prelude.{◌≡◌, refl, ℕ, List, [], ◌∷◌, ◌++◌, replicate}
use Rattle.std.proofs.Math.Option.{some}
use Rattle.slot_spec.specs.LittleEndian.{value, bytes}
use Rattle.slot_spec.specs.Layout.{fields, pack}
use Rattle.slot_spec.specs.Tree.{halvings, among}
use Rattle.slot_spec.specs.Slot.{fields_in, fields_of, node_of, encode, all_zero, bad, read_slot, filled}
use Rattle.slot_spec.specs.declared.Node.{Node}
use Rattle.round_spec.specs.Round.{Written, with_bucket, none_twice, all_good, read_bucket, read_buckets, insert, join, take_first, tagged, granted, joined, granted_from, read_half, choose, evict, write_half}
use Rattle.round_spec.specs.Nodes.{node_format, reading_of}

abbrev pushed : Node
pushed =
    record {
      key = 1;
      value = 50;
      tag = 2;
      left = record { height = 0; key = 0; tag = 0 };
      right = record { height = 0; key = 0; tag = 0 };
    }

abbrev fresh : List ℕ
fresh = replicate 896 0

abbrev after : Written Node
after = write_half node_format 2 3 (pushed ∷ []) fresh

pub none-waits : after.waiting ≡ []
unfolding with_bucket choose evict halvings among filled encode fields_of pack bytes
none-waits = refl

pub at-256 : after.tree ≡ replicate 256 0 ++ (encode pushed ++ replicate 608 0)
unfolding with_bucket choose evict halvings among filled encode fields_of pack bytes
at-256 = refl

-- The pop's fetch round finds it on the path of leaf 2.
pub found : read_half node_format 2 after.tree 2 (some (record { key = 1; tag = 2 })) [] [] ≡ some (record { taken = some pushed; waiting = [] })
unfolding with_bucket choose evict halvings among filled encode fields_of pack bytes none_twice all_good read_bucket read_buckets insert join take_first tagged granted joined granted_from read_half reading_of read_slot bad fields_in node_of fields value all_zero
found = refl
