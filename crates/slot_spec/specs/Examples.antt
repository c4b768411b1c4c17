-- Document 01's worked cases of the tree and the slot.
use Rattle.std.specs.Prelude.{◌≡◌, refl, ℕ, [], ◌∷◌, ◌++◌, replicate}
use Rattle.slot_spec.specs.LittleEndian.{value, bytes}
use Rattle.slot_spec.specs.Layout.{fields, pack}
use Rattle.slot_spec.specs.Tree.{halvings, path, among, bucket_start, tree_length}
use Rattle.slot_spec.specs.Slot.{fields_in, fields_of, node_of, encode, all_zero, bad, read_slot}
use Rattle.slot_spec.specs.declared.Node.{Node}
use Rattle.slot_spec.specs.declared.Reading.TheVariants.{Full, Bad}

-- Size 2, leaf 2: buckets 6, 3, 1.
pub path-of-leaf : path 2 2 ≡ 6 ∷ 3 ∷ 1 ∷ []
unfolding halvings
path-of-leaf = refl

-- Bucket 3 starts at byte 256; a tree of size 2 has 896 bytes.
pub third-bucket : bucket_start 3 ≡ 256
third-bucket = refl

pub size-two : tree_length 2 ≡ 896
size-two = refl

-- The node of the worked push: key 1, value 50, under a tag.
abbrev pushed : ℕ → Node
pushed t =
    record {
      key = 1;
      value = 50;
      tag = t;
      left = record { height = 0; key = 0; tag = 0 };
      right = record { height = 0; key = 0; tag = 0 };
    }

pub pushed-bytes : encode (pushed 2) ≡ 1 ∷ 0 ∷ 0 ∷ 0 ∷ 1 ∷ 0 ∷ 0 ∷ 0 ∷ replicate 8 0 ++ 2 ∷ replicate 7 0 ++ 50 ∷ replicate 7 0
unfolding encode fields_of pack bytes
pushed-bytes = refl

pub pushed-reads : read_slot 2 6 (encode (pushed 2)) ≡ Full (pushed 2)
unfolding encode fields_of pack bytes read_slot bad fields_in node_of fields value all_zero halvings among
pushed-reads = refl

-- Size 2: tag 3 is fine, tag 4 is a bad slot.
pub tag-three : read_slot 2 1 (encode (pushed 3)) ≡ Full (pushed 3)
unfolding encode fields_of pack bytes read_slot bad fields_in node_of fields value all_zero halvings among
tag-three = refl

pub tag-four : read_slot 2 1 (encode (pushed 4)) ≡ Bad
unfolding encode fields_of pack bytes read_slot bad fields_in node_of fields value all_zero halvings among
tag-four = refl

-- A bucket off the tag's path, and an absent link with a key.
pub off-path : read_slot 2 7 (encode (pushed 2)) ≡ Bad
unfolding encode fields_of pack bytes read_slot bad fields_in node_of fields value all_zero halvings among
off-path = refl

pub absent-with-key : read_slot 2 1 (1 ∷ 0 ∷ 0 ∷ 0 ∷ replicate 4 0 ++ 9 ∷ replicate 23 0) ≡ Bad
unfolding read_slot bad fields_in node_of fields value all_zero halvings among
absent-with-key = refl
