-- A slot's 32 bytes: their fields, when they are bad, what they are read as, and the bytes of a node.
use Rattle.std.specs.Prelude.{ℕ, zero, suc, ◌+◌, ◌*◌, ◌^◌, Bool, true, not, ◌&&◌, ◌||◌, List, [], ◌∷◌, ◌++◌, eqb, leb, get_or, replicate}
use Rattle.list_spec.specs.Choice.{pick}
use Rattle.slot_spec.specs.LittleEndian.{bytes}
use Rattle.slot_spec.specs.Layout.{fields, pack, Fit}
use Rattle.slot_spec.specs.Tree.{passes, slot_length}
use Rattle.slot_spec.specs.declared.Link.{Link}
use Rattle.slot_spec.specs.declared.Node.{Node}
use Rattle.slot_spec.specs.declared.Slot.{Slot}
use Rattle.slot_spec.specs.declared.Reading.{Reading}
use Rattle.slot_spec.specs.declared.Reading.TheVariants.{Full, Empty, Bad}

-- No link, and a node that is all zero: what an unused place holds.
abbrev pub no_link : Link
no_link = record { height = 0; key = 0; tag = 0 }

abbrev pub no_node : Node
no_node = record { key = 0; value = 0; tag = 0; left = no_link; right = no_link }

-- The fields of a slot, in the order of the bytes, and their widths: this is the layout's one place.
pub record Fields : Type 0 where
  pub flag : ℕ
  pub left_height : ℕ
  pub right_height : ℕ
  pub zero1 : ℕ
  pub key : ℕ
  pub left_key : ℕ
  pub right_key : ℕ
  pub tag : ℕ
  pub left_tag : ℕ
  pub right_tag : ℕ
  pub zero2 : ℕ
  pub value : ℕ

abbrev pub widths : List ℕ
widths = 1 ∷ 1 ∷ 1 ∷ 1 ∷ 4 ∷ 4 ∷ 4 ∷ 2 ∷ 2 ∷ 2 ∷ 2 ∷ 8 ∷ []

abbrev pub numbers : Fields → List ℕ
numbers f =
    f.flag
    ∷ f.left_height
    ∷ f.right_height
    ∷ f.zero1
    ∷ f.key
    ∷ f.left_key
    ∷ f.right_key
    ∷ f.tag
    ∷ f.left_tag
    ∷ f.right_tag
    ∷ f.zero2
    ∷ f.value
    ∷ []

abbrev pub named : List ℕ → Fields
named vs =
    record {
      flag = get_or vs 0 0;
      left_height = get_or vs 1 0;
      right_height = get_or vs 2 0;
      zero1 = get_or vs 3 0;
      key = get_or vs 4 0;
      left_key = get_or vs 5 0;
      right_key = get_or vs 6 0;
      tag = get_or vs 7 0;
      left_tag = get_or vs 8 0;
      right_tag = get_or vs 9 0;
      zero2 = get_or vs 10 0;
      value = get_or vs 11 0;
    }

-- The fields that 32 bytes hold.
unfoldable pub fields_in : List ℕ → Fields
fields_in bs = named (fields widths bs)

-- A node as fields, and the node that fields hold.
unfoldable pub fields_of : Node → Fields
fields_of n =
    record {
      flag = 1;
      left_height = n.left.height;
      right_height = n.right.height;
      zero1 = 0;
      key = n.key;
      left_key = n.left.key;
      right_key = n.right.key;
      tag = n.tag;
      left_tag = n.left.tag;
      right_tag = n.right.tag;
      zero2 = 0;
      value = n.value;
    }

unfoldable pub node_of : Fields → Node
node_of f =
    record {
      key = f.key;
      value = f.value;
      tag = f.tag;
      left = record { height = f.left_height; key = f.left_key; tag = f.left_tag };
      right = record { height = f.right_height; key = f.right_key; tag = f.right_tag };
    }

-- The 32 bytes of a node.
unfoldable pub encode : Node → List ℕ
encode n = pack widths (numbers (fields_of n))

-- ---- document 01's causes of a bad slot, one by one, in its words
unfoldable pub all_zero : List ℕ → Bool
all_zero [] = true
all_zero (b ∷ bs) = eqb b 0 && all_zero bs

-- "its flag is neither 0 nor 1"
abbrev pub flag_wrong : Fields → Bool
flag_wrong f = not (eqb f.flag 0 || eqb f.flag 1)

-- "an empty one has a nonzero byte"
abbrev pub empty_not_zero : List ℕ → Fields → Bool
empty_not_zero bs f = eqb f.flag 0 && not (all_zero bs)

-- "a zero byte is not zero"
abbrev pub zero_not_zero : Fields → Bool
zero_not_zero f = not (eqb f.zero1 0 && eqb f.zero2 0)

-- "an absent link has a key or tag"
abbrev pub absent_has_more : ℕ → ℕ → ℕ → Bool
absent_has_more height key tag = eqb height 0 && not (eqb key 0 && eqb tag 0)

-- "a tag is 2^k or more"
abbrev pub tag_too_large : ℕ → ℕ → Bool
tag_too_large k tag = leb (2 ^ k) tag

-- "its own tag's path misses its bucket"; an empty slot has no tag of its own.
abbrev pub misses_bucket : ℕ → ℕ → Fields → Bool
misses_bucket k b f = eqb f.flag 1 && not (passes k f.tag b)

unfoldable pub bad : ℕ → ℕ → List ℕ → Fields → Bool
bad k b bs f =
    flag_wrong f
    || (empty_not_zero bs f
    || (zero_not_zero f
    || (absent_has_more f.left_height f.left_key f.left_tag
    || (absent_has_more f.right_height f.right_key f.right_tag
    || (tag_too_large k f.tag
    || (tag_too_large k f.left_tag
    || (tag_too_large k f.right_tag
    || misses_bucket k b f)))))))

-- A link that no slot would be bad for.
abbrev pub slot_link_good : ℕ → Link → Bool
slot_link_good k l = not (absent_has_more l.height l.key l.tag || tag_too_large k l.tag)

-- A node that no slot would be bad for, its bucket not asked about.
unfoldable pub well_formed : ℕ → Node → Bool
well_formed k n =
    not
    (absent_has_more n.left.height n.left.key n.left.tag
    || (absent_has_more n.right.height n.right.key n.right.tag
    || (tag_too_large k n.tag || (tag_too_large k n.left.tag || tag_too_large k n.right.tag))))

-- What the 32 bytes of a slot of bucket b are read as, in a tree of size k.
unfoldable pub read_slot : ℕ → ℕ → List ℕ → Reading
read_slot k b bs =
    pick (bad k b bs (fields_in bs)) Bad
    (pick (eqb (fields_in bs).flag 0) Empty (Full (node_of (fields_in bs))))

-- ---- four words for a slot
unfoldable pub slot_bytes : Slot → List ℕ
slot_bytes x = bytes 8 x.a ++ (bytes 8 x.b ++ (bytes 8 x.c ++ bytes 8 x.d))

-- The words of a node.
unfoldable pub slot_of : Node → Slot
slot_of n =
    record {
      a = 1 + 256 * n.left.height + 65536 * n.right.height + 4294967296 * n.key;
      b = n.left.key + 4294967296 * n.right.key;
      c = n.tag + 65536 * n.left.tag + 4294967296 * n.right.tag;
      d = n.value;
    }

-- The bytes of n slots that hold the given ones, and zero bytes where there are no more.
unfoldable pub filled : ℕ → List (List ℕ) → List ℕ
filled zero slots = []
filled (suc n) [] = replicate slot_length 0 ++ filled n []
filled (suc n) (s ∷ slots) = s ++ filled n slots

-- The bytes of a bucket that holds the given slots, at most four.
abbrev pub bucket_bytes : List (List ℕ) → List ℕ
bucket_bytes slots = filled 4 slots

-- The numbers of a node are within their widths.
unfoldable pub Ranged : Node → Type 0
Ranged n = Fit widths (numbers (fields_of n))
