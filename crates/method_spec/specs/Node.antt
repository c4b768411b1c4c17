-- Links and nodes over a type of position tags: the store's tags are leaf numbers, the origin rule's are draws.
use Rattle.std.specs.Prelude.{ℕ, suc, max, Bool, true, false}

pub record Link (T : Type 0) : Type 0 where
  pub height : ℕ
  pub key : ℕ
  pub tag : T

pub record Node (T : Type 0) : Type 0 where
  pub key : ℕ
  pub value : ℕ
  pub tag : T
  pub left : Link T
  pub right : Link T

-- A node's value and tag, where a list or a tree of them says its key and links.
pub record Cell (T : Type 0) : Type 0 where
  pub value : ℕ
  pub tag : T

-- What a queue knows of the node that comes next: its key, the next unused one, and its tag, drawn ahead. The other structures keep
-- key 0 and no tag.
pub record Ahead (T : Type 0) : Type 0 where
  pub key : ℕ
  pub tag : T

-- Height 0: no link. Its tag says nothing; nobody follows it.
abbrev pub absent : {T : Type 0} → T → Link T
absent nil = record { height = 0; key = 0; tag = nil }

abbrev pub none_ahead : {T : Type 0} → T → Ahead T
none_ahead nil = record { key = 0; tag = nil }

module _ {T : Type 0} where
  -- A side is a Bool: true is left, false is right.
  abbrev pub child : Bool → Node T → Link T
  child true n = n.left
  child false n = n.right

  abbrev pub with_child : Bool → Node T → Link T → Node T
  with_child true n l =
      record { key = n.key; value = n.value; tag = n.tag; left = l; right = n.right }
  with_child false n l =
      record { key = n.key; value = n.value; tag = n.tag; left = n.left; right = l }

  abbrev pub retag : T → Node T → Node T
  retag t n =
      record { key = n.key; value = n.value; tag = t; left = n.left; right = n.right }

  abbrev pub with_value : ℕ → Node T → Node T
  with_value v n =
      record { key = n.key; value = v; tag = n.tag; left = n.left; right = n.right }

  -- A map node's height is that of its taller side and 1.
  abbrev pub height_of : Node T → ℕ
  height_of n = suc (max n.left.height n.right.height)

  abbrev pub link_to : Node T → Link T
  link_to n = record { height = height_of n; key = n.key; tag = n.tag }

  -- The link of height 1 to a node, as stack, heap and queue have them.
  abbrev pub link_one : Node T → Link T
  link_one n = record { height = 1; key = n.key; tag = n.tag }

  -- The link to the node that comes next.
  abbrev pub link_ahead : Ahead T → Link T
  link_ahead a = record { height = 1; key = a.key; tag = a.tag }
