-- The slot format for the method's nodes at leaf tags: document 01's slot.
use Rattle.std.specs.Prelude.{ℕ, ◌≡◌, true}
use Rattle.slot_spec.specs.Slot.{encode, well_formed, read_slot, Ranged}
use Rattle.slot_spec.specs.declared.Reading.{Reading}
use Rattle.slot_spec.specs.declared.Reading.TheVariants.{Full, Empty, Bad}
use Rattle.method_spec.specs.Node.{Node}
use Rattle.round_spec.specs.Format.{Format, Read, full, empty, bad}
use Rattle.leaf_spec.specs.Convert.{to_node, from_node}

unfoldable pub read_leaf : Reading → Read (Node ℕ)
read_leaf (Full n) = full (to_node n)
read_leaf Empty = empty
read_leaf Bad = bad

abbrev pub leaf_format : Format (Node ℕ)
leaf_format =
    record {
      key = λ n. n.key;
      tag = λ n. n.tag;
      bytes = λ n. encode (from_node n);
      read = λ k b bs. read_leaf (read_slot k b bs);
    }

-- A node whose numbers are within their widths and that no slot of a tree of size k would be bad for.
abbrev pub ProperLeaf : ℕ → Node ℕ → Type 0
ProperLeaf k n = Ranged (from_node n) × (well_formed k (from_node n) ≡ true)
