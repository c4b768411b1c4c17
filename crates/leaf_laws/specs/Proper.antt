-- A method's node at leaf tags that may wait or stand in a slot, and that the format of such nodes is lawful.
use Rattle.std.specs.Prelude.{◌≡◌, refl, true, ℕ, ◌^◌, ◌≤◌, ◌<◌}
use Rattle.std.proofs.Common.{◌∙◌, ap, eq-eqb, lt-ltb}
use Rattle.std.proofs.Math.Decide.{dec_le}
use native.Mathlib.Omega.{arith}
use Rattle.std.proofs.Math.Pow.{pow_mono}
use Rattle.slot_spec.specs.Slot.{fields_of, slot_link_good, read_slot, Ranged}
use Rattle.slot_spec.specs.Layout.{Fit}
use Rattle.slot_laws.specs.ReadLaws.{absent-without-key, link-present, left-link-good}
use Rattle.slot_spec.specs.declared.Node as node
use Rattle.slot_spec.specs.declared.Reading.{Reading}
use Rattle.slot_spec.specs.declared.Reading.TheVariants.{Full, Empty, Bad}
use Rattle.method_spec.specs.Node.{Link, Node}
use Rattle.round_spec.specs.Format.{full, empty}
use Rattle.round_spec.specs.Nodes.{reading_of}
use Rattle.leaf_spec.specs.Convert.{to_node, from_node, from_link}
use Rattle.leaf_spec.specs.Leaf.{read_leaf, leaf_format, ProperLeaf}
use Rattle.round_laws.specs.Lawful.{Lawful}
use Rattle.round_laws.specs.NodeLaws.{nodes-lawful}

-- ---- the format is lawful, as that of the store's nodes is

leaf-full : (r : Reading) (n : Node ℕ) → read_leaf r ≡ full n → reading_of r ≡ full (from_node n)
unfolding read_leaf reading_of
leaf-full (Full m) n e = let same : to_node m ≡ n = cc in ap (λ (x : Node ℕ). full (from_node x)) same
leaf-full Empty n e = cc
leaf-full Bad n e = cc

full-leaf : (r : Reading) (n : Node ℕ) → reading_of r ≡ full (from_node n) → read_leaf r ≡ full n
unfolding read_leaf reading_of
full-leaf (Full m) n e = let same : m ≡ from_node n = cc in ap (λ (x : node.Node). full (to_node x)) same
full-leaf Empty n e = cc
full-leaf Bad n e = cc

empty_leaf : (r : Reading) → reading_of r ≡ empty → read_leaf r ≡ empty
unfolding read_leaf reading_of
empty_leaf (Full m) e = cc
empty_leaf Empty e = refl
empty_leaf Bad e = cc

pub leaves-lawful : Lawful leaf_format ProperLeaf
leaves-lawful =
    record {
      slot-sized = λ n. nodes-lawful.slot-sized (from_node n);
      slot-bytes = λ n. nodes-lawful.slot-bytes (from_node n);
      reads-back = λ k b n p on. full-leaf (read_slot k b (leaf_format.bytes n)) n (nodes-lawful.reads-back k b (from_node n) p on);
      read-proper = λ k b bs n h l e. nodes-lawful.read-proper k b bs (from_node n) h l (leaf-full (read_slot k b bs) n e);
      read-passes = λ k b bs n h l e. nodes-lawful.read-passes k b bs (from_node n) h l (leaf-full (read_slot k b bs) n e);
      read-bytes = λ k b bs n h l e. nodes-lawful.read-bytes k b bs (from_node n) h l (leaf-full (read_slot k b bs) n e);
      tag-is-leaf = λ k n p. nodes-lawful.tag-is-leaf k (from_node n) p;
      zero-empty = λ k b. empty_leaf (read_slot k b _) (nodes-lawful.zero-empty k b);
    }

-- ---- which nodes are proper

-- A node's own numbers are within their bounds.
pub record Fits (k : ℕ) (n : Node ℕ) : Type 0 where
  pub key : n.key < 2 ^ 32
  pub value : n.value < 2 ^ 64
  pub tag : n.tag < 2 ^ k

-- A link's numbers are within their bounds, and an absent one is all zero.
pub record FitLink (k : ℕ) (l : Link ℕ) : Type 0 where
  pub height : l.height < 256
  pub key : l.key < 2 ^ 32
  pub tag : l.tag < 2 ^ k
  pub absent-zero : l.height ≡ 0 → (l.key ≡ 0) × (l.tag ≡ 0)

fit-link-good : (k : ℕ) (l : Link ℕ) → FitLink k l → slot_link_good k (from_link l) ≡ true
fit-link-good k l f = go (dec_le 1 l.height)
  where
    go : Dec (1 ≤ l.height) → slot_link_good k (from_link l) ≡ true
    go (yes h) = link-present k (from_link l) (λ e. omega arith) ∙ lt-ltb l.tag (2 ^ k) f.tag
    go (no h) =
        let none : l.height ≡ 0 = omega arith in
        let z = f.absent-zero none in
        absent-without-key k (from_link l) none z.0 ∙ eq-eqb l.tag 0 z.1

module _ (k : ℕ) (n : Node ℕ) where
  pub fits-proper : k ≤ 16 → Fits k n → FitLink k n.left → FitLink k n.right → ProperLeaf k n
  unfolding Ranged Fit fields_of
  fits-proper small own left right =
      let tags : 2 ^ k ≤ 2 ^ 16 = pow_mono small in (
        omega arith,
        left-link-good k (from_node n) own.tag (fit-link-good k n.left left) ∙ fit-link-good k n.right right,
      )

  pub proper-fits : ProperLeaf k n → Fits k n
  unfolding Ranged Fit fields_of
  proper-fits p = record { key = omega arith; value = omega arith; tag = leaves-lawful.tag-is-leaf k n p }
