-- Links and nodes within their bounds, heights within a bound of their own: kept by a new child, by the link to a node and by rotations.
use Rattle.std.specs.Prelude.{◌≡◌, refl, Bool, true, false, not, ℕ, suc, ◌^◌, ◌≤◌, ◌<◌}
use Rattle.std.proofs.Math.Decide.{dec_le}
use Rattle.std.proofs.Common.{arith, pow_pos, eqb-true, ltb-true}
use Rattle.list_laws.specs.ChoiceLaws.{pick-both, pick-neither}
use Rattle.slot_spec.specs.Slot.{fields_of, slot_link_good, tag_too_large, Ranged}
use Rattle.slot_spec.specs.Layout.{Fit}
use Rattle.slot_laws.specs.ReadLaws.{well-formed-order, absent-with-key, absent-without-key, link-present}
use Rattle.method_spec.specs.Node.{Link, Node, absent, child, with_child, with_value, retag, height_of, link_to}
use Rattle.method_spec.specs.Map.{rotate}
use Rattle.leaf_spec.specs.Convert.{from_node, from_link}
use Rattle.leaf_spec.specs.Leaf.{ProperLeaf}
use Rattle.leaf_laws.specs.Proper.{Fits, FitLink, fits-proper, proper-fits}

-- A link that a node of a tree of size k may have, of a height up to b.
pub record LinkFits (k b : ℕ) (l : Link ℕ) : Type 0 where
  pub height : l.height ≤ b
  pub key : l.key < 2 ^ 32
  pub tag : l.tag < 2 ^ k
  pub absent-zero : l.height ≡ 0 → (l.key ≡ 0) × (l.tag ≡ 0)

-- A node of a tree of size k with links of heights up to b.
pub record NodeFits (k b : ℕ) (n : Node ℕ) : Type 0 where
  pub own : Fits k n
  pub left : LinkFits k b n.left
  pub right : LinkFits k b n.right

module _ {k : ℕ} where
  -- ---- another bound
  pub link-more : {b c : ℕ} {l : Link ℕ} → b ≤ c → LinkFits k b l → LinkFits k c l
  link-more h f = record { height = omega arith; key = f.key; tag = f.tag; absent-zero = f.absent-zero }

  pub node-more : {b c : ℕ} {n : Node ℕ} → b ≤ c → NodeFits k b n → NodeFits k c n
  node-more h f = record { own = f.own; left = link-more h f.left; right = link-more h f.right }

  -- ---- a byte for a height
  pub link-of-fit : {b : ℕ} {l : Link ℕ} → l.height ≤ b → FitLink k l → LinkFits k b l
  link-of-fit h f = record { height = h; key = f.key; tag = f.tag; absent-zero = f.absent-zero }

  pub fit-of-link : {b : ℕ} {l : Link ℕ} → b < 256 → LinkFits k b l → FitLink k l
  fit-of-link h f = record { height = omega arith; key = f.key; tag = f.tag; absent-zero = f.absent-zero }

  -- ---- links and nodes made from others
  pub absent-fits : {b : ℕ} → LinkFits k b (absent 0)
  absent-fits = record { height = omega arith; key = omega arith; tag = pow_pos k; absent-zero = λ e. (refl, refl) }

  -- A link of height 1.
  pub one-fits : {b key tag : ℕ} → 1 ≤ b → key < 2 ^ 32 → tag < 2 ^ k → LinkFits k b (record { height = 1; key = key; tag = tag })
  one-fits low small leaf =
      record { height = low; key = small; tag = leaf; absent-zero = λ (e : ◌≡◌ {A = ℕ} 1 0). let z : ⊥ = omega arith in absurd z }

  module _ {b : ℕ} {n : Node ℕ} (f : NodeFits k b n) where
    pub child_fits : (s : Bool) → LinkFits k b (child s n)
    child_fits true = f.left
    child_fits false = f.right

    pub with-child-fits : (s : Bool) {l : Link ℕ} → LinkFits k b l → NodeFits k b (with_child s n l)
    with-child-fits true g = record { own = record { key = f.own.key; value = f.own.value; tag = f.own.tag }; left = g; right = f.right }
    with-child-fits false g = record { own = record { key = f.own.key; value = f.own.value; tag = f.own.tag }; left = f.left; right = g }

    pub with-value-fits : {v : ℕ} → v < 2 ^ 64 → NodeFits k b (with_value v n)
    with-value-fits h = record { own = record { key = f.own.key; value = h; tag = f.own.tag }; left = f.left; right = f.right }

    pub link-to-fits : LinkFits k (suc b) (link_to n)
    link-to-fits =
        record {
          height = omega arith;
          key = f.own.key;
          tag = f.own.tag;
          absent-zero = λ (e : height_of n ≡ 0). let z : ⊥ = omega arith in absurd z;
        }

  module _ {b : ℕ} (s : Bool) {n c : Node ℕ} (f : NodeFits k b n) (g : NodeFits k b c) where
    pub down_fits : NodeFits k b (rotate s n c).down
    down_fits = with-child-fits f s (child_fits g (not s))

    pub up_fits : NodeFits k (suc b) (rotate s n c).up
    up_fits = with-child-fits (node-more (omega arith) g) (not s) (link-to-fits down_fits)

-- ---- proper nodes
module _ (k : ℕ) where
  good-link : (b : ℕ) (l : Link ℕ) → slot_link_good k (from_link l) ≡ true → l.key < 2 ^ 32 → l.height ≤ b → LinkFits k b l
  good-link b l good key low = go (dec_le 1 l.height)
    where
      zero-key : l.height ≡ 0 → l.key ≡ 0
      zero-key e = by (dec_le 1 l.key)
        where
          by : Dec (1 ≤ l.key) → l.key ≡ 0
          by (yes h) =
              let q = absent-with-key k (from_link l) e (λ z. omega arith) in
              let z : ◌≡◌ {A = ℕ} 0 1 = cc in
              absurd (omega arith)
          by (no h) = omega arith

      zero-tag : l.height ≡ 0 → l.tag ≡ 0
      zero-tag e = eqb-true l.tag 0 (let q = absent-without-key k (from_link l) e (zero-key e) in cc)

      go : Dec (1 ≤ l.height) → LinkFits k b l
      go (yes h) =
          record {
            height = low;
            key = key;
            tag = ltb-true l.tag (2 ^ k) (let q = link-present k (from_link l) (λ e. omega arith) in cc);
            absent-zero = λ e. let z : ⊥ = omega arith in absurd z;
          }
      go (no h) =
          let none : l.height ≡ 0 = omega arith in
          record {
            height = low;
            key = key;
            tag = let z = zero-tag none in omega (arith, pow_pos k);
            absent-zero = λ e. (zero-key e, zero-tag e);
          }

  module _ {n : Node ℕ} where
    -- A proper node fits, with a bound of its heights.
    pub proper-node : {b : ℕ} → ProperLeaf k n → n.left.height ≤ b → n.right.height ≤ b → NodeFits k b n
    unfolding Ranged Fit fields_of
    proper-node {b} p left right =
        let links = (pick-neither (tag_too_large k n.tag) _ (rw (well-formed-order k (from_node n)) at p.1)).1 in
        let both = pick-both (slot_link_good k (from_link n.left)) (slot_link_good k (from_link n.right)) links in
        record {
          own = proper-fits k n p;
          left = good-link b n.left both.0 (omega arith) left;
          right = good-link b n.right both.1 (omega arith) right;
        }

    -- A node that fits is proper, where a byte holds its heights.
    pub fits-is-proper : {b : ℕ} → k ≤ 16 → b < 256 → NodeFits k b n → ProperLeaf k n
    fits-is-proper small low f = fits-proper k n small f.own (fit-of-link low f.left) (fit-of-link low f.right)

    -- Its heights are bytes.
    pub proper-byte : ProperLeaf k n → NodeFits k 255 n
    unfolding Ranged Fit fields_of
    proper-byte p = proper-node p (omega arith) (omega arith)

-- A proper node under another tag.
pub retag-proper : (k : ℕ) → k ≤ 16 → (n : Node ℕ) (t : ℕ) → t < 2 ^ k → ProperLeaf k n → ProperLeaf k (retag t n)
retag-proper k small n t leaf p =
    let f = proper-byte k p in
    fits-is-proper k small (omega arith)
    (record { own = record { key = f.own.key; value = f.own.value; tag = leaf }; left = f.left; right = f.right })

-- A proper node with another value.
pub with-value-proper : (k : ℕ) → k ≤ 16 → (n : Node ℕ) (v : ℕ) → v < 2 ^ 64 → ProperLeaf k n → ProperLeaf k (with_value v n)
with-value-proper k small n v fits p = fits-is-proper k small (omega arith) (with-value-fits (proper-byte k p) fits)
