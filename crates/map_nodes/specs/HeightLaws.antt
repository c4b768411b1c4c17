-- Laws of the bounds of heights: a link on a side, a node with another link, a larger bound.
use Rattle.std.specs.Prelude.{ℕ, suc, ◌≤◌, Bool, true, false, not, List, [], ◌∷◌, ◌++◌}
use Rattle.std.proofs.Common.{arith}
use Rattle.std.specs.Bool.{beq}
use Rattle.list_spec.specs.Choice.{pick}
use Rattle.method_spec.specs.Node.{Link, Node, child, with_child, link_to}
use Rattle.std.proofs.Math.Option.{Option, none, some}
use Rattle.method_spec.specs.Map.{Step, Sub, stub, top, kid, top_of, link_of, with_subtree, near_on, rotate}
use Rattle.node_rows.specs.Heights.{Low, Lows}
use Rattle.map_nodes.specs.Heights.{LowKid, LowSub}

pub low-more : {T : Type 0} {most more : ℕ} (n : Node T) → Low most n → most ≤ more → Low more n
low-more n h k = (omega arith, omega arith)

module _ {T : Type 0} {most : ℕ} where
  pub low-child : (s : Bool) (n : Node T) → Low most n → (child s n).height ≤ most
  low-child true n h = h.0
  low-child false n h = h.1

  pub low-with : (s : Bool) (n : Node T) (l : Link T) → Low most n → l.height ≤ most → Low most (with_child s n l)
  low-with true n l h k = (k, h.1)
  low-with false n l h k = (h.0, k)

  pub low-link : (n : Node T) → Low most n → (link_to n).height ≤ suc most
  low-link n h = omega arith

  -- After a rotation the node that went down is as low as the two were, the one that came up at most one higher.
  pub low-down : (s : Bool) (n c : Node T) → Low most n → Low most c → Low most (rotate s n c).down
  low-down s n c h k = low-with s n (child (not s) c) h (low-child (not s) c k)

module _ {T : Type 0} {most : ℕ} where
  pub low_up : (s : Bool) (n c : Node T) → Low most n → Low most c → Low (suc most) (rotate s n c).up
  low_up s n c h k =
      low-with {most = suc most} (not s) c (link_to (rotate s n c).down) (low-more c k (omega arith))
      (low-link (rotate s n c).down (low-down s n c h k))

module _ {T : Type 0} (most : ℕ) where
  pub low-kid : (s : Bool) (b : Sub T) → LowSub most b → LowKid most (kid s b)
  low-kid true (stub l) h = tt
  low-kid false (stub l) h = tt
  low-kid true (top n l r) h = h.1.0
  low-kid false (top n l r) h = h.1.1

  pub low-top : (b : Sub T) → LowSub most b → LowKid most (top_of b)
  low-top (stub l) h = tt
  low-top (top n l r) h = h.0

  pub low-link-of : (b : Sub T) → LowSub most b → (link_of b).height ≤ suc most
  low-link-of (stub l) h = omega arith
  low-link-of (top n l r) h = omega arith

  -- A level up: the node with the link to the subtree, and what is at hand on a side of it.
  pub low-placed : (p : Step T) (b : Sub T) → Low most p.node → LowSub most b → Low (suc most) (with_subtree p b)
  low-placed p b h k =
      low-with p.way p.node (link_of b) (low-more p.node h (omega arith)) (low-link-of b k)

  pub low_near : (p : Step T) (b : Sub T) (s : Bool) → Low most p.node → LowSub most b → LowSub most (near_on p b s)
  low_near p b s h k = go (beq s p.way)
    where
      go : (t : Bool) → LowSub most (pick t b (stub (child s p.node)))
      go true = k
      go false = low-child s p.node h

  pub lows-append : (ns : List (Node T)) (n : Node T) → Lows most ns → Low most n → Lows most (ns ++ (n ∷ []))
  lows-append [] n h k = (k, tt)
  lows-append (m ∷ ns) n h k = (h.0, lows-append ns n h.1 k)

module _ {T : Type 0} (most more : ℕ) (larger : most ≤ more) where
  pub low-kid-more : (k : Option (Node T)) → LowKid most k → LowKid more k
  low-kid-more none h = tt
  low-kid-more (some n) h = low-more n h larger

  pub low-sub-more : (b : Sub T) → LowSub most b → LowSub more b
  low-sub-more (stub l) h = omega arith
  low-sub-more (top n l r) h =
      (low-more n h.0 larger, (low-kid-more l h.1.0, low-kid-more r h.1.1))

  pub lows-more : (ns : List (Node T)) → Lows most ns → Lows more ns
  lows-more [] h = tt
  lows-more (n ∷ ns) h = (low-more n h.0 larger, lows-more ns h.1)
