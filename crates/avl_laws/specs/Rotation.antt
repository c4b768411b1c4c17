-- Rotations of trees: they keep the pairs, and where one side is too tall by one they balance the tree again.
use Rattle.std.specs.Prelude.{◌≡◌, Bool, not, ℕ, suc, max, ◌+◌, ◌≤◌, ◌<◌}
use Rattle.std.proofs.Math.Path.{refl, sym}
use Rattle.std.proofs.Math.Bool.{true, false}
use mathlib.Core.List.{append_assoc}
use Rattle.std.proofs.Math.Option.{Option, some}
use native.Mathlib.Omega.{arith}
use Rattle.list_spec.specs.Choice.{pick}
use Rattle.balance_spec.specs.Tree.{Tree, height, Balanced}
use Rattle.avl_laws.specs.Search.{Entry, pairs, Search}
use Rattle.avl_laws.specs.View.{join_tree}

module _ {T : Type 0} where
  pub height-join : (s : Bool) (a : Tree (Entry T)) (e : Entry T) (b : Tree (Entry T))
      → height (join_tree s a e b) ≡ suc (max (height a) (height b))
  unfolding height
  height-join true a e b = refl
  height-join false a e b = omega arith

  -- Two balanced trees whose heights differ by at most one.
  pub record Level (a b : Tree (Entry T)) : Type 0 where
    pub first : Balanced a
    pub second : Balanced b
    pub up : height a ≤ suc (height b)
    pub down : height b ≤ suc (height a)

  pub balanced-join : (s : Bool) {a : Tree (Entry T)} (e : Entry T) {b : Tree (Entry T)} → Level a b
      → Balanced (join_tree s a e b)
  unfolding Balanced
  balanced-join true e v = (v.first, v.second, v.up, v.down)
  balanced-join false e v = (v.second, v.first, v.down, v.up)

  pub balanced-parts : (s : Bool) (a : Tree (Entry T)) (e : Entry T) (b : Tree (Entry T)) → Balanced (join_tree s a e b)
      → Level a b
  unfolding Balanced
  balanced-parts true a e b h = record { first = h.0; second = h.1; up = h.2; down = h.3 }
  balanced-parts false a e b h = record { first = h.1; second = h.0; up = h.3; down = h.2 }

  -- Another tree of that height for the second.
  pub balanced-far : (s : Bool) (a : Tree (Entry T)) (e : Entry T) (b b' : Tree (Entry T))
      → Balanced (join_tree s a e b) → Balanced b' → height b ≡ height b' → Balanced (join_tree s a e b')
  balanced-far s a e b b' h g k =
      let v = balanced-parts s a e b h in
      balanced-join s e (record { first = v.first; second = g; up = omega arith; down = omega arith })

  -- ---- pairs

  pub pairs-near : (s : Bool) (a a' : Tree (Entry T)) (e : Entry T) (b : Tree (Entry T))
      → pairs a ≡ pairs a' → pairs (join_tree s a e b) ≡ pairs (join_tree s a' e b)
  unfolding pairs
  pairs-near true a a' e b h = rw h
  pairs-near false a a' e b h = rw h

  pub pairs-far : (s : Bool) (a : Tree (Entry T)) (e : Entry T) (b b' : Tree (Entry T))
      → pairs b ≡ pairs b' → pairs (join_tree s a e b) ≡ pairs (join_tree s a e b')
  unfolding pairs
  pairs-far true a e b b' h = rw h
  pairs-far false a e b b' h = rw h

  -- ---- a search tree's far side

  pub search-far : (s : Bool) (low high : Option ℕ) (a : Tree (Entry T)) (e : Entry T) (b : Tree (Entry T))
      → Search low high (join_tree s a e b)
      → Search (pick (not s) low (some e.key)) (pick (not s) (some e.key) high) b
  unfolding Search
  search-far true low high a e b h = h.3
  search-far false low high a e b h = h.2

  -- ---- rotations

  -- A tree whose height is 2 or 3 more than h.
  pub record Turned (h : ℕ) (t : Tree (Entry T)) : Type 0 where
    pub balanced : Balanced t
    pub least : h + 2 ≤ height t
    pub most : height t ≤ h + 3

  module _ (s : Bool) where
    pub single-pairs : (a : Tree (Entry T)) (c : Entry T) (b : Tree (Entry T)) (e : Entry T) (z : Tree (Entry T))
        → pairs (join_tree s (join_tree s a c b) e z) ≡ pairs (join_tree s a c (join_tree s b e z))
    unfolding pairs
    single-pairs a c b e z = go s
      where
        go : (s : Bool) → pairs (join_tree s (join_tree s a c b) e z) ≡ pairs (join_tree s a c (join_tree s b e z))
        go true = append_assoc (pairs a) _ _
        go false = sym (append_assoc (pairs z) _ _)

    pub double-pairs : (a : Tree (Entry T)) (c : Entry T) (b : Tree (Entry T)) (g : Entry T) (d : Tree (Entry T))
        (e : Entry T) (z : Tree (Entry T))
        → pairs (join_tree s (join_tree s a c (join_tree s b g d)) e z)
        ≡ pairs (join_tree s (join_tree s a c b) g (join_tree s d e z))
    unfolding pairs
    double-pairs a c b g d e z = go s
      where
        go : (s : Bool) → pairs (join_tree s (join_tree s a c (join_tree s b g d)) e z)
            ≡ pairs (join_tree s (join_tree s a c b) g (join_tree s d e z))
        go true = simp append_assoc
        go false = simp append_assoc

    pub single-turned : (a : Tree (Entry T)) (c : Entry T) (b : Tree (Entry T)) (e : Entry T) (z : Tree (Entry T))
        → Balanced (join_tree s a c b) → Balanced z → height (join_tree s a c b) ≡ height z + 2 → height b ≤ height a
        → Turned (height z) (join_tree s a c (join_tree s b e z))
    single-turned a c b e z h g tall lean =
        let v = balanced-parts s a c b h in
        let k = height-join s a c b in
        let i = height-join s b e z in
        let j = height-join s a c (join_tree s b e z) in
        record {
          balanced =
              balanced-join s c (record {
                first = v.first;
                second = balanced-join s e (record { first = v.second; second = g; up = omega arith; down = omega arith });
                up = omega arith;
                down = omega arith;
              });
          least = omega arith;
          most = omega arith;
        }

    pub double-turned : (a : Tree (Entry T)) (c : Entry T) (b : Tree (Entry T)) (g : Entry T) (d : Tree (Entry T))
        (e : Entry T) (z : Tree (Entry T))
        → Balanced (join_tree s a c (join_tree s b g d)) → Balanced z → height (join_tree s a c (join_tree s b g d))
        ≡ height z + 2
        → height a < height (join_tree s b g d)
        → Turned (height z) (join_tree s (join_tree s a c b) g (join_tree s d e z))
    double-turned a c b g d e z h w tall lean =
        let v = balanced-parts s a c (join_tree s b g d) h in
        let u = balanced-parts s b g d v.second in
        let i = height-join s a c (join_tree s b g d) in
        let j = height-join s b g d in
        let k = height-join s a c b in
        let l = height-join s d e z in
        let m = height-join s (join_tree s a c b) g (join_tree s d e z) in
        record {
          balanced =
              balanced-join s g (record {
                first = balanced-join s c
                    (record { first = v.first; second = u.first; up = omega arith; down = omega arith });
                second = balanced-join s e (record { first = u.second; second = w; up = omega arith; down = omega arith });
                up = omega arith;
                down = omega arith;
              });
          least = omega arith;
          most = omega arith;
        }
