-- The way down from the root to a place: at each level the node passed and the subtree on its other side.
use Rattle.std.specs.Prelude.{◌≡◌, Bool, not, ℕ, suc, max, ◌≤◌}
use Rattle.std.proofs.Math.Path.{refl}
use Rattle.std.proofs.Math.Bool.{true, false}
use mathlib.Core.List.{List, [], ◌∷◌, ◌++◌, append-nil, append_assoc}
use Rattle.std.proofs.Math.Option.{Option, none, some}
use Rattle.list_spec.specs.Choice.{pick}
use Rattle.balance_spec.specs.Tree.{Tree, node, height, Balanced}
use Rattle.method_spec.specs.Node.{Link, Node}
use Rattle.method_spec.specs.Map.{Step}
use Rattle.method_spec.specs.Plain.{Pair}
use Rattle.avl_laws.specs.Search.{Entry, pairs, Search, link_tree, nodes_of}
use Rattle.avl_laws.specs.Ascending.{pair, Ascending, ascending-split, ascending-lower, ascending-upper}
use Rattle.avl_laws.specs.View.{join_tree, node_on}

-- A level: the entry that stands there, the key that was passed, the side on which the way went on, the bounds that
-- held there, the subtree on the other side, and the link to the way's side as it was when it was followed.
pub record Frame (T : Type 0) : Type 0 where
  pub entry : Entry T
  pub was : ℕ
  pub way : Bool
  pub low : Option ℕ
  pub high : Option ℕ
  pub other : Tree (Entry T)
  pub old : Link T

-- The key that was passed and the one that stands there now: it did not move away from the place.
abbrev pub Passed : Bool → ℕ → ℕ → Type 0
Passed true now was = now ≤ was
Passed false now was = was ≤ now

module _ {T : Type 0} where
  -- The bounds at the place below the frames; the nearest frame is the first.
  abbrev pub low_at : List (Frame T) → Option ℕ
  low_at [] = none
  low_at (f ∷ fs) = pick f.way f.low (some f.was)

  abbrev pub high_at : List (Frame T) → Option ℕ
  high_at [] = none
  high_at (f ∷ fs) = pick f.way (some f.was) f.high

  -- The link that leads to the place was of that height.
  abbrev pub HeightAt : List (Frame T) → ℕ → Type 0
  HeightAt [] h = Unit
  HeightAt (f ∷ fs) h = f.old.height ≡ h

  -- ---- the pairs around the place

  abbrev pub pair_of : Entry T → Pair
  pair_of e = pair e.key e.value

  unfoldable pub before : List (Frame T) → List Pair
  before [] = []
  before (f ∷ fs) = pick f.way (before fs) (before fs ++ (pairs f.other ++ (pair_of f.entry ∷ [])))

  unfoldable pub after : List (Frame T) → List Pair
  after [] = []
  after (f ∷ fs) = pick f.way (pair_of f.entry ∷ (pairs f.other ++ after fs)) (after fs)

  abbrev pub around : List (Frame T) → List Pair → List Pair
  around fs xs = before fs ++ (xs ++ after fs)

  -- The pairs of the subtree at the frame, with xs at the place.
  abbrev pub besides : Frame T → List Pair → List Pair
  besides f xs =
      pick f.way (xs ++ (pair_of f.entry ∷ pairs f.other)) (pairs f.other ++ (pair_of f.entry ∷ xs))

  around-besides : (f : Frame T) (fs : List (Frame T)) (xs : List Pair) → around (f ∷ fs) xs ≡ around fs (besides f xs)
  unfolding before after
  around-besides f fs xs = go f.way
    where
      p : Pair
      p = pair_of f.entry

      o : List Pair
      o = pairs f.other

      go : (s : Bool)
          → pick s (before fs) (before fs ++ (o ++ (p ∷ []))) ++ (xs ++ pick s (p ∷ (o ++ after fs)) (after fs))
          ≡ before fs ++ (pick s (xs ++ (p ∷ o)) (o ++ (p ∷ xs)) ++ after fs)
      go true = simp append_assoc
      go false = simp append_assoc

  -- The tree at a frame, with t at the place.
  abbrev pub filled : Frame T → Tree (Entry T) → Tree (Entry T)
  filled f t = join_tree f.way t f.entry f.other

  besides-filled : (f : Frame T) (t : Tree (Entry T)) → besides f (pairs t) ≡ pairs (filled f t)
  unfolding pairs
  besides-filled f t = go f.way
    where
      go : (s : Bool)
          → pick s (pairs t ++ (pair_of f.entry ∷ pairs f.other)) (pairs f.other ++ (pair_of f.entry ∷ pairs t))
          ≡ pairs (join_tree s t f.entry f.other)
      go true = refl
      go false = refl

  pub around-filled : (f : Frame T) (fs : List (Frame T)) (t : Tree (Entry T))
      → around (f ∷ fs) (pairs t) ≡ around fs (pairs (filled f t))
  around-filled f fs t = rw (around-besides f fs (pairs t), besides-filled f t)

  -- ---- what holds of the frames

  -- A frame on those above it.
  pub record Over (f : Frame T) (fs : List (Frame T)) : Type 0 where
    pub lower : f.low ≡ low_at fs
    pub upper : f.high ≡ high_at fs
    pub joined : HeightAt fs (suc (max f.old.height (height f.other)))
    pub balanced : Balanced f.other
    pub up : f.old.height ≤ suc (height f.other)
    pub down : height f.other ≤ suc f.old.height
    pub search : Search (pick (not f.way) f.low (some f.was)) (pick (not f.way) (some f.was) f.high)
        f.other
    pub passed : Passed f.way f.entry.key f.was

  -- Each frame on those above it.
  pub data Sound : List (Frame T) → Type 0 where
    bare : Sound []
    over : {f : Frame T} {fs : List (Frame T)} → Over f fs → Sound fs → Sound (f ∷ fs)

  -- What stands at the place is between the bounds there.
  pub inside : {fs : List (Frame T)} (xs : List Pair) → Sound fs → Ascending none none (around fs xs)
      → Ascending (low_at fs) (high_at fs) xs
  unfolding before after
  inside xs bare h = rw append-nil at h
  inside xs (over {f = f} {fs = fs} o s) h =
      go f.way o.passed (rw (← o.lower, ← o.upper) at (inside (besides f xs) s (rw around-besides at h)))
    where
      go : (s : Bool) → Passed s f.entry.key f.was
          → Ascending f.low f.high
          (pick s (xs ++ (pair_of f.entry ∷ pairs f.other)) (pairs f.other ++ (pair_of f.entry ∷ xs)))
          → Ascending (pick s f.low (some f.was)) (pick s (some f.was) f.high) xs
      go true p a = ascending-upper p (ascending-split xs a).before
      go false p a = ascending-lower p (ascending-split (pairs f.other) a).after

  -- ---- the steps, nodes and tags of frames

  -- The tags of the entries passed.
  unfoldable pub entry_tags : List (Frame T) → List T
  entry_tags [] = []
  entry_tags (f ∷ fs) = f.entry.tag ∷ entry_tags fs

  module _ (nil : T) where
    -- The level as the walk keeps it.
    abbrev pub step_of : Frame T → Step T
    step_of f =
        record {
          node = node_on f.way f.entry f.old (link_tree nil f.other);
          was = f.was;
          way = f.way;
          low = f.low;
          high = f.high;
        }

    -- The nodes of the subtrees on the other sides.
    unfoldable pub others : List (Frame T) → List (Node T)
    others [] = []
    others (f ∷ fs) = nodes_of nil f.other ++ others fs
