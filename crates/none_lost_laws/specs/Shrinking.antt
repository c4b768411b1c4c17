-- Upward from where a node left the tree, on any content: no subtree becomes higher than it was, so rebalancing turns only towards the way
-- down, and each link that is followed is present where it stands, in a node that was given.
use Rattle.std.specs.Prelude.{◌≡◌, Bool, not, ℕ, suc, ◌<◌, ◌≤◌}
use Rattle.std.proofs.Common.{sym, ◌∙◌, ap, le_trans, ltb-false}
use Rattle.std.proofs.Math.Bool.{true, false}
use mathlib.Core.List.{List, [], ◌∷◌, ◌++◌, Memᴰ}
use Rattle.std.proofs.Math.Option.{Option, none}
use native.Mathlib.Omega.{arith}
use Rattle.list_laws.specs.ChoiceLaws.{pick-neither}
use Rattle.method_spec.specs.Node.{Link, Node, child, with_child, height_of}
use Rattle.method_spec.specs.Prog.{side, Want}
use Rattle.method_spec.specs.Map.{Step, Sub, stub, link_of, nodes_at, tall, single, double, turn, with_subtree, rest, near_on, others_of, raise, climb, map_test}
use Rattle.run_laws.specs.BalanceLaws.{tall-heights}
use Rattle.run_laws.specs.EnoughRounds.{tested-height}
use Rattle.none_lost_laws.specs.Yields.{ends, yields-map, yields-when, yields-then, yields-keep}
use Rattle.none_lost_laws.specs.Growing.{Seeks, turn-wanted, tall-higher, tall-present}
use Rattle.none_lost_laws.specs.Given.{Leads, at_side}

-- A node whose side heights differ by at most one.
abbrev pub Even : Node ℕ → Type 0
Even n = (s : Bool) → (child s n).height ≤ suc (child (not s) n).height

pub tested-even : (w : Want ℕ) (n : Node ℕ) → map_test w n ≡ true → Even n
unfolding map_test
tested-even w n e true = ltb-false (suc n.right.height) n.left.height (sym (tall-heights true n) ∙ (pick-neither (tall true n) _ e).0)
tested-even w n e false =
    ltb-false (suc n.left.height) n.right.height (sym (tall-heights false n) ∙ (pick-neither (tall false n) _ (pick-neither (tall true n) _ e).1).0)

-- ---- heights after a rotation
module _ (n c : Node ℕ) (others : List (Node ℕ)) where
  single-low : (s : Bool) → height_of c ≡ (child s n).height → suc (child (not s) n).height < (child s n).height
      → (link_of (single s n c none none others).sub).height ≤ height_of n
  unfolding single
  single-low true same tall = omega arith
  single-low false same tall = omega arith

  double-low : (s : Bool) (g : Node ℕ) → height_of c ≡ (child s n).height → suc (child (not s) n).height < (child s n).height
      → (child s c).height < (child (not s) c).height → height_of g ≡ (child (not s) c).height
      → (link_of (double s n c g none others).sub).height ≤ height_of n
  unfolding double
  double-low true g same tall lean inner = omega arith
  double-low false g same tall lean inner = omega arith

-- ---- one level up
-- A place on the way, and the node that stood there when it was given: it had the key that was passed and the links.
pub record Passed (held : List (Node ℕ)) (p : Step ℕ) : Type 0 where
  pub node : Node ℕ
  pub given : Memᴰ node held
  pub key : node.key ≡ p.was
  pub links : (s : Bool) → child s node ≡ child s p.node

passed-leads : {l : Link ℕ} {held : List (Node ℕ)} {p : Step ℕ} (s : Bool) → Passed held p → ((child s p.node).height ≡ 0 → ⊥) → Leads l held (side p.was s)
passed-leads s f present = at_side f.node f.given f.key (λ z. present (sym (ap (λ (x : Link ℕ). x.height) (f.links s)) ∙ z))

rest-low : (node : Node ℕ) (was : ℕ) (way : Bool) (low high : Option ℕ) (b : Sub ℕ) → (link_of b).height ≤ (child way node).height
    → (link_of (rest (record { node = node; was = was; way = way; low = low; high = high }) b).sub).height ≤ height_of node
rest-low node was true low high b lower = omega arith
rest-low node was false low high b lower = omega arith

module _ {k : ℕ} {l : Link ℕ} {held : List (Node ℕ)} where
  -- The other side than that where the walk went on.
  other-low : (p : Step ℕ) (s : Bool) (n : Node ℕ) (m : Link ℕ) (others : List (Node ℕ)) → tall s n ≡ true → Leads l held (side p.was s)
      → Seeks k l (λ r given. (link_of r.sub).height ≤ height_of n) (turn p s n (stub m) others) held
  other-low p s n m others e leads =
      let less = tall-higher s n e in
      turn-wanted p s n others m leads
      (λ c got. single-low n c others s (tested-height _ c got.passed) less)
      (λ c g got lean more. double-low n c others s g (tested-height _ c got.passed) less lean (tested-height _ g more.passed))

  -- A step with the way written out.
  shrink-turn : (node : Node ℕ) (was : ℕ) (way : Bool) (low high : Option ℕ) (b : Sub ℕ) → Even node → (link_of b).height ≤ (child way node).height → (s : Bool)
      → (let p : Step ℕ = record { node = node; was = was; way = way; low = low; high = high } in
      Passed held p → tall s (with_subtree p b) ≡ true
      → Seeks k l (λ r given. (link_of r.sub).height ≤ height_of node) (turn p s (with_subtree p b) (near_on p b s) (others_of p b s)) held)
  shrink-turn node was true low high b even lower true f e =
      let less = tall-higher true (with_child true node (link_of b)) e in
      let z : ⊥ = omega (arith, even true) in
      absurd z
  shrink-turn node was false low high b even lower false f e =
      let less = tall-higher false (with_child false node (link_of b)) e in
      let z : ⊥ = omega (arith, even false) in
      absurd z
  shrink-turn node was true low high b even lower false f e =
      yields-map (λ r given h. omega arith)
      (other-low _ false (with_child true node (link_of b)) node.right (nodes_at b) e
      (passed-leads false f (tall-present false (with_child true node (link_of b)) e)))
  shrink-turn node was false low high b even lower true f e =
      yields-map (λ r given h. omega arith)
      (other-low _ true (with_child false node (link_of b)) node.left (nodes_at b) e
      (passed-leads true f (tall-present true (with_child false node (link_of b)) e)))

  shrink-seeks : (p : Step ℕ) (b : Sub ℕ) → Even p.node → (link_of b).height ≤ (child p.way p.node).height → Passed held p
      → Seeks k l (λ r given. (link_of r.sub).height ≤ height_of p.node) (raise p b) held
  unfolding raise
  shrink-seeks p b even lower f =
      yields-when (tall true (with_subtree p b)) (shrink-turn p.node p.was p.way p.low p.high b even lower true f)
      (λ e. yields-when (tall false (with_subtree p b)) (shrink-turn p.node p.was p.way p.low p.high b even lower false f)
      (λ e. ends (rest-low p.node p.was p.way p.low p.high b lower)))

-- ---- the whole way up
-- From a subtree of height h upward: each place on the way was given, is even, and its link down is no lower than what comes to stand there;
-- what stands at its end is no higher than `most`.
pub data Falls (held : List (Node ℕ)) (most : ℕ) : ℕ → List (Step ℕ) → Type 0 where
  at_top : {h : ℕ} → h ≤ most → Falls held most h []
  at-step : {h : ℕ} {p : Step ℕ} {path : List (Step ℕ)} → h ≤ (child p.way p.node).height → Even p.node → Passed held p
      → Falls held most (height_of p.node) path → Falls held most h (p ∷ path)

module _ {held : List (Node ℕ)} where
  pub passed-more : {p : Step ℕ} (n : Node ℕ) → Passed held p → Passed (n ∷ held) p
  passed-more n f = record { node = f.node; given = Memᴰ.tail f.given; key = f.key; links = f.links }

  pub falls-more : {most h : ℕ} {path : List (Step ℕ)} (n : Node ℕ) → Falls held most h path → Falls (n ∷ held) most h path
  falls-more n (at_top le) = at_top le
  falls-more n (at-step lower even f more) = at-step lower even (passed-more n f) (falls-more n more)

  pub falls-lower : {most h i : ℕ} {path : List (Step ℕ)} → i ≤ h → Falls held most h path → Falls held most i path
  falls-lower le (at_top low) = at_top (le_trans le low)
  falls-lower le (at-step lower even f more) = at-step (le_trans le lower) even f more

  pub falls-append : {most mid h : ℕ} {xs ys : List (Step ℕ)} → Falls held mid h xs → Falls held most mid ys → Falls held most h (xs ++ ys)
  falls-append (at_top le) more = falls-lower le more
  falls-append (at-step lower even f later) more = at-step lower even f (falls-append later more)

pub climb-shrinks : {k most : ℕ} {l : Link ℕ} {held : List (Node ℕ)} (path : List (Step ℕ)) (b : Sub ℕ) (out : List (Node ℕ))
    → Falls held most (link_of b).height path → Seeks k l (λ r given. Unit {0}) (climb path b out) held
unfolding climb
climb-shrinks [] b out f = ends tt
climb-shrinks {most = most} (p ∷ path) b out (at-step lower even f more) =
    yields-then _
    (yields-keep (λ given. Falls given most (height_of p.node) path) (λ n given. falls-more n) more (shrink-seeks p b even lower f))
    (λ r given h. climb-shrinks path r.sub (out ++ r.out) (falls-lower h.0 h.1))
