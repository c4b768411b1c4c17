-- Upward from a new node, on any content: each link that is followed is present where it stands, in a node that was given.
use Rattle.std.specs.Prelude.{◌≡◌, Bool, not, ℕ, suc, ◌<◌}
use Rattle.std.proofs.Math.Path.{refl}
use Rattle.std.proofs.Common.{sym, ◌∙◌, arith, leb-false, ltb-true}
use Rattle.std.proofs.Math.Bool.{true, false}
use mathlib.Core.List.{List, [], ◌∷◌, ◌++◌, Memᴰ}
use Rattle.std.proofs.Math.Option.{Option, none, some}
use Rattle.list_spec.specs.Distinct.{All}
use Rattle.method_spec.specs.Node.{Link, Node, child, with_child}
use Rattle.method_spec.specs.Prog.{side, Want, Prog, done, bind}
use Rattle.method_spec.specs.Map.{Step, Sub, stub, top, Built, link_of, kid, nodes_at, seat, step_at, beside, below, tall, leans_out, single, double, fetched_top, turn, with_subtree, rest, near_on, others_of, raise, climb, map_test}
use Rattle.run_laws.specs.BalanceLaws.{tall-heights, leans-heights}
use Rattle.none_lost_laws.specs.Yields.{Yields, ends, asks, yields-when, yields-then, yields-keep}
use Rattle.none_lost_laws.specs.Given.{Given, Leads, at_side}

-- A want's link is present where it stands: it is the root link l, or that of a node given before.
abbrev pub Sought : Link ℕ → Want ℕ → List (Node ℕ) → Type 0
Sought l w held = Leads l held w.from

abbrev pub Seeks : {A : Type 0} → (k : ℕ) → Link ℕ → (A → List (Node ℕ) → Type 0) → Prog ℕ A → List (Node ℕ) → Type 0
Seeks k l Post p held = Yields (Sought l) (Given k map_test) Post p held

-- Where a child is not at hand and its link is present, that link is present in a node given before.
pub record Open (l : Link ℕ) (held : List (Node ℕ)) (n : Node ℕ) (s : Bool) (o : Option (Node ℕ)) : Type 0 where
  pub leads : o ≡ none → ((child s n).height ≡ 0 → ⊥) → Leads l held (side n.key s)

-- A subtree whose top node is at hand, and what is not at hand under it stands in nodes given before.
pub data Grown (l : Link ℕ) (held : List (Node ℕ)) : Sub ℕ → Type 0 where
  grown : {n : Node ℕ} {x y : Option (Node ℕ)} → Open l held n true x → Open l held n false y → Grown l held (top n x y)

module _ {l : Link ℕ} where
  -- A node that was given has all its links.
  open-given : {held : List (Node ℕ)} {n : Node ℕ} {o : Option (Node ℕ)} (s : Bool) → Memᴰ n held → Open l held n s o
  open-given {n = n} s m = record { leads = λ e present. at_side n m refl present }

  open-some : {held : List (Node ℕ)} {n c : Node ℕ} {s : Bool} → Open l held n s (some c)
  open-some = record { leads = λ e present. let z : ◌≡◌ {A = ℕ} 0 1 = cc in absurd (omega arith) }

  -- An absent link is not followed.
  pub open-absent : {held : List (Node ℕ)} {n : Node ℕ} {s : Bool} {o : Option (Node ℕ)} → (child s n).height ≡ 0 → Open l held n s o
  open-absent none-there = record { leads = λ e present. absurd (present none-there) }

  -- The link on the other side changes nothing here.
  open-other : {held : List (Node ℕ)} {n : Node ℕ} (s : Bool) {o : Option (Node ℕ)} (k : Link ℕ) → Open l held n s o → Open l held (with_child (not s) n k) s o
  open-other true k h = record { leads = h.leads }
  open-other false k h = record { leads = h.leads }

  open-beside : {held : List (Node ℕ)} {n : Node ℕ} (s : Bool) {o : Option (Node ℕ)} (k : Link ℕ) → Open l held n (not s) o → Open l held (with_child s n k) (not s) o
  open-beside true k h = record { leads = h.leads }
  open-beside false k h = record { leads = h.leads }

  -- The child of the top node on side s.
  grown-kid : {held : List (Node ℕ)} {n : Node ℕ} {x y : Option (Node ℕ)} (s : Bool) → Grown l held (top n x y) → Open l held n s (kid s (top n x y))
  grown-kid true (grown f g) = f
  grown-kid false (grown f g) = g

  grown-seat : {held : List (Node ℕ)} (s : Bool) {n : Node ℕ} {x y : Option (Node ℕ)} → Open l held n s x → Open l held n (not s) y → Grown l held (seat s n x y)
  grown-seat true f g = grown f g
  grown-seat false f g = grown g f

-- ---- a rotation
-- The tall side's child, and its inner child.
abbrev pub tall_child : Step ℕ → Bool → Node ℕ → Want ℕ
tall_child p s n = beside p s (child s n)

abbrev pub inner_child : Step ℕ → Bool → Node ℕ → Node ℕ → Want ℕ
inner_child p s n c = below (step_at (tall_child p s n) c (not s))

inward : (s : Bool) (c : Node ℕ) → leans_out s c ≡ false → (child s c).height < (child (not s) c).height
inward s c e = leb-false (child (not s) c).height (child s c).height (sym (leans-heights s c) ∙ e)

module _ {k : ℕ} {l : Link ℕ} {held : List (Node ℕ)} (p : Step ℕ) (s : Bool) (n : Node ℕ) (others : List (Node ℕ)) where
  -- Nothing is at hand on the tall side: its child is wanted, and where that leans inward, its inner child too.
  pub turn-wanted : {Post : Built ℕ → List (Node ℕ) → Type 0} (m : Link ℕ) → Leads l held (side p.was s)
      → ((c : Node ℕ) → Given k map_test (tall_child p s n) c → Post (single s n c none none others) (c ∷ held))
      → ((c g : Node ℕ) → Given k map_test (tall_child p s n) c → (child s c).height < (child (not s) c).height → Given k map_test (inner_child p s n c) g
      → Post (double s n c g none others) (g ∷ c ∷ held))
      → Seeks k l Post (turn p s n (stub m) others) held
  unfolding turn bind
  turn-wanted m leads one two =
      asks leads
      (λ c got. yields-when (leans_out s c) (λ e. ends (one c got))
      (λ e. let lean = inward s c e in
      asks (at_side c (Memᴰ.head refl) refl (λ z. omega arith)) (λ g more. ends (two c g got lean more))))

  -- The tall side's child c is at hand.
  turn-at-hand : (c : Node ℕ) (x y : Option (Node ℕ)) → Grown l held (top c x y)
      → Seeks k l (λ r given. Grown l given r.sub) (turn p s n (top c x y) others) held
  unfolding turn bind single double
  turn-at-hand c x y b =
      yields-when (leans_out s c)
      (λ e. ends (grown-seat s (open-other s _ (grown-kid s b)) open-some))
      (λ e. inner (kid (not s) (top c x y)) (grown-kid (not s) b) (inward s c e))
    where
      inner : (o : Option (Node ℕ)) → Open l held c (not s) o → (child s c).height < (child (not s) c).height
          → Seeks k l (λ r given. Grown l given r.sub) (bind (fetched_top (inner_child p s n c) o) (λ g. done (double s n c g (kid s (top c x y)) others))) held
      inner none f lean = asks (f.leads refl (λ z. omega arith)) (λ g got. ends (grown-seat s open-some open-some))
      inner (some g) f lean = ends (grown-seat s open-some open-some)

-- ---- one level up
-- A node that was passed, as it was given.
abbrev pub Fresh : List (Node ℕ) → Step ℕ → Type 0
Fresh held p = Memᴰ p.node held × (p.node.key ≡ p.was)

pub tall-higher : (s : Bool) (n : Node ℕ) → tall s n ≡ true → suc (child (not s) n).height < (child s n).height
tall-higher s n e = ltb-true (suc (child (not s) n).height) (child s n).height (sym (tall-heights s n) ∙ e)

pub tall-present : (s : Bool) (n : Node ℕ) → tall s n ≡ true → (child s n).height ≡ 0 → ⊥
tall-present s n e z = let less = tall-higher s n e in omega arith

grown-rest : {l : Link ℕ} {held : List (Node ℕ)} (p : Step ℕ) (b : Sub ℕ) → Memᴰ p.node held → Grown l held b → Grown l held (rest p b).sub
grown-rest p b m (grown f g) = grown-seat p.way open-some (open-beside p.way _ (open-given (not p.way) m))

module _ {k : ℕ} {l : Link ℕ} {held : List (Node ℕ)} where
  -- The other side than that where the walk went on: nothing is at hand there.
  other-seeks : (p : Step ℕ) (s : Bool) (n : Node ℕ) (m : Link ℕ) (others : List (Node ℕ)) → Leads l held (side p.was s)
      → Seeks k l (λ r given. Grown l given r.sub) (turn p s n (stub m) others) held
  unfolding single double
  other-seeks p s n m others leads =
      turn-wanted p s n others m leads
      (λ c got. grown-seat s (open-other s _ (open-given s (Memᴰ.head refl))) open-some)
      (λ c g got lean more. grown-seat s open-some open-some)

  -- A step with the way written out.
  grow-turn : (node : Node ℕ) (was : ℕ) (way : Bool) (low high : Option ℕ) (b : Sub ℕ) → Memᴰ node held → node.key ≡ was → Grown l held b → (s : Bool)
      → (let p : Step ℕ = record { node = node; was = was; way = way; low = low; high = high } in
      tall s (with_subtree p b) ≡ true
      → Seeks k l (λ r given. Grown l given r.sub) (turn p s (with_subtree p b) (near_on p b s) (others_of p b s)) held)
  grow-turn node was true low high b m same (grown {n = c} {x = x} {y = y} f g) true e = turn-at-hand _ true _ [] c x y (grown f g)
  grow-turn node was false low high b m same (grown {n = c} {x = x} {y = y} f g) false e = turn-at-hand _ false _ [] c x y (grown f g)
  grow-turn node was true low high b m same g false e = other-seeks _ false _ node.right (nodes_at b) (at_side node m same (tall-present false (with_child true node (link_of b)) e))
  grow-turn node was false low high b m same g true e = other-seeks _ true _ node.left (nodes_at b) (at_side node m same (tall-present true (with_child false node (link_of b)) e))

  grow-seeks : (p : Step ℕ) (b : Sub ℕ) → Fresh held p → Grown l held b → Seeks k l (λ r given. Grown l given r.sub) (raise p b) held
  unfolding raise
  grow-seeks p b f g =
      let turned = grow-turn p.node p.was p.way p.low p.high b f.0 f.1 g in
      yields-when (tall true (with_subtree p b)) (turned true)
      (λ e. yields-when (tall false (with_subtree p b)) (turned false) (λ e. ends (grown-rest p b f.0 g)))

-- ---- the whole way up
pub climb-grows : {k : ℕ} {l : Link ℕ} {held : List (Node ℕ)} (path : List (Step ℕ)) (b : Sub ℕ) (out : List (Node ℕ)) → All (Fresh held) path → Grown l held b
    → Seeks k l (λ r given. Unit {0}) (climb path b out) held
unfolding climb
climb-grows [] b out f g = ends tt
climb-grows (p ∷ path) b out f g =
    yields-then _
    (yields-keep (λ given. All (Fresh given) path) (λ n given h q m. (Memᴰ.tail (h q m).0, (h q m).1)) (λ q m. f q (Memᴰ.tail m))
    (grow-seeks p b (f p (Memᴰ.head refl)) g))
    (λ r given h. climb-grows path r.sub (out ++ r.out) h.1 h.0)
