-- What a state that passes the test of a fit one has: each cause of an unfit state, ruled out.
use Rattle.std.specs.Prelude.{◌≡◌, refl, Bool, true, false, ◌&&◌, List, [], ◌∷◌, ℕ, zero, suc, ◌+◌, ◌^◌, ◌≤◌, ◌<◌, eqb, ltb, length}
use Rattle.std.proofs.Math.Bool.{and-eq-true_iff}
use Rattle.std.proofs.Common.{arith, pow_pos, eqb-true, ltb-true}
use Rattle.std.proofs.lemmas.Bool.{eqb-false}
use Rattle.list_spec.specs.Choice.{pick}
use Rattle.list_spec.specs.Distinct.{All}
use Rattle.list_laws.specs.DistinctLaws.{all_nil, all_cons}
use Rattle.balance_spec.specs.Shape.{shaped}
use Rattle.balance_laws.specs.ShapeLaws.{shaped-bounds}
use Rattle.balance_laws.specs.GreatestLaws.{shaped-at-most-greatest}
use Rattle.slot_spec.specs.Slot.{well_formed}
use Rattle.slot_spec.specs.declared.Link.{Link}
use Rattle.slot_spec.specs.declared.Ahead.{Ahead}
use Rattle.method_spec.specs.Answer.{Structure, map, stack, heap, queue}
use Rattle.leaf_spec.specs.Convert.{to_link}
use Rattle.round_spec.specs.Round.{stash_limit}
use Rattle.state_spec.specs.declared.Place.{Place}
use Rattle.state_spec.specs.declared.State.{State}
use Rattle.state_spec.specs.Fit.{largest_structure, largest_size, zero_link, all_of, place_good, keys_in, root_good, ahead_good, places_from, used, fits}
use Rattle.state_laws.specs.FitLaws.{fit_parts}
use Rattle.state_spec.specs.Ticket.{structure_of}
use Rattle.list_spec.specs.Ascending.{ascending}
use Rattle.none_lost_laws.specs.Given.{RootFor}
use Rattle.none_lost_laws.specs.Ends.{highest}

-- ---- the places
pub places-length : (n i : ℕ) (ps : List Place) → length (places_from n i ps) ≡ n
unfolding places_from
places-length zero i ps = refl
places-length (suc n) i ps = let more = places-length n (suc i) ps in omega arith

all-of : {A : Type 0} (f : A → Bool) (xs : List A) → all_of f xs ≡ true → All (λ a. f a ≡ true) xs
unfolding all_of
all-of f [] e = all_nil (λ a. f a ≡ true)
all-of f (x ∷ xs) e =
    let both = (and-eq-true_iff (f x) (all_of f xs)).0 e in
    all_cons {P = λ a. f a ≡ true} both.0 (all-of f xs both.1)

-- ---- the root link
zero-link : (l : Link) → zero_link l ≡ true → (l.height ≡ 0) × ((l.key ≡ 0) × (l.tag ≡ 0))
zero-link l e =
    let first = (and-eq-true_iff (eqb l.height 0) (eqb l.key 0 && eqb l.tag 0)).0 e in
    let others = (and-eq-true_iff (eqb l.key 0) (eqb l.tag 0)).0 first.1 in
    (eqb-true l.height 0 first.0, (eqb-true l.key 0 others.0, eqb-true l.tag 0 others.1))

-- A good root link is no higher than a tree of so many entries may be, an absent one is all zero, a heap's leads to position 1, and a queue with entries has one.
pub record RootFits (st : Structure) (k entries : ℕ) (l : Link) : Type 0 where
  pub low : l.height ≤ highest st k
  pub absent-zero : l.height ≡ 0 → (l.key ≡ 0) × (l.tag ≡ 0)
  pub rooted : RootFor st entries (to_link l)

no-root : (st : Structure) (k entries : ℕ) (l : Link) → entries ≡ 0 → zero_link l ≡ true → RootFits st k entries l
no-root st k entries l none h =
    let z = zero-link l h in
    record { low = omega arith; absent-zero = λ absent. z.1; rooted = without st }
  where
    without : (st : Structure) → RootFor st entries (to_link l)
    without map = tt
    without stack = tt
    without heap = λ some. absurd (some none)
    without queue = λ some. absurd (some none)

-- A root of height 1.
one-root : (st : Structure) (k entries : ℕ) (l : Link) → l.height ≡ 1 → 1 ≤ highest st k → RootFor st entries (to_link l) → RootFits st k entries l
one-root st k entries l one high rooted =
    record { low = omega arith; absent-zero = λ absent. let z : ⊥ = omega arith in absurd z; rooted = rooted }

root-fits : (k structure entries next : ℕ) (l : Link) → entries < 2 ^ k → root_good structure entries next l ≡ true
    → RootFits (structure_of structure) k entries l
unfolding root_good highest
root-fits k structure entries next l few good =
    go (eqb entries 0) refl (eqb structure 1) refl (eqb structure 2) refl (eqb structure 3) refl (eqb structure 4) refl good
  where
    go : (none : Bool) → eqb entries 0 ≡ none → (is-map : Bool) → eqb structure 1 ≡ is-map → (is-stack : Bool) → eqb structure 2 ≡ is-stack
        → (is-heap : Bool) → eqb structure 3 ≡ is-heap → (is-queue : Bool) → eqb structure 4 ≡ is-queue
        → pick none (zero_link l)
        (pick is-map (shaped entries l.height)
        (eqb l.height 1 && pick is-queue (eqb (l.key + entries) next) (eqb l.key (pick is-stack entries 1)))) ≡ true
        → RootFits (pick is-map map (pick is-stack stack (pick is-heap heap queue))) k entries l
    go true e m em s es h eh q eq good = no-root (pick m map (pick s stack (pick h heap queue))) k entries l (eqb-true entries 0 e) good
    go false e true em s es h eh q eq good =
        record {
          low = shaped-at-most-greatest k entries l.height good few;
          absent-zero = λ absent.
              let some = eqb-false entries 0 e in
              let below : entries < 2 ^ 0 = rw absent at (shaped-bounds entries l.height good).1 in
              absurd (some (omega arith));
          rooted = tt;
        }
    go false e false em true es h eh q eq good =
        one-root stack k entries l (eqb-true l.height 1 ((and-eq-true_iff (eqb l.height 1) _).0 good).0) (omega arith) tt
    go false e false em false es true eh true eq good =
        let three = eqb-true structure 3 eh in
        let four = eqb-true structure 4 eq in
        absurd (omega arith)
    go false e false em false es true eh false eq good =
        let both = (and-eq-true_iff (eqb l.height 1) (eqb l.key 1)).0 good in
        let one = eqb-true l.height 1 both.0 in
        one-root heap k entries l one (omega arith) (λ some. (λ (z : l.height ≡ 0). omega arith, eqb-true l.key 1 both.1))
    go false e false em false es false eh q eq good =
        let one = eqb-true l.height 1 ((and-eq-true_iff (eqb l.height 1) _).0 good).0 in
        one-root queue k entries l one (omega arith) (λ some (z : l.height ≡ 0). omega arith)

-- ---- what is known ahead
ahead-fits : (structure k entries : ℕ) (a : Ahead) → ahead_good structure k entries a ≡ true → a.tag < 2 ^ k
unfolding ahead_good
ahead-fits structure k entries a good = go (eqb structure 4) (eqb entries 0) good
  where
    zero-tag : a.tag ≡ 0 → a.tag < 2 ^ k
    zero-tag e = omega (arith, pow_pos k)

    go : (is-queue none : Bool)
        → pick is-queue (pick none (eqb a.tag 0) (ltb a.tag (2 ^ k))) (eqb a.key 0 && eqb a.tag 0) ≡ true → a.tag < 2 ^ k
    go true true e = zero-tag (eqb-true a.tag 0 e)
    go true false e = ltb-true a.tag (2 ^ k) e
    go false none e = zero-tag (eqb-true a.tag 0 ((and-eq-true_iff (eqb a.key 0) (eqb a.tag 0)).0 e).1)

-- ---- the state
pub record FitState (s : State) : Type 0 where
  pub structure : (1 ≤ s.structure) × (s.structure ≤ largest_structure)
  pub size : (1 ≤ s.size) × (s.size ≤ largest_size)
  pub entries : s.entries < 2 ^ s.size
  pub few : s.count ≤ stash_limit
  pub well-formed : All (λ (p : Place). well_formed s.size p.node ≡ true) (used s)
  pub order : ascending (keys_in (used s)) ≡ true
  pub root-tag : s.root.tag < 2 ^ s.size
  pub low : s.root.height ≤ highest (structure_of s.structure) s.size
  pub absent-zero : s.root.height ≡ 0 → (s.root.key ≡ 0) × (s.root.tag ≡ 0)
  pub rooted : RootFor (structure_of s.structure) s.entries (to_link s.root)
  pub ahead-tag : s.ahead.tag < 2 ^ s.size

pub fit-state : (s : State) → fits s ≡ true → FitState s
fit-state s e =
    let f = fit_parts s e in
    let head = f.0 in
    let h = (and-eq-true_iff (all_of (place_good s.size) (used s)) _).0 f.1 in
    let good = all-of (place_good s.size) (used s) h.0 in
    let few : s.entries < 2 ^ s.size = omega (arith, head.few, pow_pos s.size) in
    let root = root-fits s.size s.structure s.entries s.ahead.key s.root few head.rooted in
    record {
      structure = head.structures;
      size = head.sizes;
      entries = few;
      few = head.waiting;
      well-formed = λ p m. ((and-eq-true_iff p.full (well_formed s.size p.node)).0 (good p m)).1;
      order = ((and-eq-true_iff (ascending (keys_in (used s))) _).0 h.1).0;
      root-tag = head.root-tag;
      low = root.low;
      absent-zero = root.absent-zero;
      rooted = root.rooted;
      ahead-tag = ahead-fits s.structure s.size s.entries s.ahead head.known;
    }
