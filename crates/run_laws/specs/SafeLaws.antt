-- Laws of safe runs and of what a program may cost: both go along `bind`, and weaken.
use Rattle.std.specs.Prelude.{◌≡◌, refl, Bool, true, false, List, ℕ, zero, suc, ◌+◌, ◌≤◌}
use Rattle.std.proofs.Common.{suc-add, arith}
use Rattle.list_spec.specs.Choice.{pick}
use Rattle.list_spec.specs.Perm.{Perm, trans}
use Rattle.list_laws.specs.PermLaws.{perm-sym}
use Rattle.method_spec.specs.Node.{Node}
use Rattle.method_spec.specs.Prog.{Want, Prog, done, want, bind}
use Rattle.run_laws.specs.Safe.{Safe, ends, meets, Within, stops, asks}

module _ {T : Type 0} {test : Want T → Node T → Bool} where
  -- ---- safe runs

  module _ {A : Type 0} {Post Post' : A → List (Node T) → List (Node T) → Type 0} where
    -- A weaker statement of the end.
    pub safe-map : {p : Prog T A} {held ns : List (Node T)}
        → ((a : A) (h m : List (Node T)) → Post a h m → Post' a h m) → Safe test Post p held ns → Safe test Post' p held ns
    safe-map weaker (ends {a} {held} {ns} post) = ends (weaker a held ns post)
    safe-map weaker (meets m others there key tag passed next) =
        meets m others there key tag passed (λ d. safe-map weaker (next d))

  module _ {A B : Type 0} {Post : B → List (Node T) → List (Node T) → Type 0} where
    -- A safe program, from whose every end another one goes on safely.
    pub safe-bind : (f : A → Prog T B) {p : Prog T A} {held ns : List (Node T)}
        → Safe test (λ a h m. Safe test Post (f a) h m) p held ns → Safe test Post (bind p f) held ns
    unfolding bind
    safe-bind f (ends s) = s
    safe-bind f (meets m others there key tag passed next) =
        meets m others there key tag passed (λ d. safe-bind f (next d))

    -- The same, from a statement of the first program's end.
    pub safe-then : {Mid : A → List (Node T) → List (Node T) → Type 0} (f : A → Prog T B) {p : Prog T A} {held ns : List (Node T)}
        → Safe test Mid p held ns → ((a : A) (h m : List (Node T)) → Mid a h m → Safe test Post (f a) h m)
        → Safe test Post (bind p f) held ns
    safe-then f s next = safe-bind f (safe-map next s)

  module _ {A : Type 0} {Post : A → List (Node T) → List (Node T) → Type 0} where
    -- A choice by a test is safe where both arms are.
    pub safe-pick : (t : Bool) {p q : Prog T A} {held ns : List (Node T)}
        → (t ≡ true → Safe test Post p held ns) → (t ≡ false → Safe test Post q held ns) → Safe test Post (pick t p q) held ns
    safe-pick true f g = f refl
    safe-pick false f g = g refl

    -- The order of the nodes not fetched does not matter.
    pub safe-perm : {p : Prog T A} {held ns ms : List (Node T)}
        → ((a : A) (h xs ys : List (Node T)) → Perm xs ys → Post a h xs → Post a h ys)
        → Perm ns ms → Safe test Post p held ns → Safe test Post p held ms
    safe-perm {ms = ms} closed r (ends {a} {held} {ns} post) = ends (closed a held ns ms r post)
    safe-perm closed r (meets m others there key tag passed next) =
        meets m others (trans (perm-sym r) there) key tag passed next

-- ---- the number of nodes that a program wants

-- Within a bound; and where the program is done, a statement holds of the result and of what is left of the bound.
pub data WithinTo {T A : Type 0} (test : Want T → Node T → Bool) (Left : A → ℕ → Type 0) : ℕ → Prog T A → Type 0 where
  stops-with : {n : ℕ} {a : A} → Left a n → WithinTo test Left n (done a)
  asks-with : {n : ℕ} {w : Want T} {k : Node T → Prog T A}
      → ((m : Node T) → test w m ≡ true → WithinTo test Left n (k m)) → WithinTo test Left (suc n) (want w k)

module _ {T A : Type 0} {test : Want T → Node T → Bool} where
  -- A larger bound.
  pub within_more : {n m : ℕ} {p : Prog T A} → n ≤ m → Within test n p → Within test m p
  within_more h stops = stops
  within_more {m = zero} h (asks next) = let z : ⊥ = omega arith in absurd z
  within_more {m = suc m} h (asks {n = n} next) =
      let less : n ≤ m = omega arith in asks (λ a passed. within_more less (next a passed))

  -- Either arm of a choice.
  pub within-pick : {n : ℕ} {p q : Prog T A} (b : Bool) → Within test n p → Within test n q → Within test n (pick b p q)
  within-pick true x y = x
  within-pick false x y = y

  pub within_to-more : {Left : A → ℕ → Type 0} {n m : ℕ} {p : Prog T A}
      → ((a : A) (i j : ℕ) → i ≤ j → Left a i → Left a j) → n ≤ m → WithinTo test Left n p → WithinTo test Left m p
  within_to-more {m = m} up h (stops-with {n} {a} left) = stops-with (up a n m h left)
  within_to-more {m = zero} up h (asks-with next) = let z : ⊥ = omega arith in absurd z
  within_to-more {m = suc m} up h (asks-with {n = n} next) =
      let less : n ≤ m = omega arith in asks-with (λ a passed. within_to-more up less (next a passed))

  pub within_to-map : {Left Left' : A → ℕ → Type 0} {n : ℕ} {p : Prog T A}
      → ((a : A) (m : ℕ) → Left a m → Left' a m) → WithinTo test Left n p → WithinTo test Left' n p
  within_to-map weaker (stops-with {n} {a} left) = stops-with (weaker a n left)
  within_to-map weaker (asks-with next) = asks-with (λ m passed. within_to-map weaker (next m passed))

  -- What a bound leaves of a larger one.
  pub within-left : {n : ℕ} (m : ℕ) {p : Prog T A} → Within test n p → WithinTo test (λ a left. m ≤ left) (n + m) p
  within-left m (stops {n = n}) = let enough : m ≤ n + m = omega arith in stops-with enough
  within-left m (asks {n = n} next) =
      rw suc-add (asks-with (λ a passed. within-left m (next a passed)))

module _ {T A B : Type 0} {test : Want T → Node T → Bool} where
  -- A program that goes on with what is left of the bound.
  pub within_to-bind : {Left : A → ℕ → Type 0} {Left' : B → ℕ → Type 0} {n : ℕ} (f : A → Prog T B) {p : Prog T A}
      → WithinTo test Left n p → ((a : A) (m : ℕ) → Left a m → WithinTo test Left' m (f a)) → WithinTo test Left' n (bind p f)
  unfolding bind
  within_to-bind f (stops-with {n} {a} left) next = next a n left
  within_to-bind f (asks-with more) next = asks-with (λ m passed. within_to-bind f (more m passed) next)

  pub within_to-then : {Left : A → ℕ → Type 0} {n : ℕ} (f : A → Prog T B) {p : Prog T A}
      → WithinTo test Left n p → ((a : A) (m : ℕ) → Left a m → Within test m (f a)) → Within test n (bind p f)
  unfolding bind
  within_to-then f (stops-with {n} {a} left) next = next a n left
  within_to-then f (asks-with more) next = asks (λ m passed. within_to-then f (more m passed) next)

  pub within-bind : {n m : ℕ} (f : A → Prog T B) {p : Prog T A}
      → Within test n p → ((a : A) → Within test m (f a)) → Within test (n + m) (bind p f)
  within-bind {m = m} f p next = within_to-then f (within-left m p) (λ a left h. within_more h (next a))

  pub within-map : {n : ℕ} (f : A → B) {p : Prog T A} → Within test n p → Within test n (bind p (λ a. done (f a)))
  unfolding bind
  within-map f stops = stops
  within-map f (asks next) = asks (λ m passed. within-map f (next m passed))
