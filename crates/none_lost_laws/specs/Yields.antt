-- What a program makes of the nodes that it is given, on any content: each link that it follows is in order, and where each node that it is
-- given is in order too, a statement holds of its result and of those nodes.
use Rattle.std.specs.Prelude.{◌≡◌, refl, Bool, true, false, List, ◌∷◌}
use Rattle.list_spec.specs.Choice.{pick}
use Rattle.method_spec.specs.Node.{Node}
use Rattle.method_spec.specs.Prog.{Want, Prog, done, want, bind}

-- `Asks` holds of each want and the nodes given before, and if `Gets` holds of each want and the node given for it, then `Post` of the result
-- and of the nodes given, latest first.
pub data Yields {T A : Type 0} (Asks : Want T → List (Node T) → Type 0) (Gets : Want T → Node T → Type 0) (Post : A → List (Node T) → Type 0) : Prog T A → List (Node T) → Type 0 where
  ends : {a : A} {held : List (Node T)} → Post a held → Yields Asks Gets Post (done a) held
  asks : {w : Want T} {k : Node T → Prog T A} {held : List (Node T)}
      → Asks w held → ((n : Node T) → Gets w n → Yields Asks Gets Post (k n) (n ∷ held)) → Yields Asks Gets Post (want w k) held

module _ {T : Type 0} {Asks : Want T → List (Node T) → Type 0} {Gets : Want T → Node T → Type 0} where
  module _ {A : Type 0} {Post : A → List (Node T) → Type 0} where
    -- A weaker statement of the end.
    pub yields-map : {Post' : A → List (Node T) → Type 0} {p : Prog T A} {held : List (Node T)}
        → ((a : A) (h : List (Node T)) → Post a h → Post' a h) → Yields Asks Gets Post p held → Yields Asks Gets Post' p held
    yields-map weaker (ends {a} {held} post) = ends (weaker a held post)
    yields-map weaker (asks right next) = asks right (λ n got. yields-map weaker (next n got))

    -- A program that is done.
    pub yields-done : {a : A} {held : List (Node T)} → Yields Asks Gets Post (done a) held → Post a held
    yields-done (ends post) = post

    -- What more nodes keep still holds at the end.
    pub yields-keep : (Keeps : List (Node T) → Type 0) → ((n : Node T) (h : List (Node T)) → Keeps h → Keeps (n ∷ h))
        → {p : Prog T A} {held : List (Node T)} → Keeps held → Yields Asks Gets Post p held → Yields Asks Gets (λ a h. Post a h × Keeps h) p held
    yields-keep Keeps more k (ends post) = ends (post, k)
    yields-keep Keeps more k (asks {held = held} right next) = asks right (λ n got. yields-keep Keeps more (more n held k) (next n got))

    -- The arm that a test takes.
    pub yields-when : (t : Bool) {p q : Prog T A} {held : List (Node T)}
        → (t ≡ true → Yields Asks Gets Post p held) → (t ≡ false → Yields Asks Gets Post q held) → Yields Asks Gets Post (pick t p q) held
    yields-when true x y = x refl
    yields-when false x y = y refl

    -- Either arm of a choice.
    pub yields-pick : (t : Bool) {p q : Prog T A} {held : List (Node T)}
        → Yields Asks Gets Post p held → Yields Asks Gets Post q held → Yields Asks Gets Post (pick t p q) held
    yields-pick true x y = x
    yields-pick false x y = y

  module _ {A B : Type 0} {Mid : A → List (Node T) → Type 0} {Post : B → List (Node T) → Type 0} where
    -- A program that goes on from what another one yields.
    pub yields-then : (f : A → Prog T B) {p : Prog T A} {held : List (Node T)}
        → Yields Asks Gets Mid p held → ((a : A) (h : List (Node T)) → Mid a h → Yields Asks Gets Post (f a) h)
        → Yields Asks Gets Post (bind p f) held
    unfolding bind
    yields-then f (ends {a} {held} mid) next = next a held mid
    yields-then f (asks right more) next = asks right (λ n got. yields-then f (more n got) next)

-- Two statements at once.
pub yields_both : {T A : Type 0} {Asks Asks' : Want T → List (Node T) → Type 0} {Gets : Want T → Node T → Type 0} {Post Post' : A → List (Node T) → Type 0}
    {p : Prog T A} {held : List (Node T)} → Yields Asks Gets Post p held → Yields Asks' Gets Post' p held
    → Yields (λ w h. Asks w h × Asks' w h) Gets (λ a h. Post a h × Post' a h) p held
yields_both (ends post) (ends post') = ends (post, post')
yields_both (asks right next) (asks right' next') = asks (right, right') (λ n got. yields_both (next n got) (next' n got))
