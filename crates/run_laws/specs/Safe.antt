-- What a program may count on and what it may cost, as statements about programs.
use Rattle.std.specs.Prelude.{◌≡◌, Bool, true, List, ◌∷◌, ℕ, suc}
use Rattle.list_spec.specs.Perm.{Perm}
use Rattle.method_spec.specs.Node.{Node, retag}
use Rattle.method_spec.specs.Prog.{Want, Prog, done, want}

-- A safe run over a collection of nodes: each wanted node is there under its link's key and tag and passes the fetch test,
-- whatever tag it is given; and at the end a statement holds of the result, the nodes fetched (latest first) and those
-- not fetched.
pub data Safe {T A : Type 0} (test : Want T → Node T → Bool) (Post : A → List (Node T) → List (Node T) → Type 0) : Prog T A → List (Node T) → List (Node T) → Type 0 where
  ends : {a : A} {held ns : List (Node T)} → Post a held ns → Safe test Post (done a) held ns
  meets : {w : Want T} {k : Node T → Prog T A} {held ns : List (Node T)} (m : Node T) (others : List (Node T))
      → Perm ns (m ∷ others) → m.key ≡ w.link.key → m.tag ≡ w.link.tag → test w m ≡ true
      → ((d : T) → Safe test Post (k (retag d m)) (retag d m ∷ held) others)
      → Safe test Post (want w k) held ns

-- A program that wants at most n nodes, on any content: each node that it is given passes the fetch test.
pub data Within {T A : Type 0} (test : Want T → Node T → Bool) : ℕ → Prog T A → Type 0 where
  stops : {n : ℕ} {a : A} → Within test n (done a)
  asks : {n : ℕ} {w : Want T} {k : Node T → Prog T A}
      → ((m : Node T) → test w m ≡ true → Within test n (k m)) → Within test (suc n) (want w k)
