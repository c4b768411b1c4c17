-- Laws of programs on the nodes fetched so far: a program and what follows it.
use Rattle.std.specs.Prelude.{◌≡◌, Bool, true, false, ℕ, Result, Ok, Err, IsErr, IsErrAnd, MatchResult}
use Rattle.std.proofs.Math.Path.{refl, sym, subst}
use mathlib.Core.List.{List, [], ◌∷◌}
use Rattle.list_spec.specs.Choice.{pick}
use Rattle.method_spec.specs.Node.{Link, Node}
use Rattle.method_spec.specs.Prog.{Want, Prog, done, want, bind, after}
use Rattle.method_spec.specs.Outcome.{Outcome}
use Rattle.operation_spec.specs.Method.{wanted_in, outcome_in}
use Rattle.operations.specs.Resume.{Resumed, missing, finished, resume, Ends, follow, wanted_of, outcome_of}

module _ {T A : Type 0} where
  pub resume-done : (a : A) (ns : List (Node T)) → resume (done a) ns ≡ finished a ns
  unfolding resume
  resume-done a ns = refl

  pub resume-want : (w : Want T) (k : Node T → Prog T A) (n : Node T) (ns : List (Node T)) → resume (want w k) (n ∷ ns) ≡ resume (k n) ns
  unfolding resume
  resume-want w k n ns = refl

  pub resume-missing : (w : Want T) (k : Node T → Prog T A) → resume (want w k) [] ≡ missing w
  unfolding resume
  resume-missing w k = refl

  pub ends-done : (P : A → List (Node T) → Type 0) (a : A) (ns : List (Node T)) → P a ns → Ends P (resume (done a) ns)
  unfolding resume
  ends-done P a ns h = h

  pub ends_more : {P Q : A → List (Node T) → Type 0} → ((a : A) (ns : List (Node T)) → P a ns → Q a ns) → (r : Resumed T A) → Ends P r → Ends Q r
  ends_more f (missing w) h = tt
  ends_more f (finished a ns) h = f a ns h

  pub ends-pick : (P : A → List (Node T) → Type 0) (t : Bool) (p q : Prog T A) (ns : List (Node T))
      → Ends P (resume p ns) → Ends P (resume q ns) → Ends P (resume (pick t p q) ns)
  ends-pick P true p q ns h k = h
  ends-pick P false p q ns h k = k

module _ {T A B : Type 0} where
  pub resume-bind : (p : Prog T A) (f : A → Prog T B) (ns : List (Node T))
      → resume (bind p f) ns ≡ follow (resume p ns) (λ a rest. resume (f a) rest)
  unfolding resume bind
  resume-bind (done a) f ns = refl
  resume-bind (want w k) f [] = refl
  resume-bind (want w k) f (n ∷ ns) = resume-bind (k n) f ns

  pub resume-map : (p : Prog T A) (f : A → B) (ns : List (Node T))
      → resume (bind p (λ a. done (f a))) ns ≡ follow (resume p ns) (λ a rest. finished (f a) rest)
  unfolding resume
  resume-map p f ns = resume-bind p (λ a. done (f a)) ns

  pub ends-bind : (Q : B → List (Node T) → Type 0) (p : Prog T A) (f : A → Prog T B) (ns : List (Node T))
      → Ends (λ a rest. Ends Q (resume (f a) rest)) (resume p ns) → Ends Q (resume (bind p f) ns)
  ends-bind Q p f ns h = rw (resume-bind p f ns) (go (resume p ns) h)
    where
      go : (r : Resumed T A) → Ends (λ a rest. Ends Q (resume (f a) rest)) r → Ends Q (follow r (λ a rest. resume (f a) rest))
      go (missing w) h = tt
      go (finished a rest) h = h

-- What a program wants after some nodes, and what it comes to.
pub wanted-after : {A : Type 0} (p : Prog ℕ A) (ns : List (Node ℕ)) → wanted_in (after p ns) ≡ wanted_of (resume p ns)
unfolding after resume
wanted-after (done a) ns = refl
wanted-after (want w k) [] = refl
wanted-after (want w k) (n ∷ ns) = wanted-after (k n) ns

pub outcome-after : (l : Link ℕ) (entries : ℕ) (p : Prog ℕ (Outcome ℕ)) (ns : List (Node ℕ)) → outcome_in l entries (after p ns) ≡ outcome_of l entries (resume p ns)
unfolding after resume
outcome-after l entries (done a) ns = refl
outcome-after l entries (want w k) [] = refl
outcome-after l entries (want w k) (n ∷ ns) = outcome-after l entries (k n) ns

-- What `?` hands on.
pub handed-on : {R E : Type 0} (P : R → Type 0) (Q : E → Type 0) (r : Result R E) {e : E} → IsErr r × IsErrAnd r (λ x. x ≡ e) → Q e
    → MatchResult r P Q
handed-on P Q (Ok x) h q = absurd h.1
handed-on P Q (Err x) h q = subst Q (sym h.1) q
