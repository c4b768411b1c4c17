-- The answers of a list of calls are the plain machine's, of any structure whose programs are safe and step as it does.
use Rattle.std.specs.Prelude.{◌≡◌, refl, ℕ, suc}
use Rattle.std.proofs.Common.{◌∙◌, ap₂}
use Rattle.std.proofs.Math.Path.{ap}
use mathlib.Core.List.{List, [], ◌∷◌, ◌++◌, map}
use Rattle.std.proofs.Math.Option.{Option, some}
use Rattle.list_spec.specs.Perm.{Perm}
use Rattle.list_laws.specs.PermLaws.{perm-append-left}
use Rattle.list_spec.specs.Distinct.{Distinct}
use Rattle.method_spec.specs.Node.{Node, Link, Ahead}
use Rattle.method_spec.specs.Answer.{Structure, Op, Answer}
use Rattle.method_spec.specs.Plain.{Contents, Said, plain, plain_contents, plain_answers}
use Rattle.method_spec.specs.Outcome.{Outcome}
use Rattle.method_spec.specs.Call.{program, ahead_after, spare_tags, test, Memory, call, run}
use Rattle.run_laws.specs.Safe.{Safe, Within}
use Rattle.run_laws.specs.SafeLaws.{safe-map}
use Rattle.run_laws.specs.Fetches.{keys, Unordered}
use Rattle.run_laws.specs.Calls.{memory_of, ahead_tags, given_tags, Retagged, Keeps, Stepped, Unqueued, safe-call}

module _ {T : Type 0} where
  -- What a step must come to, where the plain machine said that and `a` is known ahead after it: the memory holds what the plain machine
  -- holds, the answer is its answer, and the tags are those of the nodes fetched and the ones given.
  pub record StepsTo {s : Structure} (Holds : Contents s → Memory T → Type 0) (said : Said s) (given : List T) (a : Ahead T)
      (o : Outcome T) (held ns : List (Node T)) : Type 0 where
    pub contents : Holds said.contents (memory_of a o ns)
    pub answers : o.answer ≡ said.answer
    pub retagged : Retagged given (ahead_tags s o.entries a) held o

  -- What a structure supplies: a relation between what the plain machine holds and memories under which every program is
  -- safe, takes no more than `rounds` nodes, and steps as the plain machine does.
  pub record Represents (s : Structure) (nil : T) (rounds limit : ℕ) (Holds : Contents s → Memory T → Type 0) : Type 0 where
    pub unordered : (t : Contents s) (entries : ℕ) (root : Link T) (a : Ahead T) (xs ys : List (Node T)) → Perm xs ys
        → Holds t (record { entries = entries; root = root; ahead = a; nodes = xs }) → Holds t (record { entries = entries; root = root; ahead = a; nodes = ys })
    pub distinct-keys : (t : Contents s) (m : Memory T) → Holds t m → Distinct (keys m.nodes)
    pub within : (t : Contents s) (m : Memory T) → Holds t m → (op : Op s) (spares : ℕ → T)
        → Within (test s m.entries) rounds (program nil op spares limit m.entries m.ahead m.root)
    pub safe : (t : Contents s) (m : Memory T) → Holds t m → (op : Op s) (spares : ℕ → T)
        → Safe (test s m.entries) (StepsTo Holds (plain limit op t) (given_tags s m spares) (ahead_after nil op spares limit m.entries m.ahead))
        (program nil op spares limit m.entries m.ahead m.root) [] m.nodes

  module _ {s : Structure} {nil : T} {rounds limit : ℕ} {Holds : Contents s → Memory T → Type 0} (represents : Represents s nil rounds limit Holds) where
    pub represents-keeps : Keeps s nil rounds limit (λ m. (t : Contents s) × Holds t m)
    represents-keeps =
        record {
          unordered = λ entries root a xs ys p h. (h.0, represents.unordered h.0 entries root a xs ys p h.1);
          distinct-keys = λ m h. represents.distinct-keys h.0 m h.1;
          within = λ m h. represents.within h.0 m h.1;
          safe = λ m h op spares. safe-map
              (λ o held ns after. (((plain limit op h.0).contents, after.contents), after.retagged))
              (represents.safe h.0 m h.1 op spares);
        }

    represents-unordered : (said : Said s) (given : List T) (a : Ahead T) → Unordered (StepsTo Holds said given a)
    represents-unordered said given a o held xs ys p h =
        record {
          contents =
              represents.unordered said.contents o.entries o.root a (o.nodes ++ xs) (o.nodes ++ ys)
              (perm-append-left o.nodes p) h.contents;
          answers = h.answers;
          retagged = h.retagged;
        }

    pub represents-call : (t : Contents s) (op : Op s) (draw : ℕ → T) (m : Memory T) → Holds t m
        → Stepped s (StepsTo Holds (plain limit op t) (given_tags s m (spare_tags rounds draw)) (ahead_after nil op (spare_tags rounds draw) limit m.entries m.ahead))
        (ahead_after nil op (spare_tags rounds draw) limit m.entries m.ahead) rounds draw m (call nil rounds limit op draw m)
    represents-call t op draw m h =
        let spares = spare_tags rounds draw in
        let a = ahead_after nil op spares limit m.entries m.ahead in
        safe-call nil rounds limit (represents-unordered (plain limit op t) (given_tags s m spares) a) op draw m (represents.distinct-keys t m h)
        (represents.within t m h op spares) (represents.safe t m h op spares)

    -- Every call is answered, as the plain machine answers, and the memory holds what it holds.
    pub run-answers : (draw : ℕ → ℕ → T) (c : ℕ) (ops : List (Op s)) (t : Contents s) (m : Memory T) → Holds t m
        → ((run nil rounds limit draw c ops m).answers ≡ map some (plain_answers limit ops t))
        × Holds (plain_contents limit ops t) (run nil rounds limit draw c ops m).memory
    unfolding run plain_answers plain_contents
    run-answers draw c [] t m h = (refl, h)
    run-answers draw c (op ∷ ops) t m h =
        let r = represents-call t op (draw c) m h in
        let after : Holds (plain limit op t).contents (call nil rounds limit op (draw c) m).memory = rw r.remembers r.holds.contents in
        let later = run-answers draw (suc c) ops (plain limit op t).contents (call nil rounds limit op (draw c) m).memory after in
        (ap₂ (λ (a : Option Answer) (l : List (Option Answer)). a ∷ l) (r.answers ∙ ap some r.holds.answers) later.0, later.1)

    -- A structure that is no queue keeps what is known ahead as it was.
    pub represents-unqueued : Unqueued T s → (a : Ahead T) → Represents s nil rounds limit (λ t m. Holds t m × (m.ahead ≡ a))
    represents-unqueued unqueued a =
        record {
          unordered = λ t entries root b xs ys p h. (represents.unordered t entries root b xs ys p h.0, h.1);
          distinct-keys = λ t m h. represents.distinct-keys t m h.0;
          within = λ t m h. represents.within t m h.0;
          safe = λ t m h op spares. safe-map
              (λ o held ns after. record {
                contents = (after.contents, unqueued nil op spares limit m.entries m.ahead ∙ h.1);
                answers = after.answers;
                retagged = after.retagged;
              })
              (represents.safe t m h.0 op spares);
        }
