-- The fetch rounds of a call over a kept store, and its put rounds: they do what the method's fetches do, or one of them meets overflow.
use Rattle.std.specs.Prelude.{◌≡◌, refl, List, [], ◌∷◌, ◌++◌}
use Rattle.std.proofs.Common.{sym, ◌∙◌, ap, append-nil, append_assoc}
use Rattle.std.proofs.Math.Path.{subst}
use Prim.Native.Nat.{ℕ, zero, suc, ◌^◌, ◌<◌}
use Rattle.method_spec.specs.Node.{Node, retag}
use Rattle.method_spec.specs.Prog.{Prog, done, want}
use Rattle.method_spec.specs.Answer.{Structure}
use Rattle.method_spec.specs.Plain.{Pair}
use Rattle.method_spec.specs.Outcome.{Outcome}
use Rattle.method_spec.specs.Call.{test, Fetched, fetches, draws_from}
use Rattle.run_laws.specs.Safe.{Safe}
use Rattle.run_laws.specs.Fetches.{Unordered, safe-round, fetches-found}
use Rattle.bucket_call_spec.specs.Fetch.{Going, Round, on, shut, idle_round, fetch_round, fetch_rounds}
use Rattle.bucket_call_spec.specs.Call.{put_rounds}
use Rattle.simulation_laws.specs.Relation.{Stands, Few}
use Rattle.simulation_laws.specs.RoundSim.{Went, went, overflowed, stands-distinct, idle-went, want-went}

-- ---- a round, and then others

module _ {A : Type 0} {k : ℕ} {all : List Pair} {q r : Prog ℕ A} {ns ms : List (Node ℕ)} where
  -- x is the first round's end, y that of all of them, which is x where x closes the store.
  then-went : (leaf : ℕ) (before more : List ℕ) (x y : Round A) (later : Going → Round A)
      → ((mark : ℕ) (h : Going) → x ≡ shut mark h → y ≡ shut mark h) → ((h : Going) → x ≡ on h q → y ≡ later h)
      → Went k all q ns (before ++ (leaf ∷ [])) x
      → ((h : Going) → Stands k all h ns → Few h → Went k all r ms (h.leaves ++ more) (later h))
      → Went k all r ms (before ++ (leaf ∷ more)) y
  then-went leaf before more x y later closes goes first others = go x refl first
    where
      joined : (before ++ (leaf ∷ [])) ++ more ≡ before ++ (leaf ∷ more)
      joined = append_assoc before (leaf ∷ []) more

      go : (z : Round A) → x ≡ z → Went k all q ns (before ++ (leaf ∷ [])) z → Went k all r ms (before ++ (leaf ∷ more)) y
      go z e (went h st few shown) =
          rw (goes h e)
          (subst (λ (ls : List ℕ). Went k all r ms ls (later h))
          (ap (λ (ls : List ℕ). ls ++ more) shown ∙ joined) (others h st few))
      go z e (overflowed h left rest st many shown) =
          rw (closes 9 h e)
          (overflowed h left (rest ++ more) st many
          (sym joined ∙ ap (λ (ls : List ℕ). ls ++ more) shown ∙ append_assoc h.leaves rest more))

-- ---- the fetch rounds

-- Rounds from g came to what the method's fetches say.
abbrev pub WentAs : {A : Type 0} → (k : ℕ) → List Pair → Going → Fetched ℕ A → Round A → Type 0
WentAs k all g f r = Went k all f.prog f.nodes (g.leaves ++ f.revealed) r

module _ {A : Type 0} (s : Structure) (entries k : ℕ) (draw : ℕ → ℕ) (n i : ℕ) (p : Prog ℕ A) (g : Going) where
  fetches-shut : (mark : ℕ) (h : Going) → fetch_round s entries k (draw i) p g ≡ shut mark h → fetch_rounds s entries k draw (suc n) i p g ≡ shut mark h
  unfolding fetch_rounds
  fetches-shut mark h e = rw e

  fetches-on : (q : Prog ℕ A) (h : Going) → fetch_round s entries k (draw i) p g ≡ on h q
      → fetch_rounds s entries k draw (suc n) i p g ≡ fetch_rounds s entries k draw n (suc i) q h
  unfolding fetch_rounds
  fetches-on q h e = rw e

module _ {A : Type 0} (s : Structure) (entries k : ℕ) (draw : ℕ → ℕ) (leaves : (d : ℕ) → draw d < 2 ^ k)
    {Post : A → List (Node ℕ) → List (Node ℕ) → Type 0} (unordered : Unordered Post) {all : List Pair} where
  -- A safe program from a store that stands for the nodes: n rounds are n of the method's fetches.
  pub fetches-went : (n i : ℕ) (p : Prog ℕ A) (g : Going) {held ns : List (Node ℕ)} → Few g → Stands k all g ns
      → Safe (test s entries) Post p held ns → WentAs k all g (fetches draw n i p ns) (fetch_rounds s entries k draw n i p g)
  unfolding fetches fetch_rounds fetch_round
  fetches-went zero i p g few st safe = went g st few (sym (append-nil g.leaves))
  fetches-went (suc n) i (done a) g {held} {ns} few st safe =
      then-went (draw i) g.leaves (fetches draw n (suc i) (done a) ns).revealed
      (fetch_round s entries k (draw i) (done a) g) (fetch_rounds s entries k draw (suc n) i (done a) g) (fetch_rounds s entries k draw n (suc i) (done a))
      (fetches-shut s entries k draw n i (done a) g) (fetches-on s entries k draw n i (done a) g (done a))
      (idle-went st (draw i) (leaves i) (done a))
      (λ h st few. fetches-went n (suc i) (done a) h few st safe)
  fetches-went (suc n) i (want w c) g {held} {ns} few st safe =
      let m = safe-round unordered (stands-distinct st) safe in
      let q = c (retag (draw i) m.node) in
      subst (λ (f : Fetched ℕ A). WentAs k all g f (fetch_rounds s entries k draw (suc n) i (want w c) g))
      (sym (fetches-found draw n i w c ns m.taken))
      (then-went w.link.tag g.leaves (fetches draw n (suc i) q m.others).revealed
      (fetch_round s entries k (draw i) (want w c) g) (fetch_rounds s entries k draw (suc n) i (want w c) g) (fetch_rounds s entries k draw n (suc i) q)
      (fetches-shut s entries k draw n i (want w c) g) (fetches-on s entries k draw n i (want w c) g q)
      (want-went st s entries (draw i) w c m)
      (λ h st few. fetches-went n (suc i) q h few st (m.next (draw i))))

-- ---- the put rounds

module _ (k : ℕ) (draw : ℕ → ℕ) (n d : ℕ) (o : Outcome ℕ) (g : Going) where
  puts-shut : (mark : ℕ) (h : Going) → idle_round k (draw d) (done o) g ≡ shut mark h → put_rounds k draw (suc n) d o g ≡ shut mark h
  unfolding put_rounds
  puts-shut mark h e = rw e

  puts-on : (h : Going) → idle_round k (draw d) (done o) g ≡ on h (done o) → put_rounds k draw (suc n) d o g ≡ put_rounds k draw n (suc d) o h
  unfolding put_rounds
  puts-on h e = rw e

module _ (k : ℕ) (draw : ℕ → ℕ) (leaves : (d : ℕ) → draw d < 2 ^ k) (o : Outcome ℕ) {all : List Pair} {ns : List (Node ℕ)} where
  -- n put rounds reveal their draws. The first of them closes with few that wait.
  pub puts-went : (n d : ℕ) (g : Going) → (n ≡ 0 → Few g) → Stands k all g ns
      → Went k all (done o) ns (g.leaves ++ draws_from draw n d) (put_rounds k draw n d o g)
  unfolding draws_from put_rounds
  puts-went zero d g few st = went g st (few refl) (sym (append-nil g.leaves))
  puts-went (suc n) d g few st =
      then-went (draw d) g.leaves (draws_from draw n (suc d))
      (idle_round k (draw d) (done o) g) (put_rounds k draw (suc n) d o g) (put_rounds k draw n (suc d) o)
      (puts-shut k draw n d o g) (puts-on k draw n d o g)
      (idle-went st (draw d) (leaves d) (done o))
      (λ h st few. puts-went n (suc d) h (λ e. few) st)
