-- A safe program in fetch rounds: each round finds the node that is wanted, and enough rounds bring the program to its end.
use Rattle.std.specs.Prelude.{◌≡◌, Bool, true, false, eqb}
use Rattle.std.proofs.Math.Path.{refl, ap}
use Rattle.std.proofs.Common.{sym, ◌∙◌, subst, ⊎_elim, eqb-true, eq-eqb, ne_eqb}
use mathlib.Core.List.Memᴰ
use mathlib.Core.List.{List, [], ◌∷◌, ◌++◌, map, Memᴰ}
use Rattle.std.proofs.Math.Option.{some}
use Prim.Native.Nat.{ℕ, zero, suc, ◌+◌, ◌-◌, ◌≤◌}
use native.Mathlib.Omega.{arith}
use Rattle.std.proofs.Math.ListN.{length}
use Rattle.std.proofs.lemmas.Bool.{eqb-false}
use Rattle.list_spec.specs.Perm.{Perm, cons, swap, trans}
use Rattle.list_laws.specs.PermLaws.{perm-refl, perm-sym, perm-of-eq, perm-member, perm-cancel, perm-map, perm-append-left, perm-front}
use Rattle.list_spec.specs.Distinct.{Distinct}
use Rattle.list_laws.specs.DistinctLaws.{distinct-perm, distinct-injective}
use Rattle.method_spec.specs.Node.{Node, retag}
use Rattle.method_spec.specs.Prog.{Want, Prog, done, want}
use Rattle.method_spec.specs.Call.{Taken, keep_first, take_key, left_over, Fetched, revealing, given, fetches, draws_from, test}
use Rattle.method_spec.specs.Answer.{Structure, map as map-structure, stack, heap, queue}
use Rattle.method_spec.specs.Map.{balance_of, map_test}
use Rattle.method_spec.specs.Stack.{stack_test}
use Rattle.method_spec.specs.Heap.{heap_test}
use Rattle.method_spec.specs.Queue.{queue_test}
use Rattle.run_laws.specs.Safe.{Safe, ends, meets, Within, asks}
use Rattle.run_laws.specs.SafeLaws.{safe-perm}

module _ {T : Type 0} where
  -- ---- finding a node by its key

  abbrev pub keys : List (Node T) → List ℕ
  keys = map (λ n. n.key)

  abbrev pub tags : List (Node T) → List T
  tags = map (λ n. n.tag)

  -- A node of the collection, where no other has its key, is the one that is found.
  pub record Found (key : ℕ) (ns : List (Node T)) (m : Node T) : Type 0 where
    pub others : List (Node T)
    pub taken : take_key key ns ≡ some (record { node = m; others = others })
    pub rest : Perm ns (m ∷ others)

  pub take_key-here : (key : ℕ) (n : Node T) (ns : List (Node T)) → key ≡ n.key
      → take_key key (n ∷ ns) ≡ some (record { node = n; others = ns })
  unfolding take_key
  take_key-here key n ns e = rw (eq-eqb key n.key e)

  pub take_key-later : (key : ℕ) (n : Node T) (ns : List (Node T)) → ¬ (key ≡ n.key)
      → take_key key (n ∷ ns) ≡ keep_first n (take_key key ns)
  unfolding take_key
  take_key-later key n ns e = rw (ne_eqb key n.key e)

  found_here : {key : ℕ} {m : Node T} (n : Node T) (ns : List (Node T)) → key ≡ n.key → m ≡ n → Found key (n ∷ ns) m
  found_here {key} n ns e same =
      record {
        others = ns;
        taken = take_key-here key n ns e ∙ ap (λ (x : Node T). some (record { node = x; others = ns })) (sym same);
        rest = perm-of-eq (ap (λ (x : Node T). x ∷ ns) (sym same));
      }

  found-later : {key : ℕ} {m : Node T} (n : Node T) (ns : List (Node T)) → ¬ (key ≡ n.key) → Found key ns m → Found key (n ∷ ns) m
  found-later {key} {m} n ns e f =
      record {
        others = n ∷ f.others;
        taken = take_key-later key n ns e ∙ ap (keep_first n) f.taken;
        rest = trans (cons n f.rest) (swap n m f.others);
      }

  pub take_key-finds : {m : Node T} (key : ℕ) (ns : List (Node T)) → Distinct (keys ns) → Memᴰ m ns → m.key ≡ key → Found key ns m
  take_key-finds key [] d i e = absurd (Memᴰ.not-nil i)
  take_key-finds {m} key (n ∷ ns) d i e =
      go (eqb key n.key) refl (λ j. take_key-finds key ns d.1 j e)
    where
      go : (b : Bool) → eqb key n.key ≡ b → (Memᴰ m ns → Found key ns m) → Found key (n ∷ ns) m
      go true t _ =
          let here = eqb-true key n.key t in
          found_here n ns here
          (distinct-injective (λ (x : Node T). x.key) (n ∷ ns) d i (Memᴰ.head refl) (e ∙ here))
      go false t below =
          let differs = eqb-false key n.key t in
          found-later n ns differs
          (⊎_elim {A = m ≡ n} {B = Memᴰ m ns} (λ s. absurd (differs (sym e ∙ ap (λ (x : Node T). x.key) s))) below
          (Memᴰ.cases_cons i))

  -- The test does not look at the node's tag.
  abbrev pub Untagged : (Want T → Node T → Bool) → Type 0
  Untagged test = (w : Want T) (n : Node T) (d : T) → test w (retag d n) ≡ test w n

  pub test-untagged : (s : Structure) (entries : ℕ) → Untagged (test s entries)
  unfolding test map_test balance_of stack_test heap_test queue_test
  test-untagged map-structure entries w n d = refl
  test-untagged stack entries w n d = refl
  test-untagged heap entries w n d = refl
  test-untagged queue entries w n d = refl

  module _ {A : Type 0} where
    -- The statement of the end does not depend on the order of the nodes not fetched.
    abbrev pub Unordered : (A → List (Node T) → List (Node T) → Type 0) → Type 0
    Unordered Post = (a : A) (held xs ys : List (Node T)) → Perm xs ys → Post a held xs → Post a held ys

    -- ---- no node twice

    -- The keys of the nodes fetched and of those not fetched stay distinct, so no node is fetched twice.
    pub safe-distinct : {test : Want T → Node T → Bool} {Post : A → List (Node T) → List (Node T) → Type 0} {p : Prog T A} {held ns : List (Node T)}
        → Distinct (keys (held ++ ns)) → Safe test Post p held ns → Safe test (λ a h m. Post a h m × Distinct (keys (h ++ m))) p held ns
    safe-distinct d (ends post) = ends (post, d)
    safe-distinct {held = held} {ns} d (meets m others there key tag passed next) =
        meets m others there key tag passed
        (λ t. safe-distinct
        (distinct-perm (perm-map (λ (n : Node T). n.key) (trans (perm-append-left held there) (perm-front held m others))) d)
        (next t))

    -- ---- one round

    -- A wanted node is found by its key, is the one that the link leads to, passes the test, and the run stays safe.
    pub record Met (test : Want T → Node T → Bool) (Post : A → List (Node T) → List (Node T) → Type 0)
        (w : Want T) (k : Node T → Prog T A) (held ns : List (Node T)) : Type 0 where
      pub node : Node T
      pub others : List (Node T)
      pub taken : take_key w.link.key ns ≡ some (record { node = node; others = others })
      pub rest : Perm ns (node ∷ others)
      pub same_key : node.key ≡ w.link.key
      pub same_tag : node.tag ≡ w.link.tag
      pub passed : test w node ≡ true
      pub next : (d : T) → Safe test Post (k (retag d node)) (retag d node ∷ held) others

    pub safe-round : {test : Want T → Node T → Bool} {Post : A → List (Node T) → List (Node T) → Type 0}
        {w : Want T} {k : Node T → Prog T A} {held ns : List (Node T)}
        → Unordered Post → Distinct (keys ns) → Safe test Post (want w k) held ns → Met test Post w k held ns
    safe-round {w = w} {k} {held} {ns} unordered d (meets m others there key tag passed next) =
        let f = take_key-finds w.link.key ns d (perm-member (perm-sym there) (Memᴰ.head refl)) key in
        record {
          node = m;
          others = f.others;
          taken = f.taken;
          rest = f.rest;
          same_key = key;
          same_tag = tag;
          passed = passed;
          next = λ t. safe-perm unordered (perm-cancel (trans (perm-sym there) f.rest)) (next t);
        }

    -- ---- all rounds

    module _ (draw : ℕ → T) where
      -- A program that is done reveals its draws.
      pub fetches-done : (rounds i : ℕ) (a : A) (ns : List (Node T))
          → fetches draw rounds i (done a) ns ≡ record { prog = done a; nodes = ns; revealed = draws_from draw rounds i }
      unfolding fetches draws_from
      fetches-done zero i a ns = refl
      fetches-done (suc rounds) i a ns = ap (revealing (draw i)) (fetches-done rounds (suc i) a ns)

      -- A round that finds the wanted node reveals its link's tag, and goes on with the node under the draw.
      pub fetches-found : (rounds i : ℕ) (w : Want T) (k : Node T → Prog T A) (ns : List (Node T)) {t : Taken T}
          → take_key w.link.key ns ≡ some t
          → fetches draw (suc rounds) i (want w k) ns
          ≡ revealing w.link.tag (fetches draw rounds (suc i) (k (retag (draw i) t.node)) t.others)
      unfolding fetches
      fetches-found rounds i w k ns e = rw e

      pub fetches-length : (rounds i : ℕ) (p : Prog T A) (ns : List (Node T)) → length (fetches draw rounds i p ns).revealed ≡ rounds
      unfolding fetches
      fetches-length zero i p ns = refl
      fetches-length (suc rounds) i (done a) ns = ap suc (fetches-length rounds (suc i) (done a) ns)
      fetches-length (suc rounds) i (want w k) ns =
          ap suc
          (fetches-length rounds (suc i) (given (draw i) (want w k) k (take_key w.link.key ns))
          (left_over ns (take_key w.link.key ns)))

      -- The program is done. What was revealed: the tags of the links that it followed, and then draws. The tags of the
      -- nodes moved accordingly: those of the links are gone, and the first draws are the tags of the nodes fetched.
      pub record Ended (Post : A → List (Node T) → List (Node T) → Type 0) (rounds i : ℕ) (held ns : List (Node T)) (f : Fetched T A) : Type 0 where
        pub result : A
        pub fetched : List (Node T)
        pub links : List T
        pub few : length links ≤ rounds
        pub ended : f.prog ≡ done result
        pub holds : Post result fetched f.nodes
        pub shown : f.revealed ≡ links ++ draws_from draw (rounds - length links) (i + length links)
        pub old-tags : Perm (tags ns) (links ++ tags f.nodes)
        pub new-tags : Perm (tags fetched) (draws_from draw (length links) i ++ tags held)

      module _ {Post : A → List (Node T) → List (Node T) → Type 0} where
        ended-done : (rounds i : ℕ) {a : A} {held ns : List (Node T)} → Post a held ns
            → Ended Post rounds i held ns (record { prog = done a; nodes = ns; revealed = draws_from draw rounds i })
        unfolding draws_from
        ended-done rounds i {a} {held} {ns} post =
            let r : rounds - 0 ≡ rounds = omega arith in
            let o : i + 0 ≡ i = omega arith in
            record {
              result = a;
              fetched = held;
              links = [];
              few = omega arith;
              ended = refl;
              holds = post;
              shown = rw (r, o) refl;
              old-tags = perm-refl (tags ns);
              new-tags = perm-refl (tags held);
            }

        ended-more : (rounds i : ℕ) (t : T) (m : Node T) {held ns others : List (Node T)} {f : Fetched T A}
            → Perm ns (m ∷ others) → m.tag ≡ t → Ended Post rounds (suc i) (retag (draw i) m ∷ held) others f
            → Ended Post (suc rounds) i held ns (revealing t f)
        unfolding draws_from
        ended-more rounds i t m {held} {ns} {others} {f} there same e =
            let r : suc rounds - suc (length e.links) ≡ rounds - length e.links = omega arith in
            let o : i + suc (length e.links) ≡ suc i + length e.links = omega arith in
            record {
              result = e.result;
              fetched = e.fetched;
              links = t ∷ e.links;
              few = omega arith;
              ended = e.ended;
              holds = e.holds;
              shown = rw (r, o) (ap (λ (l : List T). t ∷ l) e.shown);
              old-tags =
                  trans (perm-map (λ (n : Node T). n.tag) there)
                  (trans (perm-of-eq (ap (λ (x : T). x ∷ tags others) same)) (cons t e.old-tags));
              new-tags = trans e.new-tags (perm-front (draws_from draw (length e.links) (suc i)) (draw i) (tags held));
            }

        -- A safe program, with as many rounds as it may want nodes.
        pub safe-fetches : {test : Want T → Node T → Bool} → Untagged test → Unordered Post
            → {n : ℕ} (rounds i : ℕ) (p : Prog T A) {held ns : List (Node T)}
            → n ≤ rounds → Distinct (keys ns) → Within test n p → Safe test Post p held ns
            → Ended Post rounds i held ns (fetches draw rounds i p ns)
        safe-fetches untagged unordered rounds i (done a) {held} {ns} h d inside (ends post) =
            subst (Ended Post rounds i held ns) (sym (fetches-done rounds i a ns)) (ended-done rounds i post)
        safe-fetches untagged unordered zero i (want w k) h d (asks next) s = let z : ⊥ = omega arith in absurd z
        safe-fetches untagged unordered (suc rounds) i (want w k) {held} {ns} h d (asks {n = n} next) s =
            let m = safe-round unordered d s in
            let less : n ≤ rounds = omega arith in
            subst (Ended Post (suc rounds) i held ns) (sym (fetches-found rounds i w k ns m.taken))
            (ended-more rounds i w.link.tag m.node m.rest m.same_tag
            (safe-fetches untagged unordered {n = n} rounds (suc i) (k (retag (draw i) m.node)) less
            (distinct-perm (perm-map (λ (x : Node T). x.key) m.rest) d).1
            (next (retag (draw i) m.node) (untagged w m.node (draw i) ∙ m.passed)) (m.next (draw i))))
