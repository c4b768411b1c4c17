-- The step of a call over a kept bucket store, and the ends of a call: by overflow, after the fetch rounds and after the put rounds.
use Rattle.std.specs.Prelude.{◌≡◌, refl, ◌⊎◌, ℕ, ◌+◌, ◌^◌, ◌≤◌, ◌<◌, length}
use Rattle.std.proofs.Math.Path.{sym, ap}
use Rattle.std.proofs.Common.{◌∙◌}
use Rattle.std.proofs.Math.Logic.{inl, inr}
use mathlib.Core.List.{List, [], ◌∷◌, ◌++◌, map, map-append, map-map, append-nil, append_assoc}
use Rattle.std.proofs.Math.Option.{some}
use native.Mathlib.Omega.{arith}
use Rattle.std.proofs.lemmas.List.{length-map}
use Rattle.list_spec.specs.Perm.{Perm, trans}
use Rattle.list_laws.specs.PermLaws.{perm-refl, perm-sym, perm-of-eq, perm-append-left, perm-map}
use Rattle.list_spec.specs.Distinct.{Distinct, All}
use Rattle.list_laws.specs.DistinctLaws.{all_left, distinct-perm, distinct-right}
use Rattle.list_laws.specs.Shuffle.{part, ◌&◌, shuffle}
use Rattle.method_spec.specs.Node.{Link, Ahead, Node}
use Rattle.method_spec.specs.Prog.{done}
use Rattle.method_spec.specs.Answer.{Structure}
use Rattle.method_spec.specs.Plain.{Pair}
use Rattle.method_spec.specs.Rounds.{put_draw}
use Rattle.method_spec.specs.Outcome.{Outcome}
use Rattle.method_spec.specs.Call.{Memory, draws_from, stepped, Called}
use Rattle.run_laws.specs.Fetches.{keys}
use Rattle.run_laws.specs.Calls.{memory_of}
use Rattle.method_laws.specs.Represented.{Held}
use Rattle.round_spec.specs.Round.{keys_of, join, stash_limit}
use Rattle.leaf_spec.specs.Leaf.{leaf_format, ProperLeaf}
use Rattle.bucket_call_spec.specs.Fetch.{Going, moved_node, moved_nodes, closing, held_keys, Round, on}
use Rattle.bucket_call_spec.specs.Fetch as fetch
use Rattle.bucket_call_spec.specs.Call.{Store, put_rounds, after_puts, after_fetches}
use Rattle.bucket_call_spec.specs.Call as buckets
use Rattle.round_spec.specs.Whole.{contents}
use Rattle.round_laws.specs.Lists.{join-perm}
use Rattle.round_laws.specs.Room.{join-length}
use Rattle.round_laws.specs.ReadHalf.{distinct-but-last}
use Rattle.round_laws.specs.Kept.{kept-holding, kept-joined}
use Rattle.round_laws.specs.Sorted.{ascending-join}
use Rattle.leaf_spec.specs.Entries.{pair_of}
use Rattle.bucket_call_spec.specs.Simulates.{AheadFits, Simulates, as_before, as-after}
use Rattle.simulation_laws.specs.Relation.{left_by, store_entries, memory_entries, Matches, Overflowed, Stands, Few, Many}
use Rattle.simulation_laws.specs.RoundSim.{Went, went, overflowed}
use Rattle.simulation_laws.specs.FetchSim.{puts-went}

-- ---- a call that closes the store

moved-entries : (hs : List fetch.Held) → map pair_of (moved_nodes hs) ≡ map pair_of (map (λ (h : fetch.Held). h.node) hs)
unfolding moved_node
moved-entries hs =
    map-map pair_of (λ (h : fetch.Held). moved_node hs h.node) hs ∙ sym (map-map pair_of (λ (h : fetch.Held). h.node) hs)

-- No entry is lost where the held nodes come to wait again.
closing-entries : {k : ℕ} {all : List Pair} {g : Going} {ns : List (Node ℕ)} → Stands k all g ns → (mark entries : ℕ) (root : Link ℕ) (a : Ahead ℕ)
    → Perm all (store_entries k (left_by (closing mark entries root a g)))
unfolding closing
closing-entries {k} {all} {g} {ns} st mark entries root a =
    let tree = contents leaf_format k g.tree in
    let again = moved_nodes g.held in
    let waits : Perm (map pair_of (join leaf_format again g.waiting)) (map pair_of again ++ map pair_of g.waiting) =
    trans (perm-map pair_of (join-perm leaf_format again g.waiting)) (perm-of-eq (map-append pair_of again g.waiting)) in
    let others : Perm (map pair_of ns) (map pair_of tree ++ map pair_of g.waiting) =
    trans (perm-map pair_of st.there) (perm-of-eq (map-append pair_of tree g.waiting)) in
    let whole : Perm all (map pair_of again ++ map pair_of ns) = rw (moved-entries g.held) st.whole in
    rw (map-append pair_of tree (join leaf_format again g.waiting))
    (trans whole
    (trans (perm-append-left (map pair_of again) others)
    (trans
    (shuffle (map pair_of again ∷ map pair_of tree ∷ map pair_of g.waiting ∷ []) (part 0 & (part 1 & part 2)) (part 1 & (part 0 & part 2)) refl)
    (perm-append-left (map pair_of tree) (perm-sym waits)))))

-- The held nodes wait too.
closing-many : (g : Going) → Many g → (mark entries : ℕ) (root : Link ℕ) (a : Ahead ℕ) → stash_limit < length (closing mark entries root a g).waiting
unfolding closing
closing-many g many mark entries root a =
    let joined = join-length leaf_format (moved_nodes g.held) g.waiting in
    let again = length-map g.held (λ (h : fetch.Held). moved_node g.held h.node) in
    omega arith

-- ---- the step

module _ (k : ℕ) (o : Outcome ℕ) {all : List Pair} {g : Going} {ns : List (Node ℕ)} (st : Stands k all g ns)
    (distinct : Distinct (keys (o.nodes ++ ns))) (proper : All (ProperLeaf k) (o.nodes ++ ns)) where
  step-stands : Stands k (map pair_of (o.nodes ++ ns)) (buckets.stepped o g) (o.nodes ++ ns)
  step-stands =
      let tree = contents leaf_format k g.tree in
      let waiting = g.waiting in
      let new = o.nodes in
      let key : List (Node ℕ) → List ℕ = keys_of leaf_format in
      let nodes : Perm (new ++ ns) (tree ++ (waiting ++ new)) =
      trans (perm-append-left new st.there)
      (shuffle (new ∷ tree ∷ waiting ∷ []) (part 0 & (part 1 & part 2)) (part 1 & (part 2 & part 0)) refl) in
      let apart : Distinct (key tree ++ (key waiting ++ key new)) =
      distinct-perm
      (trans (perm-map (λ (n : Node ℕ). n.key) nodes)
      (perm-of-eq
      (map-append (λ (n : Node ℕ). n.key) tree (waiting ++ new) ∙ ap (λ (l : List ℕ). key tree ++ l) (map-append (λ (n : Node ℕ). n.key) waiting new))))
      distinct in
      record {
        there =
            trans nodes
            (perm-append-left tree
            (trans (shuffle (waiting ∷ new ∷ []) (part 0 & part 1) (part 1 & part 0) refl) (perm-sym (join-perm leaf_format new waiting))));
        kept =
            kept-joined leaf_format k g.tree waiting new (held_keys g) st.kept (all_left {P = ProperLeaf k} ns proper) apart;
        ascends =
            ascending-join leaf_format new waiting
            (distinct-perm (shuffle (key waiting ∷ key new ∷ []) (part 0 & part 1) (part 1 & part 0) refl)
            (distinct-right (key tree) (key waiting ++ key new) apart))
            st.ascends;
        whole = perm-refl (map pair_of (new ++ ns));
      }

-- ---- the end of a call

stands-simulates : {k : ℕ} {all : List Pair} {g : Going} (m : Memory ℕ) → AheadFits k m.ahead → Stands k all g m.nodes → Few g
    → Simulates k (record { entries = m.entries; root = m.root; ahead = m.ahead; waiting = g.waiting; tree = g.tree }) m
stands-simulates {k} {all} {g} m known st few =
    let apart = distinct-but-last (keys_of leaf_format (contents leaf_format k g.tree)) (keys_of leaf_format g.waiting) (held_keys g) st.kept.none-twice in
    record {
      entries = refl;
      root = refl;
      ahead = refl;
      known = known;
      there = st.there;
      kept = kept-holding leaf_format k g.tree g.waiting (held_keys g) st.kept [] (rw append-nil apart);
      few = omega arith;
      ascends = st.ascends;
    }

module _ (s : Structure) (k F : ℕ) (some-rounds : 1 ≤ F) (draw : ℕ → ℕ) (leaves : (d : ℕ) → draw d < 2 ^ k) (m : Memory ℕ) (r : Called ℕ)
    (a : Ahead ℕ) (known : AheadFits k a) (o : Outcome ℕ) (ns : List (Node ℕ)) (remembers : r.memory ≡ memory_of a o ns) (answers : r.answer ≡ some o.answer) where
  -- After the put rounds, where the fetch rounds came to f.
  puts-match : (f : Going) (x : Round (Outcome ℕ)) → Went k (map pair_of (o.nodes ++ ns)) (done o) (o.nodes ++ ns) r.revealed x
      → Overflowed k m (on f (done o)) (after_puts a o x) r ⊎ Matches k (after_puts a o x) r
  unfolding after_puts closing
  puts-match f x (went g st few shown) =
      inr (record {
        mark = refl;
        answer = sym answers;
        leaves = shown;
        simulates = rw remembers (stands-simulates (memory_of a o ns) known st few);
      })
  puts-match f x (overflowed g left rest st many shown) =
      inl (record {
        mark = refl;
        answer = refl;
        many = closing-many g many 9 o.entries o.root a;
        rest = rest;
        leaves = shown;
        nothing-lost = as-after f o (rw remembers (closing-entries st 9 o.entries o.root a));
        none-bad = st.kept.none-bad;
      })

  module _ (fetched : List ℕ) (revealed : r.revealed ≡ fetched ++ draws_from draw F (put_draw s F 0))
      (distinct : Distinct (keys (o.nodes ++ ns))) (proper : All (ProperLeaf k) (o.nodes ++ ns)) (st : Store) where
    -- After the fetch rounds.
    pub fetches-match : (x : Round (Outcome ℕ)) → Went k (memory_entries m) (done o) ns fetched x
        → Overflowed k m x (after_fetches s k F draw st a x) r ⊎ Matches k (after_fetches s k F draw st a x) r
    unfolding after_fetches closing
    fetches-match x (went g stands few shown) =
        puts-match g (put_rounds k draw F (put_draw s F 0) o (buckets.stepped o g))
        (rw (revealed, ← shown)
        (puts-went k draw leaves o F (put_draw s F 0) (buckets.stepped o g) (λ e. let z : ⊥ = omega arith in absurd z)
        (step-stands k o stands distinct proper)))
    fetches-match x (overflowed g left rest stands many shown) =
        inl (record {
          mark = refl;
          answer = refl;
          many = closing-many g many 9 st.entries st.root st.ahead;
          rest = rest ++ draws_from draw F (put_draw s F 0);
          leaves =
              revealed ∙ ap (λ (l : List ℕ). l ++ draws_from draw F (put_draw s F 0)) shown
              ∙ append_assoc g.leaves rest (draws_from draw F (put_draw s F 0));
          nothing-lost = as_before g (closing-entries stands 9 st.entries st.root st.ahead);
          none-bad = stands.kept.none-bad;
        })
