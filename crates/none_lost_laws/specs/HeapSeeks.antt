-- The heap's programs, on any content: each link that is followed is present where it stands, the root link or that of a node given before.
use Rattle.std.specs.Prelude.{◌≡◌, Bool, eqb, ltb, leb, length}
use Rattle.std.proofs.Math.Path.{refl, subst}
use Rattle.std.proofs.Common.{◌∙◌, le_refl}
use Rattle.std.proofs.Math.Bool.{true, false}
use mathlib.Core.List.{List, [], ◌∷◌, Memᴰ}
use Prim.Native.Nat.{ℕ, zero, suc, ◌≤◌}
use native.Mathlib.Omega.{arith}
use borrow.Author.Tests.{eqb-false}
use Rattle.list_spec.specs.Choice.{pick}
use Rattle.list_spec.specs.Distinct.{All}
use Rattle.list_laws.specs.DistinctLaws.{all_nil, all_cons}
use Rattle.method_spec.specs.Node.{Link, Ahead, Node, absent, child, with_child, link_one}
use Rattle.method_spec.specs.Prog.{Want, Prog, start}
use Rattle.method_spec.specs.Answer as answer
use Rattle.method_spec.specs.Answer.{Op}
use Rattle.method_spec.specs.Heap.{child_position, Pass, lower, way_to, beneath, descend, add_prog, downward, child_of, smaller, above, sunk, sink, replace_root, take_prog, heap_test}
use Rattle.method_spec.specs.Call.{program}
use Rattle.run_laws.specs.HeapWithin.{heap-tested}
use Rattle.run_laws.specs.HeapWays.{along, along-up, along-turn, along-way}
use Rattle.none_lost_laws.specs.Yields.{Yields, ends, asks, yields-pick, yields-when, yields-then, yields-keep}
use Rattle.none_lost_laws.specs.Given.{RootFor, Given, Leads, at-root, at_side}
use Rattle.none_lost_laws.specs.Growing.{Sought}

-- A node on the way as it was given, and its link on the way is present.
abbrev OnWay : List (Node ℕ) → Pass ℕ → Type 0
OnWay held p = Memᴰ p.node held × ((child p.way p.node).height ≡ 0 → ⊥)

-- A node at hand stands in the place of one that was given: each link that it has was there too.
pub record Rooted (held : List (Node ℕ)) (p : Pass ℕ) : Type 0 where
  pub node : Node ℕ
  pub given : Memᴰ node held
  pub key : node.key ≡ p.node.key
  pub links : (s : Bool) → ((child s p.node).height ≡ 0 → ⊥) → (child s node).height ≡ 0 → ⊥

abbrev AllRooted : List (Node ℕ) → List (Pass ℕ) → Type 0
AllRooted held ps = All (Rooted held) ps

rooted_more : (n : Node ℕ) {held : List (Node ℕ)} {p : Pass ℕ} → Rooted held p → Rooted (n ∷ held) p
rooted_more n r = record { node = r.node; given = Memᴰ.tail r.given; key = r.key; links = r.links }

all_more : (n : Node ℕ) {held : List (Node ℕ)} {ps : List (Pass ℕ)} → AllRooted held ps → AllRooted (n ∷ held) ps
all_more n r p m = rooted_more n (r p m)

first : {held : List (Node ℕ)} {p : Pass ℕ} {ps : List (Pass ℕ)} → AllRooted held (p ∷ ps) → Rooted held p
first {p = p} r = r p (Memᴰ.head refl)

rest : {held : List (Node ℕ)} {p : Pass ℕ} {ps : List (Pass ℕ)} → AllRooted held (p ∷ ps) → AllRooted held ps
rest r q m = r q (Memᴰ.tail m)

-- ---- the nodes of the way, the root first
with-link : (way : Bool) (n : Node ℕ) (m : Link ℕ) → ((child way n).height ≡ 0 → ⊥) → (s : Bool)
    → ((child s (with_child way n m)).height ≡ 0 → ⊥) → (child s n).height ≡ 0 → ⊥
with-link true n m present true h = present
with-link true n m present false h = h
with-link false n m present true h = h
with-link false n m present false h = present

with-key : (way : Bool) (n : Node ℕ) (m : Link ℕ) → n.key ≡ (with_child way n m).key
with-key true n m = refl
with-key false n m = refl

downward-rooted : {held : List (Node ℕ)} (m : Link ℕ) (path below : List (Pass ℕ)) → All (OnWay held) path → AllRooted held below
    → AllRooted held (downward m path below)
unfolding downward
downward-rooted m [] below on r = r
downward-rooted {held} m (p ∷ path) below on r =
    let n = with_child p.way p.node m in
    let here = on p (Memᴰ.head refl) in
    let there : Rooted held (record { node = n; way = p.way }) =
    record {
      node = p.node;
      given = here.0;
      key = with-key p.way p.node m;
      links = with-link p.way p.node m here.1;
    } in
    downward-rooted (link_one n) path (record { node = n; way = p.way } ∷ below) (λ q i. on q (Memᴰ.tail i)) (all_cons {P = Rooted held} there r)

pick-rooted : {held : List (Node ℕ)} (s : Bool) (below : List (Pass ℕ)) → AllRooted held below → AllRooted held (pick s below []) × AllRooted held (pick s [] below)
pick-rooted {held} true below r = (r, all_nil (Rooted held))
pick-rooted {held} false below r = (all_nil (Rooted held), r)

module _ (k entries : ℕ) (l : Link ℕ) where
  abbrev Seeks : {A : Type 0} → (A → List (Node ℕ) → Type 0) → Prog ℕ A → List (Node ℕ) → Type 0
  Seeks Post p held = Yields (Sought l) (Given k (heap_test entries)) Post p held

  -- ---- the way down
  -- On the way to position q, at position i: the link there leads to it where it is among the entries.
  descend-seeks : (q : ℕ) → q ≤ suc entries → (turns : List Bool) (w : Want ℕ) (path : List (Pass ℕ)) (held : List (Node ℕ)) (i : ℕ) → 1 ≤ i → along i turns ≡ q
      → (i ≤ entries → (w.link.key ≡ i) × Leads l held w.from) → (q ≤ entries → All (OnWay held) path)
      → Seeks (λ r given. q ≤ entries → All (OnWay given) r.path × Leads l given r.end.from) (descend turns w path) held
  unfolding descend along
  descend-seeks q few [] w path held i some e leads on = ends (λ h. (on h, (leads (omega arith)).1))
  descend-seeks q few (s ∷ turns) w path held i some e leads on =
      let less = along-turn i s turns some in
      let here = leads (omega arith) in
      asks here.1
      (λ n got.
      let same : n.key ≡ i = got.named ∙ here.0 in
      let tested = subst (λ (j : ℕ). child_position s j ≤ entries → ((child s n).height ≡ 1) × ((child s n).key ≡ child_position s j)) same
      (heap-tested entries w n got.passed s).0 in
      let present : child_position s i ≤ entries → (child s n).height ≡ 0 → ⊥ = λ h z. let o = (tested h).0 in omega arith in
      let up = along-up (child_position s i) turns (omega (arith, position_some s i some)) in
      descend-seeks q few turns (beneath n s) (record { node = n; way = s } ∷ path) (n ∷ held) (child_position s i) (omega (arith, position_some s i some)) e
      (λ h. ((tested h).1, at_side n (Memᴰ.head refl) refl (present h)))
      (λ h. all_cons {P = OnWay (n ∷ held)} (Memᴰ.head refl, present (omega arith)) (λ p m. (Memᴰ.tail (on h p m).0, (on h p m).1))))
    where
      position_some : (s : Bool) (i : ℕ) → 1 ≤ i → 1 ≤ child_position s i
      position_some true i h = omega arith
      position_some false i h = omega arith

  -- ---- sinking
  child-seeks : (s : Bool) (p : Pass ℕ) (below : List (Pass ℕ)) (held : List (Node ℕ)) → Rooted held p → AllRooted held below
      → Seeks (λ a given. AllRooted given a) (child_of (beneath p.node s) below) held
  unfolding child_of
  child-seeks s p [] held r rs =
      yields-when (eqb (child s p.node).height 0) (λ e. ends rs)
      (λ e. asks (at_side r.node r.given r.key (r.links s (eqb-false (child s p.node).height 0 e)))
      (λ c got. ends (all_cons {P = Rooted (c ∷ held)} (record { node = c; given = Memᴰ.head refl; key = refl; links = λ t h. h }) (all_nil (Rooted (c ∷ held))))))
  child-seeks s p (q ∷ below) held r rs = ends rs

  module _ (v : ℕ) (further : Pass ℕ → List (Pass ℕ) → Prog ℕ (List (Node ℕ)))
      (sinks : (p : Pass ℕ) (below : List (Pass ℕ)) (held : List (Node ℕ)) → AllRooted held (p ∷ below) → Seeks (λ out given. Unit {0}) (further p below) held) where
    lower-seeks : (n : Node ℕ) (a b : List (Pass ℕ)) (held : List (Node ℕ)) (c : Pass ℕ) (below others : List (Pass ℕ)) → AllRooted held (c ∷ below)
        → Seeks (λ out given. Unit {0}) (sunk further v n a b (lower c below others)) held
    lower-seeks n a b held c below others r =
        yields-pick (ltb c.node.value v) (yields-then _ (sinks c below held r) (λ out given h. ends tt)) (ends tt)

    sunk-seeks : (n : Node ℕ) (a b : List (Pass ℕ)) (held : List (Node ℕ)) → AllRooted held a → AllRooted held b
        → Seeks (λ out given. Unit {0}) (sunk further v n a b (smaller a b)) held
    sunk-seeks n [] [] held r q = ends tt
    sunk-seeks n (c ∷ a) [] held r q = lower-seeks n (c ∷ a) [] held c a [] r
    sunk-seeks n [] (c ∷ b) held r q = lower-seeks n [] (c ∷ b) held c b [] q
    sunk-seeks n (c ∷ a) (d ∷ b) held r q = go (leb c.node.value d.node.value)
      where
        go : (t : Bool) → Seeks (λ out given. Unit {0}) (sunk further v n (c ∷ a) (d ∷ b) (pick t (lower c a (d ∷ b)) (lower d b (c ∷ a)))) held
        go true = lower-seeks n (c ∷ a) (d ∷ b) held c a (d ∷ b) r
        go false = lower-seeks n (c ∷ a) (d ∷ b) held d b (c ∷ a) q

  sink-seeks : (fuel v : ℕ) (p : Pass ℕ) (below : List (Pass ℕ)) (held : List (Node ℕ)) → AllRooted held (p ∷ below)
      → Seeks (λ out given. Unit {0}) (sink fuel v p below) held
  unfolding sink
  sink-seeks zero v p below held r = ends tt
  sink-seeks (suc fuel) v p below held r =
      let sides = pick-rooted p.way below (rest r) in
      let right = pick p.way [] below in
      yields-then _
      (yields-keep (λ given. Rooted given p × AllRooted given right) (λ n given h. (rooted_more n h.0, all_more n h.1)) (first r, sides.1)
      (child-seeks true p (pick p.way below []) held (first r) sides.0))
      (λ a given h. yields-then _
      (yields-keep (λ given. AllRooted given a) (λ n given g. all_more n g) h.0 (child-seeks false p right given h.1.0 h.1.1))
      (λ b given' g. sunk-seeks v (sink fuel v) (sink-seeks fuel v) (above true a (above false b p.node)) a b given' g.1 g.0))

  replace-seeks : (z : Node ℕ) (path : List (Pass ℕ)) (held : List (Node ℕ)) → AllRooted held path
      → Seeks (λ o given. Unit {0}) (replace_root 0 entries z path) held
  unfolding replace_root
  replace-seeks z [] held r = ends tt
  replace-seeks z (p ∷ below) held r =
      yields-then _ (sink-seeks (suc (length below)) z.value p below held r) (λ out given h. ends tt)

  -- ---- the programs
  pub heap-seeks : (spares : ℕ → ℕ) (limit : ℕ) (a : Ahead ℕ) → RootFor answer.heap entries l → (op : Op answer.heap)
      → Seeks (λ o given. Unit {0}) (program 0 op spares limit entries a l) []
  unfolding program add_prog take_prog
  heap-seeks spares limit a rooted (answer.add value) =
      yields-pick (ltb entries limit)
      (yields-then _
      (descend-seeks (suc entries) (le_refl (suc entries)) (way_to (suc entries)) (start l) [] [] 1 (le_refl 1) (along-way (suc entries) (omega arith))
      (λ h. let r = rooted (λ z. omega arith) in (r.1, at-root r.0)) (λ h. all_nil (OnWay [])))
      (λ r given h. ends tt))
      (ends tt)
  heap-seeks spares limit a rooted answer.take =
      yields-when (eqb entries 0) (λ e. ends tt)
      (λ e.
      let some = eqb-false entries 0 e in
      yields-then _
      (descend-seeks entries (omega arith) (way_to entries) (start l) [] [] 1 (le_refl 1) (along-way entries (omega arith))
      (λ h. let r = rooted (λ z. omega arith) in (r.1, at-root r.0)) (λ h. all_nil (OnWay [])))
      (λ r given h.
      let came = h (le_refl entries) in
      asks came.1
      (λ z got. replace-seeks z (downward (absent 0) r.path []) (z ∷ given)
      (all_more z (downward-rooted (absent 0) r.path [] came.0 (all_nil (Rooted given)))))))
