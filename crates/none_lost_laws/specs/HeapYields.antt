-- The heap's programs on any content: the nodes of the outcome are within their bounds, and their numbers are those of the nodes given, but
-- for what the answer says.
use Rattle.std.specs.Prelude.{◌≡◌, Bool, eqb, ltb, leb, length}
use Rattle.std.proofs.Math.Path.{refl}
use Rattle.std.proofs.Common.{◌∙◌, ap, arith}
use Rattle.std.proofs.Math.Bool.{true, false}
use mathlib.Core.List.Memᴰ
use mathlib.Core.List.{List, [], ◌∷◌, ◌++◌, append-nil, map-append}
use Prim.Native.Nat.{ℕ, zero, suc, ◌+◌, ◌^◌, ◌≤◌, ◌<◌}
use Rattle.list_spec.specs.Choice.{pick}
use Rattle.list_spec.specs.Perm.{Perm, cons, swap, trans}
use Rattle.list_spec.specs.Distinct.{All}
use Rattle.list_laws.specs.PermLaws.{perm-refl, perm-sym, perm-of-eq, perm-append-left, perm-append-right}
use Rattle.list_laws.specs.DistinctLaws.{all_nil, all_cons, all_append}
use Rattle.list_laws.specs.Shuffle.{part, ◌&◌, shuffle}
use Rattle.method_spec.specs.Node.{Link, Ahead, Node, absent, with_child, with_value, link_one}
use Rattle.method_spec.specs.Prog.{Want, Prog, start}
use Rattle.method_spec.specs.Answer as answer
use Rattle.method_spec.specs.Answer.{Op}
use Rattle.method_spec.specs.Plain.{Pair}
use Rattle.method_spec.specs.Outcome.{Outcome}
use Rattle.method_spec.specs.Heap.{Pass, Lower, childless, lower, way_to, beneath, descend, over, settled, rise, topmost, new_node, add_prog, downward, passed, child_of, smaller, above, sunk, sink, replace_root, take_prog, heap_test}
use Rattle.method_spec.specs.Call.{program}
use Rattle.run_laws.specs.HeapWithin.{heap-tested}
use Rattle.leaf_spec.specs.Entries.{pair_of, OpFits}
use Rattle.none_lost_laws.specs.Fitting.{LinkFits, NodeFits, link-more, absent-fits, one-fits, child_fits, with-child-fits, with-value-fits, proper-node}
use Rattle.none_lost_laws.specs.Yields.{ends, asks, yields-pick, yields-then}
use Rattle.none_lost_laws.specs.AtHand.{pairs_of}
use Rattle.none_lost_laws.specs.Given.{Given, YieldsBy}
use Rattle.method_spec.specs.Changes.{key_asked, value_asked, taken_out, brought_in, Answers, add-added, add-full, take-taken, take-empty, tracked, tracked_in}
use Rattle.none_lost_laws.specs.Changes.{most_high, Made}

-- ---- numbers
abbrev number : ℕ → Pair
number v = record { key = 0; value = v }

abbrev numbers_of : List (Node ℕ) → List Pair
numbers_of ns = tracked_in answer.heap (pairs_of ns)

numbers-append : (xs ys : List (Node ℕ)) → numbers_of (xs ++ ys) ≡ numbers_of xs ++ numbers_of ys
numbers-append xs ys =
    ap (tracked_in answer.heap) (map-append pair_of xs ys) ∙ map-append (tracked answer.heap) (pairs_of xs) (pairs_of ys)

-- A node with another link has its number.
same_number : (s : Bool) (n : Node ℕ) (l : Link ℕ) → numbers_of (with_child s n l ∷ []) ≡ numbers_of (n ∷ [])
same_number true n l = refl
same_number false n l = refl

settled-numbers : (n : Node ℕ) (path : List (Pass ℕ)) → numbers_of (settled n path) ≡ numbers_of (n ∷ passed path)
unfolding settled
settled-numbers n [] = refl
settled-numbers n (p ∷ path) =
    ap (λ (ps : List Pair). number n.value ∷ ps)
    (settled-numbers (over p n) path ∙ ap (λ (ps : List Pair). ps ++ numbers_of (passed path)) (same_number p.way p.node (link_one n)))

rise-numbers : (n : Node ℕ) (path : List (Pass ℕ)) → Perm (numbers_of (rise n path)) (numbers_of (n ∷ passed path))
unfolding rise
rise-numbers n [] = perm-refl (numbers_of (n ∷ []))
rise-numbers n (p ∷ path) =
    go (ltb n.value p.node.value) (rise-numbers (with_value n.value (over p n)) path)
  where
    go : (b : Bool) → Perm (numbers_of (rise (with_value n.value (over p n)) path)) (number n.value ∷ numbers_of (passed path))
        → Perm (numbers_of (pick b (with_value p.node.value n ∷ rise (with_value n.value (over p n)) path) (n ∷ settled (over p n) path)))
        (numbers_of (n ∷ passed (p ∷ path)))
    go true later =
        trans (cons (number p.node.value) later) (swap (number p.node.value) (number n.value) (numbers_of (passed path)))
    go false later =
        cons (number n.value)
        (perm-of-eq (settled-numbers (over p n) path ∙ ap (λ (ps : List Pair). ps ++ numbers_of (passed path)) (same_number p.way p.node (link_one n))))

downward-numbers : (l : Link ℕ) (path below : List (Pass ℕ))
    → Perm (numbers_of (passed (downward l path below))) (numbers_of (passed path) ++ numbers_of (passed below))
unfolding downward
downward-numbers l [] below = perm-refl (numbers_of (passed below))
downward-numbers l (p ∷ path) below =
    let n = with_child p.way p.node l in
    trans (downward-numbers (link_one n) path (record { node = n; way = p.way } ∷ below))
    (trans
    (perm-append-left (numbers_of (passed path))
    (perm-of-eq (ap (λ (ps : List Pair). ps ++ numbers_of (passed below)) (same_number p.way p.node l))))
    (shuffle (numbers_of (passed path) ∷ (number p.node.value ∷ []) ∷ numbers_of (passed below) ∷ [])
    (part 0 & (part 1 & part 2)) ((part 1 & part 0) & part 2) refl))

module _ (k h entries : ℕ) where
  -- ---- bounds
  abbrev b : ℕ
  b = most_high h

  one : 1 ≤ b
  one = omega arith

  abbrev PassesFit : List (Pass ℕ) → Type 0
  PassesFit ps = All (λ (p : Pass ℕ). NodeFits k b p.node) ps

  given-node : {w : Want ℕ} {n : Node ℕ} → Given k (heap_test entries) w n → NodeFits k b n
  given-node {w} {n} got =
      let left = (heap-tested entries w n got.passed true).1 in
      let right = (heap-tested entries w n got.passed false).1 in
      proper-node k got.proper (omega arith) (omega arith)

  link-one-fits : {n : Node ℕ} → NodeFits k b n → LinkFits k b (link_one n)
  link-one-fits f = one-fits one f.own.key f.own.tag

  passes-nodes : (ps : List (Pass ℕ)) → PassesFit ps → All (NodeFits k b) (passed ps)
  passes-nodes [] f = all_nil (NodeFits k b)
  passes-nodes (p ∷ ps) f = all_cons {P = NodeFits k b} (f p (Memᴰ.head refl)) (passes-nodes ps (λ q m. f q (Memᴰ.tail m)))

  first_fits : {p : Pass ℕ} {ps : List (Pass ℕ)} → PassesFit (p ∷ ps) → NodeFits k b p.node
  first_fits {p} f = f p (Memᴰ.head refl)

  rest-fits : {p : Pass ℕ} {ps : List (Pass ℕ)} → PassesFit (p ∷ ps) → PassesFit ps
  rest-fits f q m = f q (Memᴰ.tail m)

  more-fits : {p : Pass ℕ} {ps : List (Pass ℕ)} → NodeFits k b p.node → PassesFit ps → PassesFit (p ∷ ps)
  more-fits f fs = all_cons {P = λ (p : Pass ℕ). NodeFits k b p.node} f fs

  over-fits : (p : Pass ℕ) (n : Node ℕ) → NodeFits k b p.node → NodeFits k b n → NodeFits k b (over p n)
  over-fits p n f g = with-child-fits f p.way (link-one-fits g)

  settled-fits : (n : Node ℕ) (path : List (Pass ℕ)) → NodeFits k b n → PassesFit path → All (NodeFits k b) (settled n path)
  unfolding settled
  settled-fits n [] f fs = all_cons {P = NodeFits k b} f (all_nil (NodeFits k b))
  settled-fits n (p ∷ path) f fs =
      all_cons {P = NodeFits k b} f (settled-fits (over p n) path (over-fits p n (first_fits fs) f) (rest-fits fs))

  rise-fits : (n : Node ℕ) (path : List (Pass ℕ)) → NodeFits k b n → PassesFit path → All (NodeFits k b) (rise n path)
  unfolding rise
  rise-fits n [] f fs = all_cons {P = NodeFits k b} f (all_nil (NodeFits k b))
  rise-fits n (p ∷ path) f fs =
      let up = over-fits p n (first_fits fs) f in
      go (ltb n.value p.node.value) up
      (rise-fits (with_value n.value (over p n)) path (with-value-fits up f.own.value) (rest-fits fs))
    where
      go : (t : Bool) → NodeFits k b (over p n) → All (NodeFits k b) (rise (with_value n.value (over p n)) path)
          → All (NodeFits k b) (pick t (with_value p.node.value n ∷ rise (with_value n.value (over p n)) path) (n ∷ settled (over p n) path))
      go true up later = all_cons {P = NodeFits k b} (with-value-fits f (first_fits fs).own.value) later
      go false up later = all_cons {P = NodeFits k b} f (settled-fits (over p n) path up (rest-fits fs))

  topmost-fits : (n : Node ℕ) (path : List (Pass ℕ)) → NodeFits k b n → PassesFit path → NodeFits k b (topmost n path)
  unfolding topmost
  topmost-fits n [] f fs = f
  topmost-fits n (p ∷ path) f fs = topmost-fits p.node path (first_fits fs) (rest-fits fs)

  downward-fits : (l : Link ℕ) (path below : List (Pass ℕ)) → LinkFits k b l → PassesFit path → PassesFit below → PassesFit (downward l path below)
  unfolding downward
  downward-fits l [] below f fs gs = gs
  downward-fits l (p ∷ path) below f fs gs =
      let n = with_child p.way p.node l in
      let g = with-child-fits (first_fits fs) p.way f in
      downward-fits (link_one n) path (record { node = n; way = p.way } ∷ below) (link-one-fits g) (rest-fits fs) (more-fits g gs)

  above-fits : (s : Bool) (a : List (Pass ℕ)) (n : Node ℕ) → NodeFits k b n → PassesFit a → NodeFits k b (above s a n)
  above-fits s [] n f fs = f
  above-fits s (c ∷ below) n f fs = with-child-fits f s (link-one-fits (first_fits fs))

  pick-fits : (s : Bool) (below : List (Pass ℕ)) → PassesFit below → PassesFit (pick s below []) × PassesFit (pick s [] below)
  pick-fits true below f = (f, all_nil (λ (p : Pass ℕ). NodeFits k b p.node))
  pick-fits false below f = (all_nil (λ (p : Pass ℕ). NodeFits k b p.node), f)

  -- ---- the way down
  -- The nodes given are those passed, nearest first.
  descend-yields : (turns : List Bool) (w : Want ℕ) (path : List (Pass ℕ)) {held : List (Node ℕ)} → passed path ≡ held → PassesFit path → LinkFits k b w.link
      → YieldsBy k (heap_test entries) (λ r given. (passed r.path ≡ given) × (PassesFit r.path × LinkFits k b r.end.link)) (descend turns w path) held
  unfolding descend
  descend-yields [] w path same fs f = ends (same, (fs, f))
  descend-yields (s ∷ turns) w path same fs f =
      asks f.tag
      (λ n got. let g = given-node got in
      descend-yields turns (beneath n s) (record { node = n; way = s } ∷ path) (ap (λ (ns : List (Node ℕ)). n ∷ ns) same) (more-fits g fs) (child_fits g s))

  -- ---- sinking
  -- The numbers at hand, with others aside, are those of the nodes given.
  abbrev Counted : List Pair → List (Node ℕ) → Type 0
  Counted ps given = Perm ps (numbers_of given)

  child-yields : (rest : List Pair) (w : Want ℕ) (below : List (Pass ℕ)) {held : List (Node ℕ)} → LinkFits k b w.link → PassesFit below
      → Counted (numbers_of (passed below) ++ rest) held
      → YieldsBy k (heap_test entries) (λ a given. PassesFit a × Counted (numbers_of (passed a) ++ rest) given) (child_of w below) held
  unfolding child_of
  child-yields rest w [] f fs h =
      yields-pick (eqb w.link.height 0) (ends (fs, h))
      (asks f.tag (λ c got. ends (more-fits (given-node got) fs, cons (number c.value) h)))
  child-yields rest w (p ∷ below) f fs h = ends (fs, h)

  -- The smaller child with what is below it, and the others, are what is at hand on both sides.
  abbrev Parted : (a b : List (Pass ℕ)) → Lower ℕ → Type 0
  Parted x y childless = Unit {0}
  Parted x y (lower c below others) =
      PassesFit (c ∷ below) × (PassesFit others
      × Perm (numbers_of (passed x) ++ numbers_of (passed y)) (numbers_of (passed (c ∷ below)) ++ numbers_of (passed others)))

  smaller-parted : (x y : List (Pass ℕ)) → PassesFit x → PassesFit y → Parted x y (smaller x y)
  smaller-parted [] [] f g = tt
  smaller-parted (p ∷ x) [] f g = (f, (g, perm-refl (numbers_of (passed (p ∷ x)) ++ [])))
  smaller-parted [] (q ∷ y) f g = (g, (f, perm-of-eq (ap (λ (ps : List Pair). number q.node.value ∷ ps) (go (numbers_of (passed y))))))
    where
      go : (ps : List Pair) → ps ≡ ps ++ []
      go ps = rw append-nil
  smaller-parted (p ∷ x) (q ∷ y) f g = go (leb p.node.value q.node.value)
    where
      go : (t : Bool) → Parted (p ∷ x) (q ∷ y) (pick t (lower p x (q ∷ y)) (lower q y (p ∷ x)))
      go true = (f, (g, perm-refl (numbers_of (passed (p ∷ x)) ++ numbers_of (passed (q ∷ y)))))
      go false =
          (g, (f, shuffle (numbers_of (passed (p ∷ x)) ∷ numbers_of (passed (q ∷ y)) ∷ []) (part 0 & part 1) (part 1 & part 0) refl))

  -- What a number's sinking makes, beside numbers that are aside.
  abbrev Sunk : List Pair → List (Node ℕ) → List (Node ℕ) → Type 0
  Sunk rest out given = All (NodeFits k b) out × Counted (numbers_of out ++ rest) given

  rests-sunk : (rest : List Pair) (v : ℕ) (n : Node ℕ) (x y : List (Pass ℕ)) (held : List (Node ℕ)) → v < 2 ^ 64 → NodeFits k b n → PassesFit x → PassesFit y
      → Counted (number v ∷ (numbers_of (passed x) ++ (numbers_of (passed y) ++ rest))) held
      → Sunk rest (with_value v n ∷ (passed x ++ passed y)) held
  rests-sunk rest v n x y held value f fx fy h = (
    all_cons {P = NodeFits k b} (with-value-fits f value) (all_append {P = NodeFits k b} (passed x) (passes-nodes x fx) (passes-nodes y fy)),
    trans
        (perm-of-eq (ap (λ (ps : List Pair). number v ∷ (ps ++ rest)) (numbers-append (passed x) (passed y))))
        (trans
        (cons (number v)
        (shuffle (numbers_of (passed x) ∷ numbers_of (passed y) ∷ rest ∷ []) ((part 0 & part 1) & part 2) (part 0 & (part 1 & part 2)) refl)) h),
  )

  module _ (v : ℕ) (value : v < 2 ^ 64) (further : Pass ℕ → List (Pass ℕ) → Prog ℕ (List (Node ℕ)))
      (sinks : (rest : List Pair) (p : Pass ℕ) (below : List (Pass ℕ)) (held : List (Node ℕ)) → PassesFit (p ∷ below)
      → Counted (number v ∷ (numbers_of (passed below) ++ rest)) held → YieldsBy k (heap_test entries) (Sunk rest) (further p below) held) where
    sunk-yields : (rest : List Pair) (n : Node ℕ) (x y : List (Pass ℕ)) (held : List (Node ℕ)) → NodeFits k b n → PassesFit x → PassesFit y
        → Counted (number v ∷ (numbers_of (passed x) ++ (numbers_of (passed y) ++ rest))) held
        → (o : Lower ℕ) → Parted x y o → YieldsBy k (heap_test entries) (Sunk rest) (sunk further v n x y o) held
    sunk-yields rest n x y held f fx fy h childless parted = ends (rests-sunk rest v n x y held value f fx fy h)
    sunk-yields rest n x y held f fx fy h (lower c below others) parted =
        let under = numbers_of (passed below) in
        let aside = numbers_of (passed others) in
        let up = number c.node.value ∷ [] in
        let before : Counted (number v ∷ (under ++ (up ++ (aside ++ rest)))) held =
        trans (cons (number v)
        (trans (shuffle (under ∷ up ∷ aside ∷ rest ∷ []) (part 0 & (part 1 & (part 2 & part 3))) (((part 1 & part 0) & part 2) & part 3) refl)
        (trans (perm-append-right rest (perm-sym parted.1.1))
        (shuffle (numbers_of (passed x) ∷ numbers_of (passed y) ∷ rest ∷ []) ((part 0 & part 1) & part 2) (part 0 & (part 1 & part 2)) refl)))) h in
        yields-pick (ltb c.node.value v)
        (yields-then _ (sinks (up ++ (aside ++ rest)) c below held parted.0 before)
        (λ out given s. ends (
          all_cons {P = NodeFits k b} (with-value-fits f (first_fits parted.0).own.value)
              (all_append {P = NodeFits k b} (passed others) (passes-nodes others parted.1.0) s.0),
          trans (perm-of-eq (ap (λ (ps : List Pair). number c.node.value ∷ (ps ++ rest)) (numbers-append (passed others) out)))
              (trans
              (shuffle (up ∷ aside ∷ numbers_of out ∷ rest ∷ []) (part 0 & ((part 1 & part 2) & part 3)) (part 2 & (part 0 & (part 1 & part 3))) refl)
              s.1),
        )))
        (ends (rests-sunk rest v n x y held value f fx fy h))

  -- What is at hand below, on its side.
  parts-numbers : (s : Bool) (below : List (Pass ℕ)) (v : ℕ) (rest : List Pair)
      → Perm (numbers_of (passed (pick s below [])) ++ (number v ∷ (numbers_of (passed (pick s [] below)) ++ rest)))
      (number v ∷ (numbers_of (passed below) ++ rest))
  parts-numbers true below v rest =
      shuffle (numbers_of (passed below) ∷ (number v ∷ []) ∷ rest ∷ []) (part 0 & (part 1 & part 2)) (part 1 & (part 0 & part 2)) refl
  parts-numbers false below v rest = perm-refl (number v ∷ (numbers_of (passed below) ++ rest))

  sink-yields : (fuel v : ℕ) → v < 2 ^ 64 → (rest : List Pair) (p : Pass ℕ) (below : List (Pass ℕ)) (held : List (Node ℕ)) → PassesFit (p ∷ below)
      → Counted (number v ∷ (numbers_of (passed below) ++ rest)) held → YieldsBy k (heap_test entries) (Sunk rest) (sink fuel v p below) held
  unfolding sink
  sink-yields zero v value rest p below held fs h =
      ends (all_cons {P = NodeFits k b} (with-value-fits (first_fits fs) value) (passes-nodes below (rest-fits fs)), h)
  sink-yields (suc fuel) v value rest p below held fs h =
      let f = first_fits fs in
      let sides = pick-fits p.way below (rest-fits fs) in
      let right = pick p.way [] below in
      yields-then _
      (child-yields (number v ∷ (numbers_of (passed right) ++ rest)) (beneath p.node true) (pick p.way below []) (child_fits f true) sides.0
      (trans (parts-numbers p.way below v rest) h))
      (λ x given g. yields-then _
      (child-yields (number v ∷ (numbers_of (passed x) ++ rest)) (beneath p.node false) right (child_fits f false) sides.1
      (trans
      (shuffle (numbers_of (passed right) ∷ (number v ∷ []) ∷ numbers_of (passed x) ∷ rest ∷ []) (part 0 & (part 1 & (part 2 & part 3))) (part 2 & (part 1 & (part 0 & part 3))) refl)
      g.1))
      (λ y given' e. sunk-yields v value (sink fuel v) (sink-yields fuel v value) rest (above true x (above false y p.node)) x y given'
      (above-fits true x (above false y p.node) (above-fits false y p.node f e.0) g.0) g.0 e.0
      (trans
      (shuffle (numbers_of (passed y) ∷ (number v ∷ []) ∷ numbers_of (passed x) ∷ rest ∷ []) (part 1 & (part 2 & (part 0 & part 3))) (part 0 & (part 1 & (part 2 & part 3))) refl)
      e.1)
      (smaller x y) (smaller-parted x y g.0 e.0)))

  -- ---- the programs
  abbrev TakeMade : Outcome ℕ → List (Node ℕ) → Type 0
  TakeMade = Made answer.heap k h entries 0 (Answers answer.take)

  replace-yields : (z : Node ℕ) (path : List (Pass ℕ)) (held : List (Node ℕ)) → z.value < 2 ^ 64 → PassesFit path
      → Perm (number z.value ∷ numbers_of (passed path)) (numbers_of held)
      → YieldsBy k (heap_test entries) TakeMade (replace_root 0 entries z path) held
  unfolding replace_root taken_out brought_in
  replace-yields z [] held value fs e =
      ends (record { kind = take-taken; fit = all_nil (NodeFits k b); whole = e; root = absent-fits })
  replace-yields z (p ∷ below) held value fs e =
      let top = number p.node.value ∷ [] in
      yields-then _
      (sink-yields (suc (length below)) z.value value top p below held fs
      (trans
      (shuffle ((number z.value ∷ []) ∷ top ∷ numbers_of (passed below) ∷ []) (part 0 & (part 2 & part 1)) (part 0 & (part 1 & part 2)) refl) e))
      (λ out given s. ends (record {
        kind = take-taken;
        fit = s.0;
        whole = trans (shuffle (top ∷ numbers_of out ∷ []) (part 0 & part 1) (part 1 & part 0) refl) s.1;
        root = link-more (omega arith) (link-one-fits (first_fits fs));
      }))

  pub heap-yields : (spares : ℕ → ℕ) (limit : ℕ) (a : Ahead ℕ) (l : Link ℕ) → spares 0 < 2 ^ k → LinkFits k h l → suc entries < 2 ^ 32 → (op : Op answer.heap) → OpFits op
      → YieldsBy k (heap_test entries) (Made answer.heap k h (key_asked op entries a.key l) (value_asked op) (Answers op)) (program 0 op spares limit entries a l) []
  unfolding program add_prog take_prog key_asked value_asked taken_out brought_in
  heap-yields spares limit a l leaf f small (answer.add value) fits =
      let new = new_node 0 value (spares 0) entries in
      let fn : NodeFits k b new = record { own = record { key = small; value = fits; tag = leaf }; left = absent-fits; right = absent-fits } in
      yields-pick (ltb entries limit)
      (yields-then _ (descend-yields (way_to (suc entries)) (start l) [] refl (all_nil (λ (p : Pass ℕ). NodeFits k b p.node)) (link-more (omega arith) f))
      (λ r given d. ends (record {
        kind = add-added;
        fit = rise-fits new r.path fn d.1.0;
        whole = rw (← d.0) (rise-numbers new r.path);
        root = link-more (omega arith) (link-one-fits (topmost-fits new r.path fn d.1.0));
      })))
      (ends (record { kind = add-full; fit = all_nil (NodeFits k b); whole = perm-refl []; root = link-more (omega arith) f }))
  heap-yields spares limit a l leaf f small answer.take fits =
      yields-pick (eqb entries 0)
      (ends (record { kind = take-empty; fit = all_nil (NodeFits k b); whole = perm-refl []; root = link-more (omega arith) f }))
      (yields-then _ (descend-yields (way_to entries) (start l) [] refl (all_nil (λ (p : Pass ℕ). NodeFits k b p.node)) (link-more (omega arith) f))
      (λ r given d. asks d.1.1.tag
      (λ z got. replace-yields z (downward (absent 0) r.path []) (z ∷ given) (given-node got).own.value
      (downward-fits (absent 0) r.path [] absent-fits d.1.0 (all_nil (λ (p : Pass ℕ). NodeFits k b p.node)))
      (rw (← d.0)
      (cons (number z.value)
      (trans (downward-numbers (absent 0) r.path []) (perm-of-eq (append-nil (numbers_of (passed r.path))))))))))
