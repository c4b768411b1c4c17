-- The map's programs on any content: walk, step and the whole call.
use Rattle.std.specs.Prelude.{◌≡◌, Bool, ltb, length}
use Rattle.std.proofs.Math.Path.{refl}
use Rattle.std.proofs.Common.{sym, eqb-true}
use Rattle.std.proofs.Math.Bool.{true, false}
use mathlib.Core.List.Memᴰ
use mathlib.Core.List.{List, [], ◌∷◌, ◌++◌, append-nil, map-append}
use Rattle.std.proofs.Math.Option.{none}
use Prim.Native.Nat.{ℕ, zero, suc, pred, ◌+◌, ◌^◌, ◌≤◌, ◌<◌}
use native.Mathlib.Omega.{arith}
use Rattle.std.proofs.Math.Dec.{eqb}
use Rattle.std.proofs.Math.ListN.{length-append}
use Rattle.list_spec.specs.Choice.{pick}
use Rattle.list_spec.specs.Perm.{trans}
use Rattle.list_laws.specs.PermLaws.{perm-refl, perm-of-eq, perm_append_comm}
use Rattle.list_laws.specs.DistinctLaws.{all_nil, all_cons}
use Rattle.list_laws.specs.Shuffle.{part, ◌&◌, shuffle}
use Rattle.method_spec.specs.Node.{Link, Ahead, Node, absent, with_value}
use Rattle.method_spec.specs.Prog.{Want, Prog, done, start}
use Rattle.method_spec.specs.Answer as answer
use Rattle.method_spec.specs.Answer.{Op, Answer}
use Rattle.method_spec.specs.Map.{Step, stub, top, Built, Spot, gap, hit, Lowest, step_at, below, walk, unwound, unwind, finish, climb, get_step, get_prog, put_step, put_prog, lowest, swapped, take_out, remove_step, remove_prog, map_test}
use Rattle.method_spec.specs.Plain.{Pair}
use Rattle.method_spec.specs.Call.{program}
use Rattle.none_lost_laws.specs.Fitting.{LinkFits, NodeFits, link-more, absent-fits, child_fits, link-to-fits, with-value-fits}
use Rattle.none_lost_laws.specs.Yields.{ends, asks, yields-pick, yields-then}
use Rattle.leaf_spec.specs.Entries.{OpFits, pair_of}
use Rattle.none_lost_laws.specs.AtHand.{AtHand, at-hand-perm, at-hand-given, at-hand-aside, at-hand-anew, at-hand-add}
use Rattle.none_lost_laws.specs.Given.{YieldsBy, given-fits}
use Rattle.none_lost_laws.specs.Rotations.{Raised, nodes_on, climbing, climb-yields, unwind-raised}
use Rattle.method_spec.specs.Changes.{key_asked, value_asked, taken_out, brought_in, Answers, get-found, get_absent, put-replaced, put-new, put_full, remove-removed, remove_absent}
use Rattle.none_lost_laws.specs.Changes.{most_high, Yielded}

-- ---- the walk down
-- Where a walk from a link of height h ended: all nodes given are on its path, which is no longer than that height.
pub data Walked (k h key : ℕ) : Spot ℕ → List (Node ℕ) → Type 0 where
  to-gap : {l : Link ℕ} {path : List (Step ℕ)} {held : List (Node ℕ)} → AtHand k h [] [] (nodes_on path) held → LinkFits k h l → length path ≤ h
      → Walked k h key (gap l path) held
  to-node : {w : Want ℕ} {n : Node ℕ} {path : List (Step ℕ)} {held : List (Node ℕ)} → AtHand k h [] [] (n ∷ nodes_on path) held → key ≡ n.key
      → length path ≤ h → Walked k h key (hit w n path) held

module _ {k h : ℕ} (key : ℕ) where
  walk-yields : (fuel : ℕ) (w : Want ℕ) (path : List (Step ℕ)) {held : List (Node ℕ)} → length path + fuel ≤ h → LinkFits k h w.link
      → AtHand k h [] [] (nodes_on path) held → YieldsBy k map_test (Walked k h key) (walk key fuel w path) held
  unfolding walk
  walk-yields zero w path short f a = ends (to-gap {path = path} a f (omega arith))
  walk-yields (suc fuel) w path {held} short f a =
      yields-pick (eqb w.link.height 0) (ends (to-gap {path = path} a f (omega arith)))
      (asks f.tag (λ n got. here n (at-hand-given (given-fits f got) a) (eqb key n.key) refl
      (walk-yields fuel (below (step_at w n (ltb key n.key))) (step_at w n (ltb key n.key) ∷ path) (omega arith)
      (child_fits (given-fits f got) (ltb key n.key)) (at-hand-given (given-fits f got) a))))
    where
      here : (n : Node ℕ) {now : List (Node ℕ)} {p : Prog ℕ (Spot ℕ)} → AtHand k h [] [] (n ∷ nodes_on path) now
          → (t : Bool) → eqb key n.key ≡ t → YieldsBy k map_test (Walked k h key) p now
          → YieldsBy k map_test (Walked k h key) (pick t (done (hit w n path)) p) now
      here n a true e more = ends (to-node {path = path} a (eqb-true key n.key e) (omega arith))
      here n a false e more = more

-- ---- the next larger key
-- The node with the lowest key, those passed on the way to it, and others that are at hand.
pub record Lowered (k h fuel : ℕ) (less more : List Pair) (others : List (Node ℕ)) (y : Lowest ℕ) (held : List (Node ℕ)) : Type 0 where
  pub at-hand : AtHand k h less more (y.node ∷ (nodes_on y.path ++ others)) held
  pub short : length y.path ≤ fuel

module _ {k h most : ℕ} {less more : List Pair} (others : List (Node ℕ)) where
  lowest-yields : (fuel : ℕ) (w : Want ℕ) (n : Node ℕ) (path : List (Step ℕ)) {held : List (Node ℕ)} → length path + fuel ≤ most
      → AtHand k h less more (n ∷ (nodes_on path ++ others)) held
      → YieldsBy k map_test (Lowered k h most less more others) (lowest fuel w n path) held
  unfolding lowest
  lowest-yields zero w n path short a = ends {a = record { node = n; path = path }} (record { at-hand = a; short = omega arith })
  lowest-yields (suc fuel) w n path short a =
      let f = (a.fit n (Memᴰ.head refl)).left in
      yields-pick (eqb n.left.height 0) (ends {a = record { node = n; path = path }} (record { at-hand = a; short = omega arith }))
      (asks f.tag
      (λ m got. lowest-yields fuel (below (step_at w n true)) m (step_at w n true ∷ path) (omega arith) (at-hand-given (given-fits f got) a)))

-- ---- a path, and what stands at its end
module _ {k h : ℕ} {less more : List Pair} {held : List (Node ℕ)} where
  stub-at-hand : (path : List (Step ℕ)) (l : Link ℕ) → AtHand k h less more (nodes_on path) held → AtHand k h less more (climbing path (stub l) []) held
  stub-at-hand path l a = at-hand-perm (perm-of-eq (sym (append-nil (nodes_on path)))) a

  top-at-hand : (path : List (Step ℕ)) (n : Node ℕ) → AtHand k h less more (n ∷ nodes_on path) held
      → AtHand k h less more (climbing path (top n none none) []) held
  top-at-hand path n a = at-hand-perm (perm_append_comm (n ∷ []) (nodes_on path)) a

-- ---- the steps
module _ {k h : ℕ} where
  swapped_fits : (w : Want ℕ) {n y : Node ℕ} → NodeFits k h n → NodeFits k h y → NodeFits k h (swapped (step_at w n false) y).node
  swapped_fits w f g =
      record { own = record { key = g.own.key; value = g.own.value; tag = g.own.tag }; left = f.left; right = f.right }

  -- A node leaves the tree.
  take_out-yields : (w : Want ℕ) (n : Node ℕ) (path : List (Step ℕ)) {held : List (Node ℕ)} → length path ≤ h
      → AtHand k h [] [] (n ∷ nodes_on path) held
      → YieldsBy k map_test (Raised k (most_high h) (pair_of n ∷ []) []) (take_out w n path) held
  unfolding take_out
  take_out-yields w n path {held} short a =
      yields-pick (eqb n.left.height 0) (up n.right fn.right)
      (yields-pick (eqb n.right.height 0) (up n.left fn.left)
      (asks fn.right.tag (λ m got. yields-then _
      (lowest-yields (nodes_on path) n.right.height (below (step_at w n false)) m [] (omega arith)
      (at-hand-given (given-fits fn.right got) left))
      (λ y given low. climb-yields (y.path ++ (swapped (step_at w n false) y.node ∷ path)) (stub y.node.right) []
      (omega (arith, low.short, length-append y.path (swapped (step_at w n false) y.node ∷ path), fn.right.height))
      (swap-in y given low)
      (link-more (omega arith) (low.at-hand.fit y.node (Memᴰ.head refl)).right)))))
    where
      fn : NodeFits k h n
      fn = a.fit n (Memᴰ.head refl)

      left : AtHand k h (pair_of n ∷ []) [] (nodes_on path) held
      left = at-hand-aside (n ∷ []) a

      up : (l : Link ℕ) → LinkFits k h l → YieldsBy k map_test (Raised k (most_high h) (pair_of n ∷ []) []) (climb path (stub l) []) held
      up l f = climb-yields path (stub l) [] (omega arith) (stub-at-hand path l left) (link-more (omega arith) f)

      -- The next larger key's node takes the place of n.
      swap-in : (y : Lowest ℕ) (given : List (Node ℕ)) → Lowered k h n.right.height (pair_of n ∷ []) [] (nodes_on path) y given
          → AtHand k h (pair_of n ∷ []) []
          (climbing (y.path ++ (swapped (step_at w n false) y.node ∷ path)) (stub y.node.right) []) given
      swap-in y given low =
          let m = (swapped (step_at w n false) y.node).node in
          let P = NodeFits k h in
          stub-at-hand (y.path ++ (swapped (step_at w n false) y.node ∷ path)) y.node.right
          (at-hand-perm
          (trans
          (shuffle ((m ∷ []) ∷ nodes_on y.path ∷ nodes_on path ∷ []) (part 0 & (part 1 & part 2)) (part 1 & (part 0 & part 2)) refl)
          (perm-of-eq (sym (map-append (λ (p : Step ℕ). p.node) y.path (swapped (step_at w n false) y.node ∷ path)))))
          (at-hand-anew (y.node ∷ []) (m ∷ []) (nodes_on y.path ++ nodes_on path) refl (omega arith)
          (all_cons {P = P} (swapped_fits w fn (low.at-hand.fit y.node (Memᴰ.head refl))) (all_nil P)) low.at-hand))

  -- Nothing changed but tags.
  unwound-raised : {key : ℕ} {s : Spot ℕ} {held : List (Node ℕ)} → Walked k h key s held → Raised k (most_high h) [] [] (unwound s) held
  unfolding unwound
  unwound-raised (to-gap {l} {path} a f short) =
      unwind-raised path (stub l) [] (omega arith) (stub-at-hand path l a) (link-more (omega arith) f)
  unwound-raised (to-node {w} {n} {path} a same short) =
      unwind-raised path (top n none none) [] (omega arith) (top-at-hand path n a) (link-to-fits (a.fit n (Memᴰ.head refl)))

  -- What was built is the outcome.
  finished : {key value : ℕ} {Kind : Answer → Type 0} (entries : ℕ) (a : Answer) (r : Built ℕ) {held : List (Node ℕ)} → Kind a
      → Raised k (most_high h) (taken_out key a) (brought_in key value a) r held → Yielded k h key value Kind (finish entries a r) held
  finished entries a r kind f = record { kind = kind; nodes = f.at-hand; root = f.link }

  get_step-yields : {key : ℕ} (value entries : ℕ) {s : Spot ℕ} {held : List (Node ℕ)} → Walked k h key s held
      → Yielded k h key value (Answers (answer.get key)) (get_step entries s) held
  unfolding get_step taken_out brought_in
  get_step-yields {key} value entries (to-gap a f short) =
      finished entries answer.absent _ get_absent (unwound-raised {key = key} (to-gap a f short))
  get_step-yields {key} value entries (to-node {n = n} a same short) =
      finished entries (answer.found n.value) _ get-found (unwound-raised {key = key} (to-node a same short))

  put_step-yields : {key : ℕ} (value tag entries limit : ℕ) → key < 2 ^ 32 → value < 2 ^ 64 → tag < 2 ^ k → {s : Spot ℕ} {held : List (Node ℕ)}
      → Walked k h key s held → YieldsBy k map_test (Yielded k h key value (Answers (answer.put key value))) (put_step 0 key value tag entries limit s) held
  unfolding put_step taken_out brought_in
  put_step-yields {key} value tag entries limit fk fv ft (to-gap {l} {path} a f short) =
      let n : Node ℕ = record { key = key; value = value; tag = tag; left = absent 0; right = absent 0 } in
      let fn : NodeFits k h n = record { own = record { key = fk; value = fv; tag = ft }; left = absent-fits; right = absent-fits } in
      yields-pick (ltb entries limit)
      (yields-then _
      (climb-yields {c = most_high h} path (top n none none) [] (omega arith) (top-at-hand path n (at-hand-add fn a)) (link-to-fits fn))
      (λ b given raised. ends (finished (suc entries) answer.new b put-new raised)))
      (ends (finished entries answer.full _ put_full (unwound-raised {key = key} (to-gap a f short))))
  put_step-yields {key} value tag entries limit fk fv ft {held = held} (to-node {w} {n} {path} a same short) =
      let m = with_value value n in
      let fm : NodeFits k h m = with-value-fits (a.fit n (Memᴰ.head refl)) fv in
      let b : AtHand k h (pair_of n ∷ []) (pair_of m ∷ []) (m ∷ nodes_on path) _ = at-hand-add fm (at-hand-aside (n ∷ []) a) in
      ends {held = held}
      (finished entries (answer.replaced n.value) (unwind path (top m none none) []) put-replaced
      (rw same (unwind-raised path (top m none none) [] (omega arith) (top-at-hand path m b) (link-to-fits fm))))

  remove_step-yields : {key : ℕ} (value entries : ℕ) {s : Spot ℕ} {held : List (Node ℕ)} → Walked k h key s held
      → YieldsBy k map_test (Yielded k h key value (Answers (answer.remove key))) (remove_step entries s) held
  unfolding remove_step taken_out brought_in
  remove_step-yields {key} value entries (to-gap a f short) =
      ends (finished entries answer.absent _ remove_absent (unwound-raised {key = key} (to-gap a f short)))
  remove_step-yields {key} value entries (to-node {w} {n} {path} a same short) =
      yields-then _ (take_out-yields w n path short a)
      (λ b given raised. ends (finished (pred entries) (answer.removed n.value) b remove-removed (rw same raised)))

-- ---- the calls
module _ {k h : ℕ} (spares : ℕ → ℕ) (limit entries : ℕ) (a : Ahead ℕ) (l : Link ℕ) (leaf : spares 0 < 2 ^ k) (f : LinkFits k h l) where
  walked : (key : ℕ) → YieldsBy k map_test (Walked k h key) (walk key l.height (start l) []) []
  walked key = walk-yields key l.height (start l) [] (omega arith) f (record { fit = all_nil (NodeFits k h); whole = perm-refl [] })

  pub map-yields : (op : Op answer.map) → OpFits op
      → YieldsBy k map_test (Yielded k h (key_asked op entries a.key l) (value_asked op) (Answers op)) (program 0 op spares limit entries a l) []
  unfolding program get_prog put_prog remove_prog key_asked value_asked
  map-yields (answer.get key) fits = yields-then _ (walked key) (λ s given a. ends (get_step-yields 0 entries a))
  map-yields (answer.put key value) fits =
      yields-then _ (walked key) (λ s given a. put_step-yields value (spares 0) entries limit fits.0 fits.1 leaf a)
  map-yields (answer.remove key) fits = yields-then _ (walked key) (λ s given a. remove_step-yields 0 entries a)
