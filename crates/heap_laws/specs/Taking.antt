-- A take of the heap is safe, and does what the plain heap does.
use Rattle.std.specs.Prelude.{◌≡◌, refl, eqb}
use Rattle.std.proofs.Math.Path.{sym, ap}
use mathlib.Core.List.{List, [], ◌∷◌, ◌++◌, append-nil}
use Prim.Native.Nat.{ℕ, suc, ◌*◌, ◌^◌, ◌≤◌, ◌<◌}
use native.Mathlib.Omega.{arith}
use Rattle.std.proofs.Math.ListN.{length}
use Rattle.std.proofs.lemmas.List.{length-map}
use borrow.Author.Tests.{eqb-true, eqb-false}
use Rattle.list_spec.specs.Perm.{Perm, cons, swap, trans}
use Rattle.list_laws.specs.PermLaws.{perm-refl, perm-sym, perm-of-eq, perm-front, perm-length, perm-singleton, perm_append_comm, perm-cancel}
use Rattle.balance_spec.specs.Tree.{Tree, leaf, node, height}
use Rattle.method_spec.specs.Node.{Ahead, Node, Link, absent, link_one, Cell}
use Rattle.method_spec.specs.Prog.{want}
use Rattle.method_spec.specs.Answer.{take, taken, empty}
use Rattle.method_spec.specs.Plain.{plain, taken_from}
use Rattle.method_spec.specs.Outcome.{Outcome}
use Rattle.method_spec.specs.Heap.{Pass, Reached, downward, passed, replace_root, take_prog, heap_test}
use Rattle.method_spec.specs.Call.{Memory}
use Rattle.run_laws.specs.Safe.{Safe, ends, meets}
use Rattle.run_laws.specs.SafeLaws.{safe-then, safe-pick}
use Rattle.run_laws.specs.Fetches.{tags}
use Rattle.run_laws.specs.Answers.{StepsTo}
use Rattle.method_spec.specs.HeapShape.{CompleteTree, Ordered, heap_numbers, heap_positions, Sorted, bare, heap_link, heap_node, heap_nodes, HoldsHeap, countdown}
use Rattle.heap_laws.specs.HeapTree.{Frame, plug, position, frame_tags, aside, Came, node-passes}
use Rattle.heap_laws.specs.Plugs.{shape, complete-same, positions-same, complete-height, position-low, numbers-one, positions-one, complete-part, complete-one}
use Rattle.heap_laws.specs.Order.{TopIs, top-first, ordered-without, top-without}
use Rattle.heap_laws.specs.Descend.{descend-safe}
use Rattle.heap_laws.specs.Spine.{Topped, no_top, with-top, hidden, downward-hand}
use Rattle.heap_laws.specs.Sinking.{Stock, Sank, sink-safe}

-- ---- without the last position

-- The tree u is left of a heap's where the last position, with the number v, has left: w is the least number of the whole, and ws
-- are the others.
record Shrunk (limit w : ℕ) (ws : List ℕ) (v : ℕ) (u : Tree ℕ) : Type 0 where
  complete : CompleteTree (length ws) 1 u
  ordered : Ordered u
  top : TopIs w u
  numbers : Perm (v ∷ heap_numbers u) (w ∷ ws)
  positions : Perm (heap_positions 1 u) (countdown (length ws))
  sorted : Sorted ws
  fits : length ws ≤ limit

module _ {T : Type 0} where
  -- A tree of one node.
  data Single : Tree (Cell T) → Type 0 where
    single : (z : Cell T) → Single (node leaf z leaf)

  -- At the last position.
  last-single : (n : ℕ) → 1 ≤ n → (t : Tree (Cell T)) → CompleteTree n n (bare t) → Single t
  unfolding bare
  last-single n least leaf h = let z : ⊥ = omega arith in absurd z
  last-single n least (node leaf c leaf) h = single c
  last-single n least (node leaf c (node a b d)) h = let z : ⊥ = omega arith in absurd z
  last-single n least (node (node a b d) c r) h = let z : ⊥ = omega arith in absurd z

module _ {T : Type 0} (nil : T) (limit w : ℕ) (ws : List ℕ) (m : Memory T) (h : HoldsHeap nil limit (w ∷ ws) m) where
  -- So it is where a way came to the last position.
  shrunk : (fs : List (Frame T)) (z : Cell T) → position fs ≡ suc (length ws)
      → bare (plug (node leaf z leaf) fs) ≡ bare h.tree → Shrunk limit w ws z.value (bare (plug leaf fs))
  unfolding bare countdown
  shrunk fs z at same =
      let k = length ws in
      let last = node leaf z leaf in
      let counted : m.entries ≡ suc k = h.counted in
      record {
        complete = (complete-one k fs z at).fewer (rw same (rw counted at h.complete));
        ordered = ordered-without fs last (rw same h.ordered);
        top = top-without fs last w (rw same (top-first w ws (bare h.tree) h.ordered h.numbers h.sorted));
        numbers = trans (rw same at (perm-sym (numbers-one fs z))) h.numbers;
        positions = perm-cancel (trans (rw (at, same) at (perm-sym (positions-one fs z))) (rw counted at h.positions));
        sorted = h.sorted.1;
        fits = omega (arith, h.fits);
      }

-- ---- the number of the last position sinks from the root

module _ {T : Type 0} (nil : T) (limit w : ℕ) (ws : List ℕ) (tag : T) (ahead : Ahead T) where
  -- What a take must come to, where the plain heap gives the number w and keeps the others.
  abbrev Done : Outcome T → List (Node T) → List (Node T) → Type 0
  Done = StepsTo (HoldsHeap nil limit) (plain limit take (w ∷ ws)) (tag ∷ []) ahead

  module _ (z : Cell T) (d : T) where
    -- The node of the last position, as it is held.
    abbrev last_held : Node T
    last_held = heap_node nil (suc (length ws)) leaf (record { value = z.value; tag = d }) leaf

    -- It was the only one.
    taken-last : {held ns : List (Node T)} → Shrunk limit w ws z.value leaf → Perm ns [] → Perm (tags held) []
        → Done (record { nodes = []; root = absent nil; entries = length ws; answer = taken z.value }) (last_held ∷ held) ns
    unfolding plain taken_from heap_link heap_nodes bare heap_numbers
    taken-last h there tagged =
        let e : w ∷ ws ≡ z.value ∷ [] = perm-singleton (perm-sym h.numbers) in
        record {
          contents =
              record {
                tree = leaf;
                complete = h.complete;
                ordered = tt;
                numbers = perm-of-eq (cc);
                sorted = h.sorted;
                positions = h.positions;
                counted = refl;
                linked = refl;
                stored = there;
                fits = h.fits;
              };
          answers = ap taken (cc);
          retagged = record { dropped = tag ∷ d ∷ []; among = cons tag (cons d tagged) };
        }

    -- It sank into the tree of the others.
    taken-top : (l : Tree (Cell T)) (c : Cell T) (r : Tree (Cell T)) (p : Pass T) {out held ns : List (Node T)}
        → p.node ≡ heap_node nil 1 l c r → Shrunk limit w ws z.value (bare (node l c r))
        → Sank nil z.value 1 (bare l) (bare r) c.tag [] (d ∷ []) out held ns
        → Done (record { nodes = out; root = link_one p.node; entries = length ws; answer = taken p.node.value }) held ns
    unfolding plain taken_from heap_link heap_nodes bare heap_numbers shape
    taken-top l c r p {out} e h s =
        let same : shape (bare (node l c r)) ≡ shape (bare s.tree) = sym s.alike in
        let value : p.node.value ≡ w = cc h.top in
        let below = heap_numbers (bare l) ++ heap_numbers (bare r) in
        let numbers : Perm (w ∷ (z.value ∷ below)) (w ∷ ws) =
        trans (perm-of-eq (ap (λ (x : ℕ). x ∷ (z.value ∷ below)) (sym h.top))) (trans (swap c.value z.value below) h.numbers) in
        record {
          contents =
              record {
                tree = s.tree;
                complete = complete-same 1 (bare (node l c r)) (bare s.tree) same (length ws) h.complete;
                ordered = s.ordered;
                numbers = trans s.numbers (perm-cancel numbers);
                sorted = h.sorted;
                positions = trans (perm-of-eq (sym (positions-same 1 (bare (node l c r)) (bare s.tree) same))) h.positions;
                counted = refl;
                linked = cc s.linked;
                stored = trans s.stored (perm-of-eq (append-nil (heap_nodes nil 1 s.tree)));
                fits = h.fits;
              };
          answers = ap taken value;
          retagged =
              record { dropped = tag ∷ d ∷ []; among = trans (cons tag s.tagged) (perm-sym (perm-front (tags out) tag (d ∷ []))) };
        }

    -- The tree u without the last position, with the nodes of the way to it at hand.
    replace-safe : {u : Tree (Cell T)} {ps : List (Pass T)} {held ns : List (Node T)} → Topped nil (suc (length ws)) 1 u ps
        → Shrunk limit w ws z.value (bare u) → height (bare u) ≤ suc (length ps)
        → Perm ns (hidden nil 1 u ps) → Perm (tags held) (tags (passed ps))
        → Safe (heap_test (suc (length ws))) Done (replace_root nil (suc (length ws)) last_held ps) (last_held ∷ held) ns
    unfolding replace_root hidden bare height
    replace-safe no_top h tall there tagged = ends (taken-last h there tagged)
    replace-safe {held = held} {ns} (with-top {l = l} {c} {r} {p} {ps} e left right) h tall there tagged =
        let stock : Stock nil 1 (node l c r) (p ∷ ps) [] (d ∷ []) (last_held ∷ held) ns =
        record {
          left = trans there (perm-of-eq (sym (append-nil (hidden nil 1 (node l c r) (p ∷ ps)))));
          tagged = trans (cons d tagged) (perm_append_comm (d ∷ []) (tags (passed (p ∷ ps))));
        } in
        safe-then _
        (sink-safe nil (suc (length ws)) (suc (length ps)) z.value 1 l c r p ps [] (d ∷ []) (last_held ∷ held) ns e left right
        h.ordered.1.1.0 h.ordered.1.1.1 (omega arith) (omega arith) stock)
        (λ out later left s. ends (taken-top l c r p e h s))

  -- The last position's node is fetched where the way to it came to, and its number sinks.
  last-safe : (m : Memory T) (h : HoldsHeap nil limit (w ∷ ws) m) (r : Reached T) (held ns : List (Node T))
      → Came nil (suc (length ws)) h.tree r held ns
      → Safe (heap_test (suc (length ws))) Done
      (want r.end (λ n. replace_root nil (suc (length ws)) n (downward (absent nil) r.path []))) held ns
  unfolding heap_link heap_nodes hidden bare
  last-safe m h r held ns came =
      let complete : CompleteTree (suc k) 1 (bare (plug came.focus fs)) = rw came.same (rw counted at h.complete) in
      go came.focus (last-single (suc k) (omega arith) came.focus (rw came.at at (complete-part (suc k) fs came.focus complete)))
      came.same came.ends came.there complete
    where
      k : ℕ
      k = length ws

      counted : m.entries ≡ suc (length ws)
      counted = h.counted

      fs : List (Frame T)
      fs = came.frames

      ps : List (Pass T)
      ps = downward (absent nil) r.path []

      go : (focus : Tree (Cell T)) → Single focus → bare (plug focus fs) ≡ bare h.tree → r.end.link ≡ heap_link nil (suc k) focus
          → Perm ns (heap_nodes nil (suc k) focus ++ aside nil fs) → CompleteTree (suc k) 1 (bare (plug focus fs))
          → Safe (heap_test (suc k)) Done (want r.end (λ n. replace_root nil (suc k) n ps)) held ns
      go focus (single z) same link there complete =
          let down = downward-hand nil (suc k) came.passes focus complete leaf [] no_top (absent nil) refl in
          let left = shrunk nil limit w ws m h fs z came.at same in
          let at = came.at in
          let few : k < 1 * 2 ^ suc (length fs) = omega (arith, position-low fs) in
          let long : length (tags (passed ps)) ≡ length (frame_tags fs) = perm-length down.tagged in
          let tall : height (bare (plug leaf fs)) ≤ suc (length ps) =
          omega (
            arith,
            complete-height k 1 (suc (length fs)) (bare (plug leaf fs)) left.complete few,
            length-map (passed ps) (λ (n : Node T). n.tag),
            length-map ps (λ (p : Pass T). p.node),
            length-map fs (λ (f : Frame T). f.cell.tag),
          ) in
          meets (heap_node nil (suc k) leaf z leaf) (aside nil fs) there (ap (λ (l : Link T). l.key) (sym link))
          (ap (λ (l : Link T). l.tag) (sym link)) (node-passes nil (suc k) (suc k) r.end leaf z leaf (omega arith) (omega arith))
          (λ d. replace-safe z d down.topped left tall (perm-sym down.rest)
          (trans came.retagged (perm-sym down.tagged)))

-- ---- the take

module _ {T : Type 0} (nil : T) where
  -- The empty heap has none.
  none-taken : (limit : ℕ) (m : Memory T) → HoldsHeap nil limit [] m → (tag : T)
      → StepsTo (HoldsHeap nil limit) (plain limit take []) (tag ∷ []) m.ahead
      (record { nodes = []; root = m.root; entries = m.entries; answer = empty }) [] m.nodes
  unfolding plain taken_from
  none-taken limit m h tag =
      record { contents = h; answers = refl; retagged = record { dropped = tag ∷ []; among = perm-refl (tag ∷ []) } }

  pub take-safe : (limit : ℕ) (vs : List ℕ) (m : Memory T) → HoldsHeap nil limit vs m → (tag : T)
      → Safe (heap_test m.entries) (StepsTo (HoldsHeap nil limit) (plain limit take vs) (tag ∷ []) m.ahead) (take_prog nil m.entries m.root) []
      m.nodes
  unfolding take_prog
  take-safe limit [] m h tag =
      safe-pick (eqb m.entries 0) (λ _. ends (none-taken limit m h tag))
      (λ t. absurd (eqb-false m.entries 0 t h.counted))
  take-safe limit (w ∷ ws) m h tag =
      let n = suc (length ws) in
      let counted : m.entries ≡ n = h.counted in
      safe-pick (eqb m.entries 0)
      (λ t. let none = eqb-true m.entries 0 t in let z : ⊥ = omega arith in absurd z)
      (λ _.
      rw (counted, h.linked)
      (safe-then _
      (descend-safe nil n n h.tree m.nodes (rw counted at h.complete) (omega arith) (omega arith) h.stored)
      (last-safe nil limit w ws tag m.ahead m h)))
