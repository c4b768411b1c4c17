-- An add to a heap is safe, keeps its invariant, and answers as the plain heap does.
use Rattle.std.specs.Prelude.{◌≡◌, true, false, List, [], ◌∷◌, ◌++◌, length}
use Rattle.std.proofs.Math.Path.{refl, sym, ap}
use Rattle.std.proofs.Common.{◌∙◌, append-nil, arith, ltb-true}
use Prim.Native.Nat.{ℕ, suc, ◌<◌}
use Rattle.std.proofs.Math.Dec.{ltb}
use Rattle.list_spec.specs.Perm.{Perm, cons, trans}
use Rattle.list_laws.specs.PermLaws.{perm-refl, perm-sym, perm-append-left}
use Rattle.balance_spec.specs.Tree.{Tree, leaf, node}
use Rattle.method_spec.specs.Node.{Node, link_one, Cell}
use Rattle.method_spec.specs.Answer.{add, added, full}
use Rattle.method_spec.specs.Plain.{enter, plain}
use Rattle.method_spec.specs.Prog.{done}
use Rattle.method_spec.specs.Outcome.{Outcome}
use Rattle.method_spec.specs.Heap.{Pass, Reached, rise, topmost, new_node, add_prog, heap_test}
use Rattle.method_spec.specs.Call.{Memory}
use Rattle.run_laws.specs.Safe.{Safe, ends}
use Rattle.run_laws.specs.Fetches.{tags}
use Rattle.run_laws.specs.SafeLaws.{safe-pick, safe-then}
use Rattle.run_laws.specs.Calls.{memory_of}
use Rattle.run_laws.specs.Answers.{StepsTo}
use Rattle.method_spec.specs.HeapShape.{CompleteTree, heap_numbers, heap_positions, bare, heap_link, heap_nodes, HoldsHeap, countdown}
use Rattle.heap_laws.specs.HeapTree.{Frame, plug, position, aside, Passes, Came}
use Rattle.heap_laws.specs.Collections.{enter-perm, enter-length, enter-sorted}
use Rattle.heap_laws.specs.Plugs.{complete-same, positions-same, complete-part, complete-one, numbers-one, positions-one}
use Rattle.heap_laws.specs.Order.{Fits, Spread, ordered-split}
use Rattle.heap_laws.specs.Descend.{descend-safe}
use Rattle.heap_laws.specs.Rising.{Risen, rise-stored, rise-tags, topmost-link}

module _ {T : Type 0} (nil : T) where
  -- What an add of the cell c makes, where its way passed those nodes.
  abbrev add_outcome : Cell T → Memory T → List (Pass T) → Outcome T
  add_outcome c m path =
      let new = new_node nil c.value c.tag m.entries in
      record {
        nodes = rise new path;
        root = link_one (topmost new path);
        entries = suc m.entries;
        answer = added;
      }

module _ {T : Type 0} (nil : T) (limit : ℕ) (vs : List ℕ) (m : Memory T) (h : HoldsHeap nil limit vs m) where
  -- ---- the place after the last

  -- Nothing stands where the way to it ended.
  place-empty : {r : Reached T} {held ns : List (Node T)} (came : Came nil (suc m.entries) h.tree r held ns) → came.focus ≡ leaf
  unfolding bare
  place-empty came =
      go came.focus
      (rw came.at at (complete-part m.entries came.frames came.focus (rw came.same h.complete)))
    where
      go : (u : Tree (Cell T)) → CompleteTree m.entries (suc m.entries) (bare u) → u ≡ leaf
      go leaf beyond = refl
      go (node l c r) inside = let z : ⊥ = omega (arith, inside.0) in absurd z

  -- The tree with a cell c there.
  module _ (c : Cell T) (fs : List (Frame T)) (last : position fs ≡ suc m.entries) (same : bare (plug leaf fs) ≡ bare h.tree) where
    abbrev with_cell : Tree (Cell T)
    with_cell = plug (node leaf c leaf) fs

    cell-complete : CompleteTree (suc m.entries) 1 (bare with_cell)
    cell-complete = (complete-one m.entries fs c last).more (rw same h.complete)

    cell-numbers : Perm (heap_numbers (bare with_cell)) (enter c.value vs)
    cell-numbers =
        trans (numbers-one fs c)
        (trans (cons c.value (rw (← same) at h.numbers)) (perm-sym (enter-perm c.value vs)))

    cell-positions : Perm (heap_positions 1 (bare with_cell)) (countdown (suc m.entries))
    unfolding countdown
    cell-positions =
        trans (rw (last, same) at (positions-one fs c)) (cons (suc m.entries) h.positions)

    cell-risen : {path : List (Pass T)} → Passes nil fs path
        → Risen nil fs (node leaf c leaf) (rise (new_node nil c.value c.tag m.entries) path ++ aside nil fs)
    unfolding bare heap_link heap_nodes
    cell-risen passes =
        let fits : Fits fs leaf = record { ordered = tt; least = tt } in
        let spread : Spread fs leaf c leaf = record { left = fits; right = fits; over-left = tt; over-right = tt } in
        rw last at (rise-stored nil passes (ordered-split fs leaf (rw same h.ordered)).0 leaf c leaf spread)

    -- The memory after the number has risen.
    cell-kept : {path : List (Pass T)} {ns : List (Node T)} → length vs < limit → Passes nil fs path → Perm ns (aside nil fs)
        → HoldsHeap nil limit (enter c.value vs) (memory_of m.ahead (add_outcome nil c m path) ns)
    unfolding heap_link
    cell-kept {path} room passes there =
        let new = new_node nil c.value c.tag m.entries in
        let risen = cell-risen passes in
        record {
          tree = risen.tree;
          complete = complete-same 1 (bare with_cell) (bare risen.tree) (sym risen.alike) (suc m.entries) cell-complete;
          ordered = risen.ordered;
          numbers = trans risen.numbers cell-numbers;
          sorted = enter-sorted c.value vs h.sorted;
          positions = rw (positions-same 1 (bare risen.tree) (bare with_cell) risen.alike) cell-positions;
          counted = ap suc h.counted ∙ sym (enter-length c.value vs);
          linked = topmost-link nil passes new (node leaf c leaf) (rw last) ∙ sym risen.linked;
          stored = trans (perm-append-left (rise new path) there) risen.stored;
          fits = rw (enter-length c.value vs) room;
        }

  -- ---- the steps

  add-room : (c : Cell T) {r : Reached T} {held ns : List (Node T)} → ltb (length vs) limit ≡ true
      → Came nil (suc m.entries) h.tree r held ns
      → StepsTo (HoldsHeap nil limit) (plain limit (add c.value) vs) (c.tag ∷ []) m.ahead (add_outcome nil c m r.path) held ns
  unfolding plain heap_nodes
  add-room c {r} {held} {ns} room came =
      let gone = place-empty came in
      let same = rw gone at came.same in
      let there = rw gone at came.there in
      let made = rise-tags nil came.passes (new_node nil c.value c.tag m.entries) in
      record {
        contents = rw room (cell-kept c came.frames came.at same (ltb-true (length vs) limit room) came.passes there);
        answers = rw room;
        retagged = record { dropped = []; among = rw (append-nil (tags (rise (new_node nil c.value c.tag m.entries) r.path)), made) (cons c.tag came.retagged) };
      }

  add-full : (value : ℕ) (tag : T) → ltb (length vs) limit ≡ false
      → StepsTo (HoldsHeap nil limit) (plain limit (add value) vs) (tag ∷ []) m.ahead
      (record { nodes = []; root = m.root; entries = m.entries; answer = full }) [] m.nodes
  unfolding plain
  add-full value tag room =
      record {
        contents = rw room h;
        answers = rw room;
        retagged = record { dropped = tag ∷ []; among = perm-refl (tag ∷ []) };
      }

module _ {T : Type 0} (nil : T) where
  pub add-safe : (limit : ℕ) (vs : List ℕ) (m : Memory T) → HoldsHeap nil limit vs m → (value : ℕ) (tag : T)
      → Safe (heap_test m.entries) (StepsTo (HoldsHeap nil limit) (plain limit (add value) vs) (tag ∷ []) m.ahead)
      (add_prog nil value tag m.entries limit m.root) [] m.nodes
  unfolding add_prog
  add-safe limit vs m h value tag =
      let counted = ap (λ (n : ℕ). ltb n limit) (sym h.counted) in
      let c : Cell T = record { value = value; tag = tag } in
      safe-pick (ltb m.entries limit)
      (λ room. safe-then (λ r. done (add_outcome nil c m r.path))
      (rw (← h.linked) at (descend-safe nil m.entries (suc m.entries) h.tree m.nodes h.complete (omega arith) (omega arith) h.stored))
      (λ r held ns came. ends (add-room nil limit vs m h c (counted ∙ room) came)))
      (λ room. ends (add-full nil limit vs m h value tag (counted ∙ room)))
