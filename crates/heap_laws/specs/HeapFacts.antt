-- What a memory that holds a heap tells: its keys are the positions, its pairs are those of the plain heap, and its root is position 1.
use Rattle.std.specs.Prelude.{◌≡◌, List, [], ◌∷◌, map, ℕ, zero, suc, ◌≤◌, length}
use Rattle.std.proofs.Math.Path.{refl}
use Rattle.std.proofs.Common.{sym, ◌∙◌, ap, ap₂, le_refl, arith}
use Rattle.std.proofs.Math.Bool.{true, false}
use Rattle.std.proofs.lemmas.List.{map-append, length-map}
use Rattle.std.proofs.lemmas.Simd.{map-map}
use Rattle.list_spec.specs.Perm.{Perm, trans}
use Rattle.list_spec.specs.Distinct.{Distinct, All}
use Rattle.list_laws.specs.PermLaws.{perm-sym, perm-of-eq, perm-map, perm-of-map}
use Rattle.list_laws.specs.DistinctLaws.{all_nil, all_cons, distinct-perm}
use Rattle.balance_spec.specs.Tree.{Tree, leaf, node}
use Rattle.method_spec.specs.Node.{Node, absent, Cell}
use Rattle.method_spec.specs.Answer.{heap}
use Rattle.method_spec.specs.Plain.{Pair, numbered, Entries}
use Rattle.method_spec.specs.Heap.{child_position}
use Rattle.method_spec.specs.Call.{Memory}
use Rattle.run_laws.specs.Fetches.{keys}
use Rattle.method_spec.specs.HeapShape.{CompleteTree, heap_numbers, heap_positions, bare, heap_link, heap_nodes, HoldsHeap, countdown}

-- ---- 1 to n
countdown-most : (n : ℕ) → All (λ k. k ≤ n) (countdown n)
unfolding countdown
countdown-most zero = all_nil (λ k. k ≤ 0)
countdown-most (suc n) = all_cons {P = λ k. k ≤ suc n} (le_refl (suc n)) (λ k m. let h = countdown-most n k m in omega arith)

countdown-distinct : (n : ℕ) → Distinct (countdown n)
unfolding countdown
countdown-distinct zero = tt
countdown-distinct (suc n) = (λ m. let h = countdown-most n (suc n) m in omega arith, countdown-distinct n)

-- Pairs whose keys count down to 1 are numbered.
numbered-back : (ps : List Pair) (n : ℕ) → map (λ (p : Pair). p.key) ps ≡ countdown n → numbered (map (λ (p : Pair). p.value) ps) ≡ ps
unfolding numbered countdown
numbered-back [] n e = refl
numbered-back (p ∷ ps) zero e = let z : ◌≡◌ {A = ℕ} 0 1 = cc in absurd (omega arith)
numbered-back (p ∷ ps) (suc n) e =
    let key : p.key ≡ suc n = cc in
    let keys : map (λ (p : Pair). p.key) ps ≡ countdown n = cc in
    let counted = length-map ps (λ (p : Pair). p.key) in
    let values = length-map ps (λ (p : Pair). p.value) in
    let many = ap length keys ∙ countdown-length n in
    let same : suc (length (map (λ (p : Pair). p.value) ps)) ≡ p.key = omega arith in
    ap₂ (λ (k : ℕ) (qs : List Pair). record { key = k; value = p.value } ∷ qs) same (numbered-back ps n keys)
  where
    countdown-length : (n : ℕ) → length (countdown n) ≡ n
    countdown-length zero = refl
    countdown-length (suc n) = ap suc (countdown-length n)

module _ {T : Type 0} (nil : T) where
  -- ---- keys and numbers of the nodes
  node-keys : (i : ℕ) (t : Tree (Cell T)) → keys (heap_nodes nil i t) ≡ heap_positions i (bare t)
  unfolding heap_nodes heap_positions bare
  node-keys i leaf = refl
  node-keys i (node l c r) = rw (map-append (λ (n : Node T). n.key), node-keys (child_position true i) l, node-keys (child_position false i) r)

  node-numbers : (i : ℕ) (t : Tree (Cell T)) → map (λ (n : Node T). n.value) (heap_nodes nil i t) ≡ heap_numbers (bare t)
  unfolding heap_nodes heap_numbers bare
  node-numbers i leaf = refl
  node-numbers i (node l c r) = rw (map-append (λ (n : Node T). n.value), node-numbers (child_position true i) l, node-numbers (child_position false i) r)

  module _ {limit : ℕ} {vs : List ℕ} {m : Memory T} (h : HoldsHeap nil limit vs m) where
    pub heap-keys : Perm (keys m.nodes) (countdown m.entries)
    heap-keys =
        trans (perm-map (λ (n : Node T). n.key) h.stored) (trans (perm-of-eq (node-keys 1 h.tree)) h.positions)

    pub heap-distinct : Distinct (keys m.nodes)
    heap-distinct = distinct-perm (perm-sym heap-keys) (countdown-distinct m.entries)

    heap-numbers : Perm (map (λ (n : Node T). n.value) m.nodes) vs
    heap-numbers =
        trans (perm-map (λ (n : Node T). n.value) h.stored) (trans (perm-of-eq (node-numbers 1 h.tree)) h.numbers)

    -- The nodes' pairs are the plain heap's numbers in some order, numbered.
    pub heap-entries : Entries heap vs (map (λ (n : Node T). record { key = n.key; value = n.value }) m.nodes)
    heap-entries =
        let pair : Node T → Pair = λ n. record { key = n.key; value = n.value } in
        let pairs = map pair m.nodes in
        let r = perm-of-map (λ (p : Pair). p.key) heap-keys pairs (map-map (λ (p : Pair). p.key) pair m.nodes) in
        let valued = map-map (λ (p : Pair). p.value) pair m.nodes in (
          map (λ (p : Pair). p.value) r.0,
          (
            trans (perm-sym heap-numbers) (trans (perm-of-eq (sym valued)) (perm-map (λ (p : Pair). p.value) r.1.0)),
            trans (perm-of-eq (numbered-back r.0 m.entries r.1.1)) (perm-sym r.1.0),
          ),
        )

    -- ---- the root
    pub heap-no-root : m.entries ≡ 0 → m.root ≡ absent nil
    unfolding heap_link bare
    heap-no-root none = h.linked ∙ go h.tree h.complete
      where
        go : (t : Tree (Cell T)) → CompleteTree m.entries 1 (bare t) → heap_link nil 1 t ≡ absent nil
        go leaf c = refl
        go (node l c r) d = let z : ⊥ = omega (arith, d.0) in absurd z

    pub heap-root : (m.entries ≡ 0 → ⊥) → (m.root.height ≡ 1) × (m.root.key ≡ 1)
    unfolding heap_link bare
    heap-root some = rw h.linked (go h.tree h.complete)
      where
        go : (t : Tree (Cell T)) → CompleteTree m.entries 1 (bare t) → ((heap_link nil 1 t).height ≡ 1) × ((heap_link nil 1 t).key ≡ 1)
        go leaf c = absurd (some (omega arith))
        go (node l c r) d = (refl, refl)
