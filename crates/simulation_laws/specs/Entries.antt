-- The entries of a structure, as pairs of a key and a value: those of the plain machine are those of the memory's nodes. Tickets
-- whose keys and values are within their widths keep all entries within them.
use Rattle.std.specs.Prelude.{◌≡◌, Bool, true, false, eqb, ltb, length}
use Rattle.std.proofs.Math.Path.{refl, ap, ap₂}
use Rattle.std.proofs.Common.{sym, ◌∙◌, arith, pow_mono, ltb-true}
use mathlib.Core.List.Memᴰ
use mathlib.Core.List.{List, [], ◌∷◌, map-append}
use mathlib.Core.List as list
use Rattle.std.proofs.Math.Option.{Option, none, some}
use Prim.Native.Nat.{ℕ, suc, ◌+◌, ◌^◌, ◌≤◌, ◌<◌}
use Rattle.std.proofs.lemmas.List.{length-map}
use Rattle.leaf_spec.specs.Entries.{OpFits, pair_of}
use Rattle.list_spec.specs.Choice.{pick}
use Rattle.list_spec.specs.Perm.{Perm, nil as perm-none, cons, trans}
use Rattle.list_laws.specs.PermLaws.{perm-sym, perm-of-eq, perm-append, perm-front, perm-map, perm-length}
use Rattle.list_spec.specs.Distinct.{All}
use Rattle.list_laws.specs.DistinctLaws.{all_nil, all_cons, all_append, all-perm}
use Rattle.balance_spec.specs.Tree.{Tree, leaf, node}
use Rattle.method_spec.specs.Answer.{Structure, map, stack, heap, queue, Op, get, put, remove, push, pop, add, take, enqueue, dequeue}
use Rattle.method_spec.specs.Plain.{Pair, Contents, lookup, store, erase, enter, put_into, popped_from, taken_from, dequeued_from, plain, numbered, in_row, Entries}
use Rattle.method_spec.specs.Call.{capacity, Memory}
use Rattle.method_spec.specs.Node.{Cell}
use Rattle.run_laws.specs.StackRepresents.{chain}
use Rattle.avl_laws.specs.Search.{Entry, pairs, nodes_of}
use Rattle.heap_laws.specs.HeapFacts.{heap-entries}
use Rattle.heap_laws.specs.Collections.{enter-perm, enter-length}
use Rattle.method_spec.specs.QueueShape.{row, HoldsQueue}
use Rattle.queue_laws.specs.QueueRepresents.{cells-counted}
use Rattle.method_laws.specs.Represented.{Held}

-- ---- within their widths

abbrev pub PairFits : Pair → Type 0
PairFits p = (p.key < 2 ^ 32) × (p.value < 2 ^ 64)

abbrev pub EntriesFit : (s : Structure) → Contents s → Type 0
EntriesFit map t = All PairFits t
EntriesFit stack vs = All PairFits (numbered vs)
EntriesFit heap vs = (length vs < 2 ^ 32) × All (λ v. v < 2 ^ 64) vs
EntriesFit queue vs = All (λ v. v < 2 ^ 64) vs

all_tail : {P : Pair → Type 0} {p : Pair} {ps : List Pair} → All P (p ∷ ps) → All P ps
all_tail h q m = h q (Memᴰ.tail m)

store-fits : (key value : ℕ) (t : List Pair) → (key < 2 ^ 32) × (value < 2 ^ 64) → All PairFits t → All PairFits (store key value t)
unfolding store
store-fits key value [] f h = all_cons {P = PairFits} f (all_nil PairFits)
store-fits key value (p ∷ t) f h =
    go (eqb key p.key) (ltb key p.key) (store-fits key value t f (all_tail {P = PairFits} h))
  where
    go : (same less : Bool) → All PairFits (store key value t)
        → All PairFits (pick same (record { key = key; value = value } ∷ t)
        (pick less (record { key = key; value = value } ∷ p ∷ t) (p ∷ store key value t)))
    go true less later = all_cons {P = PairFits} f (all_tail {P = PairFits} h)
    go false true later = all_cons {P = PairFits} f h
    go false false later = all_cons {P = PairFits} (h p (Memᴰ.head refl)) later

erase-fits : (key : ℕ) (t : List Pair) → All PairFits t → All PairFits (erase key t)
unfolding erase
erase-fits key [] h = h
erase-fits key (p ∷ t) h = go (eqb key p.key) (erase-fits key t (all_tail {P = PairFits} h))
  where
    go : (same : Bool) → All PairFits (erase key t) → All PairFits (pick same t (p ∷ erase key t))
    go true later = all_tail {P = PairFits} h
    go false later = all_cons {P = PairFits} (h p (Memᴰ.head refl)) later

-- A step of the plain machine keeps its entries within their widths.
pub plain_fits : {s : Structure} (k : ℕ) → k ≤ 32 → (op : Op s) → OpFits op → (t : Contents s) → EntriesFit s t
    → EntriesFit s (plain (capacity k) op t).contents
unfolding plain put_into numbered popped_from taken_from dequeued_from
plain_fits k small (get key) f t h = h
plain_fits k small (put key value) f t h = go (lookup key t) (ltb (length t) (capacity k)) refl
  where
    go : (old : Option ℕ) (room : Bool) → ltb (length t) (capacity k) ≡ room → All PairFits (put_into (capacity k) key value t old).contents
    go (some old) room e = store-fits key value t f h
    go none true e = rw e (store-fits key value t f h)
    go none false e = rw e h
plain_fits k small (remove key) f t h = erase-fits key t h
plain_fits k small (push value) f vs h = go (ltb (length vs) (capacity k)) refl
  where
    go : (room : Bool) → ltb (length vs) (capacity k) ≡ room → EntriesFit stack (plain (capacity k) (push value) vs).contents
    go true e =
        let less = ltb-true (length vs) (capacity k) e in
        let most : 2 ^ k ≤ 2 ^ 32 = pow_mono small in
        rw e (all_cons {P = PairFits} (omega arith, f) h)
    go false e = rw e h
plain_fits k small pop f [] h = h
plain_fits k small pop f (v ∷ vs) h = all_tail {P = PairFits} h
plain_fits k small (add value) f vs h = go (ltb (length vs) (capacity k)) refl
  where
    go : (room : Bool) → ltb (length vs) (capacity k) ≡ room → EntriesFit heap (plain (capacity k) (add value) vs).contents
    go true e =
        let less = ltb-true (length vs) (capacity k) e in
        let most : 2 ^ k ≤ 2 ^ 32 = pow_mono small in
        let few : length (enter value vs) < 2 ^ 32 = omega (arith, enter-length value vs) in
        rw e (few, all-perm {P = λ v. v < 2 ^ 64} (perm-sym (enter-perm value vs)) (all_cons {P = λ v. v < 2 ^ 64} f h.1))
    go false e = rw e h
plain_fits k small take f [] h = h
plain_fits k small take f (v ∷ vs) h = (omega arith, λ w m. h.1 w (Memᴰ.tail m))
plain_fits k small (enqueue value) f vs h = go (ltb (length vs) (capacity k)) refl
  where
    go : (room : Bool) → ltb (length vs) (capacity k) ≡ room → EntriesFit queue (plain (capacity k) (enqueue value) vs).contents
    go true e =
        rw e (all_append {P = λ v. v < 2 ^ 64} vs h (all_cons {P = λ v. v < 2 ^ 64} f (all_nil (λ v. v < 2 ^ 64))))
    go false e = rw e h
plain_fits k small dequeue f [] h = h
plain_fits k small dequeue f (v ∷ vs) h = λ w m. h w (Memᴰ.tail m)

-- ---- the entries of a memory

module _ {T : Type 0} (nil : T) where
  tree-entries : (t : Tree (Entry T)) → Perm (list.map pair_of (nodes_of nil t)) (pairs t)
  unfolding nodes_of pairs
  tree-entries leaf = perm-none
  tree-entries (node l e r) =
      simp map-append
      (trans (cons (record { key = e.key; value = e.value }) (perm-append (tree-entries l) (tree-entries r)))
      (perm-sym (perm-front (pairs l) (record { key = e.key; value = e.value }) (pairs r))))

  chain-entries : (cs : List (Cell T)) → list.map pair_of (chain nil cs) ≡ numbered (list.map (λ c. c.value) cs)
  unfolding chain numbered
  chain-entries [] = refl
  chain-entries (c ∷ cs) =
      ap₂ (λ (n : ℕ) (ps : List Pair). record { key = suc n; value = c.value } ∷ ps)
      (sym (length-map cs (λ (c : Cell T). c.value))) (chain-entries cs)

  row-entries : (first : ℕ) (cs : List (Cell T)) (ahead : T) → list.map pair_of (row nil first cs ahead) ≡ in_row first (list.map (λ c. c.value) cs)
  unfolding row in_row
  row-entries first [] ahead = refl
  row-entries first (c ∷ cs) ahead =
      ap (λ (ps : List Pair). record { key = first; value = c.value } ∷ ps) (row-entries (suc first) cs ahead)

  queue-entries : (limit : ℕ) (vs : List ℕ) (m : Memory T) (h : HoldsQueue nil limit vs m) → Perm (in_row h.first vs) (list.map pair_of m.nodes)
  queue-entries limit vs m h =
      perm-sym
      (trans (perm-map pair_of h.there) (perm-of-eq (row-entries h.first h.cells m.ahead.tag ∙ ap (in_row h.first) h.values)))

  pub held-entries : (s : Structure) (limit : ℕ) (t : Contents s) (m : Memory T) → Held nil s limit t m
      → Entries s t (list.map pair_of m.nodes)
  held-entries map limit t m (h, idle) =
      perm-sym (trans (perm-map pair_of h.stored) (trans (tree-entries h.tree) (perm-of-eq h.same)))
  held-entries stack limit t m (h, idle) =
      perm-sym (trans (perm-map pair_of h.there) (perm-of-eq (chain-entries h.cells ∙ ap numbered h.values)))
  held-entries heap limit t m (h, idle) = heap-entries nil h
  held-entries queue limit t m h = (h.first, queue-entries limit t m h)

-- ---- the entries in another order, and their widths

pub entries-perm : (s : Structure) (t : Contents s) {ps qs : List Pair} → Perm ps qs → Entries s t ps → Entries s t qs
entries-perm map t p e = trans e p
entries-perm stack t p e = trans e p
entries-perm heap t p e = (e.0, (e.1.0, trans e.1.1 p))
entries-perm queue t p e = (e.0, trans e.1 p)

-- Numbers and how many they are, of pairs that are numbered.
numbered-fits : (vs : List ℕ) → length vs < 2 ^ 32 → All (λ v. v < 2 ^ 64) vs → All PairFits (numbered vs)
unfolding numbered
numbered-fits [] few h = all_nil PairFits
numbered-fits (v ∷ vs) few h =
    all_cons {P = PairFits} (few, h v (Memᴰ.head refl)) (numbered-fits vs (omega arith) (λ w m. h w (Memᴰ.tail m)))

fit-numbers : (vs : List ℕ) → All PairFits (numbered vs) → (length vs < 2 ^ 32) × All (λ v. v < 2 ^ 64) vs
unfolding numbered
fit-numbers [] h = (omega arith, all_nil (λ v. v < 2 ^ 64))
fit-numbers (v ∷ vs) h =
    let first = h _ (Memᴰ.head refl) in
    (first.0, all_cons {P = λ w. w < 2 ^ 64} first.1 (fit-numbers vs (all_tail {P = PairFits} h)).1)

row_fits : (first : ℕ) (vs : List ℕ) → first + length vs < 2 ^ 32 → All (λ v. v < 2 ^ 64) vs → All PairFits (in_row first vs)
unfolding in_row
row_fits first [] few h = all_nil PairFits
row_fits first (v ∷ vs) few h =
    all_cons {P = PairFits} (omega arith, h v (Memᴰ.head refl)) (row_fits (suc first) vs (omega arith) (λ w m. h w (Memᴰ.tail m)))

fit_row : (first : ℕ) (vs : List ℕ) → All PairFits (in_row first vs) → All (λ v. v < 2 ^ 64) vs
unfolding in_row
fit_row first [] h = all_nil (λ v. v < 2 ^ 64)
fit_row first (v ∷ vs) h =
    all_cons {P = λ w. w < 2 ^ 64} (h _ (Memᴰ.head refl)).1 (fit_row (suc first) vs (all_tail {P = PairFits} h))

-- The pairs of a memory fit where what it holds does; a queue's keys are below the next unused one.
pub pairs-fit : (s : Structure) (limit : ℕ) (t : Contents s) (m : Memory ℕ) → Held 0 s limit t m → m.ahead.key < 2 ^ 32 → EntriesFit s t
    → All PairFits (list.map pair_of m.nodes)
pairs-fit map limit t m held below h = all-perm {P = PairFits} (held-entries 0 map limit t m held) h
pairs-fit stack limit t m held below h = all-perm {P = PairFits} (held-entries 0 stack limit t m held) h
pairs-fit heap limit t m held below h =
    let e = held-entries 0 heap limit t m held in
    let few : length e.0 < 2 ^ 32 = omega (arith, perm-length e.1.0) in
    all-perm {P = PairFits} e.1.1 (numbered-fits e.0 few (all-perm {P = λ v. v < 2 ^ 64} e.1.0 h.1))
pairs-fit queue limit t m held below h =
    let few : held.first + length t < 2 ^ 32 = omega (arith, held.in-row, held.counted, cells-counted 0 limit t m held) in
    all-perm {P = PairFits} (queue-entries 0 limit t m held) (row_fits held.first t few h)

pub fit-entries : (s : Structure) (t : Contents s) {ps : List Pair} → Entries s t ps → All PairFits ps → EntriesFit s t
fit-entries map t e h = all-perm {P = PairFits} (perm-sym e) h
fit-entries stack t e h = all-perm {P = PairFits} (perm-sym e) h
fit-entries heap t e h =
    let f = fit-numbers e.0 (all-perm {P = PairFits} (perm-sym e.1.1) h) in
    (omega (arith, perm-length e.1.0), all-perm {P = λ v. v < 2 ^ 64} (perm-sym e.1.0) f.1)
fit-entries queue t e h = fit_row e.0 t (all-perm {P = PairFits} (perm-sym e.1) h)
