-- Reading a ticket: its key, and what it asks, kind by kind.
use Rattle.std.specs.Prelude.{◌≡◌, Some, None, Bool, List, [], ◌∷◌, ◌⊎◌, ℕ, ◌/◌, ◌%◌, ◌≤◌, ◌<◌, ◌^◌, length, take, drop, get_or}
use Rattle.std.proofs.Math.Path.{refl, ap}
use Rattle.std.proofs.Common.{sym, ◌∙◌, ⊎_elim, inl, inr, arith, length-take, length-drop, take_at, take-take}
use Rattle.std.proofs.Math.Bool.{true, false}
use Rattle.std.proofs.Math.Option.{none, some}
use borrow.Author.Tests.{eq-eqb, ne_eqb, eqb-true, eqb-false}
use Rattle.list_spec.specs.Choice.{pick}
use Rattle.method_spec.specs.Answer.{Structure, map as the-map, stack as the-stack, heap as the_heap, queue as the-queue, get, put, remove, push, pop, add, take as take-smallest, enqueue, dequeue}
use Rattle.state_spec.specs.Ticket.{kind_in, key_in, value_in, op_in, structure_of}
use Rattle.operation_spec.specs.declared.Op.TheVariants.{Get, Put, Remove, Push, Pop, Add, Take, Enqueue, Dequeue}
use Rattle.tickets.specs.Asked.{asked, from_op, from_asked, map_op, stack_op, heap_op, queue_op}
use Rattle.std.proofs.Math.Dec.{eqb}
use Rattle.slot_spec.specs.LittleEndian.{value, bytes, Bytes}
use Rattle.slot_laws.specs.LittleEndianLaws.{length-bytes, value-bytes, bytes-value, bytes-split, bytes-from, bytes_take, bytes_drop}

-- ---- the key
-- Of a word's number the remainder by 2^32 is that of its first four bytes.
half-word : (xs : List ℕ) → Bytes xs → 8 ≤ length xs → value (take 8 xs) % 4294967296 ≡ value (take 4 xs)
half-word xs b l =
    let n = value (take 8 xs) in
    let w : length (take 8 xs) ≡ 8 = length-take 8 xs ∙ omega arith in
    let e : bytes 8 n ≡ take 8 xs = rw w at (bytes-value (take 8 xs) (bytes_take 8 xs b)) in
    let f : take 4 (take 8 xs) ≡ bytes 4 n =
    ap (take 4) (sym e ∙ bytes-split 4 4 n) ∙ take_at (bytes 4 n) (bytes 4 (n / 256 ^ 4)) 4 (length-bytes 4 n) in
    sym (value-bytes 4 n) ∙ ap value (sym f ∙ take-take 4 8 xs (omega arith))

pub key_of : (t : List ℕ) → ((i : ℕ) → i < length t → get_or t i 0 < 256) → length t ≡ 13 → value (take 8 (drop 1 t)) % 4294967296 ≡ key_in t
key_of t small whole = half-word (drop 1 t) (bytes_drop 1 t (bytes-from t small)) (rw length-drop (omega arith))

-- ---- kinds
-- The kinds of a structure are those from the first to the last.
abbrev first_kind : Structure → ℕ
first_kind the-map = 1
first_kind the-stack = 4
first_kind the_heap = 6
first_kind the-queue = 8

abbrev last_kind : Structure → ℕ
last_kind the-map = 3
last_kind the-stack = 5
last_kind the_heap = 7
last_kind the-queue = 9

-- A number that is none of those from one to another.
outside : {x a b : ℕ} → (x < a) ⊎ (b < x) → (k : ℕ) → a ≤ k → k ≤ b → eqb x k ≡ false
outside {x} h k low high = ne_eqb x k (λ q. ⊎_elim (λ l. omega arith) (λ l. omega arith) h)

module _ (t : List ℕ) where
  -- Each structure's kinds on that structure.
  pub map-kinds : (structure : ℕ) → structure ≡ 1 → 1 ≤ kind_in t → kind_in t ≤ 3 → asked structure t ≡ Some (map_op (kind_in t) (key_in t) (value_in t))
  unfolding op_in from_asked from_op map_op
  map-kinds structure e l h = rw e (go (eqb (kind_in t) 1) refl (eqb (kind_in t) 2) refl)
    where
      go : (a : Bool) → eqb (kind_in t) 1 ≡ a → (b : Bool) → eqb (kind_in t) 2 ≡ b
          → from_asked {s = the-map} (pick a (some (get (key_in t))) (pick b (some (put (key_in t) (value_in t))) (pick (eqb (kind_in t) 3) (some (remove (key_in t))) none)))
          ≡ Some (pick a (Get (key_in t)) (pick b (Put (key_in t) (value_in t)) (Remove (key_in t))))
      go true x b y = refl
      go false x true y = refl
      go false x false y =
          let n = eqb-false (kind_in t) 1 x in
          let m = eqb-false (kind_in t) 2 y in
          rw (eq-eqb (kind_in t) 3 (omega arith))

  pub stack-kinds : (structure : ℕ) → structure ≡ 2 → 4 ≤ kind_in t → kind_in t ≤ 5 → asked structure t ≡ Some (stack_op (kind_in t) (value_in t))
  unfolding op_in from_asked from_op stack_op
  stack-kinds structure e l h = rw e (go (eqb (kind_in t) 4) refl)
    where
      go : (a : Bool) → eqb (kind_in t) 4 ≡ a
          → from_asked {s = the-stack} (pick a (some (push (value_in t))) (pick (eqb (kind_in t) 5) (some pop) none))
          ≡ Some (pick a (Push (value_in t)) Pop)
      go true x = refl
      go false x = let n = eqb-false (kind_in t) 4 x in rw (eq-eqb (kind_in t) 5 (omega arith))

  pub heap-kinds : (structure : ℕ) → structure ≡ 3 → 6 ≤ kind_in t → kind_in t ≤ 7 → asked structure t ≡ Some (heap_op (kind_in t) (value_in t))
  unfolding op_in from_asked from_op heap_op
  heap-kinds structure e l h = rw e (go (eqb (kind_in t) 6) refl)
    where
      go : (a : Bool) → eqb (kind_in t) 6 ≡ a
          → from_asked {s = the_heap} (pick a (some (add (value_in t))) (pick (eqb (kind_in t) 7) (some take-smallest) none))
          ≡ Some (pick a (Add (value_in t)) Take)
      go true x = refl
      go false x = let n = eqb-false (kind_in t) 6 x in rw (eq-eqb (kind_in t) 7 (omega arith))

  pub queue-kinds : (structure : ℕ) → (structure < 1) ⊎ (3 < structure) → 8 ≤ kind_in t → kind_in t ≤ 9
      → asked structure t ≡ Some (queue_op (kind_in t) (value_in t))
  unfolding op_in from_asked from_op queue_op
  queue-kinds structure e l h =
      rw (outside e 1 (omega arith) (omega arith), outside e 2 (omega arith) (omega arith), outside e 3 (omega arith) (omega arith)) (go (eqb (kind_in t) 8) refl)
    where
      go : (a : Bool) → eqb (kind_in t) 8 ≡ a
          → from_asked {s = the-queue} (pick a (some (enqueue (value_in t))) (pick (eqb (kind_in t) 9) (some dequeue) none))
          ≡ Some (pick a (Enqueue (value_in t)) Dequeue)
      go true x = refl
      go false x = let n = eqb-false (kind_in t) 8 x in rw (eq-eqb (kind_in t) 9 (omega arith))

  -- ---- another kind than the structure's
  abbrev Foreign : Structure → Type 0
  Foreign st = (kind_in t < first_kind st) ⊎ (last_kind st < kind_in t)

  none-asked : (st : Structure) → Foreign st → op_in st t ≡ none
  unfolding op_in
  none-asked the-map h = rw (outside h 1 (omega arith) (omega arith), outside h 2 (omega arith) (omega arith), outside h 3 (omega arith) (omega arith))
  none-asked the-stack h = rw (outside h 4 (omega arith) (omega arith), outside h 5 (omega arith) (omega arith))
  none-asked the_heap h = rw (outside h 6 (omega arith) (omega arith), outside h 7 (omega arith) (omega arith))
  none-asked the-queue h = rw (outside h 8 (omega arith) (omega arith), outside h 9 (omega arith) (omega arith))

  -- The kinds of the structure that the number says are others.
  unknown : (structure : ℕ) → (structure ≡ 1 → Foreign the-map) → (structure ≡ 2 → Foreign the-stack) → (structure ≡ 3 → Foreign the_heap)
      → ((structure ≡ 1 → ⊥) → (structure ≡ 2 → ⊥) → (structure ≡ 3 → ⊥) → Foreign the-queue) → asked structure t ≡ None
  unfolding from_asked
  unknown structure m s p q = go (eqb structure 1) (eqb structure 2) (eqb structure 3) refl refl refl
    where
      of : (st : Structure) → structure_of structure ≡ st → Foreign st → asked structure t ≡ None
      of st e f = ap (λ (x : Structure). from_asked (op_in x t)) e ∙ ap from_asked (none-asked st f)

      go : (a b d : Bool) → eqb structure 1 ≡ a → eqb structure 2 ≡ b → eqb structure 3 ≡ d → asked structure t ≡ None
      go true b d x y z = of the-map (rw x) (m (eqb-true structure 1 x))
      go false true d x y z = of the-stack (rw (x, y)) (s (eqb-true structure 2 y))
      go false false true x y z = of the_heap (rw (x, y, z)) (p (eqb-true structure 3 z))
      go false false false x y z = of the-queue (rw (x, y, z)) (q (eqb-false structure 1 x) (eqb-false structure 2 y) (eqb-false structure 3 z))

  -- A map's kind, of another structure; a stack's; a heap's; a queue's.
  pub no-map : (structure : ℕ) → (structure ≡ 1 → ⊥) → kind_in t ≤ 3 → asked structure t ≡ None
  no-map structure other high = unknown structure (λ e. absurd (other e)) (λ e. inl (omega arith)) (λ e. inl (omega arith)) (λ a b d. inl (omega arith))

  pub no_stack : (structure : ℕ) → (structure ≡ 2 → ⊥) → 4 ≤ kind_in t → kind_in t ≤ 5 → asked structure t ≡ None
  no_stack structure other low high = unknown structure (λ e. inr (omega arith)) (λ e. absurd (other e)) (λ e. inl (omega arith)) (λ a b d. inl (omega arith))

  pub no-heap : (structure : ℕ) → (structure ≡ 3 → ⊥) → 6 ≤ kind_in t → kind_in t ≤ 7 → asked structure t ≡ None
  no-heap structure other low high = unknown structure (λ e. inr (omega arith)) (λ e. inr (omega arith)) (λ e. absurd (other e)) (λ a b d. inl (omega arith))

  pub no-queue : (structure : ℕ) → 1 ≤ structure → structure ≤ 3 → 8 ≤ kind_in t → asked structure t ≡ None
  no-queue structure least most low =
      unknown structure (λ e. inr (omega arith)) (λ e. inr (omega arith)) (λ e. inr (omega arith)) (λ a b d. absurd (omega arith))

  -- A kind of none.
  pub no_kind : (structure : ℕ) → (kind_in t < 1) ⊎ (9 < kind_in t) → asked structure t ≡ None
  no_kind structure h = unknown structure (λ e. go the-map) (λ e. go the-stack) (λ e. go the_heap) (λ a b d. go the-queue)
    where
      go : (st : Structure) → Foreign st
      go the-map = ⊎_elim (λ l. inl l) (λ l. inr (omega arith)) h
      go the-stack = ⊎_elim (λ l. inl (omega arith)) (λ l. inr (omega arith)) h
      go the_heap = ⊎_elim (λ l. inl (omega arith)) (λ l. inr (omega arith)) h
      go the-queue = ⊎_elim (λ l. inl (omega arith)) (λ l. inr l) h

-- The kind is the first byte.
pub first_byte : (t : List ℕ) → 0 < length t → get_or t 0 0 ≡ kind_in t
unfolding value
first_byte [] h = let z : ⊥ = omega arith in absurd z
first_byte (b ∷ bs) h = omega arith
