-- Trees by their slots: trees with the same slots are the same, and two trees that are one slot apart by their bytes are so slot by slot,
-- and the other way round.
use Rattle.std.specs.Prelude.{◌≡◌, refl, true, ℕ, zero, suc, ◌+◌, ◌-◌, ◌*◌, ◌/◌, ◌%◌, ◌^◌, ◌≤◌, ◌<◌, length, take, drop}
use Rattle.std.proofs.Common.{sym, ◌∙◌, ap, ap₂, arith, length-append, length-drop, take-append-drop, drop_at, drop-drop, take_at, length-take-le}
use mathlib.Core.List.Memᴰ
use mathlib.Core.List.{List, [], ◌∷◌, ◌++◌, Memᴰ}
use Rattle.std.proofs.Math.Decide.{dec_lt, ℕ_discrete}
use Rattle.slot_spec.specs.Tree.{slot_length, bucket_start, tree_length, passes}
use Rattle.round_spec.specs.Format.{Format}
use Rattle.round_spec.specs.Round.{slot_at}
use Rattle.round_spec.specs.Whole.{IsTree, InTree}
use Rattle.round_laws.specs.Lawful.{Lawful}
use Rattle.round_laws.specs.Places.{part-before, part-after, slot-fits}
use Rattle.promise_spec.specs.FullPut.{OneSlot}

-- ---- lists by their parts
abbrev part_at : ℕ → List ℕ → List ℕ
part_at i xs = take slot_length (drop (slot_length * i) xs)

parts_same : (n : ℕ) (xs ys : List ℕ) → length xs ≡ slot_length * n → length ys ≡ slot_length * n
    → ((i : ℕ) → i < n → part_at i xs ≡ part_at i ys) → xs ≡ ys
parts_same zero [] [] l m h = refl
parts_same zero (x ∷ xs) ys l m h = let z : ⊥ = omega arith in absurd z
parts_same zero [] (y ∷ ys) l m h = let z : ⊥ = omega arith in absurd z
parts_same (suc n) xs ys l m h =
    sym (take-append-drop slot_length xs)
    ∙ ap₂ (λ (x y : List ℕ). x ++ y) (h 0 (omega arith))
    (parts_same n (drop slot_length xs) (drop slot_length ys) (simp length-drop (omega arith)) (simp length-drop (omega arith))
    (λ i g. later i xs ∙ h (suc i) (omega arith) ∙ sym (later i ys)))
    ∙ take-append-drop slot_length ys
  where
    later : (i : ℕ) (zs : List ℕ) → part_at i (drop slot_length zs) ≡ part_at (suc i) zs
    later i zs =
        let e : slot_length + slot_length * i ≡ slot_length * suc i = omega arith in
        ap (take slot_length) (drop-drop (slot_length * i) slot_length zs ∙ ap (λ (n : ℕ). drop n zs) e)

-- ---- trees by their slots
-- Two trees have the same slots wherever a statement of a bucket and a slot holds.
abbrev pub Agree : ℕ → (ℕ → ℕ → Type 0) → List ℕ → List ℕ → Type 0
Agree k P tree other = (c j : ℕ) → InTree k c → j < 4 → P c j → slot_at tree c j ≡ slot_at other c j

pub slots_same : (k : ℕ) (tree other : List ℕ) → length tree ≡ tree_length k → length other ≡ tree_length k
    → Agree k (λ c j. Unit {0}) tree other → tree ≡ other
slots_same k tree other l m h =
    parts_same (4 * (2 ^ (k + 1) - 1)) tree other (omega arith) (omega arith)
    (λ i g. part-slot i tree ∙ h (i / 4 + 1) (i % 4) (omega arith, omega arith) (omega arith) tt ∙ sym (part-slot i other))
  where
    part-slot : (i : ℕ) (zs : List ℕ) → part_at i zs ≡ slot_at zs (i / 4 + 1) (i % 4)
    part-slot i zs =
        let e : slot_length * i ≡ bucket_start (i / 4 + 1) + slot_length * (i % 4) = omega arith in
        ap (λ (n : ℕ). take slot_length (drop n zs)) e

-- ---- a tree in which one slot has other bytes
module _ (d i : ℕ) (before after : List ℕ) (at : length before ≡ bucket_start d + slot_length * i) where
  slot-here : (x : List ℕ) → length x ≡ slot_length → slot_at (before ++ (x ++ after)) d i ≡ x
  slot-here x l = ap (take slot_length) (drop_at before (x ++ after) (bucket_start d + slot_length * i) at) ∙ take_at x after slot_length l

  module _ (x y : List ℕ) (l : length x ≡ slot_length) (m : length y ≡ slot_length) where
    slot-elsewhere : 1 ≤ d → i < 4 → (c j : ℕ) → 1 ≤ c → j < 4 → (¬ ((c ≡ d) × (j ≡ i)))
        → slot_at (before ++ (x ++ after)) c j ≡ slot_at (before ++ (y ++ after)) c j
    slot-elsewhere exists fourth c j p g other = go (dec_lt (bucket_start c + slot_length * j) (bucket_start d + slot_length * i))
      where
        apart : ¬ bucket_start c + slot_length * j ≡ bucket_start d + slot_length * i
        apart e = let same : c ≡ d = omega arith in other (same, omega arith)

        go : Dec (bucket_start c + slot_length * j < bucket_start d + slot_length * i)
            → slot_at (before ++ (x ++ after)) c j ≡ slot_at (before ++ (y ++ after)) c j
        go (yes less) =
            let n = bucket_start c + slot_length * j in
            part-before n slot_length before (x ++ after) (omega arith) ∙ sym (part-before n slot_length before (y ++ after) (omega arith))
        go (no not-less) =
            let n = bucket_start c + slot_length * j in
            let over = n - (length before + slot_length) in
            let ne = apart in
            let past : (z : List ℕ) → length z ≡ slot_length → drop n (before ++ (z ++ after)) ≡ drop over after =
            λ z e. part-after n (slot_length + over) before (z ++ after) (omega arith) ∙ part-after (slot_length + over) over z after (omega arith) in
            ap (take slot_length) (past x l ∙ sym (past y m))

-- ---- one slot apart
module _ {E : Type 0} (F : Format E) (k : ℕ) (a b : E) where
  -- Of the buckets that are not among bs: two trees have the same slots but that slot j of one of those buckets has the bytes of a in
  -- the one and those of b in the other.
  pub record OneSlotOff (bs tree other : List ℕ) : Type 0 where
    pub bucket : ℕ
    pub j : ℕ
    pub in_tree : InTree k bucket
    pub fourth : j < 4
    pub passed : passes k (F.tag a) bucket ≡ true
    pub off : ¬ Memᴰ bucket bs
    pub one : slot_at tree bucket j ≡ F.bytes a
    pub two : slot_at other bucket j ≡ F.bytes b
    pub rest : Agree k (λ c i. (¬ Memᴰ c bs) × (¬ ((c ≡ bucket) × (i ≡ j)))) tree other

module _ {E : Type 0} (F : Format E) (k : ℕ) {a b : E} {bs tree other : List ℕ} where
  -- So it is of fewer buckets, if the slot's is one of them.
  pub slot-off : (o : OneSlotOff F k a b [] tree other) → (¬ Memᴰ o.bucket bs) → OneSlotOff F k a b bs tree other
  slot-off o off =
      record {
        bucket = o.bucket;
        j = o.j;
        in_tree = o.in_tree;
        fourth = o.fourth;
        passed = o.passed;
        off = off;
        one = o.one;
        two = o.two;
        rest = λ c i p g q. o.rest c i p g (Memᴰ.not-nil, q.1);
      }

module _ {E : Type 0} (F : Format E) {Proper : ℕ → E → Type 0} (lawful : Lawful F Proper) (k : ℕ) {a b : E} {tree other : List ℕ} where
  pub slots_apart : OneSlot F k a b tree other → OneSlotOff F k a b [] tree other
  slots_apart s =
      let x = F.bytes a in
      let y = F.bytes b in
      let l = lawful.slot-sized a in
      let m = lawful.slot-sized b in
      record {
        bucket = s.bucket;
        j = s.j;
        in_tree = s.in_tree;
        fourth = s.fourth;
        passed = s.passed;
        off = Memᴰ.not-nil;
        one = rw s.one (slot-here s.bucket s.j s.before s.after s.at x l);
        two = rw s.two (slot-here s.bucket s.j s.before s.after s.at y m);
        rest = λ c j p g o. rw (s.one, s.two)
            (slot-elsewhere s.bucket s.j s.before s.after s.at x y l m s.in_tree.0 s.fourth c j p.0 g o.1);
      }

  module _ (is : IsTree k tree) (is-other : IsTree k other) (s : OneSlotOff F k a b [] tree other) where
    -- The tree before the slot, and after it.
    abbrev start : ℕ
    start = bucket_start s.bucket + slot_length * s.j

    abbrev front : List ℕ
    front = take start tree

    abbrev back : List ℕ
    back = drop (start + slot_length) tree

    fits : start + slot_length ≤ tree_length k
    fits = slot-fits k s.bucket s.j s.in_tree s.fourth

    front_length : length front ≡ start
    front_length = let l = is.sized in length-take-le start tree (omega (arith, fits))

    first-split : tree ≡ front ++ (F.bytes a ++ back)
    first-split =
        sym (take-append-drop start tree)
        ∙ ap (λ (xs : List ℕ). front ++ xs)
        (sym (take-append-drop slot_length (drop start tree))
        ∙ ap₂ (λ (xs ys : List ℕ). xs ++ ys) s.one (drop-drop slot_length start tree))

    split-length : length (front ++ (F.bytes b ++ back)) ≡ tree_length k
    split-length =
        let l = is.sized in
        let f = front_length in
        let m = lawful.slot-sized b in
        simp (length-append, length-drop) (omega (arith, fits))

    second-split : other ≡ front ++ (F.bytes b ++ back)
    second-split =
        slots_same k other (front ++ (F.bytes b ++ back)) is-other.sized split-length
        (λ c i p g u. go c i p g (ℕ_discrete c s.bucket) (ℕ_discrete i s.j))
      where
        elsewhere : (c i : ℕ) → InTree k c → i < 4 → (¬ ((c ≡ s.bucket) × (i ≡ s.j))) → slot_at other c i ≡ slot_at (front ++ (F.bytes b ++ back)) c i
        elsewhere c i p g o =
            sym (s.rest c i p g (Memᴰ.not-nil, o))
            ∙ ap (λ (xs : List ℕ). slot_at xs c i) first-split
            ∙ slot-elsewhere s.bucket s.j front back front_length (F.bytes a) (F.bytes b) (lawful.slot-sized a) (lawful.slot-sized b)
            s.in_tree.0 s.fourth c i p.0 g o

        go : (c i : ℕ) → InTree k c → i < 4 → Dec (c ≡ s.bucket) → Dec (i ≡ s.j) → slot_at other c i ≡ slot_at (front ++ (F.bytes b ++ back)) c i
        go c i p g (yes x) (yes y) =
            rw (x, y) (s.two ∙ sym (slot-here s.bucket s.j front back front_length (F.bytes b) (lawful.slot-sized b)))
        go c i p g (yes x) (no y) = elsewhere c i p g (λ e. y e.1)
        go c i p g (no x) y = elsewhere c i p g (λ e. x e.0)

    pub bytes_apart : OneSlot F k a b tree other
    bytes_apart =
        record {
          bucket = s.bucket;
          j = s.j;
          in_tree = s.in_tree;
          fourth = s.fourth;
          passed = s.passed;
          before = front;
          after = back;
          at = front_length;
          one = first-split;
          two = second-split;
        }
