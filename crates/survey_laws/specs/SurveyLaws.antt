-- The items that the code takes and those whose marks it leaves are the entries and the report.
use Rattle.std.specs.Prelude.{◌≡◌, Bool, get_or, set}
use Rattle.std.proofs.Math.Path.{refl, sym, ap, ap₂}
use Rattle.std.proofs.Common.{◌∙◌, subst, length-append, take_at, drop_at, get_or-append-add}
use Rattle.std.proofs.Math.Bool.{true, false, ◌||◌}
use mathlib.Core.List.{List, [], ◌∷◌, ◌++◌, map, map-append, map-map, append-nil, append_assoc, Memᴰ}
use Prim.Native.Nat.{ℕ, zero, suc, ◌+◌, ◌-◌, ◌*◌, ◌<◌}
use native.Mathlib.Omega.{arith}
use Rattle.std.proofs.Math.Dec.{eqb}
use Rattle.std.proofs.Math.ListN.{length}
use Rattle.std.proofs.Math.Seq.{get_or-append_seam, append_snoc}
use borrow.Author.Tests.{eqb-true, eqb-false, eq-eqb, ne_eqb, lt-ltb, le-ltb}
use Rattle.list_spec.specs.Choice.{pick}
use Rattle.list_spec.specs.Distinct.{All}
use Rattle.list_spec.specs.Sorting.{sort_by}
use Rattle.list_laws.specs.DistinctLaws.{all_nil, all_cons, all_append, all-perm}
use Rattle.list_laws.specs.SortingLaws.{sort-map, sort-perm}
use Rattle.slot_spec.specs.Tree.{among, slot_length, tree_length}
use Rattle.slot_spec.specs.Slot.{fields_in, read_slot}
use Rattle.slot_spec.specs.declared.Reading.{Reading}
use Rattle.slot_laws.specs.TreeLaws.{among-member}
use Rattle.state_spec.specs.declared.Place.{Place}
use Rattle.readout_spec.specs.Seen.{Seen, slot_place, slot_count, slot_bytes_at, slots_from, bucket_of, waiting_place, waiting_from, place_reading}
use Rattle.readout_spec.specs.Taken.{Entry, good_at, good_in, firsts, Omitted, is_bad, is_repeated, omitted_at, omitted_in}
use Rattle.survey_laws.specs.Items.{key_in, slots_in, item_bytes, mark_at, mark_of, row_from, marks_from, key_at, keys_from, good_from, heads_after, heads, cleared, entry_for, omitted_by}
use Rattle.survey_laws.specs.WaitingSlots.{Shows, good, empty, bad, slot-shows, SlotsShow, no_slot, a-slot, slots_length}
use Rattle.survey_laws.specs.HeadsLaws.{heads-sorted}

-- ---- what is seen and the marks, item by item from number i on
module _ (entry : ℕ → Entry) where
  pub data Rows : ℕ → List Seen → List ℕ → Type 0 where
    none : {i : ℕ} → Rows i [] []
    next : {i : ℕ} (p : ℕ) (r : Reading) {ss : List Seen} (m : ℕ) {ms : List ℕ} → p ≡ (entry i).place
        → Shows (entry i).key (entry i).value r m → Rows (suc i) ss ms → Rows i (record { place = p; reading = r } ∷ ss) (m ∷ ms)

  rows_append : {i : ℕ} {ss ts : List Seen} {ms ns : List ℕ} → Rows i ss ms → (j : ℕ) → j ≡ i + length ms → Rows j ts ns → Rows i (ss ++ ts) (ms ++ ns)
  rows_append {ts = ts} {ns = ns} none j e later = subst (λ (x : ℕ). Rows x ts ns) (e ∙ omega arith) later
  rows_append (next p r m at shows more) j e later = next p r m at shows (rows_append more j (e ∙ omega arith) later)

  -- The good nodes are those of the good items.
  good-one : {i p m : ℕ} {r : Reading} → p ≡ (entry i).place → Shows (entry i).key (entry i).value r m → (es : List Entry) (is : List ℕ)
      → es ≡ map entry is → good_at p r ++ es ≡ map entry (pick (eqb m is_repeated) (i ∷ is) is)
  unfolding good_at
  good-one {i} at (good n k v) es is e = ap₂ (λ (a : Entry) (xs : List Entry). a ∷ xs) (rw (at, k, v)) e
  good-one at empty es is e = e
  good-one at bad es is e = e

  pub rows-good : {i : ℕ} {ss : List Seen} {ms : List ℕ} → Rows i ss ms → good_in ss ≡ map entry (good_from i ms)
  unfolding good_in good_from
  rows-good none = refl
  rows-good (next {i} p r {ss} m {ms} at shows more) = good-one at shows (good_in ss) (good_from (suc i) ms) (rows-good more)

  -- ---- the report, by the numbers of the items taken
  module _ (placed : (i : ℕ) → (entry i).place ≡ slot_place i) (taken : List ℕ) where
    among-places : (i : ℕ) (ts : List ℕ) → among (slot_place i) (map slot_place ts) ≡ among i ts
    unfolding among
    among-places i [] = refl
    among-places i (t ∷ ts) = ap₂ ◌||◌ (go (eqb i t) refl) (among-places i ts)
      where
        go : (b : Bool) → eqb i t ≡ b → eqb (slot_place i) (slot_place t) ≡ b
        go true e = eq-eqb (slot_place i) (slot_place t) (ap slot_place (eqb-true i t e))
        go false e = ne_eqb (slot_place i) (slot_place t) (λ h. eqb-false i t e (omega (arith, h)))

    -- Marks from number i on, with those of the items taken cleared.
    unfoldable pub masked : ℕ → List ℕ → List ℕ
    masked i [] = []
    masked i (m ∷ ms) = pick (among i taken) 0 m ∷ masked (suc i) ms

    -- Every item taken is good.
    abbrev pub Good : ℕ → List ℕ → Type 0
    Good i ms = (j : ℕ) → among (i + j) taken ≡ true → get_or ms j 0 ≡ is_repeated

    omitted-one : {i p m : ℕ} {r : Reading} → p ≡ (entry i).place → Shows (entry i).key (entry i).value r m
        → (among i taken ≡ true → m ≡ is_repeated) → (os : List Omitted) (xs : List Omitted) → os ≡ xs
        → omitted_at (map slot_place taken) p r ++ os
        ≡ pick (eqb (pick (among i taken) 0 m) 0) xs (record { place = slot_place i; reason = pick (among i taken) 0 m } ∷ xs)
    unfolding omitted_at
    omitted-one {i} at (good n k v) fine os xs e =
        rw (at, placed i, among-places i taken) (go (among i taken))
      where
        go : (b : Bool) → pick b [] (record { place = slot_place i; reason = is_repeated } ∷ []) ++ os
            ≡ pick (eqb (pick b 0 is_repeated) 0) xs (record { place = slot_place i; reason = pick b 0 is_repeated } ∷ xs)
        go true = e
        go false = ap (λ (ys : List Omitted). record { place = slot_place i; reason = is_repeated } ∷ ys) e
    omitted-one {i} at empty fine os xs e = go (among i taken)
      where
        go : (b : Bool) → os ≡ pick (eqb (pick b 0 0) 0) xs (record { place = slot_place i; reason = pick b 0 0 } ∷ xs)
        go true = e
        go false = e
    omitted-one {i} at bad fine os xs e = rw (at, placed i) (go (among i taken) fine)
      where
        go : (b : Bool) → (b ≡ true → is_bad ≡ is_repeated)
            → record { place = slot_place i; reason = is_bad } ∷ os
            ≡ pick (eqb (pick b 0 is_bad) 0) xs (record { place = slot_place i; reason = pick b 0 is_bad } ∷ xs)
        go true f = let z : is_bad ≡ is_repeated = f refl in let y : ⊥ = omega (arith, z) in absurd y
        go false f = ap (λ (ys : List Omitted). record { place = slot_place i; reason = is_bad } ∷ ys) e

    pub rows-omitted : {i : ℕ} {ss : List Seen} {ms : List ℕ} → Rows i ss ms → Good i ms
        → omitted_in (map slot_place taken) ss ≡ omitted_by i (masked i ms)
    unfolding omitted_in omitted_by masked
    rows-omitted none fine = refl
    rows-omitted (next {i} p r {ss} m {ms} at shows more) fine =
        omitted-one at shows (λ h. fine 0 (subst (λ (x : ℕ). among x taken ≡ true) (omega arith) h)) (omitted_in (map slot_place taken) ss)
        (omitted_by (suc i) (masked (suc i) ms))
        (rows-omitted more (λ j h. fine (suc j) (subst (λ (x : ℕ). among x taken ≡ true) (omega arith) h)))

-- ---- cleared marks are masked ones
module _ (entry : ℕ → Entry) (placed : (i : ℕ) → (entry i).place ≡ slot_place i) where
  abbrev mask : List ℕ → ℕ → List ℕ → List ℕ
  mask taken = masked entry placed taken

  mask-none : (i : ℕ) (ms : List ℕ) → mask [] i ms ≡ ms
  unfolding masked among
  mask-none i [] = refl
  mask-none i (m ∷ ms) = ap (λ (xs : List ℕ). m ∷ xs) (mask-none (suc i) ms)

  -- One that comes before is not met.
  mask-past : (t : ℕ) (ts : List ℕ) (i : ℕ) (ms : List ℕ) → t < i → mask (t ∷ ts) i ms ≡ mask ts i ms
  unfolding masked among
  mask-past t ts i [] low = refl
  mask-past t ts i (m ∷ ms) low =
      rw (ne_eqb i t (λ e. let z : ⊥ = omega (arith, e, low) in absurd z), mask-past t ts (suc i) ms (omega arith))

  mask-set : (t : ℕ) (ts : List ℕ) (i j : ℕ) (ms : List ℕ) → t ≡ i + j → mask ts i (set ms j 0) ≡ mask (t ∷ ts) i ms
  unfolding masked among
  mask-set t ts i j [] e = refl
  mask-set t ts i zero (m ∷ ms) e =
      rw (eq-eqb i t (omega (arith, e)), mask-past t ts (suc i) ms (omega (arith, e))) (go (among i ts))
    where
      go : (b : Bool) → pick b 0 0 ∷ mask ts (suc i) ms ≡ 0 ∷ mask ts (suc i) ms
      go true = refl
      go false = refl
  mask-set t ts i (suc j) (m ∷ ms) e =
      rw (ne_eqb i t (λ h. let z : ⊥ = omega (arith, e, h) in absurd z))
      (ap (λ (xs : List ℕ). pick (among i ts) 0 m ∷ xs) (mask-set t ts (suc i) j ms (omega (arith, e))))

  cleared-masked : (ts ms : List ℕ) → cleared ts ms ≡ mask ts 0 ms
  unfolding cleared
  cleared-masked [] ms = sym (mask-none 0 ms)
  cleared-masked (t ∷ ts) ms = cleared-masked ts (set ms t 0) ∙ mask-set t ts 0 t ms (omega arith)

-- ---- items with a good node
-- Each number of a good item has that mark, in a row of marks that those stand in.
good-marked : (before ms after : List ℕ) → All (λ (t : ℕ). get_or (before ++ (ms ++ after)) t 0 ≡ is_repeated) (good_from (length before) ms)
unfolding good_from
good-marked before [] after = all_nil (λ (t : ℕ). get_or (before ++ after) t 0 ≡ is_repeated)
good-marked before (m ∷ ms) after = go (eqb m is_repeated) refl (rest (good-marked (before ++ (m ∷ [])) ms after))
  where
    P : ℕ → Type 0
    P t = get_or (before ++ (m ∷ (ms ++ after))) t 0 ≡ is_repeated

    one : length (before ++ (m ∷ [])) ≡ suc (length before)
    one = length-append before (m ∷ []) ∙ omega arith

    rest : All (λ (t : ℕ). get_or ((before ++ (m ∷ [])) ++ (ms ++ after)) t 0 ≡ is_repeated) (good_from (length (before ++ (m ∷ []))) ms)
        → All P (good_from (suc (length before)) ms)
    rest more =
        subst (λ (n : ℕ). All P (good_from n ms)) one
        (subst (λ (xs : List ℕ). All (λ (t : ℕ). get_or xs t 0 ≡ is_repeated) (good_from (length (before ++ (m ∷ []))) ms))
        (append_snoc before m (ms ++ after)) more)

    go : (b : Bool) → eqb m is_repeated ≡ b → All P (good_from (suc (length before)) ms)
        → All P (pick b (length before ∷ good_from (suc (length before)) ms) (good_from (suc (length before)) ms))
    go true e more = all_cons {P = P} (get_or-append_seam before m (ms ++ after) 0 ∙ eqb-true m is_repeated e) more
    go false e more = more

heads-all : {P : ℕ → Type 0} (key : ℕ → ℕ) (k : ℕ) (is : List ℕ) → All P is → All P (heads_after key k is)
unfolding heads_after
heads-all {P} key k [] h = h
heads-all {P} key k (i ∷ is) h = go (eqb k (key i)) (λ l. heads-all {P = P} key l is (λ a m. h a (Memᴰ.tail m)))
  where
    go : (b : Bool) → ((l : ℕ) → All P (heads_after key l is)) → All P (pick b (heads_after key k is) (i ∷ heads_after key (key i) is))
    go true more = more k
    go false more = all_cons {P = P} (h i (Memᴰ.head refl)) (more (key i))

heads-of-all : {P : ℕ → Type 0} (key : ℕ → ℕ) (is : List ℕ) → All P is → All P (heads key is)
unfolding heads
heads-of-all {P} key [] h = h
heads-of-all {P} key (i ∷ is) h = all_cons {P = P} (h i (Memᴰ.head refl)) (heads-all {P = P} key (key i) is (λ a m. h a (Memᴰ.tail m)))

-- ---- heads and good nodes of rows put together
module _ {A B : Type 0} (key : A → ℕ) (f : B → A) where
  after_map : (k : ℕ) (xs : List B) → heads_after key k (map f xs) ≡ map f (heads_after (λ (b : B). key (f b)) k xs)
  unfolding heads_after
  after_map k [] = refl
  after_map k (x ∷ xs) = go (eqb k (key (f x))) (after_map k xs) (after_map (key (f x)) xs)
    where
      go : (t : Bool) → heads_after key k (map f xs) ≡ map f (heads_after (λ (b : B). key (f b)) k xs)
          → heads_after key (key (f x)) (map f xs) ≡ map f (heads_after (λ (b : B). key (f b)) (key (f x)) xs)
          → pick t (heads_after key k (map f xs)) (f x ∷ heads_after key (key (f x)) (map f xs))
          ≡ map f (pick t (heads_after (λ (b : B). key (f b)) k xs) (x ∷ heads_after (λ (b : B). key (f b)) (key (f x)) xs))
      go true same other = same
      go false same other = ap (λ (ys : List A). f x ∷ ys) other

  heads-map : (xs : List B) → heads key (map f xs) ≡ map f (heads (λ (b : B). key (f b)) xs)
  unfolding heads
  heads-map [] = refl
  heads-map (x ∷ xs) = ap (λ (ys : List A). f x ∷ ys) (after_map (key (f x)) xs)

-- The good nodes of two lists.
pub good-append : (xs ys : List Seen) → good_in (xs ++ ys) ≡ good_in xs ++ good_in ys
unfolding good_in
good-append [] ys = refl
good-append (x ∷ xs) ys =
    ap (λ (es : List Entry). good_at x.place x.reading ++ es) (good-append xs ys)
    ∙ sym (append_assoc (good_at x.place x.reading) (good_in xs) (good_in ys))

-- ---- a store's items
-- A slot, after the bytes of those before it.
slot_at : (before bs after : List ℕ) (i : ℕ) → length before ≡ slot_length * i → length bs ≡ slot_length → slot_bytes_at (before ++ (bs ++ after)) i ≡ bs
slot_at before bs after i b sized =
    rw (drop_at before (bs ++ after) (slot_length * i) b) (take_at bs after slot_length sized)

get_d-append-before : (xs ys : List ℕ) (i : ℕ) → i < length xs → get_or (xs ++ ys) i 0 ≡ get_or xs i 0
get_d-append-before [] ys i low = let z : ⊥ = omega arith in absurd z
get_d-append-before (x ∷ xs) ys zero low = refl
get_d-append-before (x ∷ xs) ys (suc i) low = get_d-append-before xs ys i (omega arith)

pub row-length : (f : ℕ → ℕ) (n i : ℕ) → length (row_from f n i) ≡ n
unfolding row_from
row-length f zero i = refl
row-length f (suc n) i = ap suc (row-length f n (suc i))

row_at : (f : ℕ → ℕ) (n i j m : ℕ) → j < n → i + j ≡ m → get_or (row_from f n i) j 0 ≡ f m
unfolding row_from
row_at f zero i j m low e = let z : ⊥ = omega arith in absurd z
row_at f (suc n) i zero m low e = let h : i ≡ m = omega (arith, e) in ap f h
row_at f (suc n) i (suc j) m low e = row_at f n (suc i) j m (omega arith) (omega (arith, e))

module _ (k : ℕ) (tree : List ℕ) (sized : length tree ≡ tree_length k) (ps : List Place) (waiting : List ℕ) (shown : SlotsShow k ps waiting) where
  abbrev pub S : ℕ
  S = slot_count k

  -- The keys and the marks of all items.
  abbrev pub keys : List ℕ
  keys = keys_from tree S 0 ++ keys_from waiting (length ps) 0

  abbrev tree_marks : List ℕ
  tree_marks = marks_from true k tree S 0

  abbrev waiting_marks : List ℕ
  waiting_marks = marks_from false k waiting (length ps) 0

  abbrev pub marks : List ℕ
  marks = tree_marks ++ waiting_marks

  -- The good items, the waiting ones first, and of those the ones taken.
  abbrev pub order : List ℕ
  order = good_from S waiting_marks ++ good_from 0 tree_marks

  abbrev pub taken : List ℕ
  taken = heads (key_in keys) (sort_by (key_in keys) order)

  abbrev entry : ℕ → Entry
  entry = entry_for keys tree waiting

  pub slots-there : slots_in tree ≡ S
  slots-there = omega (arith, sized)

  pub waiting-there : slots_in waiting ≡ length ps
  waiting-there = omega (arith, slots_length shown)

  module _ (i : ℕ) (within : i < S) where
    slot-key : key_in keys i ≡ key_at tree i
    slot-key =
        get_d-append-before (keys_from tree S 0) (keys_from waiting (length ps) 0) i (omega (arith, row-length (key_at tree) S 0))
        ∙ row_at (key_at tree) S 0 i i within (omega arith)

    slot-bytes : item_bytes tree waiting i ≡ slot_bytes_at tree i
    unfolding item_bytes
    slot-bytes = rw (slots-there, lt-ltb i S within)

  module _ (i : ℕ) (within : i < length ps) where
    waiting-key : key_in keys (S + i) ≡ key_at waiting i
    waiting-key =
        subst (λ (n : ℕ). get_or keys (n + i) 0 ≡ get_or (keys_from waiting (length ps) 0) i 0) (row-length (key_at tree) S 0)
        (get_or-append-add (keys_from tree S 0) (keys_from waiting (length ps) 0) i 0)
        ∙ row_at (key_at waiting) (length ps) 0 i i within (omega arith)

    waiting-bytes : item_bytes tree waiting (S + i) ≡ slot_bytes_at waiting i
    unfolding item_bytes
    waiting-bytes =
        let d : S + i - S ≡ i = omega arith in
        rw (slots-there, le-ltb (S + i) S (omega arith), d, waiting-there, lt-ltb i (length ps) within)

  -- ---- what is seen, item by item
  slots-rows : (n i : ℕ) → i + n ≡ S → Rows entry i (slots_from k tree n i) (marks_from true k tree n i)
  unfolding slots_from row_from
  slots-rows zero i e = none
  slots-rows (suc n) i e =
      let within : i < S = omega (arith, e) in
      next (slot_place i) (read_slot k (bucket_of i) (slot_bytes_at tree i)) (mark_at true k tree i) refl
      (rw (slot-key i within, slot-bytes i within) (slot-shows k (bucket_of i) (slot_bytes_at tree i)))
      (slots-rows n (suc i) (omega (arith, e)))

  waiting-rows : {qs : List Place} {after : List ℕ} → SlotsShow k qs after → (before : List ℕ) (i : ℕ) → waiting ≡ before ++ after
      → length before ≡ slot_length * i → i + length qs ≡ length ps → Rows entry (S + i) (waiting_from k i qs) (marks_from false k waiting (length qs) i)
  unfolding waiting_from row_from
  waiting-rows no_slot before i e b c = none
  waiting-rows (a-slot q {ps = qs} bs {waiting = after} long shows more) before i e b c =
      let within : i < length ps = omega (arith, c) in
      let bytes : slot_bytes_at waiting i ≡ bs = ap (λ (x : List ℕ). slot_bytes_at x i) e ∙ slot_at before bs after i b long in
      let n : S + suc i ≡ suc (S + i) = omega arith in
      next {i = S + i} (waiting_place k i) (place_reading k q) (mark_at false k waiting i) (omega arith)
      (rw (
        waiting-key i within ∙ ap (λ (x : List ℕ). (fields_in x).key) bytes,
        ap (λ (x : List ℕ). (fields_in x).value) (waiting-bytes i within ∙ bytes),
        ap (λ (x : List ℕ). mark_of false (read_slot k 1 x)) bytes,
      )
      shows)
      (subst (λ (x : ℕ). Rows entry x (waiting_from k (suc i) qs) (marks_from false k waiting (length qs) (suc i))) n
      (waiting-rows more (before ++ bs) (suc i) (e ∙ sym (append_assoc before bs after))
      (length-append before bs ∙ omega (arith, b, long)) (omega (arith, c))))

  -- ---- the entries and the report
  all-waiting : Rows entry S (waiting_from k 0 ps) waiting_marks
  all-waiting =
      let z : S + 0 ≡ S = omega arith in
      subst (λ (x : ℕ). Rows entry x (waiting_from k 0 ps) waiting_marks) z (waiting-rows shown [] 0 refl refl (omega arith))

  all_slots : Rows entry 0 (slots_from k tree S 0) tree_marks
  all_slots = slots-rows S 0 (omega arith)

  good-order : good_in (waiting_from k 0 ps ++ slots_from k tree S 0) ≡ map entry order
  good-order =
      good-append (waiting_from k 0 ps) (slots_from k tree S 0) ∙ ap₂ ◌++◌ (rows-good entry all-waiting) (rows-good entry all_slots)
      ∙ sym (map-append entry (good_from S waiting_marks) (good_from 0 tree_marks))

  pub survey-entries : sort_by (λ (e : Entry). e.key) (firsts (good_in (waiting_from k 0 ps ++ slots_from k tree S 0))) ≡ map entry taken
  survey-entries =
      ap (λ (es : List Entry). sort_by (λ (e : Entry). e.key) (firsts es)) good-order
      ∙ sym (heads-sorted (map entry order)) ∙ ap (heads (λ (e : Entry). e.key)) (sort-map (λ (e : Entry). e.key) entry order)
      ∙ heads-map (λ (e : Entry). e.key) entry (sort_by (key_in keys) order)

  marked : All (λ (t : ℕ). get_or marks t 0 ≡ is_repeated) taken
  marked =
      let P : ℕ → Type 0 = λ t. get_or marks t 0 ≡ is_repeated in
      let waits : All P (good_from S waiting_marks) =
      subst (λ (n : ℕ). All P (good_from n waiting_marks)) (row-length (mark_at true k tree) S 0)
      (subst (λ (ms : List ℕ). All (λ (t : ℕ). get_or (tree_marks ++ ms) t 0 ≡ is_repeated) (good_from (length tree_marks) waiting_marks))
      (append-nil waiting_marks) (good-marked tree_marks waiting_marks [])) in
      let stands : All P (good_from 0 tree_marks) = good-marked [] tree_marks waiting_marks in
      heads-of-all {P = P} (key_in keys) (sort_by (key_in keys) order)
      (all-perm {P = P} (sort-perm (key_in keys) order) (all_append {P = P} (good_from S waiting_marks) waits stands))

  pub survey-report : omitted_in (map (λ (e : Entry). e.place) (map entry taken)) (slots_from k tree S 0 ++ waiting_from k 0 ps)
      ≡ omitted_by 0 (cleared taken marks)
  survey-report =
      let rows : Rows entry 0 (slots_from k tree S 0 ++ waiting_from k 0 ps) marks =
      rows_append entry all_slots S (omega (arith, row-length (mark_at true k tree) S 0)) all-waiting in
      let fine : (j : ℕ) → among (0 + j) taken ≡ true → get_or marks j 0 ≡ is_repeated =
      λ j h. marked j (subst (λ (x : ℕ). Memᴰ x taken) (omega arith) (among-member (0 + j) taken h)) in
      rw (map-map (λ (e : Entry). e.place) entry taken, cleared-masked entry (λ i. refl) taken marks)
      (rows-omitted entry (λ i. refl) taken rows fine)
