-- A whole store, with no bad slot or place and no key twice: all of it is read out, and nothing is reported.
use Rattle.std.specs.Prelude.{ℕ, zero, suc, ◌+◌, ◌-◌, ◌*◌, ◌^◌, ◌<◌, ◌≡◌, refl, true, take, drop}
use Rattle.std.proofs.Common.{sym, ◌∙◌, ap, ap₂, subst, arith, ne_eqb}
use Rattle.std.proofs.Math.Bool.{and-eq-true_iff}
use mathlib.Core.List.{List, [], ◌∷◌, ◌++◌, map, map-append, map-map, append-nil, Memᴰ}
use Rattle.std.proofs.Math.Option.{some}
use Rattle.list_spec.specs.Perm.{Perm, trans}
use Rattle.list_spec.specs.Distinct.{Distinct, All}
use Rattle.list_laws.specs.PermLaws.{perm_append_comm, perm-member, perm-map}
use Rattle.list_laws.specs.DistinctLaws.{all_nil, all_cons, all_append, distinct-perm}
use Rattle.list_laws.specs.SortingLaws.{sort-perm}
use Rattle.slot_spec.specs.Tree.{among, slot_length, bucket_start}
use Rattle.slot_laws.specs.TreeLaws.{member-among}
use Rattle.slot_spec.specs.Slot.{read_slot}
use Rattle.slot_spec.specs.declared.Reading.{Reading}
use Rattle.slot_spec.specs.declared.Reading.TheVariants.{Full, Empty, Bad}
use Rattle.method_spec.specs.Node.{Node}
use Rattle.method_spec.specs.Plain.{Pair}
use Rattle.round_spec.specs.Format.{Read, full}
use Rattle.round_spec.specs.Round.{slot_at, all_good, read_bucket, read_buckets}
use Rattle.round_spec.specs.Whole.{up_to, all_buckets, good_ones, contents}
use Rattle.round_laws.specs.Readings.{NotBad, all-good-says, readings-append}
use Rattle.leaf_spec.specs.Convert.{to_node}
use Rattle.leaf_spec.specs.Entries.{pair_of}
use Rattle.leaf_spec.specs.Leaf.{read_leaf, leaf_format}
use Rattle.state_spec.specs.declared.Place.{Place}
use Rattle.state_spec.specs.declared.State.{State}
use Rattle.state_spec.specs.Fit.{all_of, place_good, used}
use Rattle.demand_spec.specs.History.{pairs_in}
use Rattle.readout_spec.specs.Seen.{Seen, slot_place, bucket_of, slot_bytes_at, slots_in_bucket, slots_from, waiting_from, slots_seen, waiting_seen}
use Rattle.survey_laws.specs.SurveyLaws.{good-append}
use Rattle.readout_spec.specs.Taken.{Entry, pair_of_entry, good_at, good_in, others, firsts, good, entries, omitted_at, omitted_in, report}

-- What is read at a place, as a round reads it.
abbrev read_at : Seen → Read (Node ℕ)
read_at s = read_leaf s.reading

-- ---- the slots

-- n slots, and m after them.
slots-append : (k : ℕ) (tree : List ℕ) (n m i : ℕ) → slots_from k tree (n + m) i ≡ slots_from k tree n i ++ slots_from k tree m (i + n)
unfolding slots_from
slots-append k tree zero m i =
    let all : 0 + m ≡ m = omega arith in
    let here : i + 0 ≡ i = omega arith in
    rw (all, here)
slots-append k tree (suc n) m i =
    let all : suc n + m ≡ suc (n + m) = omega arith in
    let next : i + suc n ≡ suc i + n = omega arith in
    rw (all, next, slots-append k tree n m (suc i))

-- Slot j of bucket n + 1, by its number.
slot_read : (k : ℕ) (tree : List ℕ) (n i j : ℕ) → i ≡ slots_in_bucket * n + j → j < slots_in_bucket
    → read_slot k (bucket_of i) (slot_bytes_at tree i) ≡ read_slot k (suc n) (slot_at tree (suc n) j)
slot_read k tree n i j e within =
    let bucket : bucket_of i ≡ suc n = omega arith in
    let place : slot_place i ≡ bucket_start (suc n) + slot_length * j = omega arith in
    ap₂ (λ (b at : ℕ). read_slot k b (take slot_length (drop at tree))) bucket place

-- The slots of a bucket are read as a round reads them.
bucket-read : (k : ℕ) (tree : List ℕ) (n : ℕ) → map read_at (slots_from k tree slots_in_bucket (slots_in_bucket * n)) ≡ read_bucket leaf_format k tree (suc n)
unfolding slots_from read_bucket
bucket-read k tree n =
    let first = slots_in_bucket * n in
    rw (
      slot_read k tree n first 0 (omega arith) (omega arith),
      slot_read k tree n (suc first) 1 (omega arith) (omega arith),
      slot_read k tree n (suc (suc first)) 2 (omega arith) (omega arith),
      slot_read k tree n (suc (suc (suc first))) 3 (omega arith) (omega arith),
    )

-- So are those of the first n buckets.
slots_read : (k : ℕ) (tree : List ℕ) (n : ℕ) → map read_at (slots_from k tree (slots_in_bucket * n) 0) ≡ read_buckets leaf_format k tree (up_to n)
unfolding up_to slots_from read_buckets
slots_read k tree zero = refl
slots_read k tree (suc n) =
    let one_more : slots_in_bucket * suc n ≡ slots_in_bucket * n + slots_in_bucket = omega arith in
    let start : 0 + slots_in_bucket * n ≡ slots_in_bucket * n = omega arith in
    rw (
      one_more,
      slots-append k tree (slots_in_bucket * n) slots_in_bucket 0,
      start,
      map-append read_at (slots_from k tree (slots_in_bucket * n) 0) (slots_from k tree slots_in_bucket (slots_in_bucket * n)),
      slots_read k tree n,
      bucket-read k tree n,
      readings-append leaf_format k tree (up_to n) (suc n ∷ []),
      append-nil (read_bucket leaf_format k tree (suc n)),
    )

-- ---- the good ones

-- The entries of the good ones are those of the nodes that a round would read.
good-pairs : (ss : List Seen) → map pair_of_entry (good_in ss) ≡ map pair_of (good_ones (map read_at ss))
unfolding good_in good_at good_ones read_leaf
good-pairs [] = refl
good-pairs (s ∷ ss) = go s.reading (good-pairs ss)
  where
    go : (r : Reading) → map pair_of_entry (good_in ss) ≡ map pair_of (good_ones (map read_at ss))
        → map pair_of_entry (good_at s.place r ++ good_in ss) ≡ map pair_of (good_ones (read_leaf r ∷ map read_at ss))
    go (Full n) more = ap (λ (ps : List Pair). record { key = n.key; value = n.value } ∷ ps) more
    go Empty more = more
    go Bad more = more

-- The same in either order.
good-either : (ss ts : List Seen) → Perm (good_in (ss ++ ts)) (good_in (ts ++ ss))
good-either ss ts = rw (good-append ss ts, good-append ts ss) (perm_append_comm (good_in ss) (good_in ts))

-- ---- the waiting places

-- Good places are read as their nodes.
waiting-read : (k i : ℕ) (ps : List Place) → all_of (place_good k) ps ≡ true → map read_at (waiting_from k i ps) ≡ map (λ (p : Place). full (to_node p.node)) ps
unfolding all_of waiting_from read_leaf
waiting-read k i [] h = refl
waiting-read k i (p ∷ ps) h =
    let both = (and-eq-true_iff (place_good k p) (all_of (place_good k) ps)).0 h in
    rw (both.0, waiting-read k (suc i) ps both.1)

-- Of nodes that are read all are good, and none is bad.
full-good : (ns : List (Node ℕ)) → good_ones (map full ns) ≡ ns
unfolding good_ones
full-good [] = refl
full-good (n ∷ ns) = ap (λ (ms : List (Node ℕ)). n ∷ ms) (full-good ns)

full-not-bad : (ns : List (Node ℕ)) → All NotBad (map full ns)
full-not-bad [] = all_nil NotBad
full-not-bad (n ∷ ns) = all_cons {P = NotBad} tt (full-not-bad ns)

-- ---- the first of each key

-- A key that none has: all the others.
others-all : (key : ℕ) (es : List Entry) → ¬ Memᴰ key (map (λ (e : Entry). e.key) es) → others key es ≡ es
unfolding others
others-all key [] h = refl
others-all key (e ∷ es) h =
    rw (ne_eqb key e.key (λ same. h (Memᴰ.head same)), others-all key es (λ m. h (Memᴰ.tail m)))

-- Where no key is twice all of them are.
firsts-all : (es : List Entry) → Distinct (map (λ (e : Entry). e.key) es) → firsts es ≡ es
unfolding firsts
firsts-all [] d = refl
firsts-all (e ∷ es) d = rw (firsts-all es d.1, others-all e.key es d.0)

-- ---- what is reported

-- Nothing, where no place is bad and each good one is taken.
nothing-omitted : (taken : List ℕ) (ss : List Seen) → All NotBad (map read_at ss)
    → All (λ place. among place taken ≡ true) (map (λ (e : Entry). e.place) (good_in ss)) → omitted_in taken ss ≡ []
unfolding omitted_in omitted_at good_in good_at read_leaf
nothing-omitted taken [] ok all = refl
nothing-omitted taken (s ∷ ss) ok all =
    go s.reading (ok (read_at s) (Memᴰ.head refl)) all (nothing-omitted taken ss (λ r m. ok r (Memᴰ.tail m)))
  where
    Taken : List Entry → Type 0
    Taken es = All (λ place. among place taken ≡ true) (map (λ (e : Entry). e.place) es)

    go : (r : Reading) → NotBad (read_leaf r) → Taken (good_at s.place r ++ good_in ss) → (Taken (good_in ss) → omitted_in taken ss ≡ [])
        → omitted_at taken s.place r ++ omitted_in taken ss ≡ []
    go (Full n) ok all more = rw (all s.place (Memᴰ.head refl)) (more (λ p m. all p (Memᴰ.tail m)))
    go Empty ok all more = more all
    go Bad ok all more = absurd ok

-- ---- a store

-- The good slots, in the order of their places, hold the contents of the tree.
pub slots-contents : (s : State) (tree : List ℕ) → map pair_of_entry (good_in (slots_seen s tree)) ≡ map pair_of (contents leaf_format s.size tree)
unfolding contents
slots-contents s tree =
    good-pairs (slots_seen s tree) ∙ ap (λ (rs : List (Read (Node ℕ))). map pair_of (good_ones rs)) (slots_read s.size tree (2 ^ (s.size + 1) - 1))

-- No slot is bad, every waiting place is good, and no key is twice.
pub record WholeStore (s : State) (tree : List ℕ) : Type 0 where
  pub none-bad : all_good (read_buckets leaf_format s.size tree (all_buckets s.size)) ≡ some (contents leaf_format s.size tree)
  pub places-good : all_of (place_good s.size) (used s) ≡ true
  pub none-twice : Distinct (map (λ (p : Pair). p.key) (pairs_in s tree))

module _ (s : State) (tree : List ℕ) (whole : WholeStore s tree) where
  -- The waiting nodes.
  abbrev waiting_nodes : List (Node ℕ)
  waiting_nodes = map (λ (p : Place). to_node p.node) (used s)

  -- Each waiting place is read as its node.
  places-read : map read_at (waiting_seen s) ≡ map full waiting_nodes
  places-read =
      waiting-read s.size 0 (used s) whole.places-good ∙ sym (map-map full (λ (p : Place). to_node p.node) (used s))

  -- The pairs of the store are those of its good nodes.
  good-all : Perm (pairs_in s tree) (map pair_of_entry (good s tree))
  good-all =
      let tree-pairs = map pair_of (contents leaf_format s.size tree) in
      let waiting : map pair_of_entry (good_in (waiting_seen s)) ≡ map pair_of waiting_nodes =
      good-pairs (waiting_seen s) ∙ ap (λ (rs : List (Read (Node ℕ))). map pair_of (good_ones rs)) places-read ∙ ap (map pair_of) (full-good waiting_nodes) in
      rw (
        good-append (waiting_seen s) (slots_seen s tree),
        map-append pair_of_entry (good_in (waiting_seen s)) (good_in (slots_seen s tree)),
        waiting,
        slots-contents s tree,
        map-append pair_of (contents leaf_format s.size tree) waiting_nodes,
      )
      (perm_append_comm tree-pairs (map pair_of waiting_nodes))

  -- All of these are taken.
  taken-all : Perm (good s tree) (entries s tree)
  taken-all =
      let keys : map (λ (p : Pair). p.key) (map pair_of_entry (good s tree)) ≡ map (λ (e : Entry). e.key) (good s tree) =
      map-map (λ (p : Pair). p.key) pair_of_entry (good s tree) in
      let apart : Distinct (map (λ (e : Entry). e.key) (good s tree)) =
      subst Distinct keys (distinct-perm (perm-map (λ (p : Pair). p.key) good-all) whole.none-twice) in
      rw (firsts-all (good s tree) apart) (sort-perm (λ (e : Entry). e.key) (good s tree))

  -- All pairs of the store are read out.
  pub whole-entries : Perm (pairs_in s tree) (map pair_of_entry (entries s tree))
  whole-entries = trans good-all (perm-map pair_of_entry taken-all)

  -- Nothing is left out.
  pub whole-report : report s tree ≡ []
  whole-report =
      let taken = map (λ (e : Entry). e.place) (entries s tree) in
      let slots : All NotBad (map read_at (slots_seen s tree)) =
      rw (slots_read s.size tree (2 ^ (s.size + 1) - 1)) (all-good-says _ _ whole.none-bad).0 in
      let waiting : All NotBad (map read_at (waiting_seen s)) = rw places-read (full-not-bad waiting_nodes) in
      let all : Perm (good_in (slots_seen s tree ++ waiting_seen s)) (entries s tree) = trans (good-either (slots_seen s tree) (waiting_seen s)) taken-all in
      nothing-omitted taken (slots_seen s tree ++ waiting_seen s)
      (rw (map-append read_at (slots_seen s tree) (waiting_seen s)) (all_append {P = NotBad} (map read_at (slots_seen s tree)) slots waiting))
      (λ place m. member-among place taken (perm-member (perm-map (λ (e : Entry). e.place) all) m))
