-- Reading out is complete.
use Rattle.std.specs.Prelude.{◌≡◌, refl, ◌⊎◌, Bool, true, false, ℕ}
use Rattle.std.proofs.Common.{sym, ◌∙◌, ap, inl, inr, arith}
use mathlib.Core.List.Memᴰ
use mathlib.Core.List.{List, ◌++◌, map, Memᴰ}
use Rattle.list_spec.specs.Perm.{Perm}
use Rattle.list_spec.specs.Distinct.{Distinct}
use Rattle.list_laws.specs.PermLaws.{perm-sym, perm-map, perm-member, perm_append_comm}
use Rattle.list_laws.specs.DistinctLaws.{distinct-perm, distinct_append, distinct-injective}
use Rattle.list_laws.specs.AscendingLaws.{Rising, rising-ascending, rising-distinct}
use Rattle.list_laws.specs.SortingLaws.{sort-perm, sort-ascending}
use Rattle.slot_spec.specs.Tree.{among}
use Rattle.slot_laws.specs.TreeLaws.{among-member, member-among}
use Rattle.slot_spec.specs.declared.Reading.{Reading}
use Rattle.slot_spec.specs.declared.Reading.TheVariants.{Full, Bad}
use Rattle.state_spec.specs.declared.State.{State}
use Rattle.readout_spec.specs.Seen.{Seen, slots_seen, waiting_seen}
use Rattle.readout_spec.specs.Taken.{Entry, good, firsts, entries, Omitted, is_repeated, report}
use Rattle.readout_spec.specs.Complete.{seen, BadAt, RepeatedAt, ReadOutComplete}
use Rattle.readout_laws.specs.SeenLaws.{places_seen, seen-rising}
use Rattle.readout_laws.specs.TakenLaws.{places_of, places_out, FullAt, good-full, full-good, good-distinct, firsts-member, firsts-keys, firsts-places, key-taken, first-of-key, OutBad, OutRepeated, omitted-bad, omitted-repeated, omitted-only, omitted-rising}

module _ (s : State) (tree : List ℕ) where
  -- The places of the nodes that are taken.
  abbrev taken : List ℕ
  taken = places_of (entries s tree)

  -- The entries are the first good nodes of each key, in another order.
  sorted : Perm (firsts (good s tree)) (entries s tree)
  sorted = sort-perm (λ (e : Entry). e.key) (firsts (good s tree))

  entry_first : (e : Entry) → Memᴰ e (entries s tree) → Memᴰ e (firsts (good s tree))
  entry_first e m = perm-member (perm-sym sorted) m

  entry-good : (e : Entry) → Memᴰ e (entries s tree) → Memᴰ e (good s tree)
  entry-good e m = firsts-member e (good s tree) (entry_first e m)

  -- Waiting places and slots in the order of taking.
  turned : Perm (slots_seen s tree ++ waiting_seen s) (waiting_seen s ++ slots_seen s tree)
  turned = perm_append_comm (slots_seen s tree) (waiting_seen s)

  seen-distinct : Distinct (places_seen (seen s tree))
  seen-distinct = rising-distinct (places_seen (seen s tree)) (seen-rising s tree)

  good-places : Distinct (places_of (good s tree))
  good-places =
      good-distinct (waiting_seen s ++ slots_seen s tree) (distinct-perm (perm-map (λ (x : Seen). x.place) turned) seen-distinct)

  -- A good node is a full reading at its place.
  pub full-seen : (e : Entry) → Memᴰ e (good s tree) → FullAt e (seen s tree)
  full-seen e m =
      let f = good-full e (waiting_seen s ++ slots_seen s tree) m in
      record { node = f.node; there = perm-member (perm-sym turned) f.there; same = f.same }

  told : (e : Entry) → Memᴰ e (good s tree) → Memᴰ e (entries s tree) ⊎ Memᴰ (record { place = e.place; reason = is_repeated }) (report s tree)
  told e m = go (among e.place taken) refl
    where
      go : (t : Bool) → among e.place taken ≡ t
          → Memᴰ e (entries s tree) ⊎ Memᴰ (record { place = e.place; reason = is_repeated }) (report s tree)
      go true q =
          let r = Memᴰ.of_map (λ (x : Entry). x.place) (entries s tree) (among-member e.place taken q) in
          inl (Memᴰ.cast (distinct-injective (λ (x : Entry). x.place) (good s tree) good-places m (entry-good r.0 r.1) (sym r.2)) r.1)
      go false q =
          let f = full-seen e m in
          inr (omitted-repeated taken e.place f.node (seen s tree) f.there q)

  -- An entry's place is not one that is not taken.
  is-taken : (e : Entry) → Memᴰ e (entries s tree) → (p : ℕ) → e.place ≡ p → ¬ (among p taken ≡ false)
  is-taken e m p q f =
      let t = member-among p taken (Memᴰ.cast (sym q) (Memᴰ.map (λ (x : Entry). x.place) m)) in
      let z : ◌≡◌ {A = ℕ} 0 1 = cc in omega arith

  reported : (o : Omitted) → Memᴰ o (report s tree) → BadAt s tree o ⊎ RepeatedAt s tree o
  reported o m = go (omitted-only taken o (seen s tree) m)
    where
      go : OutBad taken o (seen s tree) ⊎ OutRepeated taken o (seen s tree) → BadAt s tree o ⊎ RepeatedAt s tree o
      go (inl b) = inl (record { reason = b.0; there = b.1 })
      go (inr r) =
          let e : Entry = record { place = o.place; key = r.node.key; value = r.node.value } in
          let g = full-good o.place r.node (waiting_seen s ++ slots_seen s tree) (perm-member turned r.there) in
          let t = key-taken e (good s tree) g in
          let n = perm-member sorted t.1 in
          inr
          (record {
            reason = r.reason;
            node = e;
            is-good = g;
            there = refl;
            entry = t.0;
            is-entry = n;
            same_key = t.2;
            elsewhere = λ q. is-taken t.0 n o.place q r.not_taken;
          })

  report-rising : Rising (places_out (report s tree))
  report-rising = omitted-rising taken (seen s tree) (seen-rising s tree)

  -- What is reported is not at an entry's place: a bad one is not good, and a repeated one is not taken.
  apart : (e : Entry) → Memᴰ e (entries s tree) → (o : Omitted) → Memᴰ o (report s tree) → ¬ (e.place ≡ o.place)
  apart e m o n q = go (omitted-only taken o (seen s tree) n)
    where
      go : OutBad taken o (seen s tree) ⊎ OutRepeated taken o (seen s tree) → ⊥
      go (inl b) =
          let f = full-seen e (entry-good e m) in
          let same : ◌≡◌ {A = Seen} (record { place = e.place; reading = Full f.node }) (record { place = o.place; reading = Bad }) =
          distinct-injective (λ (x : Seen). x.place) (seen s tree) seen-distinct f.there b.1 q in
          let read : ◌≡◌ {A = Reading} (Full f.node) Bad = ap (λ (x : Seen). x.reading) same in
          let z : ◌≡◌ {A = ℕ} 0 1 = cc in omega arith
      go (inr r) = is-taken e m o.place q r.not_taken

  entry-places : Distinct taken
  entry-places = distinct-perm (perm-map (λ (e : Entry). e.place) sorted) (firsts-places (good s tree) good-places)

  once : Distinct (taken ++ places_out (report s tree))
  once =
      distinct_append taken (places_out (report s tree)) entry-places
      (rising-distinct (places_out (report s tree)) report-rising)
      (λ p m n. let e = Memᴰ.of_map (λ (e : Entry). e.place) (entries s tree) m in
      let o = Memᴰ.of_map (λ (o : Omitted). o.place) (report s tree) n in
      apart e.0 e.1 o.0 o.1 (e.2 ∙ sym o.2))

  pub complete : ReadOutComplete s tree
  complete =
      record {
        by_key = sort-ascending (λ (e : Entry). e.key) (firsts (good s tree)) (firsts-keys (good s tree));
        by_place = rising-ascending (places_out (report s tree)) report-rising;
        good-told = told;
        bad-told = λ p m. omitted-bad taken p (seen s tree) m;
        entries-good = entry-good;
        only-these = reported;
        places-once = once;
        first_taken = λ e m. first-of-key e (good s tree) (entry_first e m);
      }
