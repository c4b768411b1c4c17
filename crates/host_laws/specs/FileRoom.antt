-- The length that `puzlorig_read_out_length` tells is enough for the file of every store of its size: no such read-out meets 15.
use Rattle.std.specs.Prelude.{◌≡◌, refl, true, ◌⊎◌, ℕ, ◌+◌, ◌≤◌, length}
use Rattle.std.proofs.Common.{sym, ◌∙◌, inl, inr, arith, length-append}
use mathlib.Core.List.Memᴰ
use mathlib.Core.List.{List, [], ◌∷◌, ◌++◌, map, Memᴰ}
use Rattle.std.proofs.lemmas.List.{length-map}
use Rattle.list_spec.specs.Distinct.{Distinct}
use Rattle.list_laws.specs.PermLaws.{perm-remove, perm-length, perm-member, perm_append_comm}
use Rattle.state_spec.specs.declared.State.{State}
use Rattle.state_spec.specs.Fit.{places, used}
use Rattle.fitness_laws.specs.FitState.{places-length}
use Rattle.readout_spec.specs.Seen.{Seen, slot_count, slots_seen, waiting_seen}
use Rattle.readout_spec.specs.Taken.{Entry, Omitted, good, entries, report}
use Rattle.readout_spec.specs.ReadOut.{file_of}
use Rattle.survey_laws.specs.FileLaws.{file-length}
use Rattle.readout_laws.specs.SeenLaws.{slots_length, waiting-length}
use Rattle.readout_laws.specs.TakenLaws.{good-full}
use Rattle.readout_spec.specs.Complete.{seen, BadAt, RepeatedAt}
use Rattle.readout_laws.specs.Complete.{complete}
use Rattle.host_spec.specs.Lengths.{known_size, file_lent}

-- A list without repeats is no longer than one that has all its members.
pub no_longer : (xs ys : List ℕ) → Distinct xs → ((x : ℕ) → Memᴰ x xs → Memᴰ x ys) → length xs ≤ length ys
no_longer [] ys d h = omega arith
no_longer (x ∷ xs) ys d h =
    let r = perm-remove (h x (Memᴰ.head refl)) in
    let more = no_longer xs r.0 d.1 (λ y m. go y m (perm-member r.1 (h y (Memᴰ.tail m)))) in
    omega (arith, more, perm-length r.1)
  where
    go : {zs : List ℕ} (y : ℕ) → Memᴰ y xs → Memᴰ y (x ∷ zs) → Memᴰ y zs
    go y m (Memᴰ.head e) = absurd (d.0 (Memᴰ.cast (sym e) m))
    go y m (Memᴰ.tail n) = n

module _ (s : State) (tree : List ℕ) where
  abbrev places_all : List ℕ
  places_all = map (λ (x : Seen). x.place) (seen s tree)

  good-there : (e : Entry) → Memᴰ e (good s tree) → Memᴰ e.place places_all
  good-there e m =
      let f = good-full e (waiting_seen s ++ slots_seen s tree) m in
      Memᴰ.map (λ (x : Seen). x.place) (perm-member (perm_append_comm (waiting_seen s) (slots_seen s tree)) f.there)

  told : (o : Omitted) → BadAt s tree o ⊎ RepeatedAt s tree o → Memᴰ o.place places_all
  told o (inl b) = Memᴰ.map (λ (x : Seen). x.place) b.there
  told o (inr r) = Memᴰ.cast (sym r.there) (good-there r.node r.is-good)

  -- Entries and report together are no more than the slots and waiting places.
  few : length (entries s tree) + length (report s tree) ≤ length (seen s tree)
  few =
      let c = complete s tree in
      let es = map (λ (e : Entry). e.place) (entries s tree) in
      let os = map (λ (o : Omitted). o.place) (report s tree) in
      let n = no_longer (es ++ os) places_all c.places-once (λ p m. there p (Memᴰ.append_cases es m)) in
      omega (arith, n, length-append es os, length-map (entries s tree) (λ (e : Entry). e.place), length-map (report s tree) (λ (o : Omitted). o.place), length-map (seen s tree) (λ (x : Seen). x.place))
    where
      there : (p : ℕ) → Memᴰ p (map (λ (e : Entry). e.place) (entries s tree)) ⊎ Memᴰ p (map (λ (o : Omitted). o.place) (report s tree)) → Memᴰ p places_all
      there p (inl m) =
          let e = Memᴰ.of_map (λ (e : Entry). e.place) (entries s tree) m in
          Memᴰ.cast (sym e.2) (good-there e.0 ((complete s tree).entries-good e.0 e.1))
      there p (inr m) =
          let o = Memᴰ.of_map (λ (o : Omitted). o.place) (report s tree) m in
          Memᴰ.cast (sym o.2) (told o.0 ((complete s tree).only-these o.0 o.1))

  seen-many : length (seen s tree) ≡ slot_count s.size + s.count
  seen-many =
      length-append (slots_seen s tree) (waiting_seen s)
      ∙ omega (arith, slots_length s.size tree (slot_count s.size) 0, waiting-length s.size 0 (used s), places-length s.count 0 s.places)

  pub file-room : known_size s.size ≡ true → s.count ≤ places → length (file_of s tree) ≤ file_lent s.size
  unfolding file_lent
  file-room known few-wait = rw known (omega (arith, few, seen-many, file-length (entries s tree) (report s tree), few-wait))
