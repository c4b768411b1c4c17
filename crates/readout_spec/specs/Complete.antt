-- Reading out is complete: every good node is an entry or reported as repeated, every bad slot and waiting place is reported,
-- and nothing else is in either.
use Rattle.std.specs.Prelude.{◌≡◌, ◌⊎◌, true, ℕ}
use mathlib.Core.List.{List, ◌∷◌, ◌++◌, map, Memᴰ}
use Rattle.list_spec.specs.Distinct.{Distinct, All}
use Rattle.list_spec.specs.Ascending.{ascending}
use Rattle.slot_spec.specs.declared.Reading.TheVariants.{Bad}
use Rattle.state_spec.specs.declared.State.{State}
use Rattle.readout_spec.specs.Seen.{Seen, slots_seen, waiting_seen}
use Rattle.readout_spec.specs.Taken.{Entry, good, entries, Omitted, is_bad, is_repeated, report}

module _ (s : State) (tree : List ℕ) where
  -- All slots and waiting places, by place.
  abbrev pub seen : List Seen
  seen = slots_seen s tree ++ waiting_seen s

  -- Reported as bad: a slot or a waiting place that is bad.
  pub record BadAt (o : Omitted) : Type 0 where
    pub reason : o.reason ≡ is_bad
    pub there : Memᴰ (record { place = o.place; reading = Bad }) seen

  -- Reported as repeated: a good node, and an entry at another place has its key.
  pub record RepeatedAt (o : Omitted) : Type 0 where
    pub reason : o.reason ≡ is_repeated
    pub node : Entry
    pub is-good : Memᴰ node (good s tree)
    pub there : node.place ≡ o.place
    pub entry : Entry
    pub is-entry : Memᴰ entry (entries s tree)
    pub same_key : entry.key ≡ node.key
    pub elsewhere : ¬ (entry.place ≡ o.place)

  pub record ReadOutComplete : Type 0 where
    -- Ascending by key, no key twice; the report ascending by place.
    pub by_key : ascending (map (λ (e : Entry). e.key) (entries s tree)) ≡ true
    pub by_place : ascending (map (λ (o : Omitted). o.place) (report s tree)) ≡ true
    -- Every good node is an entry or reported as repeated; every bad slot or waiting place is reported as bad.
    pub good-told : (e : Entry) → Memᴰ e (good s tree) → Memᴰ e (entries s tree) ⊎ Memᴰ (record { place = e.place; reason = is_repeated }) (report s tree)
    pub bad-told : (p : ℕ) → Memᴰ (record { place = p; reading = Bad }) seen → Memᴰ (record { place = p; reason = is_bad }) (report s tree)
    -- Nothing else is: entries are good nodes, and what is reported is bad or repeated.
    pub entries-good : (e : Entry) → Memᴰ e (entries s tree) → Memᴰ e (good s tree)
    pub only-these : (o : Omitted) → Memᴰ o (report s tree) → BadAt o ⊎ RepeatedAt o
    -- No place stands twice, in the entries and the report together.
    pub places-once : Distinct (map (λ (e : Entry). e.place) (entries s tree) ++ map (λ (o : Omitted). o.place) (report s tree))
    -- Of a repeated key the first waiting one is taken, else the lowest place: before an entry no good node has its key.
    pub first_taken : (e : Entry) → Memᴰ e (entries s tree)
        → (xs : List Entry) × ((ys : List Entry) × ((good s tree ≡ xs ++ (e ∷ ys)) × All (λ (x : Entry). ¬ (x.key ≡ e.key)) xs))
