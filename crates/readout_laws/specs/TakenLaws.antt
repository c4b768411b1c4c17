-- Laws of the nodes that are taken from the slots and waiting places of a store, and of what is left out.
use Rattle.std.specs.Prelude.{◌≡◌, ◌⊎◌, Bool, ℕ, suc, ◌+◌, ◌≤◌, length}
use Rattle.std.proofs.Math.Path.{refl, sym, ap}
use Rattle.std.proofs.Common.{◌∙◌, subst, inl, arith, length-append}
use Rattle.std.proofs.Math.Logic.{inr, ⊎_elim}
use Rattle.std.proofs.Math.Bool.{true, false}
use mathlib.Core.List.Memᴰ
use mathlib.Core.List.{List, [], ◌∷◌, ◌++◌, map, Memᴰ}
use borrow.Author.Tests.{eqb-true, eqb-false}
use Rattle.std.proofs.Math.Dec.{eqb}
use Rattle.list_spec.specs.Choice.{pick}
use Rattle.list_spec.specs.Distinct.{Distinct, All}
use Rattle.list_laws.specs.DistinctLaws.{all_nil, all_cons}
use Rattle.list_laws.specs.AscendingLaws.{Rising}
use Rattle.slot_spec.specs.Tree.{among}
use Rattle.slot_spec.specs.declared.Node.{Node}
use Rattle.slot_spec.specs.declared.Reading.{Reading}
use Rattle.slot_spec.specs.declared.Reading.TheVariants.{Full, Empty, Bad}
use Rattle.state_spec.specs.declared.State.{State}
use Rattle.state_spec.specs.Fit.{used}
use Rattle.readout_spec.specs.Seen.{Seen, slot_count, slots_seen, waiting_seen}
use Rattle.readout_spec.specs.Taken.{Entry, good_at, good_in, others, firsts, good, Omitted, is_bad, is_repeated, omitted_at, omitted_in}
use Rattle.readout_laws.specs.SeenLaws.{places_seen, slots_length, waiting-length}

-- ---- good nodes
-- A good node comes from a slot or a waiting place.
of-good : (e : Entry) (ss : List Seen) → Memᴰ e (good_in ss) → (x : Seen) × Memᴰ x ss × Memᴰ e (good_at x.place x.reading)
unfolding good_in
of-good e [] m = absurd (Memᴰ.not-nil m)
of-good e (s ∷ ss) m =
    ⊎_elim (λ t. (s, Memᴰ.head refl, t)) (λ t. let r = of-good e ss t in (r.0, Memᴰ.tail r.1, r.2))
    (Memᴰ.append_cases (good_at s.place s.reading) m)

in-good : (e : Entry) (x : Seen) (ss : List Seen) → Memᴰ x ss → Memᴰ e (good_at x.place x.reading) → Memᴰ e (good_in ss)
unfolding good_in
in-good e x [] m t = absurd (Memᴰ.not-nil m)
in-good e x (s ∷ ss) m t = go (λ n. in-good e x ss n t) (Memᴰ.cases_cons m)
  where
    go : (Memᴰ x ss → Memᴰ e (good_in ss)) → (x ≡ s) ⊎ Memᴰ x ss → Memᴰ e (good_at s.place s.reading ++ good_in ss)
    go more (inl p) =
        Memᴰ.append_left (good_in ss) (subst (λ (y : Seen). Memᴰ e (good_at y.place y.reading)) p t)
    go more (inr n) = Memᴰ.append_right (good_at s.place s.reading) (more n)

-- A full reading is a good node, and a good node is a full reading at its place.
pub full-good : (p : ℕ) (n : Node) (ss : List Seen) → Memᴰ (record { place = p; reading = Full n }) ss → Memᴰ (record { place = p; key = n.key; value = n.value }) (good_in ss)
unfolding good_at
full-good p n ss m =
    in-good (record { place = p; key = n.key; value = n.value }) (record { place = p; reading = Full n }) ss m (Memᴰ.head refl)

pub record FullAt (e : Entry) (ss : List Seen) : Type 0 where
  pub node : Node
  pub there : Memᴰ (record { place = e.place; reading = Full node }) ss
  pub same : e ≡ record { place = e.place; key = node.key; value = node.value }

pub good-full : (e : Entry) (ss : List Seen) → Memᴰ e (good_in ss) → FullAt e ss
unfolding good_at
good-full e ss m = let r = of-good e ss m in go r.0 r.0.reading refl r.1 r.2
  where
    go : (x : Seen) (y : Reading) → x.reading ≡ y → Memᴰ x ss → Memᴰ e (good_at x.place y) → FullAt e ss
    go x (Full n) q m t =
        let same : e ≡ record { place = x.place; key = n.key; value = n.value } = Memᴰ.eq_of_singleton t in
        let at : e.place ≡ x.place = ap (λ (y : Entry). y.place) same in
        record {
          node = n;
          there = Memᴰ.cast (λ i. record { place = at i; reading = sym q i }) m;
          same = same ∙ (λ i. record { place = sym at i; key = n.key; value = n.value });
        }
    go x Empty q m t = absurd (Memᴰ.not-nil t)
    go x Bad q m t = absurd (Memᴰ.not-nil t)

-- The places and the keys of entries.
abbrev pub places_of : List Entry → List ℕ
places_of es = map (λ (e : Entry). e.place) es

abbrev pub keys_of : List Entry → List ℕ
keys_of es = map (λ (e : Entry). e.key) es

-- No two good nodes are at one place, if no two of the slots and waiting places are.
pub good-distinct : (ss : List Seen) → Distinct (places_seen ss) → Distinct (places_of (good_in ss))
unfolding good_in good_at
good-distinct [] d = tt
good-distinct (s ∷ ss) d = go s.reading (good-distinct ss d.1)
  where
    go : (y : Reading) → Distinct (places_of (good_in ss)) → Distinct (places_of (good_at s.place y ++ good_in ss))
    go (Full n) more = (
      λ m. let r = Memᴰ.of_map (λ (e : Entry). e.place) (good_in ss) m in let f = good-full r.0 ss r.1 in
          d.0 (Memᴰ.cast (sym r.2) (Memᴰ.map (λ (x : Seen). x.place) f.there)),
      more,
    )
    go Empty more = more
    go Bad more = more

-- ---- of each key the first
module _ (k : ℕ) where
  -- Others are exactly those with another key.
  pub others-member : (e : Entry) (es : List Entry) → Memᴰ e (others k es) → Memᴰ e es × (¬ (k ≡ e.key))
  unfolding others
  others-member e [] m = absurd (Memᴰ.not-nil m)
  others-member e (a ∷ es) m = go (others-member e es) (eqb k a.key) refl m
    where
      go : (Memᴰ e (others k es) → Memᴰ e es × (¬ (k ≡ e.key))) → (t : Bool) → eqb k a.key ≡ t
          → Memᴰ e (pick t (others k es) (a ∷ others k es)) → Memᴰ e (a ∷ es) × (¬ (k ≡ e.key))
      go more true q m = let r = more m in (Memᴰ.tail r.0, r.1)
      go more false q m =
          ⊎_elim (λ p. (Memᴰ.head p, λ z. eqb-false k a.key q (z ∙ ap (λ (x : Entry). x.key) p)))
          (λ t. let r = more t in (Memᴰ.tail r.0, r.1)) (Memᴰ.cases_cons m)

  pub member-others : (e : Entry) (es : List Entry) → Memᴰ e es → (¬ (k ≡ e.key)) → Memᴰ e (others k es)
  unfolding others
  member-others e [] m h = absurd (Memᴰ.not-nil m)
  member-others e (a ∷ es) m h = go (λ t. member-others e es t h) (eqb k a.key) refl (Memᴰ.cases_cons m)
    where
      go : (Memᴰ e es → Memᴰ e (others k es)) → (t : Bool) → eqb k a.key ≡ t → (e ≡ a) ⊎ Memᴰ e es
          → Memᴰ e (pick t (others k es) (a ∷ others k es))
      go more true q (inl p) = absurd (h (eqb-true k a.key q ∙ sym (ap (λ (x : Entry). x.key) p)))
      go more true q (inr t) = more t
      go more false q (inl p) = Memᴰ.head p
      go more false q (inr t) = Memᴰ.tail (more t)

  -- Distinct numbers stay so.
  pub others-distinct : (f : Entry → ℕ) (es : List Entry) → Distinct (map f es) → Distinct (map f (others k es))
  unfolding others
  others-distinct f [] d = tt
  others-distinct f (a ∷ es) d = go (others-distinct f es d.1) (eqb k a.key)
    where
      go : Distinct (map f (others k es)) → (t : Bool) → Distinct (map f (pick t (others k es) (a ∷ others k es)))
      go more true = more
      go more false = (
        λ m. let r = Memᴰ.of_map f (others k es) m in
            d.0 (Memᴰ.cast (sym r.2) (Memᴰ.map f (others-member r.0 es r.1).0)),
        more,
      )

-- What is taken is there.
pub firsts-member : (e : Entry) (es : List Entry) → Memᴰ e (firsts es) → Memᴰ e es
unfolding firsts
firsts-member e [] m = m
firsts-member e (a ∷ es) m =
    ⊎_elim (λ p. Memᴰ.head p) (λ t. Memᴰ.tail (firsts-member e es (others-member a.key e (firsts es) t).0))
    (Memᴰ.cases_cons m)

-- No key stands twice.
pub firsts-keys : (es : List Entry) → Distinct (keys_of (firsts es))
unfolding firsts
firsts-keys [] = tt
firsts-keys (a ∷ es) = (
  λ m. let r = Memᴰ.of_map (λ (e : Entry). e.key) (others a.key (firsts es)) m in
      (others-member a.key r.0 (firsts es) r.1).1 (sym r.2),
  others-distinct a.key (λ (e : Entry). e.key) (firsts es) (firsts-keys es),
)

-- No place stands twice, if none did before.
pub firsts-places : (es : List Entry) → Distinct (places_of es) → Distinct (places_of (firsts es))
unfolding firsts
firsts-places [] d = tt
firsts-places (a ∷ es) d = (
  λ m. let r = Memᴰ.of_map (λ (e : Entry). e.place) (others a.key (firsts es)) m in
      d.0 (Memᴰ.cast (sym r.2) (Memᴰ.map (λ (e : Entry). e.place) (firsts-member r.0 es (others-member a.key r.0 (firsts es) r.1).0))),
  others-distinct a.key (λ (e : Entry). e.place) (firsts es) (firsts-places es d.1),
)

-- Of each key there is, one is taken.
pub key-taken : (e : Entry) (es : List Entry) → Memᴰ e es → (f : Entry) × Memᴰ f (firsts es) × (f.key ≡ e.key)
unfolding firsts
key-taken e [] m = absurd (Memᴰ.not-nil m)
key-taken e (a ∷ es) m = go (key-taken e es) (eqb a.key e.key) refl (Memᴰ.cases_cons m)
  where
    go : (Memᴰ e es → (f : Entry) × Memᴰ f (firsts es) × (f.key ≡ e.key)) → (t : Bool) → eqb a.key e.key ≡ t
        → (e ≡ a) ⊎ Memᴰ e es → (f : Entry) × Memᴰ f (a ∷ others a.key (firsts es)) × (f.key ≡ e.key)
    go more true q h = (a, Memᴰ.head refl, eqb-true a.key e.key q)
    go more false q (inl p) = absurd (eqb-false a.key e.key q (sym (ap (λ (x : Entry). x.key) p)))
    go more false q (inr t) =
        let r = more t in
        (r.0, Memᴰ.tail (member-others a.key r.0 (firsts es) r.1 (λ z. eqb-false a.key e.key q (z ∙ r.2))), r.2)

-- Before one that is taken none has its key.
pub first-of-key : (e : Entry) (es : List Entry) → Memᴰ e (firsts es) → (xs : List Entry) × ((ys : List Entry) × ((es ≡ xs ++ (e ∷ ys)) × All (λ (x : Entry). ¬ (x.key ≡ e.key)) xs))
unfolding firsts
first-of-key e [] m = absurd (Memᴰ.not-nil m)
first-of-key e (a ∷ es) m = go (first-of-key e es) (Memᴰ.cases_cons m)
  where
    go : (Memᴰ e (firsts es) → (xs : List Entry) × ((ys : List Entry) × ((es ≡ xs ++ (e ∷ ys)) × All (λ (x : Entry). ¬ (x.key ≡ e.key)) xs)))
        → (e ≡ a) ⊎ Memᴰ e (others a.key (firsts es))
        → (xs : List Entry) × ((ys : List Entry) × ((a ∷ es ≡ xs ++ (e ∷ ys)) × All (λ (x : Entry). ¬ (x.key ≡ e.key)) xs))
    go more (inl p) = ([], (es, (ap (λ (x : Entry). x ∷ es) (sym p), all_nil (λ (x : Entry). ¬ (x.key ≡ e.key)))))
    go more (inr t) =
        let o = others-member a.key e (firsts es) t in
        let r = more o.0 in (
          a ∷ r.0,
          (
            r.1.0,
            (
              ap (λ (xs : List Entry). a ∷ xs) r.1.1.0,
              all_cons {P = λ (x : Entry). ¬ (x.key ≡ e.key)} o.1 r.1.1.1,
            ),
          ),
        )

-- ---- how many
good_length : (ss : List Seen) → length (good_in ss) ≤ length ss
unfolding good_in good_at
good_length [] = omega arith
good_length (s ∷ ss) = go s.reading (good_length ss)
  where
    go : (y : Reading) → length (good_in ss) ≤ length ss → length (good_at s.place y ++ good_in ss) ≤ suc (length ss)
    go (Full n) h = omega arith
    go Empty h = omega arith
    go Bad h = omega arith

others-length : (k : ℕ) (es : List Entry) → length (others k es) ≤ length es
unfolding others
others-length k [] = omega arith
others-length k (e ∷ es) = go (eqb k e.key) (others-length k es)
  where
    go : (t : Bool) → length (others k es) ≤ length es → length (pick t (others k es) (e ∷ others k es)) ≤ suc (length es)
    go true h = omega arith
    go false h = omega arith

firsts-length : (es : List Entry) → length (firsts es) ≤ length es
unfolding firsts
firsts-length [] = omega arith
firsts-length (e ∷ es) =
    let a = others-length e.key (firsts es) in
    let b = firsts-length es in
    omega arith

-- Taken are at most as many as there are slots and waiting places.
pub taken-length : (s : State) (tree : List ℕ) → length (firsts (good s tree)) ≤ slot_count s.size + length (used s)
taken-length s tree =
    let a = firsts-length (good s tree) in
    let b = good_length (waiting_seen s ++ slots_seen s tree) in
    let c = length-append (waiting_seen s) (slots_seen s tree) in
    let d = slots_length s.size tree (slot_count s.size) 0 in
    let e = waiting-length s.size 0 (used s) in
    omega arith

-- ---- what is left out
-- The places of what is left out.
abbrev pub places_out : List Omitted → List ℕ
places_out os = map (λ (o : Omitted). o.place) os

-- By the places of the nodes that are taken.
module _ (taken : List ℕ) where
  -- What is left out comes from a slot or a waiting place.
  of-omitted : (o : Omitted) (ss : List Seen) → Memᴰ o (omitted_in taken ss) → (x : Seen) × Memᴰ x ss × Memᴰ o (omitted_at taken x.place x.reading)
  unfolding omitted_in
  of-omitted o [] m = absurd (Memᴰ.not-nil m)
  of-omitted o (s ∷ ss) m =
      ⊎_elim (λ t. (s, Memᴰ.head refl, t)) (λ t. let r = of-omitted o ss t in (r.0, Memᴰ.tail r.1, r.2))
      (Memᴰ.append_cases (omitted_at taken s.place s.reading) m)

  in-omitted : (o : Omitted) (x : Seen) (ss : List Seen) → Memᴰ x ss → Memᴰ o (omitted_at taken x.place x.reading) → Memᴰ o (omitted_in taken ss)
  unfolding omitted_in
  in-omitted o x [] m t = absurd (Memᴰ.not-nil m)
  in-omitted o x (s ∷ ss) m t = go (λ n. in-omitted o x ss n t) (Memᴰ.cases_cons m)
    where
      go : (Memᴰ x ss → Memᴰ o (omitted_in taken ss)) → (x ≡ s) ⊎ Memᴰ x ss → Memᴰ o (omitted_at taken s.place s.reading ++ omitted_in taken ss)
      go more (inl p) =
          Memᴰ.append_left (omitted_in taken ss) (subst (λ (y : Seen). Memᴰ o (omitted_at taken y.place y.reading)) p t)
      go more (inr n) = Memᴰ.append_right (omitted_at taken s.place s.reading) (more n)

  -- What is bad is left out, and what is good and not taken.
  pub omitted-bad : (p : ℕ) (ss : List Seen) → Memᴰ (record { place = p; reading = Bad }) ss → Memᴰ (record { place = p; reason = is_bad }) (omitted_in taken ss)
  unfolding omitted_at
  omitted-bad p ss m = in-omitted (record { place = p; reason = is_bad }) (record { place = p; reading = Bad }) ss m (Memᴰ.head refl)

  pub omitted-repeated : (p : ℕ) (n : Node) (ss : List Seen) → Memᴰ (record { place = p; reading = Full n }) ss → among p taken ≡ false
      → Memᴰ (record { place = p; reason = is_repeated }) (omitted_in taken ss)
  unfolding omitted_at
  omitted-repeated p n ss m e =
      in-omitted (record { place = p; reason = is_repeated }) (record { place = p; reading = Full n }) ss m (rw e (Memᴰ.head refl))

  -- Nothing else is: what is left out is bad, or good and not taken.
  abbrev pub OutBad : Omitted → List Seen → Type 0
  OutBad o ss = (o.reason ≡ is_bad) × Memᴰ (record { place = o.place; reading = Bad }) ss

  pub record OutRepeated (o : Omitted) (ss : List Seen) : Type 0 where
    pub reason : o.reason ≡ is_repeated
    pub node : Node
    pub there : Memᴰ (record { place = o.place; reading = Full node }) ss
    pub not_taken : among o.place taken ≡ false

  pub omitted-only : (o : Omitted) (ss : List Seen) → Memᴰ o (omitted_in taken ss) → OutBad o ss ⊎ OutRepeated o ss
  unfolding omitted_at
  omitted-only o ss m = let r = of-omitted o ss m in go r.0 r.0.reading refl r.1 r.2
    where
      full : (x : Seen) (n : Node) → x.reading ≡ Full n → Memᴰ x ss → (t : Bool) → among x.place taken ≡ t
          → Memᴰ o (pick t [] (record { place = x.place; reason = is_repeated } ∷ [])) → OutBad o ss ⊎ OutRepeated o ss
      full x n q m true e t = absurd (Memᴰ.not-nil t)
      full x n q m false e t =
          let same : o ≡ record { place = x.place; reason = is_repeated } = Memᴰ.eq_of_singleton t in
          let at : o.place ≡ x.place = ap (λ (y : Omitted). y.place) same in
          inr
          (record {
            reason = ap (λ (y : Omitted). y.reason) same;
            node = n;
            there = Memᴰ.cast (λ i. record { place = at i; reading = sym q i }) m;
            not_taken = rw at e;
          })

      go : (x : Seen) (y : Reading) → x.reading ≡ y → Memᴰ x ss → Memᴰ o (omitted_at taken x.place y) → OutBad o ss ⊎ OutRepeated o ss
      go x (Full n) q m t = full x n q m (among x.place taken) refl t
      go x Empty q m t = absurd (Memᴰ.not-nil t)
      go x Bad q m t =
          let same : o ≡ record { place = x.place; reason = is_bad } = Memᴰ.eq_of_singleton t in
          let at : o.place ≡ x.place = ap (λ (y : Omitted). y.place) same in
          inl (ap (λ (y : Omitted). y.reason) same, Memᴰ.cast (λ i. record { place = at i; reading = sym q i }) m)

  -- Its place is one that is seen, so the places ascend.
  pub omitted-place : (o : Omitted) (ss : List Seen) → Memᴰ o (omitted_in taken ss) → Memᴰ o.place (places_seen ss)
  omitted-place o ss m =
      ⊎_elim (λ r. Memᴰ.map (λ (x : Seen). x.place) r.1) (λ r. Memᴰ.map (λ (x : Seen). x.place) r.there) (omitted-only o ss m)

  pub omitted-rising : (ss : List Seen) → Rising (places_seen ss) → Rising (places_out (omitted_in taken ss))
  unfolding omitted_in omitted_at
  omitted-rising [] h = tt
  omitted-rising (s ∷ ss) h = go s.reading (omitted-rising ss h.1)
    where
      one : Rising (places_out (omitted_in taken ss)) → Rising (s.place ∷ places_out (omitted_in taken ss))
      one more = (
        λ p m. let r = Memᴰ.of_map (λ (o : Omitted). o.place) (omitted_in taken ss) m in
            h.0 p (Memᴰ.cast (sym r.2) (omitted-place r.0 ss r.1)),
        more,
      )

      full : (t : Bool) → Rising (places_out (omitted_in taken ss))
          → Rising (places_out (pick t [] (record { place = s.place; reason = is_repeated } ∷ []) ++ omitted_in taken ss))
      full true more = more
      full false more = one more

      go : (y : Reading) → Rising (places_out (omitted_in taken ss)) → Rising (places_out (omitted_at taken s.place y ++ omitted_in taken ss))
      go (Full n) more = full (among s.place taken) more
      go Empty more = more
      go Bad more = one more
