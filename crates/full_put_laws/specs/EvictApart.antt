-- The write half over two stores that are the same but for one element: bucket by bucket, the waiting lists differ in it, or one slot of
-- a bucket that is not to be written any more does; and so it is at the end.
use Rattle.std.specs.Prelude.{◌≡◌, refl, ℕ, ◌<◌, get_or}
use Rattle.std.proofs.Common.{sym, ◌∙◌, ap, subst, ⊎_elim, arith}
use mathlib.Core.List.Memᴰ
use mathlib.Core.List.{List, [], ◌∷◌, map, Memᴰ}
use Rattle.std.proofs.Math.Decide.{ℕ_discrete}
use Rattle.std.proofs.lemmas.List.{length-map}
use Rattle.list_spec.specs.Distinct.{Distinct, All}
use Rattle.slot_spec.specs.Slot.{bucket_bytes}
use Rattle.round_spec.specs.Format.{Format}
use Rattle.round_spec.specs.Round.{Written, slot_at, choose, evict}
use Rattle.round_spec.specs.Whole.{IsTree, InTree}
use Rattle.round_laws.specs.Lawful.{Lawful}
use Rattle.round_laws.specs.Places.{zero_slot, slot-at-same, filled-length, filled-slot}
use Rattle.round_laws.specs.Lists.{choose-few, choose-passes}
use Rattle.round_laws.specs.Evict.{slots-sized, after_bucket, evict-none, evict-step, after-is-tree, after-other}
use Rattle.promise_spec.specs.FullPut.{Differ, Apart, waits, stands}
use Rattle.full_put_laws.specs.Differing.{differ-member, map-differs, differ-place, choose-differs}
use Rattle.full_put_laws.specs.Slots.{Agree, OneSlotOff, slots_same, bytes_apart}

not_written : {c d : ℕ} {bs : List ℕ} → (¬ d ≡ c) → (¬ Memᴰ d bs) → ¬ Memᴰ d (c ∷ bs)
not_written {c} {d} {bs} ne off m = ⊎_elim {A = d ≡ c} {B = Memᴰ d bs} ne off (Memᴰ.cases_cons m)

module _ {E : Type 0} (F : Format E) (k : ℕ) where
  -- A waiting list and a tree, after bucket c took its elements.
  abbrev bucket_done : ℕ → Written E → Written E
  bucket_done c r = record { waiting = (choose F k c 4 r.waiting).left; tree = after_bucket F k c r.waiting r.tree }

  -- The slots that bucket c then has.
  abbrev slot_done : ℕ → Written E → ℕ → List ℕ
  slot_done c r j = get_or (map F.bytes (choose F k c 4 r.waiting).ins) j zero_slot

  module _ (a b : E) where
    -- Two stores while the buckets bs are still to be written: what these hold does not count.
    pub data Midway (bs : List ℕ) (r s : Written E) : Type 0 where
      still-waits : Differ a b r.waiting s.waiting → Agree k (λ c j. ¬ Memᴰ c bs) r.tree s.tree → Midway bs r s
      stands-off : r.waiting ≡ s.waiting → OneSlotOff F k a b bs r.tree s.tree → Midway bs r s

    -- Two stores that are the same but for a and b.
    abbrev pub StoresApart : Written E → Written E → Type 0
    StoresApart r s = Apart F k a b r.tree r.waiting s.tree s.waiting

module _ {E : Type 0} (F : Format E) {Proper : ℕ → E → Type 0} (lawful : Lawful F Proper) (k : ℕ) where
  slot-done : (c : ℕ) (r : Written E) → InTree k c → IsTree k r.tree → (j : ℕ) → j < 4 → slot_at (bucket_done F k c r).tree c j ≡ slot_done F k c r j
  slot-done c r in_tree is j g =
      let slots = map F.bytes (choose F k c 4 r.waiting).ins in
      let sized = slots-sized F lawful k (choose F k c 4 r.waiting).ins in
      slot-at-same k r.tree is c in_tree (bucket_bytes slots) (filled-length 4 slots sized) j g ∙ filled-slot 4 j slots sized g

  -- ---- one bucket
  module _ (c : ℕ) (in_tree : InTree k c) (r s : Written E) (is : IsTree k r.tree) (is-other : IsTree k s.tree) where
    -- The trees then agree in this bucket where its new slots do, and in others where they did.
    done-agree : {P Q : ℕ → ℕ → Type 0} → ((j : ℕ) → Q c j → slot_done F k c r j ≡ slot_done F k c s j)
        → ((d j : ℕ) → (¬ d ≡ c) → Q d j → P d j) → Agree k P r.tree s.tree → Agree k Q (bucket_done F k c r).tree (bucket_done F k c s).tree
    done-agree {P} {Q} same still agree d j there g q = go (ℕ_discrete d c)
      where
        go : Dec (d ≡ c) → slot_at (bucket_done F k c r).tree d j ≡ slot_at (bucket_done F k c s).tree d j
        go (yes e) =
            rw e (slot-done c r in_tree is j g ∙ same j (subst (λ (x : ℕ). Q x j) e q) ∙ sym (slot-done c s in_tree is-other j g))
        go (no ne) =
            after-other F lawful k c r.waiting r.tree in_tree is d j there ne g
            ∙ agree d j there g (still d j ne q)
            ∙ sym (after-other F lawful k c s.waiting s.tree in_tree is-other d j there ne g)

    module _ (bs : List ℕ) (once : ¬ Memᴰ c bs) {a b : E} where
      -- The bucket takes neither of the two: they wait still.
      neither-taken : Agree k (λ d j. ¬ Memᴰ d (c ∷ bs)) r.tree s.tree → (choose F k c 4 r.waiting).ins ≡ (choose F k c 4 s.waiting).ins
          → Differ a b (bucket_done F k c r).waiting (bucket_done F k c s).waiting → Midway F k a b bs (bucket_done F k c r) (bucket_done F k c s)
      neither-taken agree same differ =
          still-waits differ
          (done-agree (λ j off. ap (λ (es : List E). get_or (map F.bytes es) j zero_slot) same) (λ d j ne off. not_written ne off) agree)

      -- The bucket takes the two: they stand in it.
      both-taken : Agree k (λ d j. ¬ Memᴰ d (c ∷ bs)) r.tree s.tree → Differ a b (choose F k c 4 r.waiting).ins (choose F k c 4 s.waiting).ins
          → (bucket_done F k c r).waiting ≡ (bucket_done F k c s).waiting → Midway F k a b bs (bucket_done F k c r) (bucket_done F k c s)
      both-taken agree differ same =
          let p = differ-place (map-differs F.bytes differ) in
          let few = choose-few F k c 4 r.waiting in
          let l = length-map (choose F k c 4 r.waiting).ins F.bytes in
          let fourth : p.at < 4 = omega (arith, p.within) in
          stands-off same
          (record {
            bucket = c;
            j = p.at;
            in_tree = in_tree;
            fourth = fourth;
            passed = choose-passes F k c 4 r.waiting a (differ-member differ);
            off = once;
            one = slot-done c r in_tree is p.at fourth ∙ p.first zero_slot;
            two = slot-done c s in_tree is-other p.at fourth ∙ p.second zero_slot;
            rest = done-agree (λ j o. p.elsewhere j (λ e. o.1 (refl, e)) zero_slot) (λ d j ne o. not_written ne o.0) agree;
          })

      -- The two stand in a bucket that is not to be written.
      neither-moved : r.waiting ≡ s.waiting → OneSlotOff F k a b (c ∷ bs) r.tree s.tree → Midway F k a b bs (bucket_done F k c r) (bucket_done F k c s)
      neither-moved same o =
          let elsewhere : ¬ o.bucket ≡ c = λ e. o.off (Memᴰ.head e) in
          stands-off (ap (λ (es : List E). (choose F k c 4 es).left) same)
          (record {
            bucket = o.bucket;
            j = o.j;
            in_tree = o.in_tree;
            fourth = o.fourth;
            passed = o.passed;
            off = λ m. o.off (Memᴰ.tail m);
            one = after-other F lawful k c r.waiting r.tree in_tree is o.bucket o.j o.in_tree elsewhere o.fourth ∙ o.one;
            two = after-other F lawful k c s.waiting s.tree in_tree is-other o.bucket o.j o.in_tree elsewhere o.fourth ∙ o.two;
            rest =
                done-agree (λ j p. ap (λ (es : List E). get_or (map F.bytes (choose F k c 4 es).ins) j zero_slot) same)
                (λ d j ne p. (not_written ne p.0, p.1)) o.rest;
          })

      midway-step : F.tag b ≡ F.tag a → Midway F k a b (c ∷ bs) r s → Midway F k a b bs (bucket_done F k c r) (bucket_done F k c s)
      midway-step same_tag (still-waits d agree) =
          ⊎_elim (λ p. both-taken agree p.0 p.1) (λ p. neither-taken agree p.0 p.1) (choose-differs F k c same_tag 4 d)
      midway-step same_tag (stands-off e o) = neither-moved e o

  -- ---- bucket by bucket
  module _ {a b : E} where
    -- Nothing is to be written any more.
    midway_end : (r s : Written E) → IsTree k r.tree → IsTree k s.tree → Midway F k a b [] r s → StoresApart F k a b r s
    midway_end r s is is-other (still-waits d agree) =
        subst (λ (t : List ℕ). Apart F k a b r.tree r.waiting t s.waiting)
        (slots_same k r.tree s.tree is.sized is-other.sized (λ c j p g u. agree c j p g Memᴰ.not-nil)) (waits d)
    midway_end r s is is-other (stands-off e o) =
        subst (λ (es : List E). Apart F k a b r.tree r.waiting s.tree es) e (stands (bytes_apart F lawful k is is-other o))

    pub evict-apart : F.tag b ≡ F.tag a → (bs : List ℕ) → All (InTree k) bs → Distinct bs → (r s : Written E) → IsTree k r.tree → IsTree k s.tree
        → Midway F k a b bs r s → StoresApart F k a b (evict F k bs r.waiting r.tree) (evict F k bs s.waiting s.tree)
    evict-apart same_tag [] in_tree d r s is is-other h =
        rw (evict-none F k r.waiting r.tree, evict-none F k s.waiting s.tree) (midway_end r s is is-other h)
    evict-apart same_tag (c ∷ bs) in_tree d r s is is-other h =
        let there = in_tree c (Memᴰ.head refl) in
        rw (evict-step F k c bs r.waiting r.tree, evict-step F k c bs s.waiting s.tree)
        (evict-apart same_tag bs (λ e m. in_tree e (Memᴰ.tail m)) d.1 (bucket_done F k c r) (bucket_done F k c s)
        (after-is-tree F lawful k c r.waiting r.tree there is) (after-is-tree F lawful k c s.waiting s.tree there is-other)
        (midway-step c there r s is is-other bs d.0 same_tag h))
