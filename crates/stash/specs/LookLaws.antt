-- One place after another: looked at, whether it fits.
use Rattle.std.specs.Prelude.{◌≡◌, refl, Bool, true, false, ◌&&◌, ℕ, ◌+◌, ◌-◌, ◌≤◌, ◌<◌, max, leb, get_or}
use Rattle.std.proofs.Common.{sym, ◌∙◌, ap₂, arith, leb-true, leb-false}
use Rattle.std.proofs.Math.Bool.{and-false, and_assoc, and-eq-true_iff}
use Rattle.std.proofs.Math.Nat.{sub-zero}
use Rattle.list_spec.specs.Ascending.{ascending}
use Rattle.state_spec.specs.declared.Place.{Place}
use Rattle.state_spec.specs.declared.State.{State}
use Rattle.state_spec.specs.Fit.{zero_place, all_of, place_good, keys_in, places, no_place, places_from, used, unused, places_fit}
use Rattle.state_laws.specs.FitLaws.{all-passes, all-fails, all_end, ascending_at, ascending-start, keys-ascend, keys-fall, keys-end}
use Rattle.stash.specs.Stash.{good_from, used_fit}

module _ (s : State) where
  -- The place with a number, and whether the used places from there on, and the unused ones from there on, are as they must be.
  abbrev pub at : ℕ → Place
  at i = get_or s.places i no_place

  abbrev good : ℕ → Bool
  good i = all_of (place_good s.size) (places_from (s.count - i) i s.places)

  abbrev ascend : (least i : ℕ) → Bool
  ascend least i = ascending_at least (keys_in (places_from (s.count - i) i s.places))

  abbrev blank : ℕ → Bool
  blank i = all_of zero_place (places_from (places - i) i s.places)

  -- The first i places are looked at: they fit exactly if all do, and the next used one has at least the key `least`.
  pub record LookedAt (i least : ℕ) : Type 0 where
    pub within : i ≤ places
    pub goods : good i ≡ all_of (place_good s.size) (used s)
    pub keys : ascend least i ≡ ascending (keys_in (used s))
    pub blanks : blank (max i s.count) ≡ all_of zero_place (unused s)

  pub looked-none : LookedAt 0 0
  looked-none =
      let high : max 0 s.count ≡ s.count = omega arith in
      record {
        within = omega arith;
        goods = rw sub-zero;
        keys = rw sub-zero (sym (ascending-start (keys_in (used s))));
        blanks = rw high;
      }

  -- The used places, then the others.
  pub used-first : places_fit s ≡ (used_fit s && all_of zero_place (unused s))
  used-first = sym (and_assoc (all_of (place_good s.size) (used s)) (ascending (keys_in (used s))) (all_of zero_place (unused s)))

  pub used-unfit : used_fit s ≡ false → places_fit s ≡ false
  used-unfit e = used-first ∙ rw e

  module _ (i least : ℕ) (l : LookedAt i least) where
    -- A place that does not fit.
    pub used-fails : i < s.count → good_from s.size least (at i) ≡ false → used_fit s ≡ false
    used-fails h e = go (place_good s.size (at i)) refl e
      where
        go : (t : Bool) → place_good s.size (at i) ≡ t → (t && leb least (at i).node.key) ≡ false → used_fit s ≡ false
        go false g e = rw (sym l.goods ∙ all-fails (place_good s.size) s.count i s.places h g)
        go true g e =
            rw (sym l.keys ∙ keys-fall s.count i least s.places h (leb-false least (at i).node.key e)) (simp and-false)

    pub unused-unfit : s.count ≤ i → i < places → zero_place (at i) ≡ false → places_fit s ≡ false
    unused-unfit h k e =
        let high : max i s.count ≡ i = omega arith in
        rw (sym (rw high at l.blanks) ∙ all-fails zero_place places i s.places k e) (simp and-false)

    -- One that does.
    pub used-more : i < s.count → s.count ≤ places → good_from s.size least (at i) ≡ true → LookedAt (i + 1) ((at i).node.key + 1)
    used-more h few e =
        let both = (and-eq-true_iff (place_good s.size (at i)) (leb least (at i).node.key)).0 e in
        let high : max i s.count ≡ s.count = omega arith in
        let high' : max (i + 1) s.count ≡ s.count = omega arith in
        record {
          within = omega arith;
          goods = sym (all-passes (place_good s.size) s.count i s.places h both.0) ∙ l.goods;
          keys = sym (keys-ascend s.count i least s.places h (leb-true least (at i).node.key both.1)) ∙ l.keys;
          blanks = rw high' (rw high at l.blanks);
        }

    pub unused-more : s.count ≤ i → i < places → zero_place (at i) ≡ true → LookedAt (i + 1) least
    unused-more h k e =
        let high : max i s.count ≡ i = omega arith in
        let high' : max (i + 1) s.count ≡ i + 1 = omega arith in
        record {
          within = omega arith;
          goods = all_end (place_good s.size) s.count (i + 1) s.places (omega arith) ∙ sym (all_end (place_good s.size) s.count i s.places h) ∙ l.goods;
          keys = keys-end s.count (i + 1) least s.places (omega arith) ∙ sym (keys-end s.count i least s.places h) ∙ l.keys;
          blanks = rw high' (sym (all-passes zero_place places i s.places k e) ∙ rw high at l.blanks);
        }

    -- All used places, and all places.
    pub used-passes : s.count ≤ i → used_fit s ≡ true
    used-passes h =
        ap₂ ◌&&◌ (sym l.goods ∙ all_end (place_good s.size) s.count i s.places h) (sym l.keys ∙ keys-end s.count i least s.places h)

    pub looked-all : places ≤ i → s.count ≤ places → places_fit s ≡ true
    looked-all h few =
        let high : max i s.count ≡ i = omega arith in
        used-first ∙ ap₂ ◌&&◌ (used-passes (omega arith)) (sym (rw high at l.blanks) ∙ all_end zero_place places i s.places h)
