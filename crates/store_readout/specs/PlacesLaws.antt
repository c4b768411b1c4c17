-- The waiting places of a state put into bytes, one after the other.
use Rattle.std.specs.Prelude.{◌≡◌, refl, Bool, true, false, ℕ, zero, suc, ◌+◌, ◌-◌, ◌*◌, ◌≤◌, ◌<◌, ltb, length, get_or, drop}
use Rattle.std.proofs.Math.Path.{sym, ap}
use Rattle.std.proofs.Common.{◌∙◌, subst, arith, length-append, length-drop, take_at, length-take-le, ltb-true, ltb-false}
use mathlib.Core.List.{List, ◌++◌, append-nil, append_assoc}
use Rattle.std.proofs.Math.ListN.{take}
use Rattle.list_spec.specs.Distinct.{All}
use Rattle.list_laws.specs.DistinctLaws.{all_nil, all_cons}
use Rattle.slot_spec.specs.Tree.{slot_length}
use Rattle.slot_spec.specs.Slot.{Ranged}
use Rattle.state_spec.specs.declared.Place.{Place}
use Rattle.state_spec.specs.Fit.{places, no_place, places_from}
use Rattle.state_laws.specs.FitLaws.{places-step, places-end}
use Rattle.lent_bytes_spec.specs.StateBytes.{place_bytes, places_bytes}
use Rattle.lent_bytes_laws.specs.PlaceLaws.{place-length}

-- Of n places the first i are put.
pub record PutSo (ps : List Place) (n i : ℕ) (waiting : List ℕ) : Type 0 where
  pub within : i ≤ n
  pub sized : length waiting ≡ slot_length * places
  pub bytes : take (slot_length * i) waiting ++ places_bytes (places_from (n - i) i ps) ≡ places_bytes (places_from n 0 ps)
  pub ranged : (j : ℕ) → j < i → Ranged (get_or ps j no_place).node

pub put-none : (ps : List Place) (n : ℕ) (waiting : List ℕ) → length waiting ≡ slot_length * places → PutSo ps n 0 waiting
put-none ps n waiting sized =
    let z : n - 0 ≡ n = omega arith in
    record { within = omega arith; sized = sized; bytes = rw z; ranged = λ j low. let y : ⊥ = omega (arith, low) in absurd y }

module _ (ps : List Place) (n i : ℕ) (waiting part : List ℕ) (so : PutSo ps n i waiting) (more : i < n) (few : n ≤ places)
    (ranged : Ranged (get_or ps i no_place).node) (e : part ≡ place_bytes (get_or ps i no_place)) where
  abbrev a : ℕ
  a = slot_length * i

  abbrev after : List ℕ
  after = take a waiting ++ (part ++ drop (a + slot_length - a) (drop a waiting))

  front : length (take a waiting) ≡ a
  front = length-take-le a waiting (omega (arith, so.sized, more, few))

  part_length : length part ≡ slot_length
  part_length = ap length e ∙ place-length (get_or ps i no_place)

  written : take (slot_length * (i + 1)) after ≡ take a waiting ++ part
  written =
      ap (take (slot_length * (i + 1))) (sym (append_assoc (take a waiting) part (drop (a + slot_length - a) (drop a waiting))))
      ∙ take_at (take a waiting ++ part) (drop (a + slot_length - a) (drop a waiting)) (slot_length * (i + 1))
      (length-append (take a waiting) part ∙ omega (arith, front, part_length))

  bytes-more : take (slot_length * (i + 1)) after ++ places_bytes (places_from (n - (i + 1)) (i + 1) ps) ≡ places_bytes (places_from n 0 ps)
  unfolding places_bytes
  bytes-more =
      let rest = places_bytes (places_from (n - (i + 1)) (i + 1) ps) in
      ap (λ (xs : List ℕ). xs ++ rest) written ∙ append_assoc (take a waiting) part rest
      ∙ ap (λ (xs : List ℕ). take a waiting ++ (xs ++ rest)) e
      ∙ ap (λ (qs : List Place). take a waiting ++ places_bytes qs) (sym (places-step n i ps more)) ∙ so.bytes

  ranged-more : (j : ℕ) → j < i + 1 → Ranged (get_or ps j no_place).node
  ranged-more j low = go (ltb j i) refl
    where
      go : (b : Bool) → ltb j i ≡ b → Ranged (get_or ps j no_place).node
      go true h = so.ranged j (ltb-true j i h)
      go false h =
          let e : i ≡ j = omega (arith, low, ltb-false j i h) in
          subst (λ (m : ℕ). Ranged (get_or ps m no_place).node) e ranged

  pub put-more : PutSo ps n (i + 1) after
  put-more =
      record {
        within = omega (arith, more);
        sized =
            length-append (take a waiting) (part ++ drop (a + slot_length - a) (drop a waiting))
            ∙ rw (length-append part (drop (a + slot_length - a) (drop a waiting)), length-drop (a + slot_length - a) (drop a waiting), length-drop a waiting)
            (omega (arith, front, part_length, so.sized, more, few));
        bytes = bytes-more;
        ranged = ranged-more;
      }

-- All n places are put.
all-ranged : (ps : List Place) (n i : ℕ) → ((j : ℕ) → j < i + n → Ranged (get_or ps j no_place).node) → All (λ (p : Place). Ranged p.node) (places_from n i ps)
unfolding places_from
all-ranged ps zero i h = all_nil (λ (p : Place). Ranged p.node)
all-ranged ps (suc n) i h =
    all_cons {P = λ (p : Place). Ranged p.node} (h i (omega arith)) (all-ranged ps n (suc i) (λ j low. h j (omega (arith, low))))

module _ (ps : List Place) (n i : ℕ) (waiting : List ℕ) (so : PutSo ps n i waiting) (all : n ≤ i) where
  pub put_all : take (slot_length * n) waiting ≡ places_bytes (places_from n 0 ps)
  unfolding places_bytes
  put_all =
      let e : n ≡ i = omega (arith, all, so.within) in
      sym (append-nil (take (slot_length * n) waiting))
      ∙ rw (places-end n i ps all, ← e) at so.bytes

  pub put-ranged : All (λ (p : Place). Ranged p.node) (places_from n 0 ps)
  put-ranged = all-ranged ps n 0 (λ j low. so.ranged j (omega (arith, low, all)))
