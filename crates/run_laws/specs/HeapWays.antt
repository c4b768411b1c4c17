-- Ways from the root: the turns to a position lead there, and every position has one way.
use Rattle.std.specs.Prelude.{◌≡◌, refl, Bool, true, false, not, List, [], ◌∷◌, ◌++◌, ℕ, zero, suc, ◌*◌, ◌/◌, ◌%◌, ◌≤◌, ◌<◌, eqb, leb}
use Rattle.std.proofs.Common.{sym, ◌∙◌, ap, append-nil, append_assoc, arith, eqb-true, leb-true, leb-false, le-leb}
use Rattle.std.proofs.lemmas.List.{append_cancel_left}
use Rattle.std.proofs.lemmas.Bool.{eqb-false, lt-leb}
use Rattle.list_spec.specs.Choice.{pick}
use Rattle.method_spec.specs.Heap.{child_position, turns_to, way_to}

-- The position at the end of a way from position i.
unfoldable pub along : ℕ → List Bool → ℕ
along i [] = i
along i (s ∷ ss) = along (child_position s i) ss

-- ---- fuel

-- Fuel that is enough is as good as any other.
turns-fuel : (f g i : ℕ) → i ≤ f → i ≤ g → turns_to f i ≡ turns_to g i
unfolding turns_to
turns-fuel zero zero i p q = refl
turns-fuel zero (suc g) i p q = rw (le-leb i 1 (omega arith))
turns-fuel (suc f) zero i p q = rw (le-leb i 1 (omega arith))
turns-fuel (suc f) (suc g) i p q = go (leb i 1) refl (turns-fuel f g (i / 2))
  where
    go : (b : Bool) → leb i 1 ≡ b → (i / 2 ≤ f → i / 2 ≤ g → turns_to f (i / 2) ≡ turns_to g (i / 2))
        → pick b [] (turns_to f (i / 2) ++ (eqb (i % 2) 0 ∷ [])) ≡ pick b [] (turns_to g (i / 2) ++ (eqb (i % 2) 0 ∷ []))
    go true e same = refl
    go false e same =
        let more = leb-false i 1 e in
        rw (same (omega arith) (omega arith))

-- ---- one turn more

pub way-none : (i : ℕ) → i ≤ 1 → way_to i ≡ []
unfolding turns_to
way-none zero h = refl
way-none (suc i) h = rw (le-leb (suc i) 1 h)

-- The last turn of the way to a position below the root.
pub way-last : (i : ℕ) → 1 < i → way_to i ≡ way_to (i / 2) ++ (eqb (i % 2) 0 ∷ [])
unfolding turns_to
way-last i more =
    turns-fuel i (suc i) i (omega arith) (omega arith)
    ∙ rw (lt-leb i 1 more, turns-fuel i (i / 2) (i / 2) (omega arith) (omega arith))

way-child : (s : Bool) (i : ℕ) → 1 ≤ i → way_to (child_position s i) ≡ way_to i ++ (s ∷ [])
way-child true i some =
    let half : 2 * i / 2 ≡ i = omega arith in
    let even : 2 * i % 2 ≡ 0 = omega arith in
    way-last (2 * i) (omega arith) ∙ rw (half, even)
way-child false i some =
    let half : suc (2 * i) / 2 ≡ i = omega arith in
    let odd : suc (2 * i) % 2 ≡ 1 = omega arith in
    way-last (suc (2 * i)) (omega arith) ∙ rw (half, odd)

-- ---- where ways lead

pub child-up : (s : Bool) (i : ℕ) → 1 ≤ i → i < child_position s i
child-up true i some = omega arith
child-up false i some = omega arith

pub along-up : (i : ℕ) (ss : List Bool) → 1 ≤ i → i ≤ along i ss
unfolding along
along-up i [] some = omega arith
along-up i (s ∷ ss) some =
    let up = child-up s i some in
    omega (arith, along-up (child_position s i) ss (omega arith))

pub along-turn : (i : ℕ) (s : Bool) (ss : List Bool) → 1 ≤ i → i < along i (s ∷ ss)
unfolding along
along-turn i s ss some =
    let up = child-up s i some in
    omega (arith, along-up (child_position s i) ss (omega arith))

along-append : (i : ℕ) (ss us : List Bool) → along i (ss ++ us) ≡ along (along i ss) us
unfolding along
along-append i [] us = refl
along-append i (s ∷ ss) us = along-append (child_position s i) ss us

-- A position is a child of its half.
half-child : (i : ℕ) → child_position (eqb (i % 2) 0) (i / 2) ≡ i
half-child i = go (eqb (i % 2) 0) refl
  where
    go : (b : Bool) → eqb (i % 2) 0 ≡ b → child_position b (i / 2) ≡ i
    go true e = let even = eqb-true (i % 2) 0 e in omega arith
    go false e = let odd = eqb-false (i % 2) 0 e in omega (arith, odd)

-- The way to a position leads there.
pub along-way : (q : ℕ) → 1 ≤ q → along 1 (way_to q) ≡ q
unfolding along turns_to
along-way q some = below q q (omega arith) some
  where
    below : (fuel q : ℕ) → q ≤ fuel → 1 ≤ q → along 1 (way_to q) ≡ q
    below zero q few some = let z : ⊥ = omega arith in absurd z
    below (suc fuel) q few some = go (leb q 1) refl (below fuel (q / 2))
      where
        go : (b : Bool) → leb q 1 ≡ b → (q / 2 ≤ fuel → 1 ≤ q / 2 → along 1 (way_to (q / 2)) ≡ q / 2) → along 1 (way_to q) ≡ q
        go true e half =
            let one = leb-true q 1 e in
            let same : q ≡ 1 = omega arith in
            rw same
        go false e half =
            let more = leb-false q 1 e in
            let turn = eqb (q % 2) 0 in
            rw (way-last q (omega arith), along-append 1 (way_to (q / 2)) (turn ∷ []), half (omega arith) (omega arith)) (half-child q)

-- A way goes on from where it led.
way-along : (i : ℕ) (ss : List Bool) → 1 ≤ i → way_to (along i ss) ≡ way_to i ++ ss
unfolding along
way-along i [] some = sym (append-nil (way_to i))
way-along i (s ∷ ss) some =
    let up = child-up s i some in
    way-along (child_position s i) ss (omega arith) ∙ rw (way-child s i some, append_assoc)

-- No two ways from a position lead to one.
along_once : (i : ℕ) (ss us : List Bool) → 1 ≤ i → along i ss ≡ along i us → ss ≡ us
along_once i ss us some e =
    append_cancel_left (way_to i) ss us (sym (way-along i ss some) ∙ ap way_to e ∙ way-along i us some)

-- Ways that part at a position do not meet.
pub ways-part : (s : Bool) (i : ℕ) → 1 ≤ i → (ss us : List Bool) → along (child_position s i) ss ≡ along (child_position (not s) i) us → ⊥
unfolding along
ways-part true i some ss us e =
    let same = along_once i (true ∷ ss) (false ∷ us) some e in
    let z : ◌≡◌ {A = ℕ} 0 1 = cc in
    omega arith
ways-part false i some ss us e =
    let same = along_once i (false ∷ ss) (true ∷ us) some e in
    let z : ◌≡◌ {A = ℕ} 0 1 = cc in
    omega arith
