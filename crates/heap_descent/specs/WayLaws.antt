-- The way to a position: its turns by the digits of the position, and what the method's way down comes to on the nodes at hand.
use Prim.Native.Nat.{ℕ, zero, suc, ◌+◌, ◌*◌, ◌-◌, ◌/◌, ◌%◌, ◌^◌, ◌≤◌, ◌<◌}
use native.Mathlib.Omega.{arith}
use Rattle.std.proofs.Math.Decide.{dec_lt}
use Rattle.std.specs.Prelude.{◌≡◌, Bool, List, [], ◌∷◌, ◌++◌, eqb, length, drop}
use Rattle.std.proofs.Math.Path.{refl}
use Rattle.std.proofs.Common.{◌∙◌, ap, length-append, drop_of_length-le, drop-cons, get_or-append-add, pow_mono}
use Rattle.std.proofs.Math.Bool.{true}
use Rattle.std.proofs.Math.ListN.{get_or-append, get_or-eq_default}
use Rattle.std.specs.Int.Count.{count_leading_zeros}
use Rattle.std.proofs.lemmas.Nat.{leading_length}
use Rattle.slot_spec.specs.Tree.{halved}
use Rattle.slot_laws.specs.TreeLaws.{halved_none, halved-more, halved-shift}
use Rattle.method_spec.specs.Node.{Node}
use Rattle.method_spec.specs.Prog.{Want}
use Rattle.method_spec.specs.Heap.{Pass, way_to, beneath, descend}
use Rattle.run_laws.specs.HeapWays.{way-none, way-last}
use Rattle.operations.specs.Resume.{missing, finished, resume}
use Rattle.operations.specs.ResumeLaws.{resume-done, resume-want, resume-missing}
use Rattle.node_rows.specs.Held.{Held, nodes_of, held_at}
use Rattle.node_rows.specs.HeldLaws.{held_next, held_none}
use Rattle.heap_descent.specs.Way.{Leads, turn_at, want_at, trail}

-- ---- turns

-- A turn for each digit of the position but the first.
way-length : (m i : ℕ) → i / 2 < 2 ^ m → 2 ^ m ≤ 2 * (i / 2) + 1 → length (way_to i) ≡ m
way-length zero i p q = rw (way-none i (omega arith))
way-length (suc m) i p q =
    let d : 2 ^ suc m ≡ 2 * 2 ^ m = omega arith in
    rw (way-last i (omega arith), length-append) (rw (way-length m (i / 2) (omega arith) (omega arith)) (omega arith))

pub way-leads : (i : ℕ) → i < 2 ^ 16 → Leads (record { position = i; depth = 64 - count_leading_zeros 64 (i / 2) })
way-leads i h =
    let l = leading_length 64 (i / 2) (omega arith) in
    let m = way-length l.0 i l.2 l.3 in
    let p = pow-le-15 l.0 (let q = l.3 in omega arith) in
    record { turns = omega (arith, l.1, m); few = omega (arith, l.1, p) }
  where
    pow-le-15 : (m : ℕ) → 2 ^ m < 2 ^ 16 → m ≤ 15
    pow-le-15 m q = go (dec_lt 15 m)
      where
        go : Dec (15 < m) → m ≤ 15
        go (yes k) = let b : 2 ^ 16 ≤ 2 ^ m = pow_mono {i = 16} {j = m} k in omega arith
        go (no k) = omega arith

-- A turn is left where the digit is 0.
abbrev Digit : ℕ → ℕ → Type 0
Digit i j = turn_at (way_to i) j ≡ eqb (halved (length (way_to i) - 1 - j) i % 2) 0

digit-step : (i j : ℕ) → 1 < i → (j < length (way_to (i / 2)) → Digit (i / 2) j) → j < length (way_to i) → Digit i j
digit-step i j m more h = go (dec_lt j (length (way_to (i / 2))))
  where
    long : length (way_to i) ≡ length (way_to (i / 2)) + 1
    long = rw (way-last i m) (length-append (way_to (i / 2)) (eqb (i % 2) 0 ∷ []))

    go : Dec (j < length (way_to (i / 2))) → Digit i j
    go (yes k) =
        let e : length (way_to i) - 1 - j ≡ suc (length (way_to (i / 2)) - 1 - j) = omega (arith, long) in
        ap (λ (l : List Bool). turn_at l j) (way-last i m) ∙ get_or-append (way_to (i / 2)) _ true j k ∙ more k
        ∙ rw (e, halved-more)
    go (no k) =
        let e : length (way_to i) - 1 - j ≡ 0 = omega (arith, long) in
        let d : j ≡ length (way_to (i / 2)) + 0 = omega (arith, long) in
        ap (λ (l : List Bool). turn_at l j) (way-last i m) ∙ ap (turn_at (way_to (i / 2) ++ (eqb (i % 2) 0 ∷ []))) d
        ∙ get_or-append-add (way_to (i / 2)) (eqb (i % 2) 0 ∷ []) 0 true ∙ rw (e, halved_none)

way-digit : (fuel i j : ℕ) → i ≤ fuel → j < length (way_to i) → Digit i j
way-digit zero i j f h = let e = ap length (way-none i (omega arith)) in let z : ⊥ = omega arith in absurd z
way-digit (suc fuel) i j f h = go (way-digit fuel (i / 2) j) (dec_lt 1 i)
  where
    go : (i / 2 ≤ fuel → j < length (way_to (i / 2)) → Digit (i / 2) j) → Dec (1 < i) → Digit i j
    go more (yes m) = digit-step i j m (more (omega arith)) h
    go more (no m) = let e = ap length (way-none i (omega arith)) in let z : ⊥ = omega arith in absurd z

pub way-turn : (i j : ℕ) → j < length (way_to i) → turn_at (way_to i) j ≡ eqb (i / 2 ^ (length (way_to i) - 1 - j) % 2) 0
way-turn i j h = way-digit i i j (omega arith) h ∙ ap (λ (x : ℕ). eqb (x % 2) 0) (halved-shift (length (way_to i) - 1 - j) i)

pub way-beyond : (i j : ℕ) → length (way_to i) ≤ j → turn_at (way_to i) j ≡ true
way-beyond i j h = get_or-eq_default (way_to i) true {n = j} h

-- ---- the way down

module _ (h : Held) (w : Want ℕ) (way : List Bool) where
  pub want-first : (i : ℕ) → i ≡ 0 → want_at h w way i ≡ w
  unfolding want_at
  want-first i e = rw e

  pub want-next : (i : ℕ) → (i ≡ 0 → ⊥) → want_at h w way i ≡ beneath (held_at h (i - 1)) (turn_at way (i - 1))
  unfolding want_at
  want-next zero k = absurd (k refl)
  want-next (suc i) k = let e : suc i - 1 ≡ i = omega arith in rw e

pub trail-none : (h : Held) (way : List Bool) → trail h way 0 ≡ []
unfolding trail
trail-none h way = refl

pub trail-next : (h : Held) (way : List Bool) (i : ℕ) → trail h way (suc i) ≡ record { node = held_at h i; way = turn_at way i } ∷ trail h way i
unfolding trail
trail-next h way i = refl

-- One node of the way, and its end.
module _ (turns : List Bool) (s : Bool) (w : Want ℕ) (path : List (Pass ℕ)) where
  way_on : (n : Node ℕ) (ns : List (Node ℕ))
      → resume (descend (s ∷ turns) w path) (n ∷ ns) ≡ resume (descend turns (beneath n s) (record { node = n; way = s } ∷ path)) ns
  unfolding descend
  way_on n ns = resume-want w _ n ns

  way-missing : resume (descend (s ∷ turns) w path) [] ≡ missing w
  unfolding descend
  way-missing = resume-missing w _

way_end : (w : Want ℕ) (path : List (Pass ℕ)) (ns : List (Node ℕ)) → resume (descend [] w path) ns ≡ finished (record { end = w; path = path }) ns
unfolding descend
way_end w path ns = resume-done _ ns

module _ (h : Held) (w : Want ℕ) (way : List Bool) (few : h.count ≤ length h.nodes) where
  -- After i nodes.
  descend-on : (i : ℕ) → i ≤ length way → i ≤ h.count
      → resume (descend way w []) (nodes_of h) ≡ resume (descend (drop i way) (want_at h w way i) (trail h way i)) (drop i (nodes_of h))
  unfolding want_at trail
  descend-on zero p q = refl
  descend-on (suc i) p q =
      descend-on i (omega arith) (omega arith)
      ∙ rw (drop-cons way i true (omega arith), held_next h i (omega arith) few)
      (way_on (drop (suc i) way) (turn_at way i) (want_at h w way i) (trail h way i) (held_at h i) (drop (suc i) (nodes_of h)))

  pub descend-missing : h.count < length way → resume (descend way w []) (nodes_of h) ≡ missing (want_at h w way h.count)
  descend-missing k =
      descend-on h.count (omega arith) (omega arith)
      ∙ rw (drop-cons way h.count true k, held_none h h.count (omega arith) few)
      (way-missing (drop (suc h.count) way) (turn_at way h.count) (want_at h w way h.count) (trail h way h.count))

  pub descend-end : length way ≤ h.count
      → resume (descend way w []) (nodes_of h)
      ≡ finished (record { end = want_at h w way (length way); path = trail h way (length way) }) (drop (length way) (nodes_of h))
  descend-end k =
      descend-on (length way) (omega arith) k
      ∙ rw (drop_of_length-le way {i = length way} (omega arith))
      (way_end (want_at h w way (length way)) (trail h way (length way)) (drop (length way) (nodes_of h)))
