-- Rounds that are listed one by one: they come to what the rounds come to, each reveals a leaf, and their peak is above the limit exactly where the last one
-- overflowed, and then the number that it left.
use Rattle.std.specs.Prelude.{◌≡◌, Bool, ◌⊎◌, List, [], ◌∷◌, ◌++◌, length}
use Rattle.std.proofs.Math.Path.{refl}
use Rattle.std.proofs.Common.{sym, ◌∙◌, ap, inl, inr, arith}
use Rattle.std.proofs.Math.Bool.{true, false}
use Rattle.std.proofs.Math.Option.{Option, none, some}
use Prim.Native.Nat.{ℕ, zero, suc, max, ◌+◌, ◌≤◌, ◌<◌}
use borrow.Author.Tests.{ltb-true, ltb-false}
use Rattle.list_spec.specs.Choice.{pick}
use Rattle.method_spec.specs.Node.{Node}
use Rattle.method_spec.specs.Prog.{Want, Prog, done, want}
use Rattle.method_spec.specs.Answer.{Structure}
use Rattle.method_spec.specs.Outcome.{Outcome}
use Rattle.method_spec.specs.Call.{test}
use Rattle.round_spec.specs.Round.{Hand, read_half, stash_limit}
use Rattle.leaf_spec.specs.Leaf.{leaf_format}
use Rattle.none_lost_laws.specs.Sound.{one_more}
use Rattle.none_lost_laws.specs.Fetching.{fetches-shut, fetches-on}
use Rattle.none_lost_laws.specs.Putting.{puts-shut, puts-on}
use Rattle.bucket_call_spec.specs.Fetch.{Going, held_keys, wish_for, total, too_many, Round, on, shut, at_close, idle_round, took_round, want_round, fetch_round, fetch_rounds}
use Rattle.bucket_call_spec.specs.Call.{put_rounds}
use Rattle.bucket_call_spec.specs.Peak.{rounds_from, peak_of, peak_at}
use Rattle.peak_laws.specs.PeakLaws.{peak-append, peak-none, peak-damage, peak-close, done-round, rounds-none, rounds-goes, rounds-shuts}

-- ---- definitions
-- Above the limit exactly with the mark 9, and then the number that is left waiting and held.
abbrev pub ByMark : (mark peak left : ℕ) → Type 0
ByMark m n t = ((m ≡ 9) × ((stash_limit < n) × (n ≡ t))) ⊎ ((m ≡ 9 → ⊥) × (n ≤ stash_limit))

module _ {A : Type 0} where
  -- The same of what rounds come to.
  abbrev pub Within : Round A → ℕ → Type 0
  Within (on g p) n = n ≤ stash_limit
  Within (shut m g) n = ByMark m n (total g)

  abbrev pub leaves_in : Round A → List ℕ
  leaves_in (on g p) = g.leaves
  leaves_in (shut m g) = g.leaves

  -- The last of some rounds, or what was before the first.
  unfoldable pub last_of : Round A → List (Round A) → Round A
  last_of r [] = r
  last_of r (t ∷ ts) = last_of t ts

  -- Rounds from a store on, and what they come to.
  pub record Lists (g : Going) (p : Prog ℕ A) (rs : List (Round A)) (x : Round A) : Type 0 where
    pub last : last_of (on g p) rs ≡ x
    pub shown : length (leaves_in x) ≡ length g.leaves + length rs
    pub within : Within x (peak_of rs)

  -- ---- one round
  -- What a round from g came to: it went on, with a program as `Next` says, or found damage, or overflowed. It revealed one leaf.
  pub data Came (g : Going) (Next : Prog ℕ A → Type 0) : Round A → Type 0 where
    went : (h : Going) (q : Prog ℕ A) → Next q → length h.leaves ≡ suc (length g.leaves) → peak_at (on h q) ≤ stash_limit → Came g Next (on h q)
    stopped : (m : ℕ) (h : Going) → length h.leaves ≡ suc (length g.leaves) → ByMark m (peak_at {A = A} (shut m h)) (total h) → Came g Next (shut m h)

  module _ {g : Going} {Next : Prog ℕ A → Type 0} where
    damage-came : (h : Going) → length h.leaves ≡ suc (length g.leaves) → Came g Next (shut 8 h)
    damage-came h one = stopped 8 h one (inr ((λ e. omega arith), omega (arith, peak-damage A h)))

    close-came : (h : Going) (p : Prog ℕ A) → Next p → length h.leaves ≡ suc (length g.leaves) → Came g Next (at_close h p)
    unfolding at_close
    close-came h p next one = go (too_many h) refl (peak-close h p)
      where
        go : (b : Bool) → too_many h ≡ b → peak_at (pick b (shut 9 h) (on h p)) ≡ total h → Came g Next (pick b (shut 9 h) (on h p))
        go true e counted = stopped 9 h one (inl (refl, (omega (arith, ltb-true stash_limit (total h) e), counted)))
        go false e counted = went h p next one (omega (arith, ltb-false stash_limit (total h) e))

  idle-came : (k leaf : ℕ) (p : Prog ℕ A) (g : Going) → Came g (λ q. q ≡ p) (idle_round k leaf p g)
  unfolding idle_round
  idle-came k leaf p g = go (read_half leaf_format k g.tree leaf none (held_keys g) g.waiting) refl
    where
      go : (r : Option (Hand (Node ℕ))) → read_half leaf_format k g.tree leaf none (held_keys g) g.waiting ≡ r → Came g (λ q. q ≡ p) (idle_round k leaf p g)
      go none e = rw (e, idle_round) (damage-came _ (one_more g.leaves leaf))
      go (some h) e = rw (e, idle_round) (close-came _ p refl (one_more g.leaves leaf))

  abbrev Any : Prog ℕ A → Type 0
  Any q = Unit {0}

  module _ (s : Structure) (entries k d : ℕ) (w : Want ℕ) (c : Node ℕ → Prog ℕ A) (g : Going) where
    took-came : (ws : List (Node ℕ)) (o : Option (Node ℕ)) → Came g Any (took_round s entries k d w c g ws o)
    unfolding took_round
    took-came ws none = damage-came _ (one_more g.leaves w.link.tag)
    took-came ws (some n) = go (test s entries w n) refl
      where
        go : (passed : Bool) → test s entries w n ≡ passed → Came g Any (took_round s entries k d w c g ws (some n))
        go true e = rw (e, took_round) (close-came _ _ tt (one_more g.leaves w.link.tag))
        go false e = rw (e, took_round) (damage-came _ (one_more g.leaves w.link.tag))

    want-came : Came g Any (want_round s entries k d w c g)
    unfolding want_round
    want-came = go (read_half leaf_format k g.tree w.link.tag (some (wish_for w)) (held_keys g) g.waiting) refl
      where
        go : (r : Option (Hand (Node ℕ))) → read_half leaf_format k g.tree w.link.tag (some (wish_for w)) (held_keys g) g.waiting ≡ r
            → Came g Any (want_round s entries k d w c g)
        go none e = rw (e, want_round) (damage-came _ (one_more g.leaves w.link.tag))
        go (some h) e = rw (e, want_round) (took-came h.waiting h.taken)

  any-came : {g : Going} {Next : Prog ℕ A → Type 0} {r : Round A} → Came g Next r → Came g Any r
  any-came (went h q next one low) = went h q tt one low
  any-came (stopped m h one by) = stopped m h one by

  fetch-came : (s : Structure) (entries k d : ℕ) (p : Prog ℕ A) (g : Going) → Came g Any (fetch_round s entries k d p g)
  unfolding fetch_round
  fetch-came s entries k d (done a) g = any-came (idle-came k d (done a) g)
  fetch-came s entries k d (want w c) g = want-came s entries k d w c g

  -- ---- rounds one after the other
  lists-none : (g : Going) (p : Prog ℕ A) → Lists g p [] (on g p)
  unfolding last_of
  lists-none g p = record { last = refl; shown = omega arith; within = omega (arith, peak-none A) }

  lists-shut : {g : Going} {p : Prog ℕ A} {m : ℕ} {h : Going} → length h.leaves ≡ suc (length g.leaves) → ByMark m (peak_at {A = A} (shut m h)) (total h)
      → Lists g p (shut m h ∷ []) (shut m h)
  unfolding last_of
  lists-shut one by = record { last = refl; shown = omega arith; within = by }

  pub within-max : (x : Round A) (low n : ℕ) {most : ℕ} → low ≤ stash_limit → most ≡ max low n → Within x n → Within x most
  within-max (on g p) low n few e h = omega arith
  within-max (shut m g) low n few e (inl h) = inl (h.0, (omega (arith, h.1.0), omega (arith, h.1.0, h.1.1)))
  within-max (shut m g) low n few e (inr h) = inr (h.0, omega (arith, h.1))

  lists-on : {g : Going} {p : Prog ℕ A} {h : Going} {q : Prog ℕ A} {rs : List (Round A)} {x : Round A} → length h.leaves ≡ suc (length g.leaves)
      → peak_at (on h q) ≤ stash_limit → Lists h q rs x → Lists g p (on h q ∷ rs) x
  unfolding last_of
  lists-on {h = h} {q = q} {rs = rs} {x = x} one low l =
      record { last = l.last; shown = omega (arith, l.shown); within = within-max x (peak_at (on h q)) (peak_of rs) low (peak-append (on h q ∷ []) rs) l.within }

  pub fetches-listed : (s : Structure) (entries k : ℕ) (draw : ℕ → ℕ) (n i : ℕ) (p : Prog ℕ A) (g : Going)
      → Lists g p (rounds_from s entries k draw n i p g) (fetch_rounds s entries k draw n i p g)
  unfolding fetch_rounds
  fetches-listed s entries k draw zero i p g = rw (rounds-none s entries k draw i p g) (lists-none g p)
  fetches-listed s entries k draw (suc n) i p g =
      go (λ q h. fetches-listed s entries k draw n (suc i) q h) refl (fetch-came s entries k (draw i) p g)
    where
      go : ((q : Prog ℕ A) (h : Going) → Lists h q (rounds_from s entries k draw n (suc i) q h) (fetch_rounds s entries k draw n (suc i) q h))
          → {r : Round A} → fetch_round s entries k (draw i) p g ≡ r → Came g Any r
          → Lists g p (rounds_from s entries k draw (suc n) i p g) (fetch_rounds s entries k draw (suc n) i p g)
      go later e (stopped m h one by) =
          rw (rounds-shuts s entries k draw n i p g h m e, fetches-shut s entries k draw n i p g m h e, e) (lists-shut one by)
      go later e (went h q next one low) =
          rw (rounds-goes s entries k draw n i p g h q e, fetches-on s entries k draw n i p g q h e, e) (lists-on one low (later q h))

-- The put rounds are rounds of a program that is done.
pub puts-listed : (s : Structure) (entries k : ℕ) (draw : ℕ → ℕ) (n d : ℕ) (o : Outcome ℕ) (g : Going)
    → Lists g (done o) (rounds_from s entries k draw n d (done o) g) (put_rounds k draw n d o g)
unfolding put_rounds
puts-listed s entries k draw zero d o g = rw (rounds-none s entries k draw d (done o) g) (lists-none g (done o))
puts-listed s entries k draw (suc n) d o g =
    go (λ h. puts-listed s entries k draw n (suc d) o h) refl (idle-came k (draw d) (done o) g)
  where
    same : fetch_round s entries k (draw d) (done o) g ≡ idle_round k (draw d) (done o) g
    same = done-round s entries k (draw d) o g

    go : ((h : Going) → Lists h (done o) (rounds_from s entries k draw n (suc d) (done o) h) (put_rounds k draw n (suc d) o h))
        → {r : Round (Outcome ℕ)} → idle_round k (draw d) (done o) g ≡ r → Came g (λ q. q ≡ done o) r
        → Lists g (done o) (rounds_from s entries k draw (suc n) d (done o) g) (put_rounds k draw (suc n) d o g)
    go later e (stopped m h one by) =
        rw (rounds-shuts s entries k draw n d (done o) g h m (same ∙ e), puts-shut k draw n d o g m h e, same ∙ e) (lists-shut one by)
    go later e (went h q next one low) =
        rw (rounds-goes s entries k draw n d (done o) g h q (same ∙ e), puts-on k draw n d o g q h e, same ∙ e, next) (lists-on one (rw next at low) (later h))
