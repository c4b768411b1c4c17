-- A put of a present key on a full map, over buckets: every other call is as it was, every byte; and that this one differs from the
-- earlier one in the one value and the answer alone.
use Rattle.std.proofs.Math.Path.{◌≡◌, refl, sym, ap, ap₂}
use Rattle.std.proofs.Common.{◌∙◌, subst, arith}
use Rattle.std.specs.Prelude.{Bool, ltb}
use Rattle.std.proofs.Math.Bool.{true, false}
use mathlib.Core.List.{List, [], ◌∷◌}
use Rattle.std.proofs.Math.Option.{none}
use Prim.Native.Nat.{ℕ, max, ◌^◌, ◌≤◌, ◌<◌}
use Rattle.list_spec.specs.Choice.{pick}
use Rattle.list_spec.specs.Largest.{largest}
use Rattle.method_spec.specs.Node.{Link, Ahead, Node, with_value}
use Rattle.method_spec.specs.Prog.{Prog, done}
use Rattle.method_spec.specs.Answer.{Structure, map, Op, get, put, remove, push, pop, add, take, enqueue, dequeue, replaced, full}
use Rattle.method_spec.specs.Outcome.{Outcome}
use Rattle.method_spec.specs.Rounds.{rounds, spare_draw, put_draw}
use Rattle.method_spec.specs.Call.{capacity, program}
use Rattle.list_spec.specs.Distinct.{All}
use Rattle.list_laws.specs.ChoiceLaws.{pick-neither}
use Rattle.round_spec.specs.Round.{join}
use Rattle.round_spec.specs.Whole.{IsTree}
use Rattle.leaf_spec.specs.Leaf.{leaf_format, ProperLeaf}
use Rattle.leaf_spec.specs.Entries.{OpFits}
use Rattle.bucket_call_spec.specs.Fetch.{Going, moved_link, closing, Round, on}
use Rattle.bucket_call_spec.specs.Call.{Store, after_puts, stepped, after_fetches, begun, program_by, fetched_by, ahead_then, bucket_call}
use Rattle.bucket_call_spec.specs.Peak.{rounds_from, peak_of, puts_after, call_peak}
use Rattle.peak_laws.specs.PeakLaws.{peak-append}
use Rattle.none_lost_laws.specs.Fitting.{with-value-proper}
use Rattle.none_lost_laws.specs.Sound.{nodes_in, goes}
use Rattle.none_lost_laws.specs.Ends.{FitStore}
use Rattle.none_lost_laws.specs.Lost.{FetchEnds, fetch-rounds, never-left-wanting}
use Rattle.full_put_laws.specs.Differing.{insert-differs, join-differs}
use Rattle.promise_spec.specs.AsBefore.{earlier_programs, program_with, fetched_with, bucket_call_with, peak_with}
use Rattle.promise_spec.specs.FullPut.{holds_key, full_put, waits, ten-then-replaced, neither, OnlyValue}
use Rattle.full_put_laws.specs.Peaks.{counts-together, counts-near}
use Rattle.full_put_laws.specs.Together.{both-done, both-want, Together, both-shut, both-on, rounds-together}
use Rattle.full_put_laws.specs.PutRounds.{Near, NearRounds, near-shut, near_on, puts-near}
use Rattle.full_put_laws.specs.TwoPuts.{Compared, same, revalued, puts-both}

-- ---- the fetch rounds
module _ (k F key value : ℕ) (draw : ℕ → ℕ) (st : Store) where
  abbrev pub room : Bool
  room = ltb st.entries (capacity k)

  -- Both puts want the same nodes in the same order: after any number F of fetch rounds both have closed the store, or both hold the same nodes, have
  -- revealed the same leaves, and want the same node next or none.
  pub puts-together : Together (Compared key value room) (fetched_by k F (put key value) draw st) (fetched_with earlier_programs k F (put key value) draw st)
  unfolding program earlier_programs
  puts-together =
      rounds-together map st.entries k draw F 0 _ _ _ (puts-both key value (draw (spare_draw F 0)) st.entries (capacity k) st.root)

  -- ---- where the key is absent, or there is room
  same_left : {x y : Round (Outcome ℕ)} → Together (Compared key value room) x y → pick room false (holds_key key x) ≡ false
      → (a : Ahead ℕ) → after_fetches map k F draw st a x ≡ after_fetches map k F draw st a y
  unfolding after_fetches
  same_left (both-shut m g) e a = refl
  same_left (both-on g (both-done (same none-there o))) e a = refl
  same_left (both-on g (both-done (revalued none_left n others root entries named held there))) e a =
      let z : true ≡ false = sym (rw (none_left, there) refl) ∙ e in
      cc
  same_left (both-on g (both-want more)) e a = refl

-- A call over buckets is as it was, every byte, unless it is a put of a present key on a full map: for any structure, ticket, store and tape, and any number
-- of rounds.
pub same-call : {s : Structure} (k F : ℕ) (op : Op s) (draw : ℕ → ℕ) (st : Store)
    → full_put (capacity k) st.entries op (fetched_by k F op draw st) ≡ false
    → bucket_call k F op draw st ≡ bucket_call_with earlier_programs k F op draw st
unfolding bucket_call full_put earlier_programs
same-call k F (put key value) draw st e = same_left k F key value draw st (puts-together k F key value draw st) e (ahead_then k F (put key value) draw st)
same-call k F (get key) draw st e = refl
same-call k F (remove key) draw st e = refl
same-call k F (push value) draw st e = refl
same-call k F pop draw st e = refl
same-call k F (add value) draw st e = refl
same-call k F take draw st e = refl
same-call k F (enqueue value) draw st e = refl
same-call k F dequeue draw st e = refl

-- ---- the peaks
module _ (k F key value : ℕ) (draw : ℕ → ℕ) (st : Store) where
  abbrev puts : Round (Outcome ℕ) → List (Round (Outcome ℕ))
  puts x = puts_after map k F draw st x

  -- Both puts' fetch rounds count the same; so their peaks are the same where those of the put rounds are.
  peaks-by-puts : peak_of (puts (fetched_by k F (put key value) draw st)) ≡ peak_of (puts (fetched_with earlier_programs k F (put key value) draw st))
      → call_peak k F (put key value) draw st ≡ peak_with earlier_programs k F (put key value) draw st
  unfolding program earlier_programs
  peaks-by-puts rest =
      let fetches : Prog ℕ (Outcome ℕ) → List (Round (Outcome ℕ)) = λ p. rounds_from map st.entries k draw F 0 p (begun st) in
      let p = program_by k F (put key value) draw st in
      let q = program_with earlier_programs k F (put key value) draw st in
      peak-append (fetches p) (puts (fetched_by k F (put key value) draw st))
      ∙ ap₂ max
      (ap largest
      (counts-together map st.entries k draw F 0 (begun st) p q (puts-both key value (draw (spare_draw F 0)) st.entries (capacity k) st.root)))
      rest
      ∙ sym (peak-append (fetches q) (puts (fetched_with earlier_programs k F (put key value) draw st)))

  same-puts : {x y : Round (Outcome ℕ)} → Together (Compared key value (room k F key value draw st)) x y → pick (room k F key value draw st) false (holds_key key x) ≡ false → puts x ≡ puts y
  unfolding puts_after
  same-puts (both-shut m g) e = refl
  same-puts (both-on g (both-done (same none-there o))) e = refl
  same-puts (both-on g (both-done (revalued none_left n others root entries named held there))) e =
      let z : true ≡ false = sym (rw (none_left, there) refl) ∙ e in
      cc
  same-puts (both-on g (both-want more)) e = refl

-- The peak of a call is as it was, as the call itself is.
pub same-peak : {s : Structure} (k F : ℕ) (op : Op s) (draw : ℕ → ℕ) (st : Store)
    → full_put (capacity k) st.entries op (fetched_by k F op draw st) ≡ false
    → call_peak k F op draw st ≡ peak_with earlier_programs k F op draw st
unfolding full_put earlier_programs
same-peak k F (put key value) draw st e =
    peaks-by-puts k F key value draw st (ap peak_of (same-puts k F key value draw st (puts-together k F key value draw st) e))
same-peak k F (get key) draw st e = refl
same-peak k F (remove key) draw st e = refl
same-peak k F (push value) draw st e = refl
same-peak k F pop draw st e = refl
same-peak k F (add value) draw st e = refl
same-peak k F take draw st e = refl
same-peak k F (enqueue value) draw st e = refl
same-peak k F dequeue draw st e = refl

-- ---- a put of a present key on a full map
-- A store that is closed with nothing held.
closed-left : (m entries : ℕ) (l : Link ℕ) (a : Ahead ℕ) (g : Going) → g.held ≡ []
    → closing m entries l a g
    ≡ record { mark = m; entries = entries; root = l; ahead = a; waiting = g.waiting; tree = g.tree; leaves = g.leaves; answer = none }
unfolding closing moved_link join
closed-left m entries l a g none-held = rw none-held

module _ (k key value : ℕ) (n : Node ℕ) (named : n.key ≡ key) (others : List (Node ℕ)) (l : Link ℕ) (entries : ℕ) where
  abbrev before : Outcome ℕ
  before = record { nodes = n ∷ others; root = l; entries = entries; answer = full }

  abbrev after : Outcome ℕ
  after = record { nodes = with_value value n ∷ others; root = l; entries = entries; answer = replaced n.value }

  ends-apart : (a : Ahead ℕ) {x y : Round (Outcome ℕ)} → NearRounds k n (with_value value n) before after x y
      → OnlyValue k key value (after_puts a before x) (after_puts a after y)
  unfolding after_puts
  ends-apart a (near-shut m g h closes near) =
      rw (closed-left m entries l a g near.none-held, closed-left m entries l a h (near.held ∙ near.none-held))
      (record {
        mark = refl;
        entries = refl;
        root = refl;
        ahead = refl;
        leaves = near.leaves;
        node = n;
        named = named;
        apart = near.apart;
        answers = neither closes;
      })
  ends-apart a (near_on g h near) =
      record {
        mark = refl;
        entries = refl;
        root = refl;
        ahead = refl;
        leaves = near.leaves;
        node = n;
        named = named;
        apart = near.apart;
        answers = ten-then-replaced;
      }

  -- After the steps the two stores are apart in the one node, which waits.
  steps-near : (g : Going) → IsTree k g.tree → Near k n (with_value value n) (stepped before g) (stepped after g)
  unfolding join
  steps-near g is =
      record {
        none-held = refl;
        held = refl;
        leaves = refl;
        is-tree = is;
        other-tree = is;
        apart = waits (join-differs leaf_format refl others (insert-differs leaf_format refl g.waiting));
      }

module _ (k : ℕ) (some_size : 1 ≤ k) (small : k ≤ 16) (key value : ℕ) (fits : OpFits (put key value)) (draw : ℕ → ℕ) (leaves : (d : ℕ) → draw d < 2 ^ k)
    (st : Store) (fit : FitStore map k st) where
  -- The held nodes are proper, and the tree is a tree.
  held-proper : (g : Going) (o : Outcome ℕ) → fetched_by k (rounds map k) (put key value) draw st ≡ on g (done o)
      → IsTree k g.tree × All (ProperLeaf k) (nodes_in g.held)
  held-proper g o e =
      go
      (subst (FetchEnds k (rounds map k) 0 (put key value) st) e
      (fetch-rounds k some_size small (put key value) fits draw leaves st fit tt (rounds map k) 0 (omega arith)))
    where
      go : FetchEnds k (rounds map k) 0 (put key value) st (on g (done o)) → IsTree k g.tree × All (ProperLeaf k) (nodes_in g.held)
      go (goes sound few seen next) = (sound.is-tree, sound.held)

  left-apart : {x y : Round (Outcome ℕ)} → fetched_by k (rounds map k) (put key value) draw st ≡ x
      → Together (Compared key value (ltb st.entries (capacity k))) x y → pick (ltb st.entries (capacity k)) false (holds_key key x) ≡ true
      → (a : Ahead ℕ) → OnlyValue k key value (after_fetches map k (rounds map k) draw st a y) (after_fetches map k (rounds map k) draw st a x)
  unfolding after_fetches
  left-apart e (both-on g (both-done (revalued none_left n others root entries named held there))) present a =
      let p = held-proper g _ e in
      ends-apart k key value n named others root entries a
      (puts-near k refl refl (p.1 n held) (with-value-proper k small n value fits.1 (p.1 n held)) _ _ draw leaves (rounds map k) (put_draw map (rounds map k) 0) _ _
      (steps-near k key value n named others root entries g p.0))
  left-apart e (both-on g (both-done (same none-there o))) present a = let z : ◌≡◌ {A = ℕ} 0 1 = cc in absurd (omega arith)
  left-apart e (both-on g (both-want {w = w} {c = c} more)) present a =
      absurd (never-left-wanting k some_size small (put key value) fits draw leaves st fit tt g w c e)
  left-apart e (both-shut m g) present a =
      let closed = (pick-neither (ltb st.entries (capacity k)) false present).1 in
      let z : ◌≡◌ {A = ℕ} 0 1 = cc in
      absurd (omega arith)

  -- The put rounds of the two count the same.
  puts-peak : {x y : Round (Outcome ℕ)} → fetched_by k (rounds map k) (put key value) draw st ≡ x
      → Together (Compared key value (ltb st.entries (capacity k))) x y
      → peak_of (puts_after map k (rounds map k) draw st x) ≡ peak_of (puts_after map k (rounds map k) draw st y)
  unfolding puts_after
  puts-peak e (both-shut m g) = refl
  puts-peak e (both-on g (both-done (same none-there o))) = refl
  puts-peak e (both-on g (both-done (revalued none_left n others root entries named held there))) =
      let p = held-proper g _ e in
      ap largest
      (sym
      (counts-near k refl refl (p.1 n held) (with-value-proper k small n value fits.1 (p.1 n held)) _ _ map st.entries draw leaves (rounds map k) (put_draw map (rounds map k) 0) _ _
      (steps-near k key value n named others root entries g p.0)))
  puts-peak e (both-on g (both-want more)) = refl

  -- Whether or not the key is present, the peak is as it was.
  pub put-peak : call_peak k (rounds map k) (put key value) draw st ≡ peak_with earlier_programs k (rounds map k) (put key value) draw st
  put-peak = peaks-by-puts k (rounds map k) key value draw st (puts-peak refl (puts-together k (rounds map k) key value draw st))

  -- A put of a present key on a full map, on any store that a fit state and a lent tree are: the earlier call and this one differ in the one value and the answer.
  pub only-value : full_put (capacity k) st.entries (put key value) (fetched_by k (rounds map k) (put key value) draw st) ≡ true
      → OnlyValue k key value (bucket_call_with earlier_programs k (rounds map k) (put key value) draw st) (bucket_call k (rounds map k) (put key value) draw st)
  unfolding bucket_call full_put
  only-value present = left-apart refl (puts-together k (rounds map k) key value draw st) present (ahead_then k (rounds map k) (put key value) draw st)
