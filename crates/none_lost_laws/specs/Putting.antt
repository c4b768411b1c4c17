-- The step of a call and its put rounds, on any content: the step changes the entries as its answer says and brings at most one node more, and the
-- put rounds keep all entries.
use Rattle.std.specs.Prelude.{◌≡◌}
use Rattle.std.proofs.Math.Path.{refl}
use Rattle.std.proofs.Common.{sym, ap, length-append}
use mathlib.Core.List.Memᴰ
use mathlib.Core.List.{List, [], ◌∷◌, ◌++◌, append-nil, map-append}
use Prim.Native.Nat.{ℕ, zero, suc, ◌+◌, ◌^◌, ◌≤◌, ◌<◌}
use native.Mathlib.Omega.{arith}
use Rattle.std.proofs.Math.ListN.{length}
use Rattle.std.proofs.lemmas.List.{length-map}
use Rattle.list_spec.specs.Perm.{Perm, trans}
use Rattle.list_laws.specs.PermLaws.{perm-sym, perm-of-eq, perm-append-left, perm-append-right, perm-map, perm-length}
use Rattle.list_laws.specs.DistinctLaws.{all_nil, all_append, all-perm}
use Rattle.list_laws.specs.Shuffle.{part, ◌&◌, shuffle}
use Rattle.method_spec.specs.Node.{Link, Node}
use Rattle.method_spec.specs.Prog.{Prog, done}
use Rattle.method_spec.specs.Answer.{Structure, Answer, found, absent, replaced, new, removed, pushed, popped, added, taken, queued, dequeued, empty, full}
use Rattle.method_spec.specs.Outcome.{Outcome}
use Rattle.method_spec.specs.Plain.{Pair}
use Rattle.round_spec.specs.Round.{join, stash_limit}
use Rattle.leaf_spec.specs.Leaf.{leaf_format, ProperLeaf}
use Rattle.bucket_call_spec.specs.Fetch.{Held, Going, Round, on, shut, idle_round, total}
use Rattle.bucket_call_spec.specs.Call.{put_rounds, stepped}
use Rattle.round_spec.specs.Whole.{contents}
use Rattle.round_laws.specs.Lists.{join-perm}
use Rattle.round_laws.specs.Room.{join-length}
use Rattle.none_lost_laws.specs.Fitting.{fits-is-proper}
use Rattle.leaf_spec.specs.Entries.{pair_of}
use Rattle.none_lost_laws.specs.AtHand.{pairs_of, pairs-three}
use Rattle.method_spec.specs.Changes.{taken_out, brought_in, tracked, tracked_in}
use Rattle.none_lost_laws.specs.Changes.{most_high, Made}
use Rattle.none_lost_laws.specs.Sound.{nodes_in, entries_with, Sound, After, goes, closes, idle-after}

-- ---- the put rounds
-- Nothing is held, and the program is done.
pub record Resting (o : Outcome ℕ) (hs : List Held) (p : Prog ℕ (Outcome ℕ)) : Type 0 where
  pub none-held : hs ≡ []
  pub ended : p ≡ done o

module _ (k : ℕ) (draw : ℕ → ℕ) (n d : ℕ) (o : Outcome ℕ) (g : Going) where
  pub puts-shut : (mark : ℕ) (h : Going) → idle_round k (draw d) (done o) g ≡ shut mark h → put_rounds k draw (suc n) d o g ≡ shut mark h
  unfolding put_rounds
  puts-shut mark h e = rw e

  pub puts-on : (q : Prog ℕ (Outcome ℕ)) (h : Going) → idle_round k (draw d) (done o) g ≡ on h q → put_rounds k draw (suc n) d o g ≡ put_rounds k draw n (suc d) o h
  unfolding put_rounds
  puts-on q h e = rw e

module _ {k : ℕ} (draw : ℕ → ℕ) (leaves : (d : ℕ) → draw d < 2 ^ k) (o : Outcome ℕ) {l : Link ℕ} {all : List Pair} where
  -- The first of them starts with one node more than a round leaves.
  pub puts-after : (n d : ℕ) (g : Going) → Sound k l all g → total g ≤ stash_limit + 1 → (n ≡ 0 → total g ≤ stash_limit) → g.held ≡ []
      → After k l all (length g.leaves + n) (Resting o) (put_rounds k draw n d o g)
  unfolding put_rounds
  puts-after zero d g sound few at-end rests = goes sound (at-end refl) (omega arith) (record { none-held = rests; ended = refl })
  puts-after (suc n) d g sound few at-end rests =
      go (λ h. puts-after n (suc d) h) (idle_round k (draw d) (done o) g) refl
      (idle-after sound (draw d) (leaves d) few (done o) (record { none-held = rests; ended = refl }))
    where
      go : ((h : Going) → Sound k l all h → total h ≤ stash_limit + 1 → (n ≡ 0 → total h ≤ stash_limit) → h.held ≡ []
          → After k l all (length h.leaves + n) (Resting o) (put_rounds k draw n (suc d) o h))
          → (x : Round (Outcome ℕ)) → idle_round k (draw d) (done o) g ≡ x → After k l all (suc (length g.leaves)) (Resting o) x
          → After k l all (length g.leaves + suc n) (Resting o) (put_rounds k draw (suc n) d o g)
      go later x e (closes {m = m} {g = h} mark good room tracked) = rw (puts-shut k draw n d o g m h e) (closes mark good room (omega arith))
      go later x e (goes {g = h} {q = q} good room tracked next) =
          let same : length g.leaves + suc n ≡ length h.leaves + n = omega arith in
          rw (puts-on k draw n d o g q h e, same) (later h good (omega arith) (λ z. room) next.none-held)

-- ---- the step
brought-one : (key value : ℕ) (a : Answer) → length (brought_in key value a) ≤ 1
unfolding brought_in
brought-one key value (found v) = omega arith
brought-one key value absent = omega arith
brought-one key value (replaced v) = omega arith
brought-one key value new = omega arith
brought-one key value (removed v) = omega arith
brought-one key value pushed = omega arith
brought-one key value (popped v) = omega arith
brought-one key value added = omega arith
brought-one key value (taken v) = omega arith
brought-one key value queued = omega arith
brought-one key value (dequeued v) = omega arith
brought-one key value empty = omega arith
brought-one key value full = omega arith

module _ {s : Structure} {k h key value : ℕ} {Kind : Answer → Type 0} {l : Link ℕ} {all : List Pair} {g : Going} (sound : Sound k l all g) (o : Outcome ℕ)
    (given : List (Node ℕ)) (same : Perm (nodes_in g.held) given) (out : Made s k h key value Kind o given) where
  -- The entries after the step are those before it, as far as they are tracked, but for what the answer says.
  pub step-entries : Perm (tracked_in s (taken_out key o.answer ++ entries_with k g.tree (join leaf_format o.nodes g.waiting))) (tracked_in s (brought_in key value o.answer ++ all))
  step-entries =
      let tree = contents leaf_format k g.tree in
      let less = taken_out key o.answer in
      let more = brought_in key value o.answer in
      let now : Perm (entries_with k g.tree (join leaf_format o.nodes g.waiting)) (pairs_of tree ++ (pairs_of o.nodes ++ pairs_of g.waiting)) =
      rw (← pairs-three tree o.nodes g.waiting)
      (perm-map pair_of (perm-append-left tree (join-perm leaf_format o.nodes g.waiting))) in
      let before : Perm (pairs_of tree ++ (pairs_of g.waiting ++ pairs_of given)) all =
      rw (← pairs-three tree g.waiting given)
      (trans (perm-map pair_of (perm-append-left tree (perm-append-left g.waiting (perm-sym same)))) (perm-sym sound.whole)) in
      let others = pairs_of tree ++ pairs_of g.waiting in
      let kept : Perm (tracked_in s ((less ++ pairs_of o.nodes) ++ others)) (tracked_in s ((more ++ pairs_of given) ++ others)) =
      rw (map-append (tracked s) (less ++ pairs_of o.nodes) others, map-append (tracked s) (more ++ pairs_of given) others)
      (perm-append-right (tracked_in s others) out.whole) in
      trans (perm-map (tracked s) (perm-append-left less now))
      (trans
      (perm-map (tracked s)
      (shuffle (less ∷ pairs_of tree ∷ pairs_of o.nodes ∷ pairs_of g.waiting ∷ []) (part 0 & (part 1 & (part 2 & part 3))) ((part 0 & part 2) & (part 1 & part 3)) refl))
      (trans kept
      (trans
      (perm-map (tracked s)
      (shuffle (more ∷ pairs_of given ∷ pairs_of tree ∷ pairs_of g.waiting ∷ []) ((part 0 & part 1) & (part 2 & part 3)) (part 0 & (part 2 & (part 3 & part 1))) refl))
      (perm-map (tracked s) (perm-append-left more before)))))

  pub step-total : total (stepped o g) ≤ total g + 1
  step-total =
      let a = perm-length out.whole in
      let p = length-map (taken_out key o.answer ++ pairs_of o.nodes) (tracked s) in
      let q = length-map (brought_in key value o.answer ++ pairs_of given) (tracked s) in
      let b = length-append (taken_out key o.answer) (pairs_of o.nodes) in
      let c = length-append (brought_in key value o.answer) (pairs_of given) in
      let d = brought-one key value o.answer in
      let e = length-map o.nodes pair_of in
      let f = length-map given pair_of in
      let i = perm-length same in
      let j = length-map g.held (λ (x : Held). x.node) in
      let m = join-length leaf_format o.nodes g.waiting in
      omega arith

  pub step-sound : k ≤ 16 → most_high h < 256 → {r : Link ℕ} → Sound k r (entries_with k g.tree (join leaf_format o.nodes g.waiting)) (stepped o g)
  step-sound small low =
      record {
        is-tree = sound.is-tree;
        waiting =
            all-perm {P = ProperLeaf k} (perm-sym (join-perm leaf_format o.nodes g.waiting))
            (all_append {P = ProperLeaf k} o.nodes (λ n m. fits-is-proper k small low (out.fit n m)) sound.waiting);
        held = all_nil (ProperLeaf k);
        apart = tt;
        linked = λ x m. absurd (Memᴰ.not-nil m);
        leaves = sound.leaves;
        whole = perm-of-eq (ap (entries_with k g.tree) (sym (append-nil (join leaf_format o.nodes g.waiting))));
      }
