-- The fetch rounds of a call, on any content: they close the store, or the program is done and has yielded its outcome.
use Rattle.std.specs.Prelude.{◌≡◌, Bool, true, false}
use Rattle.std.proofs.Math.Path.{refl}
use Rattle.std.proofs.Common.{◌∙◌}
use mathlib.Core.List.Memᴰ
use mathlib.Core.List.{List, [], ◌∷◌, ◌++◌, map, map-append, Memᴰ}
use Rattle.std.proofs.Math.Option.{Option, none, some}
use Prim.Native.Nat.{ℕ, zero, suc, ◌+◌, ◌^◌, ◌≤◌, ◌<◌}
use Rattle.std.proofs.Math.Nat.{zero-add, suc-add}
use native.Mathlib.Omega.{arith}
use Rattle.std.proofs.Math.ListN.{length}
use Rattle.list_spec.specs.Choice.{pick}
use Rattle.list_spec.specs.Perm.{Perm, trans}
use Rattle.list_spec.specs.Perm as perm
use Rattle.list_laws.specs.PermLaws.{perm-sym, perm_append_comm, perm-member, perm-map}
use Rattle.list_spec.specs.Distinct.{All}
use Rattle.list_laws.specs.DistinctLaws.{all_nil, all_cons, all_append, all-perm}
use Rattle.method_spec.specs.Node.{Link, Node, retag}
use Rattle.method_spec.specs.Prog.{Want, Prog, done, want}
use Rattle.method_spec.specs.Answer as answer
use Rattle.method_spec.specs.Answer.{Structure}
use Rattle.method_spec.specs.Map.{balance_of, map_test}
use Rattle.method_spec.specs.Stack.{stack_test}
use Rattle.method_spec.specs.Heap.{heap_test}
use Rattle.method_spec.specs.Queue.{queue_test}
use Rattle.method_spec.specs.Call.{test}
use Rattle.method_spec.specs.Plain.{Pair}
use Rattle.run_laws.specs.Safe.{Within, stops, asks as asks-within}
use Rattle.round_spec.specs.Round.{Hand, keys_of, read_half, stash_limit}
use Rattle.leaf_spec.specs.Leaf.{leaf_format, ProperLeaf}
use Rattle.bucket_call_spec.specs.Fetch.{Held, Going, held_keys, wish_for, revealing, written, Round, on, shut, at_close, took_round, want_round, fetch_round, fetch_rounds, total}
use Rattle.round_spec.specs.Whole.{listed}
use Rattle.round_laws.specs.ReadHalf.{read-grants}
use Rattle.round_laws.specs.NothingLost.{taken-proper}
use Rattle.leaf_laws.specs.Proper.{leaves-lawful}
use Rattle.none_lost_laws.specs.Fitting.{retag-proper}
use Rattle.none_lost_laws.specs.Yields.{Yields, asks}
use Rattle.leaf_spec.specs.Entries.{pair_of}
use Rattle.none_lost_laws.specs.AtHand.{pairs_of}
use Rattle.none_lost_laws.specs.Given.{Given, Leads, leads-more, AskedFrom}
use Rattle.none_lost_laws.specs.Sound.{nodes_in, Sound, After, goes, closes, close-after, damage-after, idle-after, written-sound, written-total, one_more}

-- The fetch tests ask nothing of a node's own tag.
test-retag : (s : Structure) (entries : ℕ) (w : Want ℕ) (n : Node ℕ) (t : ℕ) → test s entries w (retag t n) ≡ test s entries w n
unfolding test map_test balance_of stack_test heap_test queue_test
test-retag answer.map entries w n t = refl
test-retag answer.stack entries w n t = refl
test-retag answer.heap entries w n t = refl
test-retag answer.queue entries w n t = refl

module _ {A : Type 0} where
  -- Where a call on a store with so many entries stands between two fetch rounds of which n are left: its program, and the nodes held,
  -- which it was given.
  pub record Fetching (s : Structure) (entries k : ℕ) (l : Link ℕ) (Post : A → List (Node ℕ) → Type 0) (n : ℕ) (hs : List Held) (p : Prog ℕ A) : Type 0 where
    pub given : List (Node ℕ)
    pub same : Perm (nodes_in hs) given
    pub yields : Yields (AskedFrom k l) (Given k (test s entries)) Post p given
    pub within : Within (test s entries) n p

  module _ (s : Structure) (entries : ℕ) {k : ℕ} (small : k ≤ 16) {l : Link ℕ} {all : List Pair} {Post : A → List (Node ℕ) → Type 0} {n : ℕ} {g : Going}
      (sound : Sound k l all g) (few : total g ≤ stash_limit) where
    -- ---- a round that wants a node
    module _ (d : ℕ) (leaf : d < 2 ^ k) (w : Want ℕ) (c : Node ℕ → Prog ℕ A) (given : List (Node ℕ)) (same : Perm (nodes_in g.held) given)
        (tag : w.link.tag < 2 ^ k) (leads : Leads l given w.from)
        (next : (m : Node ℕ) → Given k (test s entries) w m → Yields (AskedFrom k l) (Given k (test s entries)) Post (c m) (m ∷ given))
        (within : (m : Node ℕ) → test s entries w m ≡ true → Within (test s entries) n (c m)) where
      abbrev Next : List Held → Prog ℕ A → Type 0
      Next = Fetching s entries k l Post n

      abbrev shown : ℕ
      shown = suc (length g.leaves)

      abbrev holding : Node ℕ → List Held
      holding e = g.held ++ (record { from = w.from; node = retag d e } ∷ [])

      holding-nodes : (e : Node ℕ) → nodes_in (holding e) ≡ nodes_in g.held ++ (retag d e ∷ [])
      holding-nodes e = map-append (λ (h : Held). h.node) g.held (record { from = w.from; node = retag d e } ∷ [])

      -- Each held node's link is present, that of the new one too.
      holding-linked : (e : Node ℕ) → All (λ x. Leads l (nodes_in (holding e)) x.from) (holding e)
      holding-linked e =
          let P : Held → Type 0 = λ x. Leads l (nodes_in (holding e)) x.from in
          let older : (m : Node ℕ) → Memᴰ m (nodes_in g.held) → Memᴰ m (nodes_in (holding e)) =
          λ m i. rw (holding-nodes e) (Memᴰ.append_left (retag d e ∷ []) i) in
          all_append {P = P} g.held (λ x i. leads-more older (sound.linked x i))
          (all_cons {P = P} (leads-more (λ m i. older m (perm-member (perm-sym same) i)) leads) (all_nil P))

      damaged : After k l all shown Next (shut 8 (revealing w.link.tag g))
      damaged = damage-after sound w.link.tag tag (omega arith)

      took : (h : Hand (Node ℕ)) (e : Node ℕ) → read_half leaf_format k g.tree w.link.tag (some (wish_for w)) (held_keys g) g.waiting ≡ some h
          → h.taken ≡ some e → e.key ≡ w.link.key → (t : Bool) → test s entries w e ≡ t
          → After k l all shown Next
          (pick t (at_close (written k w.link.tag h.waiting (holding e) g) (c (retag d e))) (shut 8 (revealing w.link.tag g)))
      took h e read taken named false passed = damaged
      took h e read taken named true passed =
          let wish = some (wish_for w) in
          let hs = holding e in
          let m = retag d e in
          let P = ProperLeaf k in
          let there = taken-proper leaf_format leaves-lawful k w.link.tag tag g.tree sound.is-tree wish (held_keys g) g.waiting sound.waiting h read in
          let good : ProperLeaf k m = retag-proper k small e d leaf (there e (rw taken (Memᴰ.head refl))) in
          let now : test s entries w m ≡ true = test-retag s entries w e d ∙ passed in
          let nodes : Perm (nodes_in hs) (m ∷ nodes_in g.held) =
          rw (holding-nodes e) (perm_append_comm (nodes_in g.held) (m ∷ [])) in
          let pairs : Perm (pairs_of (listed h.taken ++ nodes_in g.held)) (pairs_of (nodes_in hs)) = rw taken (perm-map pair_of (perm-sym nodes)) in
          let keys : Perm (keys_of leaf_format (listed h.taken) ++ held_keys g) (map (λ (x : Held). x.node.key) hs) =
          rw (taken, map-append (λ (x : Held). x.node.key) g.held (record { from = w.from; node = m } ∷ []))
          (perm_append_comm (e.key ∷ []) (held_keys g)) in
          close-after (c m)
          (written-sound sound w.link.tag tag wish h read hs pairs
          (all-perm {P = P} (perm-sym nodes) (all_cons {P = P} good sound.held)) keys (holding-linked e))
          (omega (arith, written-total sound w.link.tag tag wish h read hs pairs)) (one_more g.leaves w.link.tag)
          (record {
            given = m ∷ given;
            same = trans nodes (perm.cons m same);
            yields = next m (record { proper = good; named = named; passed = now });
            within = within m now;
          })

      want-after : After k l all shown Next (want_round s entries k d w c g)
      unfolding want_round took_round
      want-after = go (read_half leaf_format k g.tree w.link.tag (some (wish_for w)) (held_keys g) g.waiting) refl
        where
          go : (o : Option (Hand (Node ℕ))) → read_half leaf_format k g.tree w.link.tag (some (wish_for w)) (held_keys g) g.waiting ≡ o
              → After k l all shown Next (want_round s entries k d w c g)
          go none e = rw (e, want_round) damaged
          go (some h) e =
              let r = read-grants leaf_format k g.tree w.link.tag (some (wish_for w)) (held_keys g) g.waiting h e in
              rw (e, want_round, r.1) (took h r.0 e r.1 r.2 (test s entries w r.0) refl)

    -- ---- a fetch round
    fetch-after : (d : ℕ) → d < 2 ^ k → (p : Prog ℕ A) → Fetching s entries k l Post (suc n) g.held p
        → After k l all (suc (length g.leaves)) (Fetching s entries k l Post n) (fetch_round s entries k d p g)
    unfolding fetch_round
    fetch-after d leaf (done a) f =
        idle-after sound d leaf (omega arith) (done a) (record { given = f.given; same = f.same; yields = f.yields; within = stops })
    fetch-after d leaf (want w c) f = go f.yields f.within
      where
        go : Yields (AskedFrom k l) (Given k (test s entries)) Post (want w c) f.given → Within (test s entries) (suc n) (want w c)
            → After k l all (suc (length g.leaves)) (Fetching s entries k l Post n) (want_round s entries k d w c g)
        go (asks right next) (asks-within more) = want-after d leaf w c f.given f.same right.0 right.1 next more

-- ---- the fetch rounds
module _ {A : Type 0} (s : Structure) (entries k : ℕ) (draw : ℕ → ℕ) (n i : ℕ) (p : Prog ℕ A) (g : Going) where
  pub fetches-shut : (mark : ℕ) (h : Going) → fetch_round s entries k (draw i) p g ≡ shut mark h → fetch_rounds s entries k draw (suc n) i p g ≡ shut mark h
  unfolding fetch_rounds
  fetches-shut mark h e = rw e

  pub fetches-on : (q : Prog ℕ A) (h : Going) → fetch_round s entries k (draw i) p g ≡ on h q
      → fetch_rounds s entries k draw (suc n) i p g ≡ fetch_rounds s entries k draw n (suc i) q h
  unfolding fetch_rounds
  fetches-on q h e = rw e

module _ {A : Type 0} (s : Structure) (entries : ℕ) {k : ℕ} (small : k ≤ 16) (draw : ℕ → ℕ) (leaves : (d : ℕ) → draw d < 2 ^ k) {l : Link ℕ} {all : List Pair}
    {Post : A → List (Node ℕ) → Type 0} where
  -- After n rounds the program has n wants fewer left.
  pub fetches-after : (n more i : ℕ) (p : Prog ℕ A) (g : Going) → Sound k l all g → total g ≤ stash_limit → Fetching s entries k l Post (n + more) g.held p
      → After k l all (length g.leaves + n) (Fetching s entries k l Post more) (fetch_rounds s entries k draw n i p g)
  unfolding fetch_rounds
  fetches-after zero more i p g sound few f = goes sound few (omega arith) (rw zero-add at f)
  fetches-after (suc n) more i p g sound few f =
      go (λ q h. fetches-after n more (suc i) q h) (fetch_round s entries k (draw i) p g) refl
      (fetch-after s entries small sound few (draw i) (leaves i) p (rw suc-add at f))
    where
      go : ((q : Prog ℕ A) (h : Going) → Sound k l all h → total h ≤ stash_limit → Fetching s entries k l Post (n + more) h.held q
          → After k l all (length h.leaves + n) (Fetching s entries k l Post more) (fetch_rounds s entries k draw n (suc i) q h))
          → (x : Round A) → fetch_round s entries k (draw i) p g ≡ x → After k l all (suc (length g.leaves)) (Fetching s entries k l Post (n + more)) x
          → After k l all (length g.leaves + suc n) (Fetching s entries k l Post more) (fetch_rounds s entries k draw (suc n) i p g)
      go later x e (closes {m = m} {g = h} mark good room seen) = rw (fetches-shut s entries k draw n i p g m h e) (closes mark good room (omega arith))
      go later x e (goes {g = h} {q = q} good room seen next) =
          let same : length g.leaves + suc n ≡ length h.leaves + n = omega arith in
          rw (fetches-on s entries k draw n i p g q h e, same) (later q h good room next)
