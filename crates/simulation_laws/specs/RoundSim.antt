-- One round of a call over a kept store: it does what the method's fetch does, or meets overflow. It never finds damage.
use Rattle.std.specs.Prelude.{◌≡◌, Bool, ℕ, ◌+◌, ◌^◌, ◌<◌}
use Rattle.std.proofs.Math.Path.{refl}
use Rattle.std.proofs.Common.{sym, subst, subst₂, ltb-true, ltb-false}
use Rattle.std.proofs.Math.Bool.{true, false}
use mathlib.Core.List.Memᴰ
use mathlib.Core.List.{List, [], ◌∷◌, ◌++◌, map, map-append, append-nil, append_assoc}
use Rattle.std.proofs.Math.Option.{Option, none, some}
use Rattle.std.proofs.Math.ListN.{length}
use Rattle.list_spec.specs.Choice.{pick}
use Rattle.list_spec.specs.Perm.{Perm, trans}
use Rattle.list_laws.specs.PermLaws.{perm-refl, perm-sym, perm-append-left, perm_append_comm, perm-member, perm-cancel, perm-map}
use Rattle.list_spec.specs.Distinct.{Distinct}
use Rattle.list_laws.specs.DistinctLaws.{distinct-perm}
use Rattle.list_laws.specs.Shuffle.{part, ◌&◌, shuffle}
use Rattle.method_spec.specs.Node.{Node, retag}
use Rattle.method_spec.specs.Prog.{Want, Prog}
use Rattle.method_spec.specs.Answer.{Structure}
use Rattle.method_spec.specs.Plain.{Pair}
use Rattle.method_spec.specs.Call.{test}
use Rattle.run_laws.specs.Fetches.{keys, Met}
use Rattle.round_spec.specs.Round.{Wish, Hand, keys_of, read_half, write_half, stash_limit}
use Rattle.leaf_spec.specs.Leaf.{leaf_format}
use Rattle.bucket_call_spec.specs.Fetch.{Held, Going, written, too_many, held_keys, wish_for, Round, on, shut, at_close, idle_round, took_round, want_round}
use Rattle.round_spec.specs.Whole.{listed, contents}
use Rattle.round_laws.specs.ReadHalf.{distinct-but-last}
use Rattle.round_laws.specs.NothingLost.{nothing-lost}
use Rattle.round_laws.specs.NoDamage.{no-damage-none, there-leaf, hand_of, taken_is, no-damage-wanted}
use Rattle.round_laws.specs.Kept.{kept-perm, kept-round}
use Rattle.round_laws.specs.Sorted.{ascending-round}
use Rattle.leaf_laws.specs.Proper.{leaves-lawful}
use Rattle.leaf_spec.specs.Entries.{pair_of}
use Rattle.simulation_laws.specs.Relation.{held_nodes, Stands, Few, Many}

module _ {A : Type 0} where
  -- What rounds came to that should go on with the program p, leave the nodes ns and have revealed `shown` in all: so they did; or one
  -- of them met overflow, when the first part of that was revealed.
  pub data Went (k : ℕ) (all : List Pair) (p : Prog ℕ A) (ns : List (Node ℕ)) (shown : List ℕ) : Round A → Type 0 where
    went : (g : Going) → Stands k all g ns → Few g → g.leaves ≡ shown → Went k all p ns shown (on g p)
    overflowed : (g : Going) (left : List (Node ℕ)) (rest : List ℕ) → Stands k all g left → Many g → shown ≡ g.leaves ++ rest
        → Went k all p ns shown (shut 9 g)

  close-went : {k : ℕ} {all : List Pair} {g : Going} {ns : List (Node ℕ)} (p : Prog ℕ A) → Stands k all g ns
      → Went k all p ns g.leaves (at_close g p)
  unfolding at_close
  close-went {k} {all} {g} {ns} p st = go (too_many g) refl
    where
      go : (b : Bool) → too_many g ≡ b → Went k all p ns g.leaves (pick b (shut 9 g) (on g p))
      go true e = overflowed g ns [] st (ltb-true stash_limit (length g.waiting + length g.held) e) (sym (append-nil g.leaves))
      go false e = went g st (ltb-false stash_limit (length g.waiting + length g.held) e) refl

cancel-listed : {A : Type 0} (o : Option A) {xs ys : List A} → Perm (listed o ++ xs) (listed o ++ ys) → Perm xs ys
cancel-listed none p = p
cancel-listed (some a) p = perm-cancel p

module _ {k : ℕ} {all : List Pair} {g : Going} {ns : List (Node ℕ)} (st : Stands k all g ns) where
  pub stands-distinct : Distinct (keys ns)
  stands-distinct =
      let d = distinct-but-last (keys_of leaf_format (contents leaf_format k g.tree)) (keys_of leaf_format g.waiting) (held_keys g) st.kept.none-twice in
      distinct-perm (perm-sym (perm-map (λ (n : Node ℕ). n.key) st.there))
      (rw (map-append (λ (n : Node ℕ). n.key) (contents leaf_format k g.tree) g.waiting) d)

  -- ---- what a round's write half leaves
  module _ (leaf : ℕ) (is_leaf : leaf < 2 ^ k) (w : Option Wish) (h : Hand (Node ℕ))
      (read : read_half leaf_format k g.tree leaf w (held_keys g) g.waiting ≡ some h) where
    round-stands : (others : List (Node ℕ)) → Perm ns (listed h.taken ++ others) → (hs : List Held)
        → Perm (keys_of leaf_format (listed h.taken) ++ held_keys g) (map (λ (h : Held). h.node.key) hs)
        → Perm all (map pair_of (map (λ (h : Held). h.node) hs) ++ map pair_of others)
        → Stands k all (written k leaf h.waiting hs g) others
    round-stands others rest hs now whole =
        let after = write_half leaf_format k leaf h.waiting g.tree in
        let kept = st.kept in
        let lost = nothing-lost leaf_format leaves-lawful k leaf is_leaf g.tree kept.is-tree w (held_keys g) g.waiting kept.proper h read in
        record {
          there =
              cancel-listed h.taken
              (trans (perm-sym rest)
              (trans st.there
              (trans lost
              (shuffle (contents leaf_format k after.tree ∷ after.waiting ∷ listed h.taken ∷ [])
              (part 0 & (part 1 & part 2)) (part 2 & (part 0 & part 1)) refl))));
          kept =
              kept-perm leaf_format k after.tree after.waiting _
              (kept-round leaf_format leaves-lawful k leaf is_leaf g.tree g.waiting (held_keys g) kept w h read) now;
          ascends = ascending-round leaf_format k g.tree leaf w (held_keys g) g.waiting h read st.ascends;
          whole = whole;
        }

  module _ {A : Type 0} where
    -- ---- a round that wants none
    pub idle-went : (leaf : ℕ) → leaf < 2 ^ k → (p : Prog ℕ A) → Went k all p ns (g.leaves ++ (leaf ∷ [])) (idle_round k leaf p g)
    unfolding idle_round
    idle-went leaf is_leaf p =
        let read = no-damage-none leaf_format leaves-lawful k g.tree g.waiting (held_keys g) st.kept leaf is_leaf in
        rw (read, idle_round)
        (close-went p (round-stands leaf is_leaf none _ read ns (perm-refl ns) g.held (perm-refl (held_keys g)) st.whole))

    -- ---- a round that wants a node
    module _ (s : Structure) (entries d : ℕ) (w : Want ℕ) (c : Node ℕ → Prog ℕ A) where
      abbrev taking : Node ℕ → List Held
      taking e = g.held ++ (record { from = w.from; node = retag d e } ∷ [])

      taking-keys : (e : Node ℕ) → Perm (e.key ∷ held_keys g) (map (λ (h : Held). h.node.key) (taking e))
      taking-keys e =
          rw (map-append (λ (h : Held). h.node.key) g.held (record { from = w.from; node = retag d e } ∷ []))
          (perm_append_comm (e.key ∷ []) (held_keys g))

      taking-whole : (e : Node ℕ) (others : List (Node ℕ)) → Perm ns (e ∷ others)
          → Perm all (map pair_of (map (λ (h : Held). h.node) (taking e)) ++ map pair_of others)
      taking-whole e others rest =
          rw (
            map-append (λ (h : Held). h.node) g.held (record { from = w.from; node = retag d e } ∷ []),
            map-append pair_of (held_nodes g) (retag d e ∷ []),
            append_assoc (map pair_of (held_nodes g)) (pair_of e ∷ []) (map pair_of others),
          )
          (trans st.whole (perm-append-left (map pair_of (held_nodes g)) (perm-map pair_of rest)))

      want-takes : (h : Hand (Node ℕ)) (e : Node ℕ)
          → read_half leaf_format k g.tree w.link.tag (some (wish_for w)) (held_keys g) g.waiting ≡ some h
          → h.taken ≡ some e → test s entries w e ≡ true
          → want_round s entries k d w c g ≡ at_close (written k w.link.tag h.waiting (taking e) g) (c (retag d e))
      unfolding want_round took_round
      want-takes h e read taken passed = rw (read, want_round, taken, passed)

      pub want-went : {Post : A → List (Node ℕ) → List (Node ℕ) → Type 0} {held : List (Node ℕ)} (m : Met (test s entries) Post w c held ns)
          → Went k all (c (retag d m.node)) m.others (g.leaves ++ (w.link.tag ∷ [])) (want_round s entries k d w c g)
      want-went m =
          let e = m.node in
          let kept = st.kept in
          let there = perm-member st.there (perm-member (perm-sym m.rest) (Memᴰ.head refl)) in
          let h = hand_of leaf_format leaves-lawful k g.tree g.waiting (held_keys g) kept e there in
          let taken : h.taken ≡ some e = taken_is leaf_format leaves-lawful k g.tree g.waiting (held_keys g) kept e there in
          let read : read_half leaf_format k g.tree w.link.tag (some (wish_for w)) (held_keys g) g.waiting ≡ some h =
          subst₂
          (λ (key tag : ℕ). read_half leaf_format k g.tree tag (some (record { key = key; tag = tag })) (held_keys g) g.waiting ≡ some h)
          m.same_key m.same_tag (no-damage-wanted leaf_format leaves-lawful k g.tree g.waiting (held_keys g) kept e there) in
          let is_leaf : w.link.tag < 2 ^ k =
          subst (λ (t : ℕ). t < 2 ^ k) m.same_tag (there-leaf leaf_format leaves-lawful k g.tree g.waiting (held_keys g) kept e there) in
          rw (want-takes h e read taken m.passed)
          (close-went (c (retag d e))
          (round-stands w.link.tag is_leaf (some (wish_for w)) h read m.others (rw taken m.rest) (taking e)
          (rw taken (taking-keys e)) (taking-whole e m.others m.rest)))
