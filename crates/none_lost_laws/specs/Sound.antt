-- One round of a call, on any content: whether it goes on or closes the store, the entries of the tree and of the nodes waiting and held stay
-- the same, all nodes stay proper, and no more nodes wait than there are places for.
use Rattle.std.specs.Prelude.{◌≡◌, Bool, ◌⊎◌, List, [], ◌∷◌, ◌++◌, map, ℕ, suc, ◌+◌, ◌*◌, ◌^◌, ◌≤◌, ◌<◌, length}
use Rattle.std.proofs.Math.Path.{refl}
use Rattle.std.proofs.Math.Bool.{true, false}
use Rattle.std.proofs.Common.{inl, inr, arith, length-append, ltb-false}
use Rattle.std.proofs.lemmas.List.{map-append, length-map}
use Rattle.std.proofs.Math.Option.{Option, none, some}
use Rattle.list_spec.specs.Choice.{pick}
use Rattle.list_spec.specs.Perm.{Perm, trans}
use Rattle.list_laws.specs.PermLaws.{perm-refl, perm-append-right, perm-map, perm-length}
use Rattle.list_spec.specs.Distinct.{Distinct, All}
use Rattle.list_laws.specs.DistinctLaws.{all_nil, all_cons, all_append, distinct-perm, distinct-left}
use Rattle.list_laws.specs.Shuffle.{part, ◌&◌, shuffle}
use Rattle.method_spec.specs.Node.{Link, Node}
use Rattle.method_spec.specs.Prog.{Prog}
use Rattle.method_spec.specs.Plain.{Pair}
use Rattle.round_spec.specs.Round.{Wish, Hand, keys_of, read_half, stash_limit}
use Rattle.leaf_spec.specs.Leaf.{leaf_format, ProperLeaf}
use Rattle.bucket_call_spec.specs.Fetch.{Held, Going, revealing, written, total, too_many, held_keys, Round, on, shut, at_close, idle_round}
use Rattle.round_spec.specs.Whole.{listed, IsTree, contents}
use Rattle.round_laws.specs.ReadHalf.{found, read-half-says, read-grants, hand-perm}
use Rattle.round_laws.specs.NothingLost.{round-is-tree, round-proper, nothing-lost}
use Rattle.round_laws.specs.Room.{found-length, hand-length, write-length}
use Rattle.leaf_laws.specs.Proper.{leaves-lawful}
use Rattle.leaf_spec.specs.Entries.{pair_of}
use Rattle.none_lost_laws.specs.AtHand.{pairs_of, pairs-left}
use Rattle.none_lost_laws.specs.Given.{Leads}

-- ---- a store between two rounds
abbrev pub nodes_in : List Held → List (Node ℕ)
nodes_in hs = map (λ (h : Held). h.node) hs

-- The entries of all nodes in good slots of a tree, and of others.
abbrev pub entries_with : ℕ → List ℕ → List (Node ℕ) → List Pair
entries_with k tree others = pairs_of (contents leaf_format k tree ++ others)

abbrev pub entries_in : ℕ → Going → List Pair
entries_in k g = entries_with k g.tree (g.waiting ++ nodes_in g.held)

-- The places that a round needs: for those that a round leaves, one new node and a path's. For sizes up to 8 they are 101.
abbrev pub places_for : ℕ → ℕ
places_for k = stash_limit + 1 + 4 * (k + 1)

-- A store between two rounds of a call whose root link was l, with these entries: its nodes are proper, no key is held twice, and each held
-- node's link is present where it was followed.
pub record Sound (k : ℕ) (l : Link ℕ) (all : List Pair) (g : Going) : Type 0 where
  pub is-tree : IsTree k g.tree
  pub waiting : All (ProperLeaf k) g.waiting
  pub held : All (ProperLeaf k) (nodes_in g.held)
  pub apart : Distinct (held_keys g)
  pub linked : All (λ h. Leads l (nodes_in g.held) h.from) g.held
  pub leaves : All (λ t. t < 2 ^ k) g.leaves
  pub whole : Perm all (entries_in k g)

module _ {k : ℕ} {l : Link ℕ} {all : List Pair} {g : Going} (sound : Sound k l all g) (leaf : ℕ) (is_IsLeaf : leaf < 2 ^ k) where
  more-leaves : All (λ t. t < 2 ^ k) (g.leaves ++ (leaf ∷ []))
  more-leaves = all_append g.leaves sound.leaves (all_cons is_IsLeaf (all_nil (λ (t : ℕ). t < 2 ^ k)))

  revealed-sound : Sound k l all (revealing leaf g)
  revealed-sound =
      record {
        is-tree = sound.is-tree;
        waiting = sound.waiting;
        held = sound.held;
        apart = sound.apart;
        linked = sound.linked;
        leaves = more-leaves;
        whole = sound.whole;
      }

  -- ---- the write half
  module _ (w : Option Wish) (h : Hand (Node ℕ)) (read : read_half leaf_format k g.tree leaf w (held_keys g) g.waiting ≡ some h) where
    -- The key of what was taken and those that are held are apart.
    taken-apart : Distinct (keys_of leaf_format (listed h.taken) ++ held_keys g)
    taken-apart =
        let key : List (Node ℕ) → List ℕ = keys_of leaf_format in
        let path = found leaf_format k g.tree leaf in
        let r = read-half-says leaf_format k g.tree leaf w (held_keys g) g.waiting h read in
        let p : Perm (key path ++ key g.waiting) (key (listed h.taken) ++ key h.waiting) =
        rw (map-append (λ (n : Node ℕ). n.key) path g.waiting, map-append (λ (n : Node ℕ). n.key) (listed h.taken) h.waiting)
        at (perm-map (λ (n : Node ℕ). n.key) (hand-perm leaf_format k g.tree leaf w (held_keys g) g.waiting h read)) in
        distinct-left (key (listed h.taken) ++ held_keys g) (key h.waiting)
        (distinct-perm
        (trans
        (shuffle (key path ∷ key g.waiting ∷ held_keys g ∷ []) (part 0 & (part 1 & part 2)) ((part 0 & part 1) & part 2) refl)
        (trans (perm-append-right (held_keys g) p)
        (shuffle (key (listed h.taken) ∷ key h.waiting ∷ held_keys g ∷ []) ((part 0 & part 1) & part 2) ((part 0 & part 2) & part 1) refl)))
        r.none-twice)

    -- These are held from now on: those held before, and what was taken.
    module _ (hs : List Held) (same : Perm (pairs_of (listed h.taken ++ nodes_in g.held)) (pairs_of (nodes_in hs))) where
      abbrev pub after : Going
      after = written k leaf h.waiting hs g

      written-whole : Perm all (entries_in k after)
      written-whole =
          let tree = contents leaf_format k g.tree in
          let now = contents leaf_format k after.tree in
          let given = listed h.taken ++ nodes_in g.held in
          let lost = nothing-lost leaf_format leaves-lawful k leaf is_IsLeaf g.tree sound.is-tree w (held_keys g) g.waiting sound.waiting h read in
          trans sound.whole
          (trans
          (perm-map pair_of
          (trans (shuffle (tree ∷ g.waiting ∷ nodes_in g.held ∷ []) (part 0 & (part 1 & part 2)) ((part 0 & part 1) & part 2) refl)
          (trans (perm-append-right (nodes_in g.held) lost)
          (shuffle (now ∷ after.waiting ∷ listed h.taken ∷ nodes_in g.held ∷ [])
          ((part 0 & (part 1 & part 2)) & part 3) (part 0 & (part 1 & (part 2 & part 3))) refl))))
          (pairs-left now (after.waiting ++ given) (after.waiting ++ nodes_in hs) (pairs-left after.waiting given (nodes_in hs) same)))

      pub written-total : total after ≤ total g + 4 * (k + 1)
      written-total =
          let a = write-length leaf_format k leaf h.waiting g.tree in
          let b = hand-length leaf_format k g.tree leaf g.waiting w (held_keys g) h read in
          let c = found-length leaf_format k g.tree leaf in
          let d = perm-length same in
          let e = length-map (listed h.taken ++ nodes_in g.held) pair_of in
          let f = length-append (listed h.taken) (nodes_in g.held) in
          let i = length-map g.held (λ (x : Held). x.node) in
          let j = length-map (nodes_in hs) pair_of in
          let m = length-map hs (λ (x : Held). x.node) in
          omega arith

      module _ (proper : All (ProperLeaf k) (nodes_in hs)) (keys : Perm (keys_of leaf_format (listed h.taken) ++ held_keys g) (map (λ (x : Held). x.node.key) hs))
          (linked : All (λ x. Leads l (nodes_in hs) x.from) hs) where
        pub written-sound : Sound k l all after
        written-sound =
            record {
              is-tree = round-is-tree leaf_format leaves-lawful k leaf is_IsLeaf g.tree sound.is-tree w (held_keys g) g.waiting sound.waiting h read;
              waiting = round-proper leaf_format leaves-lawful k leaf is_IsLeaf g.tree sound.is-tree w (held_keys g) g.waiting sound.waiting h read;
              held = proper;
              apart = distinct-perm keys taken-apart;
              linked = linked;
              leaves = more-leaves;
              whole = written-whole;
            }

pub one_more : (leaves : List ℕ) (leaf : ℕ) → length (leaves ++ (leaf ∷ [])) ≡ suc (length leaves)
one_more leaves leaf = let e = length-append leaves (leaf ∷ []) in omega arith

-- ---- what a round came to
module _ {A : Type 0} where
  -- It went on, with a program and held nodes as `Next` says; or it closed the store, with damage (8) or overflow (9). So many leaves were
  -- revealed in all, and there are places for all nodes.
  pub data After (k : ℕ) (l : Link ℕ) (all : List Pair) (shown : ℕ) (Next : List Held → Prog ℕ A → Type 0) : Round A → Type 0 where
    goes : {g : Going} {q : Prog ℕ A} → Sound k l all g → total g ≤ stash_limit → length g.leaves ≡ shown → Next g.held q → After k l all shown Next (on g q)
    closes : {m : ℕ} {g : Going} → (m ≡ 8) ⊎ (m ≡ 9) → Sound k l all g → total g ≤ places_for k → length g.leaves ≤ shown → After k l all shown Next (shut m g)

  pub close-after : {k : ℕ} {l : Link ℕ} {all : List Pair} {shown : ℕ} {Next : List Held → Prog ℕ A → Type 0} {g : Going} (p : Prog ℕ A)
      → Sound k l all g → total g ≤ places_for k → length g.leaves ≡ shown → Next g.held p → After k l all shown Next (at_close g p)
  unfolding at_close
  close-after {k} {l} {all} {shown} {Next} {g} p sound room seen next = go (too_many g) refl
    where
      go : (b : Bool) → too_many g ≡ b → After k l all shown Next (pick b (shut 9 g) (on g p))
      go true e = closes (inr refl) sound room (omega arith)
      go false e = goes sound (ltb-false stash_limit (total g) e) seen next

  module _ {k : ℕ} {l : Link ℕ} {all : List Pair} {Next : List Held → Prog ℕ A → Type 0} {g : Going} (sound : Sound k l all g)
      (leaf : ℕ) (is_IsLeaf : leaf < 2 ^ k) (few : total g ≤ stash_limit + 1) where
    pub damage-after : After k l all (suc (length g.leaves)) Next (shut 8 (revealing leaf g))
    damage-after = closes (inl refl) (revealed-sound sound leaf is_IsLeaf) (omega arith) (omega (arith, one_more g.leaves leaf))

    -- A round that wants none.
    pub idle-after : (p : Prog ℕ A) → Next g.held p → After k l all (suc (length g.leaves)) Next (idle_round k leaf p g)
    unfolding idle_round
    idle-after p next = go (read_half leaf_format k g.tree leaf none (held_keys g) g.waiting) refl
      where
        go : (o : Option (Hand (Node ℕ))) → read_half leaf_format k g.tree leaf none (held_keys g) g.waiting ≡ o
            → After k l all (suc (length g.leaves)) Next (idle_round k leaf p g)
        go none e = rw (e, idle_round) damage-after
        go (some h) e =
            let nothing : h.taken ≡ none = read-grants leaf_format k g.tree leaf none (held_keys g) g.waiting h e in
            let same : Perm (pairs_of (listed h.taken ++ nodes_in g.held)) (pairs_of (nodes_in g.held)) = rw nothing (perm-refl (pairs_of (nodes_in g.held))) in
            rw (e, idle_round)
            (close-after p
            (written-sound sound leaf is_IsLeaf none h e g.held same sound.held (rw nothing (perm-refl (held_keys g))) sound.linked)
            (omega (arith, written-total sound leaf is_IsLeaf none h e g.held same)) (one_more g.leaves leaf) next)
