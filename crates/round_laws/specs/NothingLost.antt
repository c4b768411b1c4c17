-- Nothing is lost, on any tree content: what the good slots of the whole tree hold and what waits are, as a collection with repeats, the
-- same after a round as before it, but that the wanted element is taken out. Bad slots off the path stay as they are.
use Rattle.std.specs.Prelude.{◌≡◌, refl, List, [], ◌∷◌, ◌++◌, ℕ, ◌^◌, ◌<◌}
use Rattle.std.proofs.Common.{◌∙◌, ap}
use Rattle.std.proofs.Math.Option.{Option, some}
use Rattle.list_spec.specs.Perm.{Perm, trans}
use Rattle.list_laws.specs.PermLaws.{perm-sym, perm-of-eq, perm-append, perm-append-left, perm-append-right, perm-cancel}
use Rattle.list_spec.specs.Distinct.{Disjoint, All}
use Rattle.list_laws.specs.DistinctLaws.{all_append, all_left, all_right, all-perm}
use Rattle.list_laws.specs.Shuffle.{part, ◌&◌, shuffle}
use Rattle.slot_spec.specs.Tree.{path}
use Rattle.round_spec.specs.Format.{Format, Read}
use Rattle.round_spec.specs.Round.{Wish, Hand, Written, read_buckets, read_half, write_half}
use Rattle.round_spec.specs.Whole.{all_buckets, good_ones, listed, IsTree, contents, InTree}
use Rattle.round_laws.specs.Lawful.{Lawful}
use Rattle.round_laws.specs.Paths.{path-in-tree, path-distinct, path-and-others, others-off, others-in-tree}
use Rattle.round_laws.specs.Readings.{good-append, good-perm, readings-append, readings-perm, readings-same, buckets-hold}
use Rattle.round_laws.specs.Evict.{evict-is-tree, evict-other, evict-perm, evict-proper}
use Rattle.round_laws.specs.ReadHalf.{found, hand-perm}

perm-cancel-front : {A : Type 0} (zs : List A) {xs ys : List A} → Perm (zs ++ xs) (zs ++ ys) → Perm xs ys
perm-cancel-front [] p = p
perm-cancel-front (z ∷ zs) p = perm-cancel-front zs (perm-cancel p)

-- The tree's elements are those of the path and those of the others.
pub contents-split : {E : Type 0} (F : Format E) (k t : ℕ) (others : List ℕ) → Perm (all_buckets k) (path k t ++ others)
    → (tree : List ℕ) → Perm (contents F k tree) (found F k tree t ++ good_ones (read_buckets F k tree others))
unfolding contents
contents-split F k t others p tree =
    trans (good-perm (readings-perm F k tree p))
    (perm-of-eq (ap good_ones (readings-append F k tree (path k t) others) ∙ good-append (read_buckets F k tree (path k t)) (read_buckets F k tree others)))

module _ {E : Type 0} (F : Format E) {Proper : ℕ → E → Type 0} (lawful : Lawful F Proper) (k t : ℕ) (leaf : t < 2 ^ k) (tree : List ℕ) (is : IsTree k tree) where
  -- ---- the write half alone
  module _ (ws : List E) where
    abbrev written : Written E
    written = write_half F k t ws tree

    pub write-is-tree : IsTree k written.tree
    write-is-tree = evict-is-tree F lawful k (path k t) ws tree (path-in-tree k t leaf) is

    -- Off the path every bucket reads as before.
    pub write-off-path : (bs : List ℕ) → All (InTree k) bs → Disjoint (path k t) bs → read_buckets F k written.tree bs ≡ read_buckets F k tree bs
    write-off-path bs in_tree off =
        readings-same F k written.tree tree bs
        (λ b j m g. evict-other F lawful k (path k t) ws tree (path-in-tree k t leaf) is b j (in_tree b m) (λ n. off b n m) g)

    module _ (proper : All (Proper k) ws) where
      pub write-proper : All (Proper k) written.waiting
      write-proper = evict-proper F lawful k (path k t) ws tree proper

      -- What was to be written is on the path or waits.
      pub write-perm : Perm ws (found F k written.tree t ++ written.waiting)
      write-perm = evict-perm F lawful k (path k t) ws tree (path-in-tree k t leaf) (path-distinct k t) is proper

      -- The path's old elements, and what the tree and the waiting list then hold, are what the tree held and what was to be written.
      pub write-contents : Perm (contents F k tree ++ ws) (found F k tree t ++ (contents F k written.tree ++ written.waiting))
      write-contents =
          let r = path-and-others k t leaf in
          let rest = good_ones (read_buckets F k tree r.0) in
          let same = write-off-path r.0 (others-in-tree k t r.0 r.1) (others-off k t r.0 r.1) in
          let after : Perm (contents F k written.tree) (found F k written.tree t ++ rest) =
          trans (contents-split F k t r.0 r.1 written.tree)
          (perm-of-eq (ap (λ (rs : List (Read E)). found F k written.tree t ++ good_ones rs) same)) in
          trans (perm-append (contents-split F k t r.0 r.1 tree) write-perm)
          (trans
          (shuffle (found F k tree t ∷ rest ∷ found F k written.tree t ∷ written.waiting ∷ [])
          ((part 0 & part 1) & (part 2 & part 3)) (part 0 & ((part 2 & part 1) & part 3)) refl)
          (perm-append-left (found F k tree t) (perm-append-right written.waiting (perm-sym after))))

  -- ---- the round
  pub found-proper : All (Proper k) (found F k tree t)
  found-proper e m = (buckets-hold F lawful k tree is (path k t) (path-in-tree k t leaf) e m).3

  module _ (w : Option Wish) (held : List ℕ) (waiting : List E) (proper : All (Proper k) waiting) (h : Hand E)
      (read : read_half F k tree t w held waiting ≡ some h) where
    abbrev closed : Written E
    closed = write_half F k t h.waiting tree

    hand-all : All (Proper k) (listed h.taken ++ h.waiting)
    hand-all = all-perm {P = Proper k} (hand-perm F k tree t w held waiting h read) (all_append {P = Proper k} (found F k tree t) found-proper proper)

    pub taken-proper : All (Proper k) (listed h.taken)
    taken-proper = all_left {P = Proper k} h.waiting hand-all

    pub hand-proper : All (Proper k) h.waiting
    hand-proper = all_right {P = Proper k} (listed h.taken) hand-all

    pub round-is-tree : IsTree k closed.tree
    round-is-tree = write-is-tree h.waiting

    pub round-proper : All (Proper k) closed.waiting
    round-proper = write-proper h.waiting hand-proper

    -- What the tree and the waiting list held is what they hold now, and what was taken.
    pub nothing-lost : Perm (contents F k tree ++ waiting) (contents F k closed.tree ++ (closed.waiting ++ listed h.taken))
    nothing-lost =
        let old = found F k tree t in
        let all = contents F k tree in
        let new = contents F k closed.tree in
        perm-cancel-front old
        (trans (shuffle (old ∷ all ∷ waiting ∷ []) (part 0 & (part 1 & part 2)) (part 1 & (part 0 & part 2)) refl)
        (trans (perm-append-left all (hand-perm F k tree t w held waiting h read))
        (trans
        (shuffle (all ∷ listed h.taken ∷ h.waiting ∷ []) (part 0 & (part 1 & part 2)) ((part 0 & part 2) & part 1) refl)
        (trans (perm-append-right (listed h.taken) (write-contents h.waiting hand-proper))
        (shuffle (old ∷ new ∷ closed.waiting ∷ listed h.taken ∷ [])
        ((part 0 & (part 1 & part 2)) & part 3) (part 0 & (part 1 & (part 2 & part 3))) refl)))))
