-- In a kept store a round that wants none finds no damage, and one that wants an element which is there, under its own tag, finds none
-- and takes that element.
use Rattle.std.specs.Prelude.{◌≡◌, ℕ, ◌^◌, ◌<◌}
use Rattle.std.proofs.Math.Path.{refl}
use Rattle.std.proofs.Common.{◌∙◌, ⊎_elim}
use mathlib.Core.List.Memᴰ
use mathlib.Core.List.{List, [], ◌∷◌, ◌++◌, map-append, Memᴰ}
use Rattle.std.proofs.Math.Option.{Option, none, some}
use Rattle.list_spec.specs.Perm.{Perm, trans}
use Rattle.list_laws.specs.PermLaws.{perm-sym, perm-member, perm-append-right, perm-map}
use Rattle.list_spec.specs.Distinct.{Distinct, All}
use Rattle.list_laws.specs.DistinctLaws.{all_left, all-perm, distinct-perm, distinct-right}
use Rattle.list_laws.specs.Shuffle.{part, ◌&◌, shuffle}
use Rattle.slot_spec.specs.Tree.{path}
use Rattle.slot_laws.specs.TreeLaws.{among-member}
use Rattle.round_spec.specs.Format.{Format, full}
use Rattle.round_spec.specs.Round.{Wish, Hand, keys_of, read_buckets, join, take_first, granted, read_half}
use Rattle.round_laws.specs.Lawful.{Lawful}
use Rattle.round_spec.specs.Whole.{all_buckets, good_ones, IsTree, contents, KeptStore}
use Rattle.round_laws.specs.Paths.{all-in-tree, path-and-others}
use Rattle.round_laws.specs.Readings.{NotBad, member-good, all-good-says, readings-append, readings-perm, reading-there, buckets-hold}
use Rattle.round_laws.specs.Lists.{join-perm, take-finds}
use Rattle.round_laws.specs.ReadHalf.{distinct-but-last, tagged-known, found, read-half-known}
use Rattle.round_laws.specs.NothingLost.{contents-split}

module _ {E : Type 0} (F : Format E) {Proper : ℕ → E → Type 0} (lawful : Lawful F Proper) (k : ℕ) (tree : List ℕ) where
  -- ---- on any tree
  module _ (is : IsTree k tree) (e : E) (there : Memᴰ e (contents F k tree)) where
    pub contents-proper : Proper k e
    unfolding contents
    contents-proper = (buckets-hold F lawful k tree is (all_buckets k) (all-in-tree k) e there).3

    -- Every element of the tree is on its own tag's path.
    pub on-own-path : Memᴰ e (found F k tree (F.tag e))
    unfolding contents
    on-own-path =
        let r = buckets-hold F lawful k tree is (all_buckets k) (all-in-tree k) e there in
        member-good
        (reading-there F k tree (path k (F.tag e)) r.0 (full e) (among-member r.0 (path k (F.tag e)) r.4) r.2)

  -- ---- in a kept store
  module _ (waiting : List E) (held : List ℕ) (kept : KeptStore F Proper k tree waiting held) where
    none-bad-at-all : All NotBad (read_buckets F k tree (all_buckets k))
    none-bad-at-all = (all-good-says (read_buckets F k tree (all_buckets k)) (contents F k tree) kept.none-bad).0

    module _ (t : ℕ) (leaf : t < 2 ^ k) where
      path-none-bad : All NotBad (read_buckets F k tree (path k t))
      path-none-bad =
          let r = path-and-others k t leaf in
          all_left {P = NotBad} (read_buckets F k tree r.0)
          (rw readings-append at (all-perm {P = NotBad} (readings-perm F k tree r.1) none-bad-at-all))

      path-none-twice : Distinct (keys_of F (found F k tree t) ++ (keys_of F waiting ++ held))
      path-none-twice =
          let r = path-and-others k t leaf in
          let rest = good_ones (read_buckets F k tree r.0) in
          let keys : Perm (keys_of F (contents F k tree)) (keys_of F (found F k tree t) ++ keys_of F rest) =
          rw map-append at (perm-map F.key (contents-split F k t r.0 r.1 tree)) in
          distinct-right (keys_of F rest) (keys_of F (found F k tree t) ++ (keys_of F waiting ++ held))
          (distinct-perm
          (trans (perm-append-right (keys_of F waiting ++ held) keys)
          (shuffle (keys_of F (found F k tree t) ∷ keys_of F rest ∷ (keys_of F waiting ++ held) ∷ [])
          ((part 0 & part 1) & part 2) (part 1 & (part 0 & part 2)) refl))
          kept.none-twice)

      -- The read half goes on to the wish.
      pub kept-reads : (w : Option Wish) → read_half F k tree t w held waiting ≡ granted F w (join F (found F k tree t) waiting)
      kept-reads w = read-half-known F k tree t w held waiting path-none-bad path-none-twice

      pub joined-distinct : Distinct (keys_of F (join F (found F k tree t) waiting))
      joined-distinct =
          distinct-perm
          (perm-sym (rw map-append at (perm-map F.key (join-perm F (found F k tree t) waiting))))
          (distinct-but-last (keys_of F (found F k tree t)) (keys_of F waiting) held path-none-twice)

      -- A round that wants none finds no damage.
      pub no-damage-none : read_half F k tree t none held waiting ≡ some (record { taken = none; waiting = join F (found F k tree t) waiting })
      unfolding granted
      no-damage-none = kept-reads none

    module _ (e : E) (there : Memᴰ e (contents F k tree ++ waiting)) where
      pub there-proper : Proper k e
      there-proper =
          ⊎_elim {A = Memᴰ e (contents F k tree)} {B = Memᴰ e waiting} (contents-proper kept.is-tree e) (kept.proper e)
          (Memᴰ.append_cases (contents F k tree) there)

      pub there-leaf : F.tag e < 2 ^ k
      there-leaf = lawful.tag-is-leaf k e there-proper

      joined-there : Memᴰ e (join F (found F k tree (F.tag e)) waiting)
      joined-there =
          perm-member (perm-sym (join-perm F (found F k tree (F.tag e)) waiting))
          (⊎_elim {A = Memᴰ e (contents F k tree)} {B = Memᴰ e waiting}
          {C = Memᴰ e (found F k tree (F.tag e) ++ waiting)}
          (λ m. Memᴰ.append_left waiting (on-own-path kept.is-tree e m)) (Memᴰ.append_right (found F k tree (F.tag e)))
          (Memᴰ.append_cases (contents F k tree) there))

      -- What the round of an element's own tag has in hand.
      abbrev pub hand_of : Hand E
      hand_of = take_first F (F.key e) (join F (found F k tree (F.tag e)) waiting)

      pub taken_is : hand_of.taken ≡ some e
      taken_is =
          take-finds F e (join F (found F k tree (F.tag e)) waiting) (joined-distinct (F.tag e) there-leaf) joined-there

      -- A round that wants an element which is there under the link's tag finds no damage, and takes it.
      pub no-damage-wanted : read_half F k tree (F.tag e) (some (record { key = F.key e; tag = F.tag e })) held waiting ≡ some hand_of
      unfolding granted
      no-damage-wanted =
          kept-reads (F.tag e) there-leaf (some (record { key = F.key e; tag = F.tag e }))
          ∙ tagged-known F (F.tag e) e hand_of taken_is refl
