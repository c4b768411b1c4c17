-- A round that wants none, over two stores that are the same but for one element, a in the one and b in the other, both proper and with
-- one key and one tag: it finds damage in both, or leaves two such stores again.
use Rattle.std.specs.Prelude.{◌≡◌, Bool, ◌⊎◌, ℕ, ◌^◌, ◌<◌, length}
use Rattle.std.proofs.Math.Path.{refl, ap}
use Rattle.std.proofs.Common.{sym, ◌∙◌, inl, inr, arith}
use Rattle.std.proofs.Math.Bool.{true, false}
use mathlib.Core.List.Memᴰ
use mathlib.Core.List.{List, [], ◌∷◌, ◌++◌, Memᴰ}
use Rattle.std.proofs.Math.Option.{Option, none, some}
use Rattle.list_spec.specs.Choice.{pick}
use Rattle.list_spec.specs.Distinct.{Distinct, All}
use Rattle.slot_spec.specs.Tree.{path, among}
use Rattle.slot_laws.specs.TreeLaws.{among-member, member-among}
use Rattle.round_spec.specs.Format.{Format, full}
use Rattle.round_spec.specs.Round.{Hand, slot_at, none_twice, all_good, keys_of, read_bucket, read_buckets, join, granted, joined, granted_from, read_half, write_half}
use Rattle.round_spec.specs.Whole.{IsTree, InTree}
use Rattle.round_laws.specs.Lawful.{Lawful}
use Rattle.round_laws.specs.Paths.{path-in-tree, path-distinct}
use Rattle.round_laws.specs.Readings.{bucket-same, readings-same}
use Rattle.promise_spec.specs.FullPut.{Differ, Apart, waits, stands}
use Rattle.full_put_laws.specs.Differing.{differ-after, differ-before, differ-length, map_same, firsts-differ, BothGood, both-bad, both-good, good-differs, join-differs, join-of-differing}
use Rattle.full_put_laws.specs.Slots.{OneSlotOff, slot-off, slots_apart}
use Rattle.full_put_laws.specs.EvictApart.{Midway, still-waits, stands-off, evict-apart}

pub apart-length : {E : Type 0} {F : Format E} {k : ℕ} {a b : E} {tree other : List ℕ} {ws vs : List E} → Apart F k a b tree ws other vs → length ws ≡ length vs
apart-length (waits d) = differ-length d
apart-length (stands s) = refl

-- ---- what is read
module _ {E : Type 0} (F : Format E) {k : ℕ} {a b : E} {tree other : List ℕ} (o : OneSlotOff F k a b [] tree other) where
  -- Every other bucket has the same slots.
  other-slots : (c : ℕ) → InTree k c → (¬ c ≡ o.bucket) → (j : ℕ) → j < 4 → slot_at tree c j ≡ slot_at other c j
  other-slots c p ne j g = o.rest c j p g (Memᴰ.not-nil, λ e. ne e.0)

  module _ (first : F.read k o.bucket (F.bytes a) ≡ full a) (second : F.read k o.bucket (F.bytes b) ≡ full b) where
    bucket-differs : Differ (full a) (full b) (read_bucket F k tree o.bucket) (read_bucket F k other o.bucket)
    unfolding read_bucket
    bucket-differs =
        let c = o.bucket in
        firsts-differ 4 o.j (λ i. F.read k c (slot_at tree c i)) (λ i. F.read k c (slot_at other c i)) o.fourth
        (ap (F.read k c) o.one ∙ first) (ap (F.read k c) o.two ∙ second)
        (λ i g ne. ap (F.read k c) (o.rest c i o.in_tree g (Memᴰ.not-nil, λ e. ne e.1)))

    readings-differ : (bs : List ℕ) → All (InTree k) bs → Distinct bs → Memᴰ o.bucket bs
        → Differ (full a) (full b) (read_buckets F k tree bs) (read_buckets F k other bs)
    unfolding read_buckets
    readings-differ [] in_tree d m = absurd (Memᴰ.not-nil m)
    readings-differ (c ∷ bs) in_tree d m = go (readings-differ bs later d.1) (Memᴰ.cases_cons m)
      where
        later : All (InTree k) bs
        later e n = in_tree e (Memᴰ.tail n)

        go : (Memᴰ o.bucket bs → Differ (full a) (full b) (read_buckets F k tree bs) (read_buckets F k other bs))
            → (o.bucket ≡ c) ⊎ Memᴰ o.bucket bs
            → Differ (full a) (full b) (read_bucket F k tree c ++ read_buckets F k tree bs) (read_bucket F k other c ++ read_buckets F k other bs)
        go more (inl e) =
            rw (← e, readings-same F k tree other bs (λ x j n g. other-slots x (later x n) (λ p. d.0 (Memᴰ.cast (sym (p ∙ e)) n)) j g))
            (differ-before bucket-differs (read_buckets F k other bs))
        go more (inr n) =
            rw (bucket-same F k tree other c (λ j g. other-slots c (in_tree c (Memᴰ.head refl)) (λ p. d.0 (Memᴰ.cast p n)) j g))
            (differ-after (read_bucket F k other c) (more n))

-- ---- the round
module _ {E : Type 0} (F : Format E) (k : ℕ) (a b : E) where
  -- Where a round of leaf t that wants none comes to over two such stores: damage in both, or again two such stores.
  pub data BothRead (tree other : List ℕ) (t : ℕ) : Option (Hand E) → Option (Hand E) → Type 0 where
    both-damaged : BothRead tree other t none none
    both-closed : {h i : Hand E}
        → Apart F k a b (write_half F k t h.waiting tree).tree (write_half F k t h.waiting tree).waiting
        (write_half F k t i.waiting other).tree (write_half F k t i.waiting other).waiting
        → BothRead tree other t (some h) (some i)

  -- What the read halves over the two come to.
  abbrev ReadApart : (tree other : List ℕ) (t : ℕ) (held : List ℕ) → List E → List E → Type 0
  ReadApart tree other t held ws vs = BothRead tree other t (read_half F k tree t none held ws) (read_half F k other t none held vs)

module _ {E : Type 0} (F : Format E) {Proper : ℕ → E → Type 0} (lawful : Lawful F Proper) (k : ℕ) {a b : E}
    (same_key : F.key b ≡ F.key a) (same_tag : F.tag b ≡ F.tag a) (proper-a : Proper k a) (proper-b : Proper k b) where
  module _ (t : ℕ) (leaf : t < 2 ^ k) (tree other : List ℕ) (is : IsTree k tree) (is-other : IsTree k other) (held : List ℕ) where
    -- No slot is bad, and the path's elements join those that wait.
    joined-apart : (es ds ws vs : List E) → keys_of F es ≡ keys_of F ds → keys_of F ws ≡ keys_of F vs
        → Midway F k a b (path k t) (record { waiting = join F es ws; tree = tree }) (record { waiting = join F ds vs; tree = other })
        → BothRead F k a b tree other t (granted_from F none (joined F held ws (some es))) (granted_from F none (joined F held vs (some ds)))
    unfolding joined granted_from granted
    joined-apart es ds ws vs p q h = rw (p, q) (go (none_twice (keys_of F ds ++ (keys_of F vs ++ held))))
      where
        go : (u : Bool)
            → BothRead F k a b tree other t (granted_from F none (pick u (some (join F es ws)) none)) (granted_from F none (pick u (some (join F ds vs)) none))
        go true =
            both-closed
            (evict-apart F lawful k same_tag (path k t) (path-in-tree k t leaf) (path-distinct k t) (record { waiting = join F es ws; tree = tree })
            (record { waiting = join F ds vs; tree = other }) is is-other h)
        go false = both-damaged

    -- The path reads the same in both.
    read_same : (ws vs : List E) → read_buckets F k tree (path k t) ≡ read_buckets F k other (path k t) → keys_of F ws ≡ keys_of F vs
        → ((es : List E) → Midway F k a b (path k t) (record { waiting = join F es ws; tree = tree }) (record { waiting = join F es vs; tree = other }))
        → ReadApart F k a b tree other t held ws vs
    unfolding read_half joined granted_from
    read_same ws vs same keys h = rw same (go (all_good (read_buckets F k other (path k t))))
      where
        go : (o : Option (List E)) → BothRead F k a b tree other t (granted_from F none (joined F held ws o)) (granted_from F none (joined F held vs o))
        go none = both-damaged
        go (some es) = joined-apart es es ws vs refl keys (h es)

    -- The two stand in a bucket of the path, and are read; or off the path, and stay.
    module _ (ws : List E) (o : OneSlotOff F k a b [] tree other) where
      on-path : Memᴰ o.bucket (path k t) → ReadApart F k a b tree other t held ws ws
      unfolding read_half joined granted_from
      on-path m =
          let first = lawful.reads-back k o.bucket a proper-a o.passed in
          let second = lawful.reads-back k o.bucket b proper-b (rw same_tag o.passed) in
          go (good-differs a b (readings-differ F o first second (path k t) (path-in-tree k t leaf) (path-distinct k t) m))
        where
          go : {x y : Option (List E)} → BothGood a b x y
              → BothRead F k a b tree other t (granted_from F none (joined F held ws x)) (granted_from F none (joined F held ws y))
          go both-bad = both-damaged
          go (both-good {es = es} {ds = ds} d) =
              joined-apart es ds ws ws (map_same F.key same_key d) refl
              (still-waits (join-of-differing F same_key d ws) (λ c j p g off. other-slots F o c p (λ e. off (Memᴰ.cast e m)) j g))

      off-path : (¬ Memᴰ o.bucket (path k t)) → ReadApart F k a b tree other t held ws ws
      off-path off =
          read_same ws ws
          (readings-same F k tree other (path k t) (λ c j m g. other-slots F o c (path-in-tree k t leaf c m) (λ e. off (Memᴰ.cast (sym e) m)) j g)) refl
          (λ es. stands-off refl (slot-off F k o off))

      stands-apart : ReadApart F k a b tree other t held ws ws
      stands-apart = go (among o.bucket (path k t)) refl
        where
          go : (u : Bool) → among o.bucket (path k t) ≡ u → ReadApart F k a b tree other t held ws ws
          go true q = on-path (among-member o.bucket (path k t) q)
          go false q = off-path (λ m. let p = member-among o.bucket (path k t) m in let z : ◌≡◌ {A = ℕ} 0 1 = cc in omega arith)

  pub round-apart : (t : ℕ) → t < 2 ^ k → (tree other : List ℕ) (ws vs : List E) → IsTree k tree → IsTree k other
      → Apart F k a b tree ws other vs → (held : List ℕ)
      → BothRead F k a b tree other t (read_half F k tree t none held ws) (read_half F k other t none held vs)
  round-apart t leaf tree other ws vs is is-other (waits d) held =
      read_same t leaf tree tree is is-other held ws vs refl (map_same F.key same_key d)
      (λ es. still-waits (join-differs F same_key es d) (λ c j p g off. refl))
  round-apart t leaf tree other ws vs is is-other (stands s) held =
      stands-apart t leaf tree other is is-other held ws (slots_apart F lawful k s)
