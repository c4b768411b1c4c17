-- Two formats of the same slots: where a map between their elements keeps keys, tags and bytes, and reads are mapped to reads, a round
-- over one format is the mapped round over the other, with the same tree.
use Rattle.std.specs.Prelude.{◌≡◌, Bool, eqb, ltb, length}
use Rattle.std.proofs.Math.Path.{refl, sym, ap, ap₂}
use Rattle.std.proofs.Common.{◌∙◌, subst}
use Rattle.std.proofs.Math.Bool.{true, false}
use mathlib.Core.List.{List, [], ◌∷◌, ◌++◌, map, map-append, Memᴰ}
use Rattle.std.proofs.Math.Option
use Rattle.std.proofs.Math.Option.{Option, none, some}
use Prim.Native.Nat.{ℕ, zero, suc, ◌^◌, ◌<◌}
use Rattle.list_spec.specs.Choice.{pick}
use Rattle.list_laws.specs.PermLaws.{perm-sym}
use Rattle.list_spec.specs.Distinct.{All}
use Rattle.list_laws.specs.DistinctLaws.{all_cons, all_append, all_left, all_right, all-perm}
use Rattle.slot_spec.specs.LittleEndian.{Bytes}
use Rattle.slot_spec.specs.Tree.{path, passes, slot_length}
use Rattle.slot_spec.specs.Slot.{bucket_bytes}
use Rattle.round_spec.specs.Format.{Format, Read, full, empty, bad}
use Rattle.round_spec.specs.Round.{Wish, Hand, Chosen, Written, slot_at, with_bucket, none_twice, all_good, keys_of, read_bucket, read_buckets, insert, join, take_first, tagged, granted, joined, granted_from, read_half, taking, leaving, choose, evict, write_half}
use Rattle.round_spec.specs.Whole.{good_ones, listed, IsTree, InTree}
use Rattle.round_laws.specs.Paths.{path-in-tree}
use Rattle.round_laws.specs.Places.{slot-length, slot-bytes}
use Rattle.round_laws.specs.Readings.{good-member, all-good-full, all-good-says, bucket-readings, reading-of}
use Rattle.round_laws.specs.Lists.{insert-perm, join-perm, take-perm, choose-takes, choose-leaves, choose-perm}
use Rattle.round_laws.specs.Evict.{after_bucket, evict-step}

module _ {E D : Type 0} (f : E → D) where
  abbrev pub map_read : Read E → Read D
  map_read (full e) = full (f e)
  map_read empty = empty
  map_read bad = bad

  abbrev pub map_hand : Hand E → Hand D
  map_hand h = record { taken = Option.map f h.taken; waiting = map f h.waiting }

  abbrev pub map_chosen : Chosen E → Chosen D
  map_chosen c = record { ins = map f c.ins; left = map f c.left }

  abbrev pub map_written : Written E → Written D
  map_written r = record { waiting = map f r.waiting; tree = r.tree }

-- f carries the format F to G, for elements of which P holds; what F reads is such.
pub record Carries {E D : Type 0} (F : Format E) (G : Format D) (f : E → D) (P : E → Type 0) : Type 0 where
  pub key : (e : E) → P e → G.key (f e) ≡ F.key e
  pub tag : (e : E) → P e → G.tag (f e) ≡ F.tag e
  pub bytes : (e : E) → P e → G.bytes (f e) ≡ F.bytes e
  pub read : (k b : ℕ) (bs : List ℕ) → G.read k b bs ≡ map_read f (F.read k b bs)
  pub reads : (k b : ℕ) (bs : List ℕ) (e : E) → Bytes bs → length bs ≡ slot_length → F.read k b bs ≡ full e → P e

module _ {E D : Type 0} (F : Format E) (G : Format D) (f : E → D) {P : E → Type 0} (carries : Carries F G f P) where
  -- ---- the path's elements
  bucket-carried : (k : ℕ) (tree : List ℕ) (b : ℕ) → read_bucket G k tree b ≡ map (map_read f) (read_bucket F k tree b)
  unfolding read_bucket
  bucket-carried k tree b =
      rw (
        carries.read k b (slot_at tree b 0),
        carries.read k b (slot_at tree b 1),
        carries.read k b (slot_at tree b 2),
        carries.read k b (slot_at tree b 3),
      )

  readings-carried : (k : ℕ) (tree bs : List ℕ) → read_buckets G k tree bs ≡ map (map_read f) (read_buckets F k tree bs)
  unfolding read_buckets
  readings-carried k tree [] = refl
  readings-carried k tree (b ∷ bs) =
      ap₂ (λ (x y : List (Read D)). x ++ y) (bucket-carried k tree b) (readings-carried k tree bs)
      ∙ sym (map-append (map_read f) (read_bucket F k tree b) (read_buckets F k tree bs))

  good-carried : (rs : List (Read E)) → all_good (map (map_read f) rs) ≡ Option.map (map f) (all_good rs)
  unfolding all_good
  good-carried [] = refl
  good-carried (full e ∷ rs) =
      rw (all-good-full (f e) (map (map_read f) rs), good-carried rs, all-good-full e rs) (go (all_good rs))
    where
      go : (o : Option (List E)) → Option.map (λ (ds : List D). f e ∷ ds) (Option.map (map f) o) ≡ Option.map (map f) (Option.map (λ (es : List E). e ∷ es) o)
      go none = refl
      go (some es) = refl
  good-carried (empty ∷ rs) = good-carried rs
  good-carried (bad ∷ rs) = refl

  keys-carried : (es : List E) → All P es → keys_of G (map f es) ≡ keys_of F es
  keys-carried [] p = refl
  keys-carried (e ∷ es) p =
      ap₂ (λ (x : ℕ) (xs : List ℕ). x ∷ xs) (carries.key e (p e (Memᴰ.head refl))) (keys-carried es (λ a m. p a (Memᴰ.tail m)))

  slots-carried : (es : List E) → All P es → map G.bytes (map f es) ≡ map F.bytes es
  slots-carried [] p = refl
  slots-carried (e ∷ es) p =
      ap₂ (λ (x : List ℕ) (xs : List (List ℕ)). x ∷ xs) (carries.bytes e (p e (Memᴰ.head refl))) (slots-carried es (λ a m. p a (Memᴰ.tail m)))

  -- ---- join and take
  pub insert-carried : (e : E) (ws : List E) → P e → All P ws → insert G (f e) (map f ws) ≡ map f (insert F e ws)
  unfolding insert
  insert-carried e [] p q = refl
  insert-carried e (w ∷ ws) p q =
      rw (carries.key e p, carries.key w (q w (Memᴰ.head refl)))
      (go (insert-carried e ws p (λ a m. q a (Memᴰ.tail m))) (ltb (F.key e) (F.key w)))
    where
      go : insert G (f e) (map f ws) ≡ map f (insert F e ws)
          → (t : Bool) → pick t (f e ∷ f w ∷ map f ws) (f w ∷ insert G (f e) (map f ws)) ≡ map f (pick t (e ∷ w ∷ ws) (w ∷ insert F e ws))
      go more true = refl
      go more false = ap (λ (xs : List D). f w ∷ xs) more

  pub join-carried : (es ws : List E) → All P es → All P ws → join G (map f es) (map f ws) ≡ map f (join F es ws)
  unfolding join
  join-carried [] ws p q = refl
  join-carried (e ∷ es) ws p q =
      let here = p e (Memᴰ.head refl) in
      ap (join G (map f es)) (insert-carried e ws here q)
      ∙ join-carried es (insert F e ws) (λ a m. p a (Memᴰ.tail m))
      (all-perm {P = P} (perm-sym (insert-perm F e ws)) (all_cons {P = P} here q))

  take-carried : (key : ℕ) (ws : List E) → All P ws → take_first G key (map f ws) ≡ map_hand f (take_first F key ws)
  unfolding take_first
  take-carried key [] p = refl
  take-carried key (w ∷ ws) p =
      rw (carries.key w (p w (Memᴰ.head refl)))
      (go (take-carried key ws (λ a m. p a (Memᴰ.tail m))) (eqb key (F.key w)))
    where
      go : take_first G key (map f ws) ≡ map_hand f (take_first F key ws)
          → (t : Bool)
          → pick t (record { taken = some (f w); waiting = map f ws }) (record { taken = (take_first G key (map f ws)).taken; waiting = f w ∷ (take_first G key (map f ws)).waiting })
          ≡ map_hand f (pick t (record { taken = some w; waiting = ws }) (record { taken = (take_first F key ws).taken; waiting = w ∷ (take_first F key ws).waiting }))
      go more true = refl
      go more false = ap (λ (h : Hand D). record { taken = h.taken; waiting = f w ∷ h.waiting }) more

  tagged-carried : (tag : ℕ) (o : Option E) (ws : List E) → ((e : E) → o ≡ some e → P e)
      → tagged G tag (map_hand f (record { taken = o; waiting = ws })) ≡ Option.map (map_hand f) (tagged F tag (record { taken = o; waiting = ws }))
  unfolding tagged
  tagged-carried tag none ws p = refl
  tagged-carried tag (some e) ws p = rw (carries.tag e (p e refl)) (go (eqb (F.tag e) tag))
    where
      go : (t : Bool)
          → pick t (some (map_hand f (record { taken = some e; waiting = ws }))) none
          ≡ Option.map (map_hand f) (pick t (some (record { taken = some e; waiting = ws })) none)
      go true = refl
      go false = refl

  granted-carried : (w : Option Wish) (ws : List E) → All P ws → granted G w (map f ws) ≡ Option.map (map_hand f) (granted F w ws)
  unfolding granted
  granted-carried none ws p = refl
  granted-carried (some w) ws p =
      let h = take_first F w.key ws in
      ap (tagged G w.tag) (take-carried w.key ws p)
      ∙ tagged-carried w.tag h.taken h.waiting
      (λ e q. all_left {P = P} h.waiting (all-perm {P = P} (take-perm F w.key ws) p) e (subst (λ (o : Option E). Memᴰ e (listed o)) (sym q) (Memᴰ.head refl)))

  -- ---- the read half
  found_all : (k : ℕ) (tree bs : List ℕ) → IsTree k tree → All (InTree k) bs → All P (good_ones (read_buckets F k tree bs))
  found_all k tree bs is in_tree e m =
      let r = reading-of F k tree bs (full e) (good-member (read_buckets F k tree bs) m) in
      let s = bucket-readings F k tree r.0 (full e) r.2 in
      carries.reads k r.0 (slot_at tree r.0 s.0) e (slot-bytes k tree is r.0 s.0)
      (slot-length k tree is r.0 s.0 (in_tree r.0 r.1) s.1) (sym s.2)

  module _ (k : ℕ) (tree : List ℕ) (is : IsTree k tree) (t : ℕ) (leaf : t < 2 ^ k) (w : Option Wish) (held : List ℕ) (waiting : List E) (all : All P waiting) where
    joined-carried : (es : List E) → All P es
        → granted_from G w (joined G held (map f waiting) (some (map f es))) ≡ Option.map (map_hand f) (granted_from F w (joined F held waiting (some es)))
    unfolding joined granted_from
    joined-carried es p =
        rw (keys-carried es p, keys-carried waiting all, join-carried es waiting p all)
        (go (none_twice (keys_of F es ++ (keys_of F waiting ++ held))))
      where
        go : (b : Bool)
            → granted_from G w (pick b (some (map f (join F es waiting))) none) ≡ Option.map (map_hand f) (granted_from F w (pick b (some (join F es waiting)) none))
        go true = granted-carried w (join F es waiting) (all-perm {P = P} (perm-sym (join-perm F es waiting)) (all_append {P = P} es p all))
        go false = refl

    -- The read half over the one format is the mapped read half over the other.
    pub read-half-carried : read_half G k tree t w held (map f waiting) ≡ Option.map (map_hand f) (read_half F k tree t w held waiting)
    unfolding read_half joined granted_from
    read-half-carried =
        ap (λ (rs : List (Read D)). granted_from G w (joined G held (map f waiting) (all_good rs))) (readings-carried k tree (path k t))
        ∙ ap (λ (o : Option (List D)). granted_from G w (joined G held (map f waiting) o)) (good-carried (read_buckets F k tree (path k t)))
        ∙ go (all_good (read_buckets F k tree (path k t))) refl
      where
        go : (o : Option (List E)) → all_good (read_buckets F k tree (path k t)) ≡ o
            → granted_from G w (joined G held (map f waiting) (Option.map (map f) o)) ≡ Option.map (map_hand f) (granted_from F w (joined F held waiting o))
        go none q = refl
        go (some es) q =
            joined-carried es
            (rw (all-good-says (read_buckets F k tree (path k t)) es q).1 (found_all k tree (path k t) is (path-in-tree k t leaf)))

  -- ---- the write half
  choose-carried : (k b n : ℕ) (ws : List E) → All P ws → choose G k b n (map f ws) ≡ map_chosen f (choose F k b n ws)
  unfolding choose
  choose-carried k b n [] p = refl
  choose-carried k b zero (e ∷ es) p = refl
  choose-carried k b (suc n) (e ∷ es) p =
      let later : All P es = λ a m. p a (Memᴰ.tail m) in
      go (choose-carried k b n es later) (choose-carried k b (suc n) es later) (passes k (F.tag e) b) refl
    where
      same : passes k (G.tag (f e)) b ≡ passes k (F.tag e) b
      same = ap (λ (tag : ℕ). passes k tag b) (carries.tag e (p e (Memᴰ.head refl)))

      go : choose G k b n (map f es) ≡ map_chosen f (choose F k b n es) → choose G k b (suc n) (map f es) ≡ map_chosen f (choose F k b (suc n) es)
          → (t : Bool) → passes k (F.tag e) b ≡ t → choose G k b (suc n) (f e ∷ map f es) ≡ map_chosen f (choose F k b (suc n) (e ∷ es))
      go taken left true q =
          choose-takes G k b n (f e) (map f es) (same ∙ q)
          ∙ ap (taking G (f e)) taken
          ∙ ap (map_chosen f) (sym (choose-takes F k b n e es q))
      go taken left false q =
          choose-leaves G k b n (f e) (map f es) (same ∙ q)
          ∙ ap (leaving G (f e)) left
          ∙ ap (map_chosen f) (sym (choose-leaves F k b n e es q))

  evict-carried : (k : ℕ) (bs : List ℕ) (ws : List E) (tree : List ℕ) → All P ws → evict G k bs (map f ws) tree ≡ map_written f (evict F k bs ws tree)
  unfolding evict
  evict-carried k [] ws tree p = refl
  evict-carried k (b ∷ bs) ws tree p =
      let c = choose F k b 4 ws in
      let both = all-perm {P = P} (choose-perm F k b 4 ws) p in
      evict-step G k b bs (map f ws) tree
      ∙ ap (λ (d : Chosen D). evict G k bs d.left (with_bucket tree b (bucket_bytes (map G.bytes d.ins)))) (choose-carried k b 4 ws p)
      ∙ ap (λ (slots : List (List ℕ)). evict G k bs (map f c.left) (with_bucket tree b (bucket_bytes slots))) (slots-carried c.ins (all_left {P = P} c.left both))
      ∙ evict-carried k bs c.left (after_bucket F k b ws tree) (all_right {P = P} c.ins both)

  -- The write half over the one format is the mapped write half over the other: the same bytes, and those mapped that wait.
  pub write-half-carried : (k t : ℕ) (ws : List E) (tree : List ℕ) → All P ws → write_half G k t (map f ws) tree ≡ map_written f (write_half F k t ws tree)
  write-half-carried k t ws tree p = evict-carried k (path k t) ws tree p
