-- The write half changes no slot of a bucket off the path, and depends on tags only through the paths: on which of the path's buckets an
-- element's own path passes.
use Rattle.std.specs.Prelude.{◌≡◌, Bool, true, false}
use Rattle.std.proofs.Math.Path.{refl, ap}
use Rattle.std.proofs.Common.{sym, ◌∙◌, ap₂}
use mathlib.Core.List.{List, [], ◌∷◌, ◌++◌, map, Memᴰ}
use Rattle.std.proofs.Math.Option.{Option, none, some}
use Prim.Native.Nat.{ℕ, zero, suc, ◌^◌, ◌<◌}
use Rattle.list_spec.specs.Choice.{pick}
use Rattle.list_spec.specs.Distinct.{All}
use Rattle.list_laws.specs.DistinctLaws.{all-perm, all_right}
use Rattle.slot_spec.specs.Tree.{path, passes, among}
use Rattle.slot_spec.specs.Slot.{bucket_bytes}
use Rattle.round_spec.specs.Format.{Format}
use Rattle.round_spec.specs.Round.{Chosen, slot_at, with_bucket, none_twice, all_good, keys_of, read_bucket, read_buckets, insert, join, granted, joined, granted_from, read_half, taking, leaving, choose, evict, write_half}
use Rattle.round_laws.specs.Lawful.{Lawful}
use Rattle.round_spec.specs.Whole.{all_buckets, IsTree}
use Rattle.round_laws.specs.Paths.{all-in-tree, path-in-tree}
use Rattle.round_laws.specs.Lists.{choose-takes, choose-leaves, choose-perm}
use Rattle.round_laws.specs.Evict.{after_bucket, evict-step, evict-other}

-- A bucket off the path keeps its slots.
pub off-path-kept : {E : Type 0} (F : Format E) {Proper : ℕ → E → Type 0} (lawful : Lawful F Proper) (k t : ℕ) → t < 2 ^ k
    → (tree : List ℕ) → IsTree k tree → (ws : List E)
    → (b j : ℕ) → Memᴰ b (all_buckets k) → (Memᴰ b (path k t) → ⊥) → j < 4
    → slot_at (write_half F k t ws tree).tree b j ≡ slot_at tree b j
off-path-kept F lawful k t leaf tree is ws b j there off g =
    evict-other F lawful k (path k t) ws tree (path-in-tree k t leaf) is b j (all-in-tree k b there) off g

module _ {E : Type 0} (F G : Format E) (same_bytes : (e : E) → G.bytes e ≡ F.bytes e) (k : ℕ) where
  -- The two formats' tags pass the same of these buckets.
  abbrev pub Alike : List ℕ → E → Type 0
  Alike bs e = All (λ b. passes k (G.tag e) b ≡ passes k (F.tag e) b) bs

  choose-alike : (b n : ℕ) (ws : List E) → All (λ e. passes k (G.tag e) b ≡ passes k (F.tag e) b) ws → choose G k b n ws ≡ choose F k b n ws
  unfolding choose
  choose-alike b n [] h = refl
  choose-alike b zero (e ∷ es) h = refl
  choose-alike b (suc n) (e ∷ es) h =
      let later : All (λ a. passes k (G.tag a) b ≡ passes k (F.tag a) b) es = λ a m. h a (Memᴰ.tail m) in
      go (choose-alike b n es later) (choose-alike b (suc n) es later) (passes k (F.tag e) b) refl
    where
      same : passes k (G.tag e) b ≡ passes k (F.tag e) b
      same = h e (Memᴰ.head refl)

      go : choose G k b n es ≡ choose F k b n es → choose G k b (suc n) es ≡ choose F k b (suc n) es
          → (t : Bool) → passes k (F.tag e) b ≡ t → choose G k b (suc n) (e ∷ es) ≡ choose F k b (suc n) (e ∷ es)
      go taken left true q = choose-takes G k b n e es (same ∙ q) ∙ ap (taking F e) taken ∙ sym (choose-takes F k b n e es q)
      go taken left false q = choose-leaves G k b n e es (same ∙ q) ∙ ap (leaving F e) left ∙ sym (choose-leaves F k b n e es q)

  bytes-alike : (es : List E) → map G.bytes es ≡ map F.bytes es
  bytes-alike [] = refl
  bytes-alike (e ∷ es) = ap₂ (λ (x : List ℕ) (xs : List (List ℕ)). x ∷ xs) (same_bytes e) (bytes-alike es)

  evict-alike : (bs : List ℕ) (ws : List E) (tree : List ℕ) → All (Alike bs) ws → evict G k bs ws tree ≡ evict F k bs ws tree
  unfolding evict
  evict-alike [] ws tree h = refl
  evict-alike (b ∷ bs) ws tree h =
      let c = choose F k b 4 ws in
      let left : All (Alike bs) c.left =
      all_right {P = Alike bs} c.ins (all-perm {P = Alike bs} (choose-perm F k b 4 ws) (λ e m d n. h e m d (Memᴰ.tail n))) in
      evict-step G k b bs ws tree
      ∙ ap (λ (d : Chosen E). evict G k bs d.left (with_bucket tree b (bucket_bytes (map G.bytes d.ins))))
      (choose-alike b 4 ws (λ e m. h e m b (Memᴰ.head refl)))
      ∙ ap (λ (slots : List (List ℕ)). evict G k bs c.left (with_bucket tree b (bucket_bytes slots))) (bytes-alike c.ins)
      ∙ evict-alike bs c.left (after_bucket F k b ws tree) left

  -- Tags count only by which buckets of this path their paths pass.
  pub write-by-passes : (t : ℕ) (ws : List E) (tree : List ℕ) → All (Alike (path k t)) ws → write_half G k t ws tree ≡ write_half F k t ws tree
  write-by-passes t ws tree h = evict-alike (path k t) ws tree h

  pub write-by-paths : ((e : E) → path k (G.tag e) ≡ path k (F.tag e)) → (t : ℕ) (ws : List E) (tree : List ℕ) → write_half G k t ws tree ≡ write_half F k t ws tree
  write-by-paths h t ws tree = write-by-passes t ws tree (λ e m b n. ap (among b) (h e))

-- ---- the read half
-- The format with other tags.
abbrev pub retagged : {E : Type 0} → Format E → (E → ℕ) → Format E
retagged F tag = record { key = F.key; tag = tag; bytes = F.bytes; read = F.read }

-- A read half that wants none asks no element for its tag, but in the reading of a slot.
pub read-asks-no-tag : {E : Type 0} (F : Format E) (tag : E → ℕ) (k : ℕ) (tree : List ℕ) (t : ℕ) (held : List ℕ) (waiting : List E)
    → read_half (retagged F tag) k tree t none held waiting ≡ read_half F k tree t none held waiting
unfolding read_half read_buckets read_bucket joined join insert granted_from granted
read-asks-no-tag {E} F tag k tree t held waiting = go (all_good (read_buckets F k tree (path k t)))
  where
    twice : (es : List E) (b : Bool)
        → granted_from (retagged F tag) none (pick b (some (join F es waiting)) none) ≡ granted_from F none (pick b (some (join F es waiting)) none)
    twice es true = refl
    twice es false = refl

    go : (o : Option (List E)) → granted_from (retagged F tag) none (joined (retagged F tag) held waiting o) ≡ granted_from F none (joined F held waiting o)
    go none = refl
    go (some es) = twice es (none_twice (keys_of F es ++ (keys_of F waiting ++ held)))
