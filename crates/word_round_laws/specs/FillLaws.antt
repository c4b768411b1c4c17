-- Node by node is bucket by bucket: the first of some elements goes to the first bucket on its way with room, and the rest fill
-- the path as if it had been there before.
use Rattle.std.specs.Prelude.{◌≡◌, Bool, true, false, ◌&&◌, ltb, get_or}
use Rattle.std.proofs.Math.Path.{refl, ap}
use Rattle.std.proofs.Common.{◌∙◌, length-set}
use mathlib.Core.List.{List, [], ◌∷◌, ◌++◌, append-nil, map}
use Prim.Native.Nat.{ℕ, zero, suc, ◌+◌, ◌-◌, ◌≤◌, ◌<◌}
use native.Mathlib.Omega.{arith}
use Rattle.std.proofs.Math.ListN.{length, length-append}
use Rattle.std.proofs.Math.Seq.{append_snoc}
use borrow.Author.Tests.{ltb-true, ltb-false, lt-ltb}
use Rattle.list_spec.specs.Choice.{pick}
use Rattle.slot_spec.specs.Tree.{passes}
use Rattle.slot_spec.specs.Slot.{bucket_bytes}
use Rattle.round_spec.specs.Format.{Format}
use Rattle.round_spec.specs.Round.{choose, evict, with_bucket}
use Rattle.word_round_laws.specs.ChooseLaws.{choose-none, choose-taken, choose-left}
use Rattle.word_round_laws.specs.Fill.{Filling, fill, home, added, written, empties}

module _ {E : Type 0} (F : Format E) (k : ℕ) where
  -- The head of some elements is left, whatever comes after it.
  abbrev pub leave : E → Filling E → Filling E
  leave e f = record { contents = f.contents; left = e ∷ f.left }

  -- ---- the test of the first bucket
  both-no : (u : ℕ) (t : Bool) → (ltb u 4 && t) ≡ false → 0 < 4 - u → t ≡ false
  both-no u t e h = rw (lt-ltb u 4 (omega arith)) at e

  both_yes : (s t : Bool) → (s && t) ≡ true → (s ≡ true) × (t ≡ true)
  both_yes true t e = (refl, e)
  both_yes false t e = let z : ◌≡◌ {A = ℕ} 0 1 = cc in absurd (omega arith)

  fill-first : (b : ℕ) (bs : List ℕ) (c : List E) (cs : List (List E)) (e : E) (ws : List E) → (ltb (length c) 4 && passes k (F.tag e) b) ≡ true
      → fill F k (b ∷ bs) (c ∷ cs) (e ∷ ws) ≡ fill F k (b ∷ bs) ((c ++ e ∷ []) ∷ cs) ws
  unfolding fill
  fill-first b bs c cs e ws t =
      let p = both_yes (ltb (length c) 4) (passes k (F.tag e) b) t in
      let l = ltb-true (length c) 4 p.0 in
      let o : 4 - length c ≡ suc (4 - length (c ++ e ∷ [])) = simp length-append (omega arith) in
      rw (o, choose-taken F k b (4 - length (c ++ e ∷ [])) e ws p.1, append_snoc c e (choose F k b (4 - length (c ++ e ∷ [])) ws).ins)

  fill-past : (b : ℕ) (bs : List ℕ) (c : List E) (cs : List (List E)) (e : E) (ws : List E) → (ltb (length c) 4 && passes k (F.tag e) b) ≡ false
      → fill F k (b ∷ bs) (c ∷ cs) (e ∷ ws)
      ≡ record {
        contents = (c ++ (choose F k b (4 - length c) ws).ins) ∷ (fill F k bs cs (e ∷ (choose F k b (4 - length c) ws).left)).contents;
        left = (fill F k bs cs (e ∷ (choose F k b (4 - length c) ws).left)).left;
      }
  unfolding fill
  fill-past b bs c cs e ws t =
      rw (choose-left F k b (4 - length c) e ws (both-no (length c) (passes k (F.tag e) b) t))

  pub fill-contents-length : (bs : List ℕ) (cs : List (List E)) (ws : List E) → length (fill F k bs cs ws).contents ≡ length cs
  unfolding fill
  fill-contents-length [] cs ws = refl
  fill-contents-length (b ∷ bs) [] ws = refl
  fill-contents-length (b ∷ bs) (c ∷ cs) ws = ap suc (fill-contents-length bs cs (choose F k b (4 - length c) ws).left)

  -- The first element has a home: it goes there before the others come.
  fill-home : (bs : List ℕ) (cs : List (List E)) (e : E) (ws : List E) → home F k bs cs (F.tag e) < length bs → length cs ≡ length bs
      → fill F k bs cs (e ∷ ws) ≡ fill F k bs (added F cs (home F k bs cs (F.tag e)) e) ws
  unfolding home fill
  fill-home [] cs e ws h n = let z : ⊥ = omega arith in absurd z
  fill-home (b ∷ bs) [] e ws h n = let z : ⊥ = omega arith in absurd z
  fill-home (b ∷ bs) (c ∷ cs) e ws h n =
      go (fill-home bs cs e (choose F k b (4 - length c) ws).left) (ltb (length c) 4 && passes k (F.tag e) b) refl h
    where
      ys : List E
      ys = (choose F k b (4 - length c) ws).left

      go : (home F k bs cs (F.tag e) < length bs → length cs ≡ length bs → fill F k bs cs (e ∷ ys) ≡ fill F k bs (added F cs (home F k bs cs (F.tag e)) e) ys)
          → (t : Bool) → (ltb (length c) 4 && passes k (F.tag e) b) ≡ t → pick t zero (suc (home F k bs cs (F.tag e))) < suc (length bs)
          → fill F k (b ∷ bs) (c ∷ cs) (e ∷ ws) ≡ fill F k (b ∷ bs) (added F (c ∷ cs) (pick t zero (suc (home F k bs cs (F.tag e)))) e) ws
      go more true q h = fill-first b bs c cs e ws q
      go more false q h =
          fill-past b bs c cs e ws q
          ∙ ap (λ (f : Filling E). record { contents = (c ++ (choose F k b (4 - length c) ws).ins) ∷ f.contents; left = f.left }) (more (omega arith) (omega arith))

  -- It has none: it is left.
  fill-homeless : (bs : List ℕ) (cs : List (List E)) (e : E) (ws : List E) → length bs ≤ home F k bs cs (F.tag e) → length cs ≡ length bs
      → fill F k bs cs (e ∷ ws) ≡ leave e (fill F k bs cs ws)
  unfolding home fill
  fill-homeless [] cs e ws h n = refl
  fill-homeless (b ∷ bs) [] e ws h n = let z : ⊥ = omega arith in absurd z
  fill-homeless (b ∷ bs) (c ∷ cs) e ws h n =
      go (fill-homeless bs cs e (choose F k b (4 - length c) ws).left) (ltb (length c) 4 && passes k (F.tag e) b) refl h
    where
      ys : List E
      ys = (choose F k b (4 - length c) ws).left

      go : (length bs ≤ home F k bs cs (F.tag e) → length cs ≡ length bs → fill F k bs cs (e ∷ ys) ≡ leave e (fill F k bs cs ys))
          → (t : Bool) → (ltb (length c) 4 && passes k (F.tag e) b) ≡ t → suc (length bs) ≤ pick t zero (suc (home F k bs cs (F.tag e)))
          → fill F k (b ∷ bs) (c ∷ cs) (e ∷ ws) ≡ leave e (fill F k (b ∷ bs) (c ∷ cs) ws)
      go more true q h = let z : ⊥ = omega arith in absurd z
      go more false q h =
          fill-past b bs c cs e ws q
          ∙ ap (λ (f : Filling E). record { contents = (c ++ (choose F k b (4 - length c) ws).ins) ∷ f.contents; left = f.left }) (more (omega arith) (omega arith))

  pub fill_none : (bs : List ℕ) (cs : List (List E)) → fill F k bs cs [] ≡ record { contents = cs; left = [] }
  unfolding fill
  fill_none [] cs = refl
  fill_none (b ∷ bs) [] = refl
  fill_none (b ∷ bs) (c ∷ cs) = rw (choose-none F k b (4 - length c), append-nil c, fill_none bs cs)

  -- Some elements, and then others.
  fill-append : (bs : List ℕ) (cs : List (List E)) (xs ys : List E) → length cs ≡ length bs
      → fill F k bs cs (xs ++ ys)
      ≡ record { contents = (fill F k bs (fill F k bs cs xs).contents ys).contents; left = (fill F k bs cs xs).left ++ (fill F k bs (fill F k bs cs xs).contents ys).left }
  fill-append bs cs [] ys n = rw (fill_none bs cs)
  fill-append bs cs (e ∷ xs) ys n = go (λ cs n. fill-append bs cs xs ys n) (ltb (home F k bs cs (F.tag e)) (length bs)) refl
    where
      ds : List (List E)
      ds = added F cs (home F k bs cs (F.tag e)) e

      go : ((cs : List (List E)) → length cs ≡ length bs → fill F k bs cs (xs ++ ys)
          ≡ record { contents = (fill F k bs (fill F k bs cs xs).contents ys).contents; left = (fill F k bs cs xs).left ++ (fill F k bs (fill F k bs cs xs).contents ys).left })
          → (t : Bool) → ltb (home F k bs cs (F.tag e)) (length bs) ≡ t
          → fill F k bs cs (e ∷ (xs ++ ys))
          ≡ record { contents = (fill F k bs (fill F k bs cs (e ∷ xs)).contents ys).contents; left = (fill F k bs cs (e ∷ xs)).left ++ (fill F k bs (fill F k bs cs (e ∷ xs)).contents ys).left }
      go more true q =
          let h = ltb-true (home F k bs cs (F.tag e)) (length bs) q in
          fill-home bs cs e (xs ++ ys) h n
          ∙ more ds (length-set cs (home F k bs cs (F.tag e)) (get_or cs (home F k bs cs (F.tag e)) [] ++ e ∷ []) ∙ n)
          ∙ rw (fill-home bs cs e xs h n)
      go more false q =
          let h = ltb-false (home F k bs cs (F.tag e)) (length bs) q in
          fill-homeless bs cs e (xs ++ ys) h n
          ∙ ap (leave e) (more cs n)
          ∙ rw (fill-homeless bs cs e xs h n)

  -- ---- one more element
  module _ (bs : List ℕ) (cs : List (List E)) (n : length cs ≡ length bs) (xs : List E) (e : E) where
    abbrev held : List (List E)
    held = (fill F k bs cs xs).contents

    held-length : length held ≡ length bs
    held-length = fill-contents-length bs cs xs ∙ n

    pub fill-one-home : home F k bs held (F.tag e) < length bs
        → fill F k bs cs (xs ++ e ∷ []) ≡ record { contents = added F held (home F k bs held (F.tag e)) e; left = (fill F k bs cs xs).left }
    fill-one-home h =
        fill-append bs cs xs (e ∷ []) n
        ∙ rw (fill-home bs held e [] h held-length, fill_none bs (added F held (home F k bs held (F.tag e)) e), append-nil (fill F k bs cs xs).left)

    pub fill-one-left : length bs ≤ home F k bs held (F.tag e)
        → fill F k bs cs (xs ++ e ∷ []) ≡ record { contents = held; left = (fill F k bs cs xs).left ++ e ∷ [] }
    fill-one-left h =
        fill-append bs cs xs (e ∷ []) n
        ∙ rw (fill-homeless bs held e [] h held-length, fill_none bs held)

  -- ---- the method's filling, bucket by bucket
  pub evict-fill : (bs : List ℕ) (ws : List E) (tree : List ℕ)
      → evict F k bs ws tree ≡ record { waiting = (fill F k bs (empties bs) ws).left; tree = written F tree bs (fill F k bs (empties bs) ws).contents }
  unfolding evict fill written
  evict-fill [] ws tree = refl
  evict-fill (b ∷ bs) ws tree = evict-fill bs (choose F k b 4 ws).left (with_bucket tree b (bucket_bytes (map F.bytes (choose F k b 4 ws).ins)))
