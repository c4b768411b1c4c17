-- Readings that join one by one, with the test for a key that is there already at each, are the paper's joining with one test
-- over all keys; and the joined list ascends.
use Rattle.std.proofs.Math.Path.{◌≡◌, refl}
use Rattle.std.proofs.Common.{sym, ◌∙◌, add-one, arith, drop_of_length-le, drop-cons, eq-eqb, ne_eqb}
use Rattle.std.specs.Prelude.{Bool, not, ◌&&◌, ◌||◌, ℕ, ◌+◌, ◌≤◌, ◌<◌, ltb, eqb, length, get_or, drop}
use Rattle.std.proofs.Math.Bool.{true, false, or_assoc, or_comm, or-true}
use mathlib.Core.List.Memᴰ
use mathlib.Core.List.{List, [], ◌∷◌, ◌++◌}
use Rattle.std.proofs.Math.Option.{Option, none, some}
use Rattle.list_spec.specs.Choice.{pick}
use Rattle.list_spec.specs.Distinct.{Distinct, All}
use Rattle.list_laws.specs.DistinctLaws.{distinct-perm, all_cons}
use Rattle.list_spec.specs.Perm.{Perm, cons, swap, trans}
use Rattle.list_laws.specs.PermLaws.{perm-refl, perm-sym, perm-append-left, perm-append-right, perm-front}
use Rattle.slot_spec.specs.Tree.{among}
use Rattle.slot_laws.specs.TreeLaws.{among-member, member-among}
use Rattle.round_spec.specs.Format.{Format, Read, full, empty, bad}
use Rattle.round_spec.specs.Round.{keys_of, none_twice, all_good, insert, join, joined}
use Rattle.word_round_laws.specs.Stash.{join_readings}
use Rattle.word_round_laws.specs.StashLaws.{Ascending, insert-ascending}

-- ---- tests
not-true-false : (t : Bool) → (t ≡ true → ⊥) → t ≡ false
not-true-false true h = absurd (h refl)
not-true-false false h = refl

pub same_test : (s t : Bool) → (s ≡ true → t ≡ true) → (t ≡ true → s ≡ true) → s ≡ t
same_test true t f g = sym (f refl)
same_test false true f g = g refl
same_test false false f g = refl

-- A number is in a list put together exactly if it is in a part.
pub among-append : (k : ℕ) (xs ys : List ℕ) → among k (xs ++ ys) ≡ (among k xs || among k ys)
unfolding among
among-append k [] ys = refl
among-append k (x ∷ xs) ys = rw (among-append k xs ys) (sym (or_assoc (eqb k x) (among k xs) (among k ys)))

-- From the front up: number i of a list is the one looked for, or it is not.
pub among-here : (k : ℕ) (ks : List ℕ) (i : ℕ) → i < length ks → get_or ks i 0 ≡ k → among k (drop i ks) ≡ true
unfolding among
among-here k ks i h e = rw (drop-cons ks i 0 h, eq-eqb k (get_or ks i 0) (sym e))

pub among_later : (k : ℕ) (ks : List ℕ) (i : ℕ) → i < length ks → (get_or ks i 0 ≡ k → ⊥) → among k (drop i ks) ≡ among k (drop (i + 1) ks)
unfolding among
among_later k ks i h n = rw (drop-cons ks i 0 h, ne_eqb k (get_or ks i 0) (λ e. n (sym e)), add-one i)

pub among-end : (k : ℕ) (ks : List ℕ) (i : ℕ) → length ks ≤ i → among k (drop i ks) ≡ false
unfolding among
among-end k ks i h = rw (drop_of_length-le ks {i = i} h)

-- No number twice, as a statement.
pub distinct_of : (ks : List ℕ) → none_twice ks ≡ true → Distinct ks
unfolding none_twice
distinct_of [] e = tt
distinct_of (k ∷ ks) e = go (distinct_of ks) (among k ks) refl e
  where
    go : (none_twice ks ≡ true → Distinct ks) → (t : Bool) → among k ks ≡ t → (not t && none_twice ks) ≡ true → Distinct (k ∷ ks)
    go more true q e = let z : ◌≡◌ {A = ℕ} 0 1 = cc in absurd (omega arith)
    go more false q e = (λ m. let y = member-among k ks m in let z : ◌≡◌ {A = ℕ} 0 1 = cc in omega arith, more e)

pub distinct-tested : (ks : List ℕ) → Distinct ks → none_twice ks ≡ true
unfolding none_twice
distinct-tested [] d = refl
distinct-tested (k ∷ ks) d = rw (not-true-false (among k ks) (λ e. d.0 (among-member k ks e)), distinct-tested ks d.1)

pub none-twice-perm : {ks ls : List ℕ} → Perm ks ls → none_twice ks ≡ none_twice ls
none-twice-perm {ks} {ls} p =
    same_test (none_twice ks) (none_twice ls)
    (λ e. distinct-tested ls (distinct-perm p (distinct_of ks e)))
    (λ e. distinct-tested ks (distinct-perm (perm-sym p) (distinct_of ls e)))

module _ {E : Type 0} (F : Format E) where
  pub insert-keys : (e : E) (es : List E) → Perm (keys_of F (insert F e es)) (F.key e ∷ keys_of F es)
  unfolding insert
  insert-keys e [] = perm-refl (F.key e ∷ [])
  insert-keys e (d ∷ es) = go (insert-keys e es) (ltb (F.key e) (F.key d))
    where
      go : Perm (keys_of F (insert F e es)) (F.key e ∷ keys_of F es) → (t : Bool) → Perm (keys_of F (pick t (e ∷ d ∷ es) (d ∷ insert F e es))) (F.key e ∷ F.key d ∷ keys_of F es)
      go p true = perm-refl (F.key e ∷ F.key d ∷ keys_of F es)
      go p false = trans (cons (F.key d) p) (swap (F.key d) (F.key e) (keys_of F es))

  pub insert_all : {P : E → Type 0} (e : E) (es : List E) → P e → All P es → All P (insert F e es)
  unfolding insert
  insert_all {P} e [] h hs = all_cons {P = P} {xs = []} h hs
  insert_all {P} e (d ∷ es) h hs = go (insert_all {P = P} e es h (λ a m. hs a (Memᴰ.tail m))) (ltb (F.key e) (F.key d))
    where
      go : All P (insert F e es) → (t : Bool) → All P (pick t (e ∷ d ∷ es) (d ∷ insert F e es))
      go more true = all_cons {P = P} {xs = d ∷ es} h hs
      go more false = all_cons {P = P} {xs = insert F e es} (hs d (Memᴰ.head refl)) more

  -- ---- one by one, or all at once
  -- The elements of good readings, one by one.
  join_each : (held : List ℕ) → List E → List E → Option (List E)
  join_each held [] ws = some ws
  join_each held (e ∷ es) ws = pick (among (F.key e) held || among (F.key e) (keys_of F ws)) none (join_each held es (insert F e ws))

  good_more : (e : E) (rs : List (Read E)) (es : List E) → all_good rs ≡ some es → all_good (full e ∷ rs) ≡ some (e ∷ es)
  unfolding all_good
  good_more e rs es q = rw q

  good_none : (e : E) (rs : List (Read E)) → all_good rs ≡ none → all_good (full e ∷ rs) ≡ none
  unfolding all_good
  good_none e rs q = rw q

  -- With a bad reading among them there is damage, whatever stands before it.
  readings-bad : (held : List ℕ) (rs : List (Read E)) (ws : List E) → all_good rs ≡ none → join_readings F held rs ws ≡ none
  unfolding join_readings all_good
  readings-bad held [] ws e = let z : ◌≡◌ {A = ℕ} 0 1 = cc in absurd (omega arith)
  readings-bad held (empty ∷ rs) ws e = readings-bad held rs ws e
  readings-bad held (bad ∷ rs) ws e = refl
  readings-bad held (full d ∷ rs) ws e = go (λ q. readings-bad held rs (insert F d ws) q) (all_good rs) refl (among (F.key d) held || among (F.key d) (keys_of F ws))
    where
      go : (all_good rs ≡ none → join_readings F held rs (insert F d ws) ≡ none) → (o : Option (List E)) → all_good rs ≡ o
          → (t : Bool) → pick t none (join_readings F held rs (insert F d ws)) ≡ none
      go more o q true = refl
      go more none q false = more q
      go more (some es) q false = let y = good_more d rs es q in let z : ◌≡◌ {A = ℕ} 0 1 = cc in absurd (omega arith)

  readings-good : (held : List ℕ) (rs : List (Read E)) (es ws : List E) → all_good rs ≡ some es → join_readings F held rs ws ≡ join_each held es ws
  unfolding join_readings join_each all_good
  readings-good held [] es ws e = let y : es ≡ [] = cc in rw y
  readings-good held (empty ∷ rs) es ws e = readings-good held rs es ws e
  readings-good held (bad ∷ rs) es ws e = let z : ◌≡◌ {A = ℕ} 0 1 = cc in absurd (omega arith)
  readings-good held (full d ∷ rs) es ws e = go (λ ds q. readings-good held rs ds (insert F d ws) q) (all_good rs) refl
    where
      go : ((ds : List E) → all_good rs ≡ some ds → join_readings F held rs (insert F d ws) ≡ join_each held ds (insert F d ws))
          → (o : Option (List E)) → all_good rs ≡ o
          → pick (among (F.key d) held || among (F.key d) (keys_of F ws)) none (join_readings F held rs (insert F d ws)) ≡ join_each held es ws
      go more none q = let y = good_none d rs q in let z : ◌≡◌ {A = ℕ} 0 1 = cc in absurd (omega arith)
      go more (some ds) q = let y = good_more d rs ds q in let x : es ≡ d ∷ ds = cc in rw (x, more ds q)

  -- The keys after an insertion, with those still to come before them.
  keys-moved : (e : E) (es ws : List E) (held : List ℕ) → Perm (keys_of F es ++ (keys_of F (insert F e ws) ++ held)) (F.key e ∷ (keys_of F es ++ (keys_of F ws ++ held)))
  keys-moved e es ws held =
      trans (perm-append-left (keys_of F es) (perm-append-right held (insert-keys e ws)))
      (perm-front (keys_of F es) (F.key e) (keys_of F ws ++ held))

  twice : (e : E) (es ws : List E) (held : List ℕ) → among (F.key e) (keys_of F ws ++ held) ≡ true → none_twice (F.key e ∷ (keys_of F es ++ (keys_of F ws ++ held))) ≡ false
  unfolding none_twice
  twice e es ws held q = rw (among-append (F.key e) (keys_of F es) (keys_of F ws ++ held), q, or-true (among (F.key e) (keys_of F es)))

  pub once : (e : E) (ws : List E) (held : List ℕ) → none_twice (keys_of F ws ++ held) ≡ true → among (F.key e) (keys_of F ws ++ held) ≡ false → none_twice (keys_of F (insert F e ws) ++ held) ≡ true
  unfolding none_twice
  once e ws held h q = none-twice-perm (perm-append-right held (insert-keys e ws)) ∙ rw (q, h)

  pub among-either : (k : ℕ) (ws : List E) (held : List ℕ) (t : Bool) → (among k held || among k (keys_of F ws)) ≡ t → among k (keys_of F ws ++ held) ≡ t
  among-either k ws held t q = among-append k (keys_of F ws) held ∙ or_comm (among k (keys_of F ws)) (among k held) ∙ q

  each_all : (held : List ℕ) (es ws : List E) → none_twice (keys_of F ws ++ held) ≡ true
      → join_each held es ws ≡ pick (none_twice (keys_of F es ++ (keys_of F ws ++ held))) (some (join F es ws)) none
  unfolding join_each join
  each_all held [] ws h = rw h
  each_all held (e ∷ es) ws h = go (each_all held es (insert F e ws)) (among (F.key e) held || among (F.key e) (keys_of F ws)) refl
    where
      go : (none_twice (keys_of F (insert F e ws) ++ held) ≡ true
          → join_each held es (insert F e ws) ≡ pick (none_twice (keys_of F es ++ (keys_of F (insert F e ws) ++ held))) (some (join F es (insert F e ws))) none)
          → (t : Bool) → (among (F.key e) held || among (F.key e) (keys_of F ws)) ≡ t
          → pick t none (join_each held es (insert F e ws)) ≡ pick (none_twice (F.key e ∷ (keys_of F es ++ (keys_of F ws ++ held)))) (some (join F es (insert F e ws))) none
      go more true q = rw (twice e es ws held (among-either (F.key e) ws held true q))
      go more false q =
          more (once e ws held h (among-either (F.key e) ws held false q))
          ∙ rw (none-twice-perm (keys-moved e es ws held))

  -- One by one is all at once, where no key is waiting or held twice before.
  pub readings-joined : (held : List ℕ) (rs : List (Read E)) (ws : List E) → none_twice (keys_of F ws ++ held) ≡ true
      → join_readings F held rs ws ≡ joined F held ws (all_good rs)
  unfolding joined
  readings-joined held rs ws h = go (all_good rs) refl
    where
      go : (o : Option (List E)) → all_good rs ≡ o → join_readings F held rs ws ≡ joined F held ws o
      go none q = readings-bad held rs ws q
      go (some es) q = readings-good held rs es ws q ∙ each_all held es ws h

  -- ---- some readings, and then others
  pub readings-then : (held : List ℕ) (rs qs : List (Read E)) (ws vs : List E) → join_readings F held rs ws ≡ some vs
      → join_readings F held (rs ++ qs) ws ≡ join_readings F held qs vs
  unfolding join_readings
  readings-then held [] qs ws vs e = let y : ws ≡ vs = cc in rw y
  readings-then held (empty ∷ rs) qs ws vs e = readings-then held rs qs ws vs e
  readings-then held (bad ∷ rs) qs ws vs e = let z : ◌≡◌ {A = ℕ} 0 1 = cc in absurd (omega arith)
  readings-then held (full d ∷ rs) qs ws vs e =
      go (readings-then held rs qs (insert F d ws) vs) (among (F.key d) held || among (F.key d) (keys_of F ws)) e
    where
      go : (join_readings F held rs (insert F d ws) ≡ some vs → join_readings F held (rs ++ qs) (insert F d ws) ≡ join_readings F held qs vs)
          → (t : Bool) → pick t none (join_readings F held rs (insert F d ws)) ≡ some vs
          → pick t none (join_readings F held (rs ++ qs) (insert F d ws)) ≡ join_readings F held qs vs
      go more true e = let z : ◌≡◌ {A = ℕ} 0 1 = cc in absurd (omega arith)
      go more false e = more e

  pub readings-stop : (held : List ℕ) (rs qs : List (Read E)) (ws : List E) → join_readings F held rs ws ≡ none
      → join_readings F held (rs ++ qs) ws ≡ none
  unfolding join_readings
  readings-stop held [] qs ws e = let z : ◌≡◌ {A = ℕ} 0 1 = cc in absurd (omega arith)
  readings-stop held (empty ∷ rs) qs ws e = readings-stop held rs qs ws e
  readings-stop held (bad ∷ rs) qs ws e = refl
  readings-stop held (full d ∷ rs) qs ws e =
      go (readings-stop held rs qs (insert F d ws)) (among (F.key d) held || among (F.key d) (keys_of F ws)) e
    where
      go : (join_readings F held rs (insert F d ws) ≡ none → join_readings F held (rs ++ qs) (insert F d ws) ≡ none)
          → (t : Bool) → pick t none (join_readings F held rs (insert F d ws)) ≡ none
          → pick t none (join_readings F held (rs ++ qs) (insert F d ws)) ≡ none
      go more true e = refl
      go more false e = more e

  -- The joined list ascends, if the waiting one did.
  pub readings-ascending : (held : List ℕ) (rs : List (Read E)) (ws vs : List E) → join_readings F held rs ws ≡ some vs
      → Ascending (keys_of F ws) → Ascending (keys_of F vs)
  unfolding join_readings
  readings-ascending held [] ws vs e a = let y : ws ≡ vs = cc in rw (← y) a
  readings-ascending held (empty ∷ rs) ws vs e a = readings-ascending held rs ws vs e a
  readings-ascending held (bad ∷ rs) ws vs e a = let z : ◌≡◌ {A = ℕ} 0 1 = cc in absurd (omega arith)
  readings-ascending held (full d ∷ rs) ws vs e a =
      go (readings-ascending held rs (insert F d ws) vs) (among (F.key d) held) refl (among (F.key d) (keys_of F ws)) refl e
    where
      go : (join_readings F held rs (insert F d ws) ≡ some vs → Ascending (keys_of F (insert F d ws)) → Ascending (keys_of F vs))
          → (s : Bool) → among (F.key d) held ≡ s → (t : Bool) → among (F.key d) (keys_of F ws) ≡ t
          → pick (s || t) none (join_readings F held rs (insert F d ws)) ≡ some vs → Ascending (keys_of F vs)
      go more true p t q e = let z : ◌≡◌ {A = ℕ} 0 1 = cc in absurd (omega arith)
      go more false p true q e = let z : ◌≡◌ {A = ℕ} 0 1 = cc in absurd (omega arith)
      go more false p false q e = more e (insert-ascending F d ws q a)

  -- ---- one reading
  pub reading-empty : (held : List ℕ) (ws : List E) → join_readings F held (empty ∷ []) ws ≡ some ws
  unfolding join_readings
  reading-empty held ws = refl

  pub reading-bad : (held : List ℕ) (ws : List E) → join_readings F held (bad ∷ []) ws ≡ none
  unfolding join_readings
  reading-bad held ws = refl

  pub reading-held : (held : List ℕ) (e : E) (ws : List E) → among (F.key e) held ≡ true → join_readings F held (full e ∷ []) ws ≡ none
  unfolding join_readings
  reading-held held e ws h = rw h

  pub reading-waiting : (held : List ℕ) (e : E) (ws : List E) → among (F.key e) (keys_of F ws) ≡ true → join_readings F held (full e ∷ []) ws ≡ none
  unfolding join_readings
  reading-waiting held e ws h = rw (h, or-true (among (F.key e) held))

  pub reading-new : (held : List ℕ) (e : E) (ws : List E) → among (F.key e) held ≡ false → among (F.key e) (keys_of F ws) ≡ false
      → join_readings F held (full e ∷ []) ws ≡ some (insert F e ws)
  unfolding join_readings
  reading-new held e ws h g = rw (h, g)
