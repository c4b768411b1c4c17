-- Slots that joined the waiting ones are taken out again, the last first: what waited before they joined is left.
use Rattle.std.proofs.Math.Path.{◌≡◌, refl, ap}
use Rattle.std.proofs.Common.{sym, ◌∙◌, inl, inr, ⊎_elim, arith, length-take, length-drop, eq-eqb, ne_eqb}
use Rattle.std.specs.Prelude.{Bool, ◌||◌, ◌⊎◌, eqb, ltb}
use Rattle.std.proofs.Math.Bool.{true, false}
use mathlib.Core.List.Memᴰ
use mathlib.Core.List.{List, [], ◌∷◌, ◌++◌, map, map-append}
use Rattle.std.proofs.Math.Option.{Option, none, some}
use Prim.Native.Nat.{ℕ, suc, ◌+◌, ◌<◌}
use Rattle.std.proofs.Math.ListN.{length}
use Rattle.std.proofs.lemmas.List.{length-map}
use Rattle.list_spec.specs.Choice.{pick}
use Rattle.list_spec.specs.Distinct.{All}
use Rattle.list_laws.specs.DistinctLaws.{all_nil, all_cons}
use Rattle.slot_spec.specs.Tree.{among, slot_length}
use Rattle.slot_spec.specs.Slot.{all_zero, slot_bytes, read_slot}
use Rattle.slot_laws.specs.SlotLaws.{Words}
use Rattle.slot_laws.specs.ReadLaws.{empty-is-zero}
use Rattle.slot_spec.specs.declared.Slot.{Slot}
use Rattle.slot_spec.specs.declared.Reading.{Reading}
use Rattle.slot_spec.specs.declared.Reading.TheVariants.{Full, Empty, Bad}
use Rattle.round_spec.specs.Format.{Format, Read, full, empty, bad}
use Rattle.round_spec.specs.Round.{keys_of, insert}
use Rattle.round_spec.specs.Nodes.{words_format, words_of, reading_of}
use Rattle.word_round_laws.specs.Stash.{without, position, join_readings}
use Rattle.word_round_laws.specs.StashLaws.{keys-two}
use Rattle.word_round_laws.specs.JoinLaws.{readings-then, readings-stop, reading-bad}
use Rattle.word_round_laws.specs.ReadingLaws.{full-reading, bad-reading}
use Rattle.word_round_laws.specs.Gather.{slot_from, full_starts, read_from, bucket_of}
use Rattle.word_round_laws.specs.GatherLaws.{Within}

module _ {E : Type 0} (F : Format E) where
  -- ---- one that joined
  found_before : (t : Bool) (i n : ℕ) → i < n → pick t 0 (suc i) < suc n
  found_before true i n h = omega arith
  found_before false i n h = omega arith

  pub inserted-inside : (e : E) (ws : List E) → position F (F.key e) (insert F e ws) < length (insert F e ws)
  unfolding position insert
  inserted-inside e [] = rw (eq-eqb (F.key e) (F.key e) refl) (omega arith)
  inserted-inside e (d ∷ ws) = go (inserted-inside e ws) (ltb (F.key e) (F.key d))
    where
      go : position F (F.key e) (insert F e ws) < length (insert F e ws) → (t : Bool)
          → position F (F.key e) (pick t (e ∷ d ∷ ws) (d ∷ insert F e ws)) < length (pick t (e ∷ d ∷ ws) (d ∷ insert F e ws))
      go h true = rw (eq-eqb (F.key e) (F.key e) refl) (omega arith)
      go h false = found_before (eqb (F.key e) (F.key d)) (position F (F.key e) (insert F e ws)) (length (insert F e ws)) h

  pub inserted-out : (e : E) (ws : List E) → among (F.key e) (keys_of F ws) ≡ false → without (position F (F.key e) (insert F e ws)) (insert F e ws) ≡ ws
  unfolding position insert
  inserted-out e [] n = rw (eq-eqb (F.key e) (F.key e) refl)
  inserted-out e (d ∷ ws) n =
      let k = keys-two F (F.key e) d ws n in go k.0 (inserted-out e ws k.1) (ltb (F.key e) (F.key d))
    where
      go : (F.key e ≡ F.key d → ⊥) → without (position F (F.key e) (insert F e ws)) (insert F e ws) ≡ ws → (t : Bool)
          → without (position F (F.key e) (pick t (e ∷ d ∷ ws) (d ∷ insert F e ws))) (pick t (e ∷ d ∷ ws) (d ∷ insert F e ws)) ≡ d ∷ ws
      go q ih true = rw (eq-eqb (F.key e) (F.key e) refl)
      go q ih false = rw (ne_eqb (F.key e) (F.key d) q) (ap (λ (r : List E). d ∷ r) ih)

  insert-length : (e : E) (ws : List E) → length (insert F e ws) ≡ suc (length ws)
  unfolding insert
  insert-length e [] = refl
  insert-length e (d ∷ ws) = go (insert-length e ws) (ltb (F.key e) (F.key d))
    where
      go : length (insert F e ws) ≡ suc (length ws) → (t : Bool) → length (pick t (e ∷ d ∷ ws) (d ∷ insert F e ws)) ≡ suc (suc (length ws))
      go h true = refl
      go h false = ap suc h

  -- ---- the last of some readings
  one_out : (held : List ℕ) (e : E) (ws js : List E) → join_readings F held (full e ∷ []) ws ≡ some js
      → (position F (F.key e) js < length js) × (ws ≡ without (position F (F.key e) js) js)
  unfolding join_readings
  one_out held e ws js q = go (among (F.key e) held || among (F.key e) (keys_of F ws)) refl q
    where
      or_right : (s t : Bool) → (s || t) ≡ false → t ≡ false
      or_right true t p = let z : ◌≡◌ {A = ℕ} 0 1 = cc in absurd (omega arith)
      or_right false t p = p

      go : (t : Bool) → (among (F.key e) held || among (F.key e) (keys_of F ws)) ≡ t → pick t none (some (insert F e ws)) ≡ some js
          → (position F (F.key e) js < length js) × (ws ≡ without (position F (F.key e) js) js)
      go true p q = let z : ◌≡◌ {A = ℕ} 0 1 = cc in absurd (omega arith)
      go false p q =
          let s : insert F e ws ≡ js = cc in
          (rw (← s) (inserted-inside e ws), rw (← s) (sym (inserted-out e ws (or_right (among (F.key e) held) (among (F.key e) (keys_of F ws)) p))))

  pub last_out : (held : List ℕ) (rs : List (Read E)) (e : E) (ws js : List E) → join_readings F held (rs ++ full e ∷ []) ws ≡ some js
      → (position F (F.key e) js < length js) × (join_readings F held rs ws ≡ some (without (position F (F.key e) js) js))
  last_out held rs e ws js q = go (join_readings F held rs ws) refl
    where
      go : (o : Option (List E)) → join_readings F held rs ws ≡ o
          → (position F (F.key e) js < length js) × (join_readings F held rs ws ≡ some (without (position F (F.key e) js) js))
      go none p = let y = readings-stop F held rs (full e ∷ []) ws p in let z : ◌≡◌ {A = ℕ} 0 1 = cc in absurd (omega arith)
      go (some vs) p =
          let o = one_out held e vs js (sym (readings-then F held rs (full e ∷ []) ws vs p) ∙ q) in
          (o.0, p ∙ ap some o.1)

  last-not-bad : (held : List ℕ) (rs : List (Read E)) (ws js : List E) → join_readings F held (rs ++ bad ∷ []) ws ≡ some js → ⊥
  last-not-bad held rs ws js q = go (join_readings F held rs ws) refl
    where
      go : (o : Option (List E)) → join_readings F held rs ws ≡ o → ⊥
      go none p = let y = readings-stop F held rs (bad ∷ []) ws p in let z : ◌≡◌ {A = ℕ} 0 1 = cc in omega arith
      go (some vs) p = let y = readings-then F held rs (bad ∷ []) ws vs p ∙ reading-bad F held vs in let z : ◌≡◌ {A = ℕ} 0 1 = cc in omega arith

  -- Readings that are not empty, each joined one.
  abbrev NotEmpty : Read E → Type 0
  NotEmpty r = r ≡ empty → ⊥

  joined_length : (held : List ℕ) (rs : List (Read E)) (ws js : List E) → All NotEmpty rs → join_readings F held rs ws ≡ some js → length js ≡ length ws + length rs
  unfolding join_readings
  joined_length held [] ws js h q = let s : ws ≡ js = cc in rw (← s) (omega arith)
  joined_length held (empty ∷ rs) ws js h q = absurd (h empty (Memᴰ.head refl) refl)
  joined_length held (bad ∷ rs) ws js h q = let z : ◌≡◌ {A = ℕ} 0 1 = cc in absurd (omega arith)
  joined_length held (full e ∷ rs) ws js h q =
      go (joined_length held rs (insert F e ws) js (λ a m. h a (Memᴰ.tail m))) (among (F.key e) held || among (F.key e) (keys_of F ws)) q
    where
      go : (join_readings F held rs (insert F e ws) ≡ some js → length js ≡ length (insert F e ws) + length rs)
          → (t : Bool) → pick t none (join_readings F held rs (insert F e ws)) ≡ some js → length js ≡ length ws + suc (length rs)
      go more true q = let z : ◌≡◌ {A = ℕ} 0 1 = cc in absurd (omega arith)
      go more false q = more q ∙ (let n = insert-length e ws in omega arith)

-- ---- slots of a tree that are not all zero bytes
abbrev pub FullAt : List ℕ → ℕ → Type 0
FullAt tree at = Within tree at × (all_zero (slot_from tree at) ≡ false)

pub starts-full : (tree ats : List ℕ) → All (Within tree) ats → All (FullAt tree) (full_starts tree ats)
unfolding full_starts
starts-full tree [] h = all_nil (FullAt tree)
starts-full tree (at ∷ ats) h =
    go (starts-full tree ats (λ a m. h a (Memᴰ.tail m))) (all_zero (slot_from tree at)) refl
  where
    go : All (FullAt tree) (full_starts tree ats) → (z : Bool) → all_zero (slot_from tree at) ≡ z → All (FullAt tree) (pick z [] (at ∷ []) ++ full_starts tree ats)
    go more true q = more
    go more false q = all_cons {P = FullAt tree} {xs = full_starts tree ats} (h at (Memᴰ.head refl), q) more

-- Such a slot is never read as empty.
not-read-empty : (k b : ℕ) (bs : List ℕ) → length bs ≡ slot_length → all_zero bs ≡ false → read_slot k b bs ≡ Empty → ⊥
unfolding all_zero
not-read-empty k b bs n z e =
    let y : all_zero bs ≡ true = rw ((empty-is-zero k b bs n).0 e) in
    let x : ◌≡◌ {A = ℕ} 0 1 = cc in omega arith

full-sized : (tree : List ℕ) (at : ℕ) → FullAt tree at → length (slot_from tree at) ≡ slot_length
full-sized tree at h = simp (length-take, length-drop) (omega (arith, h.0))

full-not-empty : (k : ℕ) (tree : List ℕ) (at : ℕ) → FullAt tree at → read_from k tree at ≡ empty → ⊥
unfolding words_format words_of reading_of
full-not-empty k tree at h e = go (read_slot k (bucket_of at) (slot_from tree at)) refl e
  where
    go : (r : Reading) → read_slot k (bucket_of at) (slot_from tree at) ≡ r → words_of (reading_of r) ≡ empty → ⊥
    go (Full n) q e = let z : ◌≡◌ {A = ℕ} 0 1 = cc in omega arith
    go Empty q e = not-read-empty k (bucket_of at) (slot_from tree at) (full-sized tree at h) h.1 q
    go Bad q e = let z : ◌≡◌ {A = ℕ} 0 1 = cc in omega arith

-- As many wait as waited and joined.
pub full-joined-length : (k : ℕ) (held tree starts : List ℕ) (ws js : List Slot) → All (FullAt tree) starts
    → join_readings words_format held (map (read_from k tree) starts) ws ≡ some js → length js ≡ length ws + length starts
full-joined-length k held tree starts ws js h q =
    joined_length words_format held (map (read_from k tree) starts) ws js (each starts h) q ∙ ap (λ (n : ℕ). length ws + n) (length-map starts (read_from k tree))
  where
    each : (starts : List ℕ) → All (FullAt tree) starts → All (λ (r : Read Slot). r ≡ empty → ⊥) (map (read_from k tree) starts)
    each [] h = all_nil (λ (r : Read Slot). r ≡ empty → ⊥)
    each (at ∷ starts) h =
        all_cons {P = λ (r : Read Slot). r ≡ empty → ⊥} {xs = map (read_from k tree) starts}
        (full-not-empty k tree at (h at (Memᴰ.head refl))) (each starts (λ a m. h a (Memᴰ.tail m)))

-- The reading of a slot that was loaded is the slot, or there is damage.
loaded-reading : (k : ℕ) (tree : List ℕ) (at : ℕ) (x : Slot) → FullAt tree at → Words x → slot_bytes x ≡ slot_from tree at
    → (read_from k tree at ≡ full x) ⊎ (read_from k tree at ≡ bad)
loaded-reading k tree at x h w e = go (read_slot k (bucket_of at) (slot_bytes x)) refl
  where
    go : (r : Reading) → read_slot k (bucket_of at) (slot_bytes x) ≡ r → (read_from k tree at ≡ full x) ⊎ (read_from k tree at ≡ bad)
    go (Full n) q = inl (ap (words_format.read k (bucket_of at)) (sym e) ∙ full-reading k (bucket_of at) x w n q)
    go Empty q = absurd (not-read-empty k (bucket_of at) (slot_from tree at) (full-sized tree at h) h.1 (rw (← e) q))
    go Bad q = inr (ap (words_format.read k (bucket_of at)) (sym e) ∙ bad-reading k (bucket_of at) x q)

-- The last slot that joined is loaded again, and its key's place is taken out.
pub loaded-out : (k : ℕ) (held tree starts : List ℕ) (at : ℕ) (x : Slot) (ws js : List Slot) → FullAt tree at → Words x → slot_bytes x ≡ slot_from tree at
    → join_readings words_format held (map (read_from k tree) (starts ++ at ∷ [])) ws ≡ some js
    → (position words_format (words_format.key x) js < length js)
    × (join_readings words_format held (map (read_from k tree) starts) ws ≡ some (without (position words_format (words_format.key x) js) js))
loaded-out k held tree starts at x ws js h w e q =
    ⊎_elim (λ f. last_out words_format held rs x ws js (rw f at p)) (λ f. absurd (last-not-bad words_format held rs ws js (rw f at p))) (loaded-reading k tree at x h w e)
  where
    rs : List (Read Slot)
    rs = map (read_from k tree) starts

    p : join_readings words_format held (rs ++ read_from k tree at ∷ []) ws ≡ some js
    p = rw (map-append (read_from k tree) starts (at ∷ [])) at q
