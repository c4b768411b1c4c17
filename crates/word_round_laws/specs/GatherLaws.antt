-- Reading only the full slots of a path is reading the path: an all-zero slot reads as empty, and an empty one joins nothing.
use Rattle.std.specs.Prelude.{◌≡◌, refl, Bool, true, false, ◌||◌, List, [], ◌∷◌, ◌++◌, map, ℕ, zero, suc, ◌+◌, ◌*◌, ◌/◌, ◌^◌, ◌≤◌, ◌<◌, length, get_or, take, drop, set}
use Rattle.std.proofs.Common.{sym, ◌∙◌, ap, append_assoc, append-nil, add-one, arith, length-take, length-drop, pow_pos, pow_mono, get_or-take, take-suc-set}
use mathlib.Core.List.Memᴰ
use Rattle.std.proofs.Math.Option.{Option, none}
use Rattle.std.proofs.lemmas.List.{take-set-le}
use Rattle.list_spec.specs.Choice.{pick}
use Rattle.list_spec.specs.Distinct.{All}
use Rattle.list_laws.specs.DistinctLaws.{all_nil, all_cons, all_append, all_get_d}
use Rattle.slot_spec.specs.Tree.{among, slot_length, bucket_start, bucket_length, tree_length, halvings, leaf_bucket, path, path_bucket}
use Rattle.slot_spec.specs.Slot.{all_zero, slot_bytes}
use Rattle.slot_laws.specs.ReadLaws.{all-zero-read}
use Rattle.slot_spec.specs.declared.Slot.{Slot}
use Rattle.round_spec.specs.Format.{Read, full, empty, bad}
use Rattle.round_spec.specs.Round.{keys_of, insert, read_bucket, read_buckets}
use Rattle.round_spec.specs.Nodes.{words_format, words_of, reading_of}
use Rattle.word_round_laws.specs.Stash.{join_readings}
use Rattle.word_round_laws.specs.PathLaws.{path-level, path-end}
use Rattle.word_round_laws.specs.Gather.{slot_from, four_from, slot_starts, full_starts, bucket_of, read_from}

-- ---- the full ones of some slots
pub full-none : (tree : List ℕ) → full_starts tree [] ≡ []
unfolding full_starts
full-none tree = refl

pub full-turn : (tree : List ℕ) (at : ℕ) (ats : List ℕ) → full_starts tree (at ∷ ats) ≡ pick (all_zero (slot_from tree at)) [] (at ∷ []) ++ full_starts tree ats
unfolding full_starts
full-turn tree at ats = refl

pub full-append : (tree xs ys : List ℕ) → full_starts tree (xs ++ ys) ≡ full_starts tree xs ++ full_starts tree ys
unfolding full_starts
full-append tree [] ys = refl
full-append tree (x ∷ xs) ys =
    ap (λ (r : List ℕ). pick (all_zero (slot_from tree x)) [] (x ∷ []) ++ r) (full-append tree xs ys)
    ∙ sym (append_assoc (pick (all_zero (slot_from tree x)) [] (x ∷ [])) (full_starts tree xs) (full_starts tree ys))

pub full-length : (tree ats : List ℕ) → length (full_starts tree ats) ≤ length ats
unfolding full_starts
full-length tree [] = omega arith
full-length tree (at ∷ ats) = go (full-length tree ats) (all_zero (slot_from tree at))
  where
    go : length (full_starts tree ats) ≤ length ats → (z : Bool) → length (pick z [] (at ∷ []) ++ full_starts tree ats) ≤ suc (length ats)
    go h true = omega arith
    go h false = omega arith

pub full-all : {P : ℕ → Type 0} (tree ats : List ℕ) → All P ats → All P (full_starts tree ats)
unfolding full_starts
full-all {P} tree [] h = h
full-all {P} tree (at ∷ ats) h = go (full-all {P = P} tree ats (λ a m. h a (Memᴰ.tail m))) (all_zero (slot_from tree at))
  where
    go : All P (full_starts tree ats) → (z : Bool) → All P (pick z [] (at ∷ []) ++ full_starts tree ats)
    go more true = more
    go more false = all_cons {P = P} {xs = full_starts tree ats} (h at (Memᴰ.head refl)) more

-- A store after the first, and one more counted where the slot is full.
pub gathered-one : (from : List ℕ) (count at : ℕ) (z : Bool) → count < length from
    → take (count + pick z 0 1) (set from count at) ≡ take count from ++ pick z [] (at ∷ [])
gathered-one from count at true h =
    let e : count + 0 ≡ count = omega arith in rw (e, take-set-le count from count at (omega arith)) (sym (append-nil (take count from)))
gathered-one from count at false h = rw (add-one count) (take-suc-set from count at h)

pub full-one : (z : Bool) → pick z 0 1 ≤ 1
full-one true = omega arith
full-one false = omega arith

-- One slot is asked, of those that are left.
gather-turn : (tree before from : List ℕ) (count at : ℕ) (rest : List ℕ) (r : ℕ) → count < length from → r ≡ pick (all_zero (slot_from tree at)) 0 1
    → before ≡ take count from ++ full_starts tree (at ∷ rest) → before ≡ take (count + r) (set from count at) ++ full_starts tree rest
gather-turn tree before from count at rest r h q e =
    e ∙ rw (full-turn tree at rest, q, gathered-one from count at (all_zero (slot_from tree at)) h)
    (sym (append_assoc (take count from) (pick (all_zero (slot_from tree at)) [] (at ∷ [])) (full_starts tree rest)))

four-turn : (start j : ℕ) → j < 4 → drop j (four_from start) ≡ (start + slot_length * j) ∷ drop (j + 1) (four_from start)
four-turn start zero h = refl
four-turn start (suc zero) h = refl
four-turn start (suc (suc zero)) h = refl
four-turn start (suc (suc (suc zero))) h = refl
four-turn start (suc (suc (suc (suc j)))) h = let z : ⊥ = omega arith in absurd z

pub gather-four : (tree before from : List ℕ) (count start j : ℕ) (bs : List ℕ) (r : ℕ) → j < 4 → count < length from → bs ≡ slot_from tree (start + slot_length * j) → r ≡ pick (all_zero bs) 0 1
    → before ≡ take count from ++ full_starts tree (drop j (four_from start))
    → before ≡ take (count + r) (set from count (start + slot_length * j)) ++ full_starts tree (drop (j + 1) (four_from start))
gather-four tree before from count start j bs r g h b q e =
    gather-turn tree before from count (start + slot_length * j) (drop (j + 1) (four_from start)) r h (q ∙ ap (λ (s : List ℕ). pick (all_zero s) 0 1) b)
    (e ∙ ap (λ (l : List ℕ). take count from ++ full_starts tree l) (four-turn start j g))

pub gather-four-end : (tree before from : List ℕ) (count start j : ℕ) → j ≡ 4 → before ≡ take count from ++ full_starts tree (drop j (four_from start)) → take count from ≡ before
gather-four-end tree before from count start j q e =
    sym (e ∙ rw (q, full-none tree) (append-nil (take count from)))

-- ---- the readings
zero-reading : (k b : ℕ) (bs : List ℕ) → length bs ≡ 32 → all_zero bs ≡ true → words_format.read k b bs ≡ empty
unfolding words_format words_of reading_of
zero-reading k b bs n z = rw (all-zero-read k b bs n z)

join-empty : (held : List ℕ) (r : Read Slot) (rs : List (Read Slot)) (ws : List Slot) → r ≡ empty → join_readings words_format held (r ∷ rs) ws ≡ join_readings words_format held rs ws
unfolding join_readings
join-empty held r rs ws e = rw e

-- The same reading first, and then what comes to the same whatever waits.
join_first : (held : List ℕ) (r : Read Slot) (qs rs : List (Read Slot)) → ((ws : List Slot) → join_readings words_format held qs ws ≡ join_readings words_format held rs ws)
    → (ws : List Slot) → join_readings words_format held (r ∷ qs) ws ≡ join_readings words_format held (r ∷ rs) ws
unfolding join_readings
join_first held empty qs rs h ws = h ws
join_first held bad qs rs h ws = refl
join_first held (full e) qs rs h ws =
    ap (λ (o : Option (List Slot)). pick (among (words_format.key e) held || among (words_format.key e) (keys_of words_format ws)) none o) (h (insert words_format e ws))

-- The slots are within the tree.
abbrev pub Within : List ℕ → ℕ → Type 0
Within tree at = at + slot_length ≤ length tree

pub join-full : (k : ℕ) (held tree ats : List ℕ) → All (Within tree) ats → (ws : List Slot)
    → join_readings words_format held (map (read_from k tree) (full_starts tree ats)) ws ≡ join_readings words_format held (map (read_from k tree) ats) ws
unfolding full_starts
join-full k held tree [] h ws = refl
join-full k held tree (at ∷ ats) h ws =
    go (join-full k held tree ats (λ a m. h a (Memᴰ.tail m))) (h at (Memᴰ.head refl)) (all_zero (slot_from tree at)) refl
  where
    go : ((ws : List Slot) → join_readings words_format held (map (read_from k tree) (full_starts tree ats)) ws ≡ join_readings words_format held (map (read_from k tree) ats) ws)
        → Within tree at → (z : Bool) → all_zero (slot_from tree at) ≡ z
        → join_readings words_format held (map (read_from k tree) (pick z [] (at ∷ []) ++ full_starts tree ats)) ws ≡ join_readings words_format held (read_from k tree at ∷ map (read_from k tree) ats) ws
    go more w true q =
        more ws
        ∙ sym (join-empty held (read_from k tree at) (map (read_from k tree) ats) ws (zero-reading k (bucket_of at) (slot_from tree at) (simp (length-take, length-drop) (omega arith)) q))
    go more w false q = join_first held (read_from k tree at) (map (read_from k tree) (full_starts tree ats)) (map (read_from k tree) ats) more ws

-- ---- the path
bucket-of : (b j : ℕ) → 1 ≤ b → j < 4 → bucket_of (bucket_start b + slot_length * j) ≡ b
bucket-of b j h g = omega arith

-- The readings of a path's buckets, slot by slot.
pub path-readings-from : (n k b : ℕ) (tree : List ℕ) → 2 ^ n ≤ b → read_buckets words_format k tree (halvings n b) ≡ map (read_from k tree) (slot_starts (halvings n b))
unfolding halvings read_buckets read_bucket slot_starts words_format
path-readings-from zero k b tree h =
    rw (bucket-of b 0 h (omega arith), bucket-of b 1 h (omega arith), bucket-of b 2 h (omega arith), bucket-of b 3 h (omega arith))
path-readings-from (suc n) k b tree h =
    let p : 2 ^ suc n ≤ b = h in
    let o = pow_pos n in
    let g : 1 ≤ b = omega arith in
    rw (bucket-of b 0 g (omega arith), bucket-of b 1 g (omega arith), bucket-of b 2 g (omega arith), bucket-of b 3 g (omega arith), path-readings-from n k (b / 2) tree (omega arith))

four-within : (at : ℕ) (tree rest : List ℕ) → at + bucket_length ≤ length tree → All (Within tree) rest → All (Within tree) (four_from at ++ rest)
four-within at tree rest h more =
    all_append {P = Within tree} (four_from at) {ys = rest}
    (all_cons {P = Within tree} {xs = (at + slot_length * 1) ∷ (at + slot_length * 2) ∷ (at + slot_length * 3) ∷ []} (omega arith)
    (all_cons {P = Within tree} {xs = (at + slot_length * 2) ∷ (at + slot_length * 3) ∷ []} (omega arith)
    (all_cons {P = Within tree} {xs = (at + slot_length * 3) ∷ []} (omega arith)
    (all_cons {P = Within tree} {xs = []} (omega arith) (all_nil (Within tree))))))
    more

pub starts-within : (n b : ℕ) (tree : List ℕ) → bucket_start b + bucket_length ≤ length tree → All (Within tree) (slot_starts (halvings n b))
unfolding halvings slot_starts
starts-within zero b tree h = four-within (bucket_start b) tree [] h (all_nil (Within tree))
starts-within (suc n) b tree h = four-within (bucket_start b) tree (slot_starts (halvings n (b / 2))) h (starts-within n (b / 2) tree (omega arith))

pub starts-length : (n b : ℕ) → length (slot_starts (halvings n b)) ≡ 4 * (n + 1)
unfolding halvings slot_starts
starts-length zero b = refl
starts-length (suc n) b = let h = starts-length n (b / 2) in omega arith

-- ---- bucket by bucket
starts-turn : (b : ℕ) (bs : List ℕ) → slot_starts (b ∷ bs) ≡ four_from (bucket_start b) ++ slot_starts bs
unfolding slot_starts
starts-turn b bs = refl

starts-end : slot_starts [] ≡ []
unfolding slot_starts
starts-end = refl

-- The bucket of a level is asked, and its full slots stand after those of the buckets below it.
pub gather-level : (k t level at : ℕ) (tree all before after : List ℕ) → level ≤ k → at ≡ bucket_start (path_bucket k t level)
    → after ≡ before ++ full_starts tree (four_from at)
    → all ≡ before ++ full_starts tree (slot_starts (drop level (path k t)))
    → all ≡ after ++ full_starts tree (slot_starts (drop (level + 1) (path k t)))
gather-level k t level at tree all before after h q g e =
    let rest = slot_starts (drop (level + 1) (path k t)) in
    e ∙ rw (path-level k t level h, starts-turn (path_bucket k t level) (drop (level + 1) (path k t)), ← q, full-append tree (four_from at) rest, g)
    (sym (append_assoc before (full_starts tree (four_from at)) (full_starts tree rest)))

pub gather-end : (k t level : ℕ) (tree all before : List ℕ) → level ≡ k + 1 → all ≡ before ++ full_starts tree (slot_starts (drop level (path k t))) → before ≡ all
gather-end k t level tree all before q e =
    sym (e ∙ rw (q, path-end k t, starts-end, full-none tree) (append-nil before))

-- ---- the path's readings are those of its full slots
module _ (k t : ℕ) (tree : List ℕ) (leaf : t < 2 ^ k) (is : length tree ≡ tree_length k) where
  abbrev pub path_starts : List ℕ
  path_starts = full_starts tree (slot_starts (path k t))

  pub inside : bucket_start (leaf_bucket k t) + bucket_length ≤ length tree
  inside =
      let w : 2 ^ (k + 1) ≡ 2 * 2 ^ k = rw (add-one k) (omega arith) in
      let o = pow_pos k in
      omega arith

  pub path-within : All (Within tree) path_starts
  path-within = full-all {P = Within tree} tree (slot_starts (path k t)) (starts-within k (leaf_bucket k t) tree inside)

  -- Number i of those that were gathered.
  pub start-within : (from : List ℕ) (m i : ℕ) → take m from ≡ path_starts → i < m → m ≤ length from → Within tree (get_or from i 0)
  start-within from m i e h n =
      rw (← get_or-take m from i 0 h, e) (all_get_d {P = Within tree} path_starts path-within i 0 (let l = length-take m from in let f = ap length e in omega arith))

  pub start_small : (from : List ℕ) (m i : ℕ) → k ≤ 15 → take m from ≡ path_starts → i < m → m ≤ length from → get_or from i 0 < 2 ^ 24
  start_small from m i s e h n =
      let w = start-within from m i e h n in
      let p : 2 ^ (k + 1) ≤ 2 ^ 17 = pow_mono {i = k + 1} {j = 17} (omega arith) in
      omega arith

  pub path-joined : (held : List ℕ) (ws : List Slot)
      → join_readings words_format held (map (read_from k tree) path_starts) ws ≡ join_readings words_format held (read_buckets words_format k tree (path k t)) ws
  path-joined held ws =
      join-full k held tree (slot_starts (path k t)) (starts-within k (leaf_bucket k t) tree inside) ws
      ∙ ap (λ (rs : List (Read Slot)). join_readings words_format held rs ws) (sym (path-readings-from k k (leaf_bucket k t) tree (omega arith)))

-- The reading of a full slot that was loaded.
pub loaded-from : (k : ℕ) (tree starts : List ℕ) (i at : ℕ) (x : Slot) → i < length starts → at ≡ get_or starts i 0 → slot_bytes x ≡ slot_from tree at
    → drop i (map (read_from k tree) starts) ≡ (words_format.read k (bucket_of at) (slot_bytes x) ∷ []) ++ drop (i + 1) (map (read_from k tree) starts)
loaded-from k tree [] i at x h e q = let z : ⊥ = omega arith in absurd z
loaded-from k tree (s ∷ starts) zero at x h e q = rw (q, e)
loaded-from k tree (s ∷ starts) (suc i) at x h e q = let n : suc i + 1 ≡ suc (i + 1) = omega arith in rw n (loaded-from k tree starts i at x (omega arith) e q)
