-- How joining goes, turn by turn.
use Rattle.std.specs.Prelude.{◌≡◌, refl, Bool, true, false, List, [], ◌∷◌, ◌++◌, map, ℕ, suc, ◌+◌, ◌*◌, ◌^◌, ◌≤◌, ◌<◌, length, take, drop, get_or}
use Rattle.std.proofs.Common.{sym, ◌∙◌, ap, subst, add-one, arith, length-append, length-take, take-suc, get_or-take, take-take}
use Rattle.std.proofs.lemmas.List.{map-append, length-map}
use Rattle.std.proofs.Math.Option.{none, some}
use Rattle.std.proofs.Math.Seq.{split_at}
use Rattle.list_spec.specs.Choice.{pick}
use Rattle.slot_spec.specs.Slot.{slot_bytes}
use Rattle.slot_spec.specs.Tree.{leaf_bucket, path, tree_length}
use Rattle.slot_laws.specs.TreeLaws.{halvings-length}
use Rattle.slot_spec.specs.declared.Slot.{Slot}
use Rattle.round_spec.specs.Format.{Read}
use Rattle.round_spec.specs.Round.{keys_of, read_bucket, read_buckets}
use Rattle.round_spec.specs.Nodes.{words_format}
use Rattle.word_round_laws.specs.SlotRow.{row_length, Blank, Leaves, slots_in}
use Rattle.list_spec.specs.Ascending.{ascending}
use Rattle.word_round_laws.specs.Stash.{join_readings}
use Rattle.word_round_laws.specs.StashLaws.{ascending-holds, ascending-test}
use Rattle.word_round_laws.specs.JoinLaws.{readings-then, readings-stop, readings-ascending}
use Rattle.word_round_laws.specs.Gather.{slot_from, slot_starts, full_starts, bucket_of, read_from}
use Rattle.word_round_laws.specs.GatherLaws.{full-length, starts-length, path-joined}
use Rattle.path_reader.specs.Joined.{AllJoined, NoneJoined}

-- ---- readings, and then one more
pub joined-none : (k : ℕ) (held : List ℕ) (m : ℕ) (before : List ℕ) → Blank m before → AllJoined k held [] m before before m
unfolding join_readings
joined-none k held m before b = record { within = omega arith; joined = refl; blank = b; leaves = λ v. v }

module _ (k : ℕ) (held : List ℕ) (rs : List (Read Slot)) (m : ℕ) (before row : List ℕ) (count : ℕ) (j : AllJoined k held rs m before row count) where
  pub joined-order : ascending (keys_of words_format (take m (slots_in before))) ≡ true → ascending (keys_of words_format (take count (slots_in row))) ≡ true
  joined-order a =
      ascending-test (keys_of words_format (take count (slots_in row)))
      (readings-ascending words_format held rs (take m (slots_in before)) (take count (slots_in row)) j.joined
      (ascending-holds (keys_of words_format (take m (slots_in before))) a))

  module _ (qs : List (Read Slot)) (after : List ℕ) where
    then-joined : (rest : List (Read Slot)) → join_readings words_format held (rs ++ rest) (take m (slots_in before)) ≡ join_readings words_format held rest (take count (slots_in row))
    then-joined rest = readings-then words_format held rs rest (take m (slots_in before)) (take count (slots_in row)) j.joined

    joined-more : (more : ℕ) → AllJoined k held qs count row after more → AllJoined k held (rs ++ qs) m before after more
    joined-more more h =
        record {
          within = let n = length-append rs qs in omega (arith, h.within, j.within);
          joined = then-joined qs ∙ h.joined;
          blank = h.blank;
          leaves = λ v. h.leaves (j.leaves v);
        }

    joined-stop : NoneJoined held qs count row after → (rest : List (Read Slot)) → join_readings words_format held (rs ++ (qs ++ rest)) (take m (slots_in before)) ≡ none
    joined-stop h rest =
        then-joined (qs ++ rest)
        ∙ readings-stop words_format held qs rest (take count (slots_in row)) h.refused

-- ---- the readings of slots by where they start: the first i have joined, and then the next
pub first-within : (k : ℕ) (held tree from : List ℕ) (m : ℕ) (before row : List ℕ) (i count : ℕ) → AllJoined k held (map (read_from k tree) (take i from)) m before row count
    → count ≤ m + i
first-within k held tree from m before row i count j = omega (arith, j.within, length-map (take i from) (read_from k tree), length-take i from)

module _ (k : ℕ) (held tree from : List ℕ) (m : ℕ) (before row after : List ℕ) (i count : ℕ) (x : Slot)
    (inside : i < length from) (loaded : slot_bytes x ≡ slot_from tree (get_or from i 0))
    (j : AllJoined k held (map (read_from k tree) (take i from)) m before row count) where
  reading_is : words_format.read k (bucket_of (get_or from i 0)) (slot_bytes x) ≡ read_from k tree (get_or from i 0)
  reading_is = ap (words_format.read k (bucket_of (get_or from i 0))) loaded

  pub next-joined : (more : ℕ) → AllJoined k held (words_format.read k (bucket_of (get_or from i 0)) (slot_bytes x) ∷ []) count row after more
      → AllJoined k held (map (read_from k tree) (take (i + 1) from)) m before after more
  next-joined more h =
      let s : map (read_from k tree) (take (i + 1) from) ≡ map (read_from k tree) (take i from) ++ (read_from k tree (get_or from i 0) ∷ []) =
      rw (add-one i, take-suc from i 0 inside) (map-append (read_from k tree) (take i from) (get_or from i 0 ∷ [])) in
      rw s (joined-more k held (map (read_from k tree) (take i from)) m before row count j (read_from k tree (get_or from i 0) ∷ []) after more
      (subst (λ (r : Read Slot). AllJoined k held (r ∷ []) count row after more) reading_is h))

  pub next-damage : NoneJoined held (words_format.read k (bucket_of (get_or from i 0)) (slot_bytes x) ∷ []) count row after → (full : ℕ) → i < full → full ≤ length from
      → join_readings words_format held (map (read_from k tree) (take full from)) (take m (slots_in before)) ≡ none
  next-damage h full g n =
      let l = length-take full from in
      let s : take full from ≡ take i from ++ get_or from i 0 ∷ drop (suc i) (take full from) =
      split_at (take full from) i 0 (omega arith) ∙ rw (take-take i full from (omega arith), get_or-take full from i 0 g) in
      rw (s, map-append (read_from k tree) (take i from) (get_or from i 0 ∷ drop (suc i) (take full from)))
      (joined-stop k held (map (read_from k tree) (take i from)) m before row count j (read_from k tree (get_or from i 0) ∷ []) after
      (subst (λ (r : Read Slot). NoneJoined held (r ∷ []) count row after) reading_is h) (map (read_from k tree) (drop (suc i) (take full from))))

-- ---- the readings of a bucket, and of the buckets of a path
bucket-length : (k : ℕ) (tree : List ℕ) (b : ℕ) → length (read_bucket words_format k tree b) ≡ 4
unfolding read_bucket
bucket-length k tree b = refl

buckets-length : (k : ℕ) (tree : List ℕ) (bs : List ℕ) → length (read_buckets words_format k tree bs) ≡ 4 * length bs
unfolding read_buckets
buckets-length k tree [] = refl
buckets-length k tree (b ∷ bs) =
    let h = buckets-length k tree bs in
    let n = bucket-length k tree b in
    length-append (read_bucket words_format k tree b) (read_buckets words_format k tree bs) ∙ omega arith

pub path-readings : (k : ℕ) (tree : List ℕ) (t : ℕ) → length (read_buckets words_format k tree (path k t)) ≡ 4 * (k + 1)
path-readings k tree t =
    buckets-length k tree (path k t)
    ∙ ap (λ (n : ℕ). 4 * n) (halvings-length k (leaf_bucket k t) ∙ sym (add-one k))

-- What joined of the readings of a path's full slots joined of the path's.
module _ (k t : ℕ) (tree : List ℕ) (leaf : t < 2 ^ k) (is : length tree ≡ tree_length k) where
  abbrev starts : List ℕ
  starts = full_starts tree (slot_starts (path k t))

  fewer : length (map (read_from k tree) starts) ≤ length (read_buckets words_format k tree (path k t))
  fewer =
      let n = starts-length k (leaf_bucket k t) in
      let m = path-readings k tree t in
      let f = full-length tree (slot_starts (path k t)) in
      let l = length-map starts (read_from k tree) in
      omega arith

  pub full-joined : (held : List ℕ) (m : ℕ) (before after : List ℕ) (count : ℕ)
      → AllJoined k held (map (read_from k tree) starts) m before after count → AllJoined k held (read_buckets words_format k tree (path k t)) m before after count
  full-joined held m before after count j =
      record {
        within = let f = fewer in omega (arith, j.within);
        joined = sym (path-joined k t tree leaf is held (take m (slots_in before))) ∙ j.joined;
        blank = j.blank;
        leaves = j.leaves;
      }

  pub full-damaged : (held : List ℕ) (m : ℕ) (before after : List ℕ) → join_readings words_format held (map (read_from k tree) starts) (take m (slots_in before)) ≡ none
      → slots_in after ≡ slots_in before → NoneJoined held (read_buckets words_format k tree (path k t)) m before after
  full-damaged held m before after refused same =
      record { refused = sym (path-joined k t tree leaf is held (take m (slots_in before))) ∙ refused; same = same }
