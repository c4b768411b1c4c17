-- Slots that joined are taken out again: turn by turn, and that the row is then as it was before they joined.
use Rattle.std.specs.Prelude.{◌≡◌, refl, true, List, [], ◌∷◌, ◌++◌, map, ℕ, suc, ◌+◌, ◌-◌, ◌^◌, ◌≤◌, ◌<◌, length, take, drop, get_or, replicate}
use Rattle.std.proofs.Common.{sym, ◌∙◌, ap, subst, arith, length-take, take-append-drop, take-suc, take-take, get_or-take, length-take-le, take_all}
use Rattle.std.proofs.Math.Option.{some}
use Rattle.list_spec.specs.Distinct.{All}
use Rattle.list_laws.specs.DistinctLaws.{all_left, all_get_d}
use Rattle.slot_spec.specs.LittleEndian.{Bytes}
use Rattle.slot_spec.specs.Tree.{leaf_bucket, path, tree_length}
use Rattle.slot_spec.specs.Slot.{fields_in, slot_bytes}
use Rattle.slot_spec.specs.Row.{zero_slot}
use Rattle.slot_spec.specs.declared.Slot.{Slot}
use Rattle.slot_laws.specs.SlotLaws.{Words}
use Rattle.slot_laws.specs.ByteRow.{same_row}
use Rattle.round_spec.specs.Nodes.{words_format}
use Rattle.word_round_laws.specs.SlotRow.{places, row_length, levels, slots_in, Blank}
use Rattle.word_round_laws.specs.SlotRowLaws.{slots-count, blank-whole, words-key}
use Rattle.word_round_laws.specs.Stash.{without, position, join_readings}
use Rattle.word_round_laws.specs.Gather.{slot_from, slot_starts, read_from, PathGathered}
use Rattle.word_round_laws.specs.GatherLaws.{starts-within, inside}
use Rattle.word_round_laws.specs.UndoLaws.{FullAt, starts-full, full-joined-length, loaded-out}
use Rattle.path_reader.specs.Joined.{AllJoined}
use Rattle.path_reader.specs.Undo.{PathJoined, WereJoined, Undone}

-- ---- turn by turn
-- Where the loop stands: the first i are left of those that joined, and the first `count` of the row are what they make.
pub record Undoing (tree starts : List ℕ) (m : ℕ) (before row : List ℕ) (count i : ℕ) : Type 0 where
  pub reached : i ≤ length starts
  pub counted : count + length starts ≡ m + i
  pub left : (k : ℕ) (held : List ℕ) (waiting : List Slot)
      → join_readings words_format held (map (read_from k tree) starts) waiting ≡ some (take m (slots_in before))
      → join_readings words_format held (map (read_from k tree) (take i starts)) waiting ≡ some (take count (slots_in row))
  pub blank : Blank m before → Blank count row

pub undoing-start : (tree starts : List ℕ) (m : ℕ) (row : List ℕ) → Undoing tree starts m row row m (length starts)
undoing-start tree starts m row =
    record {
      reached = omega arith;
      counted = refl;
      left = λ k held waiting q. subst (λ (l : List ℕ). join_readings words_format held (map (read_from k tree) l) waiting ≡ some (take m (slots_in row))) (sym (take_all (length starts) starts (omega arith))) q;
      blank = λ b. b;
    }

-- The last of those that are left is loaded, and looked for.
module _ (tree starts : List ℕ) (m : ℕ) (before row : List ℕ) (count i : ℕ) (w : WereJoined tree starts m before) (u : Undoing tree starts m before row count i) (p : 0 < i) where
  start-last : take i starts ≡ take (i - 1) starts ++ (get_or starts (i - 1) 0 ∷ [])
  start-last =
      let e : i ≡ suc (i - 1) = omega arith in
      ap (λ (n : ℕ). take n starts) e ∙ take-suc starts (i - 1) 0 (omega (arith, u.reached))

  pub last-full : FullAt tree (get_or starts (i - 1) 0)
  last-full = all_get_d {P = FullAt tree} starts w.were.full (i - 1) 0 (omega (arith, u.reached))

  pub count_fits : count ≤ places
  count_fits = omega (arith, u.reached, u.counted, w.were.fits)

  module _ (x : Slot) (ranged : Words x) (loaded : slot_bytes x ≡ slot_from tree (get_or starts (i - 1) 0)) (key at : ℕ) (key-is : key ≡ (fields_in (slot_bytes x)).key)
      (at-is : at ≡ position words_format key (take count (slots_in row))) where
    at_place : at ≡ position words_format (words_format.key x) (take count (slots_in row))
    at_place = at-is ∙ ap (λ (n : ℕ). position words_format n (take count (slots_in row))) (key-is ∙ sym (words-key x))

    out : (k : ℕ) (held : List ℕ) (waiting : List Slot) → join_readings words_format held (map (read_from k tree) (take i starts)) waiting ≡ some (take count (slots_in row))
        → (at < length (take count (slots_in row))) × (join_readings words_format held (map (read_from k tree) (take (i - 1) starts)) waiting ≡ some (without at (take count (slots_in row))))
    out k held waiting q =
        rw at_place
        (loaded-out k held tree (take (i - 1) starts) (get_or starts (i - 1) 0) x waiting (take count (slots_in row)) last-full ranged loaded
        (subst (λ (l : List ℕ). join_readings words_format held (map (read_from k tree) l) waiting ≡ some (take count (slots_in row))) start-last q))

    pub last-inside : at < count
    last-inside =
        let h = (out w.size w.held w.waiting (u.left w.size w.held w.waiting w.were.slots)).0 in
        let n = length-take-le count (slots_in row) (let s = slots-count row in let f = count_fits in omega arith) in
        omega arith

    -- Once it is taken out, one less is left.
    pub undoing-turn : (after : List ℕ) → take (count - 1) (slots_in after) ≡ without at (take count (slots_in row))
        → drop (count - 1) (slots_in after) ≡ zero_slot ∷ drop count (slots_in row) → Undoing tree starts m before after (count - 1) (i - 1)
    undoing-turn after t d =
        let h = last-inside in
        let f = count_fits in
        record {
          reached = omega (arith, u.reached);
          counted = omega (arith, u.counted);
          left = λ k held waiting q. (out k held waiting (u.left k held waiting q)).1 ∙ ap some (sym t);
          blank = λ b. let e : places - (count - 1) ≡ suc (places - count) = omega arith in d ∙ rw (u.blank b, e);
        }

pub undoing-end : (tree starts : List ℕ) (m : ℕ) (before row : List ℕ) (count i : ℕ) → Undoing tree starts m before row count i → i ≡ 0
    → Undone tree starts m before row
unfolding join_readings
undoing-end tree starts m before row count i u z =
    let e : m - length starts ≡ count = omega (arith, u.counted) in
    record {
      left = λ k held waiting q.
          let n = subst (λ (j : ℕ). join_readings words_format held (map (read_from k tree) (take j starts)) waiting ≡ some (take count (slots_in row))) z (u.left k held waiting q) in
          let s : waiting ≡ take count (slots_in row) = cc in
          rw e (sym s);
      blank = λ b. rw e (u.blank b);
    }

-- ---- what has joined of a path
module _ (k t : ℕ) (tree : List ℕ) (leaf : t < 2 ^ k) (is : length tree ≡ tree_length k) (from : List ℕ) (full : ℕ) (g : PathGathered k t tree from full) where
  all-full : All (FullAt tree) (take full from)
  all-full =
      rw g.starts (starts-full tree (slot_starts (path k t)) (starts-within k (leaf_bucket k t) tree (inside k t tree leaf is)))

  first-full : (i : ℕ) → i ≤ full → All (FullAt tree) (take i from)
  first-full i h =
      subst (All (FullAt tree)) (take-take i full from h)
      (all_left {P = FullAt tree} {xs = take i (take full from)} (drop i (take full from)) (rw (take-append-drop i (take full from)) all-full))

  -- The first i, in a row that has the slots that were joined.
  pub first-joined : (held : List ℕ) (m : ℕ) (before row same : List ℕ) (i count : ℕ) → i ≤ full → count ≤ places
      → AllJoined k held (map (read_from k tree) (take i from)) m before row count → slots_in same ≡ slots_in row
      → PathJoined k held (take m (slots_in before)) tree (take i from) count same
  first-joined held m before row same i count h c j e =
      record {
        fits = c;
        full = first-full i h;
        slots = j.joined ∙ ap (λ (l : List Slot). some (take count l)) (sym e);
      }

pub were-joined : (k : ℕ) (held : List ℕ) (waiting : List Slot) (tree starts : List ℕ) (m : ℕ) (row : List ℕ) → PathJoined k held waiting tree starts m row
    → WereJoined tree starts m row
were-joined k held waiting tree starts m row j = record { size = k; held = held; waiting = waiting; were = j }

-- ---- the row is as it was before they joined
module _ (k : ℕ) (held tree starts : List ℕ) (n m : ℕ) (before row after : List ℕ) (j : PathJoined k held (take n (slots_in before)) tree starts m row)
    (u : Undone tree starts m row after) (fits : n ≤ places) (blank : Blank n before) (clear : Blank m row) where
  undone-count : m - length starts ≡ n
  undone-count =
      let l = full-joined-length k held tree starts (take n (slots_in before)) (take m (slots_in row)) j.full j.slots in
      let a = length-take-le m (slots_in row) (let s = slots-count row in omega (arith, j.fits)) in
      let b = length-take-le n (slots_in before) (let s = slots-count before in omega arith) in
      omega arith

  pub undone-slots : slots_in after ≡ slots_in before
  undone-slots =
      let e = undone-count in
      let t : take n (slots_in after) ≡ take n (slots_in before) = rw e at (u.left k held (take n (slots_in before)) j.slots) in
      let b : Blank n after = rw e at (u.blank clear) in
      blank-whole after n b ∙ ap (λ (l : List Slot). l ++ replicate (places - n) zero_slot) t ∙ sym (blank-whole before n blank)

  pub undone-same : Bytes before → Bytes after → length before ≡ row_length → length after ≡ row_length → after ≡ before
  undone-same b c s t = same_row places after before c b t s undone-slots
