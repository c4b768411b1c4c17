-- Whether the waiting nodes' keys ascend, by looking at neighbours.
use Rattle.std.specs.Prelude.{◌≡◌, false, ℕ, zero, suc, ◌+◌, ◌≤◌, ◌<◌, take, drop, get_or}
use Rattle.std.proofs.Math.Path.{refl}
use Rattle.std.proofs.Common.{sym, ◌∙◌, ap, add-one, length-take-le, get_or-take}
use Rattle.std.proofs.Math.Bool.{true}
use mathlib.Core.List.{List, [], ◌∷◌, map}
use native.Mathlib.Omega.{arith}
use Rattle.std.proofs.Math.ListN.{length, length-drop}
use Rattle.std.proofs.lemmas.List.{length-map}
use Rattle.std.proofs.Math.Seq.{drop-cons}
use borrow.Author.Tests.{lt-ltb, le-ltb}
use Rattle.slot_spec.specs.Slot.{fields_in, slot_bytes, node_of}
use Rattle.slot_spec.specs.declared.Slot.{Slot}
use Rattle.method_spec.specs.Node.{Node}
use Rattle.list_spec.specs.Ascending.{ascending, ascending_from}
use Rattle.slot_spec.specs.Row.{zero_slot}
use Rattle.word_round_laws.specs.SlotRow.{slots_in}
use Rattle.word_round_laws.specs.SlotRowLaws.{slots-count}
use Rattle.stash_laws.specs.Waiting.{node_in, Holds}
use Rattle.one_round.specs.OneRound.{keys_waiting}

-- ---- a list's neighbours
module _ (ks : List ℕ) (i : ℕ) where
  neighbours : i + 1 < length ks → drop i ks ≡ get_or ks i 0 ∷ drop (i + 1) ks
  neighbours h = rw add-one (drop-cons ks i 0 (omega arith))

  pub ascends-here : i + 1 < length ks → get_or ks i 0 < get_or ks (i + 1) 0 → ascending (drop i ks) ≡ ascending (drop (i + 1) ks)
  unfolding ascending ascending_from
  ascends-here h less =
      rw (neighbours h, drop-cons ks (i + 1) 0 h, lt-ltb (get_or ks i 0) (get_or ks (i + 1) 0) less)

  pub descends-here : i + 1 < length ks → get_or ks (i + 1) 0 ≤ get_or ks i 0 → ascending (drop i ks) ≡ false
  unfolding ascending ascending_from
  descends-here h more =
      rw (neighbours h, drop-cons ks (i + 1) 0 h, le-ltb (get_or ks i 0) (get_or ks (i + 1) 0) more)

  pub ascends-last : length ks ≤ i + 1 → ascending (drop i ks) ≡ true
  unfolding ascending ascending_from
  ascends-last h = short (drop i ks) (simp length-drop (omega arith))
    where
      short : (ls : List ℕ) → length ls ≤ 1 → ascending ls ≡ true
      short [] few = refl
      short (a ∷ []) few = refl
      short (a ∷ b ∷ ls) few = let z : ⊥ = omega arith in absurd z

-- ---- the keys of the waiting nodes
nodes-key : (xs : List Slot) (i : ℕ) → i < length xs → get_or (map (λ (n : Node ℕ). n.key) (map node_in xs)) i 0 ≡ (fields_in (slot_bytes (get_or xs i zero_slot))).key
unfolding node_of
nodes-key [] i h = let z : ⊥ = omega arith in absurd z
nodes-key (x ∷ xs) zero h = refl
nodes-key (x ∷ xs) (suc i) h = nodes-key xs i (omega arith)

module _ (n : ℕ) (row : List ℕ) (holds : Holds n row) where
  first_count : length (take n (slots_in row)) ≡ n
  first_count = length-take-le n (slots_in row) (omega (arith, slots-count row, holds.few))

  pub keys-count : length (keys_waiting n row) ≡ n
  keys-count = length-map (map node_in (take n (slots_in row))) (λ (m : Node ℕ). m.key) ∙ length-map (take n (slots_in row)) node_in ∙ first_count

  pub waiting-key : (i : ℕ) (x : Slot) (key : ℕ) → i < n → x ≡ get_or (slots_in row) i zero_slot → key ≡ (fields_in (slot_bytes x)).key
      → get_or (keys_waiting n row) i 0 ≡ key
  waiting-key i x key h is has =
      nodes-key (take n (slots_in row)) i (omega (arith, first_count))
      ∙ ap (λ (y : Slot). (fields_in (slot_bytes y)).key) (get_or-take n (slots_in row) i zero_slot h ∙ sym is)
      ∙ sym has
