-- A store's file is that of its tree and of slots that show its waiting places.
use Rattle.std.specs.Prelude.{◌≡◌, ℕ, ◌+◌, ◌*◌, ◌^◌, ◌≤◌, take}
use Rattle.std.proofs.Math.Path.{sym, ap, ap₂}
use Rattle.std.proofs.Common.{◌∙◌, arith, pow_mono}
use Rattle.std.proofs.Math.Bool.{true, false}
use mathlib.Core.List.{List, ◌++◌, map}
use Rattle.std.proofs.Math.ListN.{length}
use Rattle.std.proofs.Math.Seq.{take_at, drop_at}
use Rattle.list_spec.specs.Distinct.{All}
use Rattle.slot_spec.specs.Tree.{slot_length, tree_length}
use Rattle.slot_spec.specs.Slot.{Ranged}
use Rattle.state_spec.specs.declared.Place.{Place}
use Rattle.state_spec.specs.declared.State.{State}
use Rattle.state_spec.specs.Fit.{places_from, used, largest_size, places}
use Rattle.lent_bytes_spec.specs.StateBytes.{places_in, places_bytes}
use Rattle.readout_spec.specs.Seen.{slot_count, most_items, slots_seen, waiting_seen}
use Rattle.readout_spec.specs.Taken.{Entry, entries, report, omitted_in}
use Rattle.readout_spec.specs.File.{file}
use Rattle.readout_spec.specs.ReadOut.{file_of}
use Rattle.lent_bytes_laws.specs.PlaceLaws.{places-read}
use Rattle.survey_laws.specs.Items.{slots_in, mark_at, keys_from, marks_from, good_order, first_sorted, taken_items, cleared, entry_for, omitted_by, all_keys, all_marks, items_file, slots_file}
use Rattle.survey_laws.specs.WaitingSlots.{SlotsShow, slots-show, places-show}
use Rattle.survey_laws.specs.SurveyLaws.{row-length, slots-there, waiting-there, keys, marks, taken, survey-entries, survey-report}

-- ---- lengths
-- A tree has slots, and no store too many.
pub tree-slots : (size : ℕ) (tree : List ℕ) → length tree ≡ tree_length size → (slots_in tree ≡ slot_count size) × (length tree ≡ slot_length * slots_in tree)
tree-slots size tree sized = (omega (arith, sized), omega (arith, sized))

pub few-items : (size count : ℕ) → size ≤ largest_size → count ≤ places → slot_count size + count ≤ most_items
few-items size count small few =
    let p : 2 ^ (size + 1) ≤ 2 ^ 9 = pow_mono {i = size + 1} {j = 9} (omega (arith, small)) in
    omega (arith, p, few)

-- ---- the file
-- With slots that show the waiting places.
module _ (s : State) (tree : List ℕ) (sized : length tree ≡ tree_length s.size) (waiting : List ℕ) (shown : SlotsShow s.size (used s) waiting) where
  abbrev k : ℕ
  k = s.size

  abbrev there : slots_in tree ≡ slot_count k
  there = slots-there k tree sized (used s) waiting shown

  abbrev places-there : slots_in waiting ≡ length (used s)
  places-there = waiting-there k tree sized (used s) waiting shown

  same_keys : keys k tree sized (used s) waiting shown ≡ all_keys tree waiting
  unfolding all_keys
  same_keys = sym (ap₂ (λ (n m : ℕ). keys_from tree n 0 ++ keys_from waiting m 0) there places-there)

  same-marks : marks k tree sized (used s) waiting shown ≡ all_marks k tree waiting
  unfolding all_marks
  same-marks = sym (ap₂ (λ (n m : ℕ). marks_from true k tree n 0 ++ marks_from false k waiting m 0) there places-there)

  same_taken : taken k tree sized (used s) waiting shown ≡ taken_items (slots_in tree) (all_keys tree waiting) (all_marks k tree waiting)
  unfolding good_order first_sorted
  same_taken =
      let m = marks_from true k tree (slot_count k) 0 in
      let w = marks_from false k waiting (length (used s)) 0 in
      let n : length m ≡ slot_count k = row-length (mark_at true k tree) (slot_count k) 0 in
      rw (← same_keys, ← same-marks, there, drop_at m w (slot_count k) n, take_at m w (slot_count k) n)

  pub shown-file : file_of s tree ≡ slots_file k tree waiting
  unfolding slots_file items_file
  shown-file =
      let e : entries s tree ≡ map (entry_for (keys k tree sized (used s) waiting shown) tree waiting) (taken k tree sized (used s) waiting shown) =
      survey-entries k tree sized (used s) waiting shown in
      let r : report s tree ≡ omitted_by 0 (cleared (taken k tree sized (used s) waiting shown) (marks k tree sized (used s) waiting shown)) =
      ap (λ (es : List Entry). omitted_in (map (λ (x : Entry). x.place) es) (slots_seen s tree ++ waiting_seen s)) e
      ∙ survey-report k tree sized (used s) waiting shown in
      ap₂ file e r ∙ rw (← same_taken, ← same_keys, ← same-marks)

-- With the slots of the waiting places.
pub store-file : (s : State) (tree : List ℕ) → length tree ≡ tree_length s.size → All (λ (p : Place). Ranged p.node) (used s)
    → file_of s tree ≡ slots_file s.size tree (places_bytes (used s))
store-file s tree sized ranged = shown-file s tree sized (places_bytes (used s)) (places-show s.size (used s) ranged)

-- With slots that the state's places are read from, whatever bytes they have.
pub bytes-file : (s : State) (tree slots : List ℕ) → length tree ≡ tree_length s.size → length slots ≡ slot_length * places
    → s.count ≤ places → s.places ≡ places_in places slots
    → file_of s tree ≡ slots_file s.size tree (take (slot_length * s.count) slots)
bytes-file s tree slots sized long few read =
    let n = s.count in
    let e : used s ≡ places_in n slots = ap (places_from n 0) read ∙ places-read places n 0 slots (omega (arith, few)) in
    shown-file s tree sized (take (slot_length * n) slots)
    (rw e (slots-show s.size n slots (omega (arith, few, long))))
