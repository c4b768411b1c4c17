-- A read-out over bytes: refused by its length or its head, or read from the slots where they lie.
use Rattle.std.specs.Prelude.{◌≡◌, true, List, ℕ, Result, ◌+◌, ◌-◌, ◌*◌, ◌≤◌, length, take, drop}
use Rattle.std.proofs.Math.Path.{refl, ap}
use Rattle.std.proofs.Common.{sym, ◌∙◌, arith, length-take, length-drop, eq-eqb, ne_eqb}
use Rattle.slot_spec.specs.Tree.{slot_length, tree_length}
use Rattle.state_spec.specs.declared.State.{State}
use Rattle.state_spec.specs.Fit.{largest_size, places}
use Rattle.readout_spec.specs.declared.NoFile.{NoFile}
use Rattle.readout_spec.specs.ReadOut.{ReadOut}
use Rattle.readout_spec.specs.Seen.{most_items}
use Rattle.readout_spec.specs.ReadOut.{ReadOutLeft, number_of, to_read_out, read_out_leaving, read_out, file_of, read_out_number, length_of}
use Rattle.survey_laws.specs.Items.{slots_in, slots_file, fitting}
use Rattle.survey_laws.specs.StoreLaws.{tree-slots, few-items, bytes-file}
use Rattle.store_readout.specs.Refusal.{known_numbers, refusal_of}
use Rattle.store_readout.specs.RefusalLaws.{known-size, refused, passed, some_number}
use Rattle.lent_bytes_spec.specs.declared.StateHead.{StateHead}
use Rattle.lent_bytes_spec.specs.StateBytes.{head_length, state_length, head_in, state_in}
use Rattle.byte_states.specs.PlacesFit.{state_of}
use Rattle.host_spec.specs.Host.{host_reading, read_as, host_read_out}

module _ (state tree out : List ℕ) where
  abbrev h : StateHead
  h = head_in state

  abbrev slots : List ℕ
  slots = drop head_length state

  abbrev s : State
  s = state_of h slots

  abbrev number : ℕ
  number = refusal_of h.mark h.structure h.size h.waiting (length tree)

  same-state : s ≡ state_in state
  unfolding state_in
  same-state = refl

  pub read-bad-length : (length state ≡ state_length → ⊥) → host_reading 18 0 out ≡ host_read_out state tree out
  unfolding host_read_out
  read-bad-length n = rw (ne_eqb (length state) state_length n)

  module _ (sized : length state ≡ state_length) where
    as_read : (l : ReadOutLeft) → l ≡ read_out s tree out → read_as l ≡ host_read_out state tree out
    unfolding host_read_out
    as_read l e = rw (eq-eqb (length state) state_length sized) (ap read_as (e ∙ ap (λ (x : State). read_out x tree out) same-state))

    pub read-refused : (number ≡ 0 → ⊥) → host_reading number 0 out ≡ host_read_out state tree out
    unfolding read_out_number length_of
    read-refused n = as_read _ (refused s tree out n)

    module _ (none : number ≡ 0) where
      checked : (known_numbers h.structure h.size h.waiting ≡ true) × (length tree ≡ tree_length h.size) × (read_out s tree out ≡ fitting (file_of s tree) out)
      checked = passed s tree out none

      pub sizes : (h.size ≤ largest_size) × (h.waiting ≤ places)
      sizes = known-size h.structure h.size h.waiting checked.0

      abbrev waiting : List ℕ
      waiting = take (slot_length * h.waiting) slots

      long : length waiting ≡ slot_length * h.waiting
      long = simp (length-take, length-drop) (omega (arith, sized, sizes.1))

      pub slots-ask : (h.size ≤ 16) × (length tree ≡ slot_length * slots_in tree) × (length waiting ≡ slot_length * slots_in waiting) × (slots_in tree + slots_in waiting ≤ most_items)
      slots-ask =
          let t = tree-slots h.size tree checked.1 in
          (omega (arith, sizes.0), t.1, omega (arith, long), omega (arith, long, t.0, few-items h.size h.waiting sizes.0 sizes.1))

      pub read-file : (r : ReadOut) (after : List ℕ) → read_out_leaving r after ≡ fitting (slots_file h.size tree waiting) out
          → host_reading (read_out_number r) (length_of r) after ≡ host_read_out state tree out
      read-file r after e =
          let slots-long : length slots ≡ slot_length * places = length-drop head_length state ∙ omega (arith, sized) in
          as_read (read_out_leaving r after) (e ∙ ap (λ (f : List ℕ). fitting f out) (sym (bytes-file s tree slots checked.1 slots-long sizes.1 refl)) ∙ sym checked.2)

-- ---- by what the code has: the head that it read, and what its check returned
module _ (state tree out : List ℕ) (g : StateHead) (read : g ≡ head_in state) (sized : length state ≡ state_length) where
  abbrev part : List ℕ
  part = take (head_length + slot_length * g.waiting - head_length) (drop head_length state)

  pub refused-by : (e : NoFile) → number_of e ≡ refusal_of g.mark g.structure g.size g.waiting (length tree) → host_reading (number_of e) 0 out ≡ host_read_out state tree out
  refused-by e h =
      let k : number_of e ≡ number state tree out = rw read at h in
      rw k (read-refused state tree out sized (λ z. some_number e (k ∙ z)))

  module _ (passed : 0 ≡ refusal_of g.mark g.structure g.size g.waiting (length tree)) where
    none : number state tree out ≡ 0
    none = sym (rw read at passed)

    part-is : part ≡ waiting state tree out sized none
    part-is = let e : head_length + slot_length * g.waiting - head_length ≡ slot_length * g.waiting = omega arith in rw (e, read)

    pub few-wait : g.waiting ≤ places
    few-wait = rw read (sizes state tree out sized none).1

    pub part-asks : (g.size ≤ 16) × (length tree ≡ slot_length * slots_in tree) × (length part ≡ slot_length * slots_in part) × (slots_in tree + slots_in part ≤ most_items)
    part-asks = rw (part-is, read) (slots-ask state tree out sized none)

    pub file-by : (r : Result ℕ NoFile) (after : List ℕ) → read_out_leaving (to_read_out r) after ≡ fitting (slots_file g.size tree part) out
        → host_reading (read_out_number (to_read_out r)) (length_of (to_read_out r)) after ≡ host_read_out state tree out
    file-by r after e = read-file state tree out sized none (to_read_out r) after (rw (part-is, read) at e)
