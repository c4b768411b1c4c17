-- A file written into an output buffer, part after part.
use Rattle.std.specs.Prelude.{◌≡◌, refl, ℕ, ◌+◌, ◌-◌, ◌*◌, ◌≤◌, ◌<◌, length, take, drop}
use Rattle.std.proofs.Common.{sym, ◌∙◌, ap, arith, length-append, take_at, drop_at, drop-drop, length-take-le, lt-ltb, le-ltb}
use mathlib.Core.List.{List, ◌++◌, map, map-map, append_assoc}
use Rattle.std.proofs.lemmas.List.{length-map}
use Rattle.slot_spec.specs.LittleEndian.{bytes}
use Rattle.slot_laws.specs.LittleEndianLaws.{length-bytes}
use Rattle.readout_spec.specs.Taken.{Entry}
use Rattle.readout_spec.specs.File.{count_width, report_width, index, values_part, report_part, values_start, report_start, file}
use Rattle.readout_spec.specs.ReadOut.{read_out_leaving, read_out_refusing}
use Rattle.readout_spec.specs.ReadOut.{Written}
use Rattle.survey_laws.specs.Items.{key_in, slots_in, value_in, taken_items, cleared, entry_for, omitted_by, all_keys, all_marks, items_file, slots_file, fitting}
use Rattle.survey_laws.specs.FileLaws.{index-length, values_length, report-length, file-length}

-- ---- a buffer that is too short, or long enough
pub too_short : (f out : List ℕ) (n : ℕ) → length f ≡ n → length out < n → read_out_refusing 15 out ≡ fitting f out
unfolding fitting
too_short f out n e short = rw (lt-ltb (length out) (length f) (omega (arith, e, short)))

pub long-enough : (f out after : List ℕ) (n : ℕ) → length f ≡ n → n ≤ length out → after ≡ f ++ drop n out → read_out_leaving (Written n) after ≡ fitting f out
unfolding fitting
long-enough f out after n e fits written = rw (le-ltb (length out) (length f) (omega (arith, e, fits)), e, written)

-- ---- one part more
next-part : (out done now part : List ℕ) (a b : ℕ) → now ≡ done ++ drop a out → length done ≡ a → a ≤ b → length part ≡ b - a
    → take a now ++ (part ++ drop (b - a) (drop a now)) ≡ (done ++ part) ++ drop b out
next-part out done now part a b e sized low n =
    let s : a + (b - a) ≡ b = omega arith in
    rw (e, take_at done (drop a out) a sized, drop_at done (drop a out) a sized, drop-drop (b - a) a out, s)
    (sym (append_assoc done part (drop b out)))

module _ (tree waiting keys taken marks : List ℕ) (n : ℕ) (told : n ≡ length (omitted_by 0 marks)) where
  abbrev values : ℕ
  values = values_start (length taken)

  abbrev report : ℕ
  report = report_start (length taken)

  abbrev end : ℕ
  end = report + report_width * n

  pub items-length : length (items_file tree waiting keys taken marks) ≡ end
  unfolding items_file
  items-length =
      file-length (map (entry_for keys tree waiting) taken) (omitted_by 0 marks)
      ∙ rw (length-map taken (entry_for keys tree waiting)) (omega (arith, told))

  -- The four parts.
  items-parts : items_file tree waiting keys taken marks
      ≡ ((bytes count_width (length taken) ++ index values (map (key_in keys) taken)) ++ values_part (map (value_in tree waiting) taken)) ++ report_part (omitted_by 0 marks)
  unfolding items_file file
  items-parts =
      let entry = entry_for keys tree waiting in
      rw (length-map taken entry, map-map (λ (e : Entry). e.key) entry taken, map-map (λ (e : Entry). e.value) entry taken)
      (sym (append_assoc (bytes count_width (length taken) ++ index values (map (key_in keys) taken)) (values_part (map (value_in tree waiting) taken)) (report_part (omitted_by 0 marks))
      ∙ append_assoc (bytes count_width (length taken)) (index values (map (key_in keys) taken)) (values_part (map (value_in tree waiting) taken) ++ report_part (omitted_by 0 marks))))

  module _ (out p q r s : List ℕ) (fits : end ≤ length out) (e : p ≡ bytes (length (take count_width out)) (length taken))
      (f : q ≡ index values (map (key_in keys) taken)) (g : r ≡ values_part (map (value_in tree waiting) taken)) (h : s ≡ report_part (omitted_by 0 marks)) where
    -- The buffer after each part.
    abbrev first : List ℕ
    first = p ++ drop count_width out

    abbrev second : List ℕ
    second = take count_width first ++ (q ++ drop (values - count_width) (drop count_width first))

    abbrev third : List ℕ
    third = take values second ++ (r ++ drop (report - values) (drop values second))

    abbrev fourth : List ℕ
    fourth = take report third ++ (s ++ drop (end - report) (drop report third))

    count-length : length p ≡ count_width
    count-length = ap length e ∙ length-bytes (length (take count_width out)) (length taken) ∙ length-take-le count_width out (omega (arith, fits))

    index-count : length q ≡ values - count_width
    index-count = ap length f ∙ index-length values (map (key_in keys) taken) ∙ rw (length-map taken (key_in keys)) (omega arith)

    values-count : length r ≡ report - values
    values-count = ap length g ∙ values_length (map (value_in tree waiting) taken) ∙ rw (length-map taken (value_in tree waiting)) (omega arith)

    report-count : length s ≡ end - report
    report-count = ap length h ∙ report-length (omitted_by 0 marks) ∙ omega (arith, told)

    pub file-written : fourth ≡ items_file tree waiting keys taken marks ++ drop end out
    file-written =
        let two = next-part out p first q count_width values refl count-length (omega arith) index-count in
        let n2 : length (p ++ q) ≡ values = length-append p q ∙ omega (arith, count-length, index-count) in
        let three = next-part out (p ++ q) second r values report two n2 (omega arith) values-count in
        let n3 : length ((p ++ q) ++ r) ≡ report = length-append (p ++ q) r ∙ omega (arith, n2, values-count) in
        let four = next-part out ((p ++ q) ++ r) third s report end three n3 (omega arith) report-count in
        let width : length (take count_width out) ≡ count_width = length-take-le count_width out (omega (arith, fits)) in
        let same : ((p ++ q) ++ r) ++ s ≡ items_file tree waiting keys taken marks = rw (f, g, h, e, width) (sym items-parts) in
        four ∙ ap (λ (xs : List ℕ). xs ++ drop end out) same

-- ---- all of it
pub slots-file : (size : ℕ) (tree waiting keys marks taken left : List ℕ) → keys ≡ all_keys tree waiting → marks ≡ all_marks size tree waiting
    → taken ≡ taken_items (slots_in tree) keys marks → left ≡ cleared (taken_items (slots_in tree) keys marks) marks
    → items_file tree waiting keys taken left ≡ slots_file size tree waiting
unfolding slots_file
slots-file size tree waiting keys marks taken left e f g h = rw (h, g, f, e)
