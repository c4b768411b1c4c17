-- A file that was written is read back: its entries without their places, and its report.
use Rattle.std.specs.Prelude.{◌≡◌, refl, ◌⊎◌, Bool, true, false, ◌&&◌, ℕ, zero, suc, ◌+◌, ◌-◌, ◌*◌, ◌/◌, ◌^◌, ◌<◌, ◌≤◌, leb, length, get_or, drop}
use Rattle.std.proofs.Common.{sym, ◌∙◌, ap, subst, inl, inr, ⊎_elim, arith, leb-true, pow_mono, length-take, length-drop, length-append, take_at, drop_at}
use Rattle.std.proofs.Math.Bool.{and-eq-true_iff}
use mathlib.Core.List.Memᴰ
use mathlib.Core.List.{List, [], ◌∷◌, ◌++◌, map, append_assoc, append-nil, Memᴰ}
use Rattle.std.proofs.lemmas.List.{length-map}
use Rattle.std.proofs.Math.ListN.{get_or-map}
use Rattle.list_spec.specs.Distinct.{All}
use Rattle.list_spec.specs.Choice.{pick}
use Rattle.list_laws.specs.PermLaws.{perm-length}
use Rattle.list_laws.specs.SortingLaws.{sort-perm}
use Rattle.slot_spec.specs.LittleEndian.{value, bytes, Bytes}
use Rattle.slot_spec.specs.Layout.{Fit}
use Rattle.slot_spec.specs.Tree.{slot_length, tree_length}
use Rattle.slot_spec.specs.Slot.{fields_of, Ranged}
use Rattle.slot_spec.specs.declared.Node.{Node}
use Rattle.slot_spec.specs.declared.Reading.TheVariants.{Full, Bad}
use Rattle.slot_laws.specs.LittleEndianLaws.{length-bytes, value_read, bytes_take, bytes_drop}
use Rattle.round_laws.specs.NodeLaws.{read-ranged}
use Rattle.state_spec.specs.declared.Place.{Place}
use Rattle.state_spec.specs.declared.State.{State}
use Rattle.state_spec.specs.Fit.{largest_structure, largest_size, in_range, place_good, places, used}
use Rattle.state_spec.specs.Widths.{Widths}
use Rattle.state_laws.specs.FitLaws.{in-range-true}
use Rattle.fitness_laws.specs.FitState.{places-length}
use Rattle.method_spec.specs.Plain.{Pair}
use Rattle.readout_spec.specs.Seen.{Seen, slot_place, bucket_of, slot_count, slot_bytes_at, place_reading, slots_seen, waiting_seen}
use Rattle.readout_spec.specs.Taken.{Entry, pair_of_entry, good, firsts, entries, Omitted, report}
use Rattle.readout_spec.specs.ReadOut.{Written}
use Rattle.readout_spec.specs.ReadOut.{file_of, known, read_out}
use Rattle.readout_spec.specs.File.{count_width, key_width, offset_width, value_width, place_width, reason_width, index_width, report_width, index, values_part, report_part, values_start, report_start, file}
use Rattle.readout_spec.specs.ReadBack.{number_at, entries_at, report_at, count_in, read_back}
use Rattle.readout_laws.specs.SeenLaws.{slot-in, waiting-in, seen_below}
use Rattle.readout_laws.specs.TakenLaws.{taken-length, omitted-place}
use Rattle.readout_laws.specs.Complete.{full-seen, complete}
use Rattle.readout_laws.specs.Outcomes.{was-written}
use Rattle.survey_laws.specs.FileLaws.{index-length, values_length, file-length}

-- What fits the file's widths. The offsets then do: they are below 2 + 16 * 2^16.
pub record InWidths (es : List Entry) (os : List Omitted) : Type 0 where
  pub count : length es < 2 ^ 16
  pub keys : All (λ (e : Entry). e.key < 2 ^ 32) es
  pub values : All (λ (e : Entry). e.value < 2 ^ 64) es
  pub places : All (λ (o : Omitted). o.place < 2 ^ 32) os
  pub reasons : All (λ (o : Omitted). o.reason < 256) os

-- ---- parts of a file
-- A part stands in bytes at an offset.
record Stands (part : List ℕ) (at : ℕ) (bs : List ℕ) : Type 0 where
  before : List ℕ
  after : List ℕ
  whole : bs ≡ before ++ (part ++ after)
  offset : length before ≡ at

-- The parts of what stands there stand one after the other.
left : (xs ys : List ℕ) (at : ℕ) (bs : List ℕ) → Stands (xs ++ ys) at bs → Stands xs at bs
left xs ys at bs s =
    record {
      before = s.before;
      after = ys ++ s.after;
      whole = s.whole ∙ ap (λ (zs : List ℕ). s.before ++ zs) (append_assoc xs ys s.after);
      offset = s.offset;
    }

right : (xs ys : List ℕ) (at n : ℕ) (bs : List ℕ) → length xs ≡ n → Stands (xs ++ ys) at bs → Stands ys (at + n) bs
right xs ys at n bs l s =
    record {
      before = s.before ++ xs;
      after = s.after;
      whole = s.whole ∙ ap (λ (zs : List ℕ). s.before ++ zs) (append_assoc xs ys s.after) ∙ sym (append_assoc s.before xs (ys ++ s.after));
      offset = rw (length-append s.before xs, s.offset, l);
    }

-- A number's bytes, and what stands after them.
number-at : (w v : ℕ) (rest : List ℕ) (at : ℕ) (bs : List ℕ) → v < 256 ^ w → Stands (bytes w v ++ rest) at bs → number_at w at bs ≡ v
number-at w v rest at bs h t =
    let s = left (bytes w v) rest at bs t in
    rw (s.whole, drop_at s.before (bytes w v ++ s.after) at s.offset, take_at (bytes w v) s.after w (length-bytes w v))
    (value_read w v h)

beyond : (w v : ℕ) (rest : List ℕ) (at : ℕ) (bs : List ℕ) → Stands (bytes w v ++ rest) at bs → Stands rest (at + w) bs
beyond w v rest at bs s = right (bytes w v) rest at w bs (length-bytes w v) s

-- ---- the entries
-- Lines of the index that stand somewhere, and the values where the lines say.
entries-back : (es : List Entry) (at offset : ℕ) (bs : List ℕ)
    → Stands (index offset (map (λ (e : Entry). e.key) es)) at bs → Stands (values_part (map (λ (e : Entry). e.value) es)) offset bs
    → offset + value_width * length es < 2 ^ 32
    → All (λ (e : Entry). e.key < 2 ^ 32) es → All (λ (e : Entry). e.value < 2 ^ 64) es
    → entries_at (length es) at bs ≡ map pair_of_entry es
unfolding entries_at index values_part
entries-back [] at offset bs s t low ks vs = refl
entries-back (e ∷ es) at offset bs s t low ks vs =
    let lines : List ℕ = index (offset + value_width) (map (λ (e : Entry). e.key) es) in
    let values : List ℕ = values_part (map (λ (e : Entry). e.value) es) in
    let second = beyond key_width e.key (bytes offset_width offset ++ lines) at bs s in
    let third : Stands lines (at + index_width) bs = subst (λ (n : ℕ). Stands lines n bs) (omega arith) (beyond offset_width offset lines (at + key_width) bs second) in
    rw (
      number-at key_width e.key (bytes offset_width offset ++ lines) at bs (ks e (Memᴰ.head refl)) s,
      number-at offset_width offset lines (at + key_width) bs (omega arith) second,
      number-at value_width e.value values offset bs (vs e (Memᴰ.head refl)) t,
      entries-back es (at + index_width) (offset + value_width) bs third (beyond value_width e.value values offset bs t) (omega arith) (λ b m. ks b (Memᴰ.tail m)) (λ b m. vs b (Memᴰ.tail m)),
    )

-- ---- the report
report-back : (os : List Omitted) (at : ℕ) (bs : List ℕ) → Stands (report_part os) at bs
    → All (λ (o : Omitted). o.place < 2 ^ 32) os → All (λ (o : Omitted). o.reason < 256) os
    → report_at (length os) at bs ≡ os
unfolding report_at report_part
report-back [] at bs s ps rs = refl
report-back (o ∷ os) at bs s ps rs =
    let second = beyond place_width o.place (bytes reason_width o.reason ++ report_part os) at bs s in
    let third : Stands (report_part os) (at + report_width) bs = subst (λ (n : ℕ). Stands (report_part os) n bs) (omega arith) (beyond reason_width o.reason (report_part os) (at + place_width) bs second) in
    rw (
      number-at place_width o.place (bytes reason_width o.reason ++ report_part os) at bs (ps o (Memᴰ.head refl)) s,
      number-at reason_width o.reason (report_part os) (at + place_width) bs (rs o (Memᴰ.head refl)) second,
      report-back os (at + report_width) bs third (λ b m. ps b (Memᴰ.tail m)) (λ b m. rs b (Memᴰ.tail m)),
    )

-- ---- the whole file
-- What a file at the start of bytes says.
record FileSays (es : List Entry) (os : List Omitted) (bs : List ℕ) : Type 0 where
  count : count_in bs ≡ length es
  entries : entries_at (length es) count_width bs ≡ map pair_of_entry es
  report : report_at (length os) (report_start (length es)) bs ≡ os

file-says : (es : List Entry) (os : List Omitted) (bs : List ℕ) → Stands (file es os) 0 bs → InWidths es os → FileSays es os bs
unfolding file
file-says es os bs s h =
    let n = length es in
    let small = h.count in
    let lines : List ℕ = index (values_start n) (map (λ (e : Entry). e.key) es) in
    let values : List ℕ = values_part (map (λ (e : Entry). e.value) es) in
    let l : length lines ≡ index_width * n = index-length (values_start n) (map (λ (e : Entry). e.key) es) ∙ ap (λ (m : ℕ). index_width * m) (length-map es (λ (e : Entry). e.key)) in
    let v : length values ≡ value_width * n = values_length (map (λ (e : Entry). e.value) es) ∙ ap (λ (m : ℕ). value_width * m) (length-map es (λ (e : Entry). e.value)) in
    let body : Stands (lines ++ (values ++ report_part os)) count_width bs = beyond count_width n (lines ++ (values ++ report_part os)) 0 bs s in
    let second : Stands (values ++ report_part os) (values_start n) bs = right lines (values ++ report_part os) count_width (index_width * n) bs l body in
    record {
      count = number-at count_width n (lines ++ (values ++ report_part os)) 0 bs small s;
      entries = entries-back es count_width (values_start n) bs (left lines (values ++ report_part os) count_width bs body) (left values (report_part os) (values_start n) bs second) (omega arith) h.keys h.values;
      report = report-back os (report_start n) bs (right values (report_part os) (values_start n) (value_width * n) bs v second) h.places h.reasons;
    }

starts : (part rest : List ℕ) → Stands part 0 (part ++ rest)
starts part rest = record { before = []; after = rest; whole = refl; offset = refl }

-- A file, with anything after it, is read back.
pub file-read-back : (es : List Entry) (os : List Omitted) (rest : List ℕ) → InWidths es os
    → read_back (length (file es os)) (file es os ++ rest) ≡ record { entries = map pair_of_entry es; report = os }
unfolding read_back
file-read-back es os rest h =
    let r = file-says es os (file es os ++ rest) (starts (file es os) rest) h in
    let l = file-length es os in
    let lines : (length (file es os) - report_start (length es)) / report_width ≡ length os = omega arith in
    rw (r.count, lines, r.entries, r.report)

-- The entry with a number, as its line of the index says it.
entry_at : (n i at : ℕ) (bs : List ℕ) (d : Pair) → i < n → (get_or (entries_at n at bs) i d).value ≡ number_at value_width (number_at offset_width (at + index_width * i + key_width) bs) bs
unfolding entries_at
entry_at zero i at bs d h = let z : ⊥ = omega arith in absurd z
entry_at (suc n) zero at bs d h =
    let e : at + 0 + key_width ≡ at + key_width = omega arith in rw e
entry_at (suc n) (suc i) at bs d h =
    let e : at + index_width * suc i + key_width ≡ at + index_width + index_width * i + key_width = omega arith in
    rw e (entry_at n i (at + index_width) bs d (omega arith))

-- An entry's offset leads to its value.
pub offset-leads : (es : List Entry) (os : List Omitted) (i : ℕ) → i < length es → InWidths es os
    → number_at value_width (number_at offset_width (count_width + index_width * i + key_width) (file es os)) (file es os) ≡ get_or (map (λ (e : Entry). e.value) es) i 0
offset-leads es os i before h =
    let none : Entry = record { place = 0; key = 0; value = 0 } in
    let r = file-says es os (file es os) (subst (Stands (file es os) 0) (append-nil (file es os)) (starts (file es os) [])) h in
    sym (entry_at (length es) i count_width (file es os) (pair_of_entry none) before)
    ∙ ap (λ (ps : List Pair). (get_or ps i (pair_of_entry none)).value) r.entries
    ∙ ap (λ (p : Pair). p.value) (get_or-map pair_of_entry es i none)
    ∙ sym (get_or-map (λ (e : Entry). e.value) es i none)

-- ---- a store's file
-- All that is asked of the numbers of a state: those of the waiting nodes are within their widths.
abbrev pub WaitingRanged : State → Type 0
WaitingRanged s = All (λ (p : Place). Ranged p.node) (used s)

-- The nodes of a machine's store are within their widths: those read from its bytes, and those in its state.
place-node : (k : ℕ) (p : Place) (n : Node) → place_reading k p ≡ Full n → p.node ≡ n
place-node k p n e = go (place_good k p) e
  where
    go : (t : Bool) → pick t (Full p.node) Bad ≡ Full n → p.node ≡ n
    go true e = cc
    go false e = cc

seen-ranged : (s : State) (tree : List ℕ) → Bytes tree → WaitingRanged s → length tree ≡ tree_length s.size → (p : ℕ) (n : Node)
    → Memᴰ (record { place = p; reading = Full n }) (slots_seen s tree ++ waiting_seen s) → Ranged n
seen-ranged s tree bs w l p n m = go (Memᴰ.append_cases (slots_seen s tree) m)
  where
    x : Seen
    x = record { place = p; reading = Full n }

    go : Memᴰ x (slots_seen s tree) ⊎ Memᴰ x (waiting_seen s) → Ranged n
    go (inl t) =
        let r = slot-in s.size tree (slot_count s.size) 0 x t in
        let b = r.below in
        let i = r.number in
        read-ranged s.size (bucket_of i) (slot_bytes_at tree i) n
        (bytes_take slot_length (drop (slot_place i) tree) (bytes_drop (slot_place i) tree bs))
        (simp (length-take, length-drop) (omega arith))
        (sym (ap (λ (y : Seen). y.reading) r.same))
    go (inr t) =
        let r = waiting-in s.size 0 (used s) x t in
        rw (place-node s.size r.place n (sym (ap (λ (y : Seen). y.reading) r.same))) at (w r.place r.there)

-- An entry's numbers are its node's.
ranged-entry : (n : Node) (e : Entry) (p : ℕ) → Ranged n → e ≡ record { place = p; key = n.key; value = n.value } → (e.key < 2 ^ 32) × (e.value < 2 ^ 64)
unfolding Ranged Fit fields_of
ranged-entry n e p h q =
    let k : e.key ≡ n.key = ap (λ (x : Entry). x.key) q in
    let v : e.value ≡ n.value = ap (λ (x : Entry). x.value) q in
    (omega arith, omega arith)

entry-ranged : (s : State) (tree : List ℕ) → Bytes tree → WaitingRanged s → length tree ≡ tree_length s.size → (e : Entry)
    → Memᴰ e (entries s tree) → (e.key < 2 ^ 32) × (e.value < 2 ^ 64)
entry-ranged s tree bs w l e m =
    let f = full-seen s tree e ((complete s tree).entries-good e m) in
    ranged-entry f.node e e.place (seen-ranged s tree bs w l e.place f.node f.there) f.same

reason-small : (s : State) (tree : List ℕ) (o : Omitted) → Memᴰ o (report s tree) → o.reason < 256
reason-small s tree o m =
    ⊎_elim (λ b. let r = b.reason in omega arith) (λ b. let r = b.reason in omega arith) ((complete s tree).only-these o m)

-- The size and the number of waiting places that reading out allows.
known_small : (s : State) → known s ≡ true → (s.size ≤ largest_size) × (s.count ≤ places)
known_small s e =
    let a = (and-eq-true_iff (in_range s.structure largest_structure) (in_range s.size largest_size && leb s.count places)).0 e in
    let b = (and-eq-true_iff (in_range s.size largest_size) (leb s.count places)).0 a.1 in
    ((in-range-true s.size largest_size b.0).1, leb-true s.count places b.1)

-- What a machine's store is read out to fits the file.
pub store-in-widths : (s : State) (tree : List ℕ) → Bytes tree → WaitingRanged s → known s ≡ true → length tree ≡ tree_length s.size
    → InWidths (entries s tree) (report s tree)
store-in-widths s tree bs w k l =
    let small = known_small s k in
    let buckets : 2 ^ (s.size + 1) ≤ 2 ^ (largest_size + 1) = pow_mono {i = s.size + 1} {j = largest_size + 1} (omega arith) in
    let waiting = places-length s.count 0 s.places in
    let sorted = perm-length (sort-perm (λ (e : Entry). e.key) (firsts (good s tree))) in
    let number = taken-length s tree in
    record {
      count = omega arith;
      keys = λ e m. (entry-ranged s tree bs w l e m).0;
      values = λ e m. (entry-ranged s tree bs w l e m).1;
      places = λ o m. let r = seen_below s tree o.place (omitted-place (map (λ (e : Entry). e.place) (entries s tree)) o (slots_seen s tree ++ waiting_seen s) m) in omega arith;
      reasons = reason-small s tree;
    }

-- What was written is read back from the buffer.
pub ranged-read-back : (s : State) (tree out : List ℕ) (n : ℕ) → Bytes tree → WaitingRanged s → (read_out s tree out).result ≡ Written n
    → read_back n (read_out s tree out).out ≡ record { entries = map pair_of_entry (entries s tree); report = report s tree }
ranged-read-back s tree out n bs w e =
    let r = was-written s tree out n e in
    rw (r.file-then-rest, r.file-length)
    (file-read-back (entries s tree) (report s tree) (drop (length (file_of s tree)) out)
    (store-in-widths s tree bs w r.is_known r.tree-length))

-- So it is where the store is one that a machine holds.
pub read_back_lem : (s : State) (tree out : List ℕ) (n : ℕ) → Bytes tree → Widths s → (read_out s tree out).result ≡ Written n
    → read_back n (read_out s tree out).out ≡ record { entries = map pair_of_entry (entries s tree); report = report s tree }
read_back_lem s tree out n bs w = ranged-read-back s tree out n bs w.nodes

-- Each offset of a file that was written leads to its value.
pub offsets-lead : (s : State) (tree out : List ℕ) (n i : ℕ) → Bytes tree → Widths s → (read_out s tree out).result ≡ Written n → i < length (entries s tree)
    → number_at value_width (number_at offset_width (count_width + index_width * i + key_width) (file_of s tree)) (file_of s tree)
    ≡ get_or (map (λ (e : Entry). e.value) (entries s tree)) i 0
offsets-lead s tree out n i bs w e before =
    let r = was-written s tree out n e in
    offset-leads (entries s tree) (report s tree) i before (store-in-widths s tree bs w.nodes r.is_known r.tree-length)
