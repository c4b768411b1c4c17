-- The file: a count, for each entry its key and its value's offset, the values, the report.
use Rattle.std.specs.Prelude.{ℕ, ◌+◌, ◌*◌, List, [], ◌∷◌, ◌++◌, map, length}
use Rattle.slot_spec.specs.LittleEndian.{bytes}
use Rattle.readout_spec.specs.Taken.{Entry, Omitted}

-- ---- widths in bytes: this is the file layout's one place
abbrev pub count_width : ℕ
count_width = 2

abbrev pub key_width : ℕ
key_width = 4

abbrev pub offset_width : ℕ
offset_width = 4

abbrev pub value_width : ℕ
value_width = 8

abbrev pub place_width : ℕ
place_width = 4

abbrev pub reason_width : ℕ
reason_width = 1

-- A line of the index: a key and an offset. A line of the report: a place and a reason.
abbrev pub index_width : ℕ
index_width = key_width + offset_width

abbrev pub report_width : ℕ
report_width = place_width + reason_width

-- ---- the parts
-- The keys, with the offsets of values that stand in a row from an offset on.
unfoldable pub index : (offset : ℕ) → List ℕ → List ℕ
index offset [] = []
index offset (k ∷ ks) = bytes key_width k ++ (bytes offset_width offset ++ index (offset + value_width) ks)

unfoldable pub values_part : List ℕ → List ℕ
values_part [] = []
values_part (v ∷ vs) = bytes value_width v ++ values_part vs

unfoldable pub report_part : List Omitted → List ℕ
report_part [] = []
report_part (o ∷ os) = bytes place_width o.place ++ (bytes reason_width o.reason ++ report_part os)

-- Where the values of n entries start, and where the report does: offsets count from the file's first byte.
abbrev pub values_start : ℕ → ℕ
values_start n = count_width + index_width * n

abbrev pub report_start : ℕ → ℕ
report_start n = values_start n + value_width * n

unfoldable pub file : List Entry → List Omitted → List ℕ
file es os =
    bytes count_width (length es)
    ++ (index (values_start (length es)) (map (λ (e : Entry). e.key) es)
    ++ (values_part (map (λ (e : Entry). e.value) es) ++ report_part os))
