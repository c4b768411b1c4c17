-- Reading a file back: its bytes and its length taken apart again, so that a reader can be written from this page.
use Rattle.std.specs.Prelude.{ℕ, zero, suc, ◌+◌, ◌-◌, ◌/◌, List, [], ◌∷◌, take, drop}
use Rattle.slot_spec.specs.LittleEndian.{value}
use Rattle.method_spec.specs.Plain.{Pair}
use Rattle.readout_spec.specs.Taken.{Omitted}
use Rattle.readout_spec.specs.File.{count_width, key_width, offset_width, value_width, place_width, reason_width, index_width, report_width, report_start}

-- The number of a width at an offset.
abbrev pub number_at : (width offset : ℕ) → List ℕ → ℕ
number_at w at bytes = value (take w (drop at bytes))

-- n entries whose lines of the index start at an offset: each value stands where its line says.
unfoldable pub entries_at : (n at : ℕ) → List ℕ → List Pair
entries_at zero at bytes = []
entries_at (suc n) at bytes =
    record { key = number_at key_width at bytes; value = number_at value_width (number_at offset_width (at + key_width) bytes) bytes }
    ∷ entries_at n (at + index_width) bytes

-- n lines of the report from an offset on.
unfoldable pub report_at : (n at : ℕ) → List ℕ → List Omitted
report_at zero at bytes = []
report_at (suc n) at bytes =
    record { place = number_at place_width at bytes; reason = number_at reason_width (at + place_width) bytes }
    ∷ report_at n (at + report_width) bytes

pub record Read : Type 0 where
  pub entries : List Pair
  pub report : List Omitted

abbrev pub count_in : List ℕ → ℕ
count_in bytes = number_at count_width 0 bytes

-- What the first `length` bytes say. The report ends with them.
unfoldable pub read_back : (length : ℕ) → List ℕ → Read
read_back length bytes =
    record {
      entries = entries_at (count_in bytes) count_width bytes;
      report = report_at ((length - report_start (count_in bytes)) / report_width) (report_start (count_in bytes)) bytes;
    }
