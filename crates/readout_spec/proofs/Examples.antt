-- A worked store of size 1, read out: computed by hand from document 02's words.
use Rattle.std.specs.Prelude.{◌≡◌, refl, ℕ, ◌*◌, true, List, [], ◌∷◌, ◌++◌, drop, replicate}
use Rattle.list_spec.specs.Sorting.{insert_by, sort_by}
use Rattle.slot_spec.specs.LittleEndian.{value, bytes}
use Rattle.slot_spec.specs.Layout.{fields, pack}
use Rattle.slot_spec.specs.Tree.{halvings, among}
use Rattle.slot_spec.specs.Slot.{no_link, fields_in, fields_of, node_of, encode, all_zero, bad, read_slot, well_formed}
use Rattle.slot_spec.specs.declared.Node.{Node}
use Rattle.state_spec.specs.declared.Place.{Place}
use Rattle.state_spec.specs.declared.State.{State}
use Rattle.state_spec.specs.Fit.{places_from, no_place}
use Rattle.readout_spec.specs.ReadOut.{Written, Refused}
use Rattle.readout_spec.specs.Seen.{slots_from, waiting_from}
use Rattle.readout_spec.specs.Taken.{good_at, good_in, others, firsts, omitted_at, omitted_in, Omitted}
use Rattle.readout_spec.specs.File.{index, values_part, report_part, file}
use Rattle.readout_spec.specs.ReadOut.{read_out, read_out_refusing, writing, read_out_number, length_of}
use Rattle.readout_spec.specs.ReadBack.{entries_at, report_at, read_back}
use Rattle.method_spec.specs.Plain.{Pair}

-- ---- the store
abbrev node : (key value tag : ℕ) → Node
node key value tag = record { key = key; value = value; tag = tag; left = no_link; right = no_link }

abbrev waits : (key value tag : ℕ) → Place
waits key value tag = record { full = true; node = node key value tag }

abbrev zeros : ℕ → List ℕ
zeros slots = replicate (32 * slots) 0

-- Buckets 1, 2 and 3, of four slots each. Leaf 0 is bucket 2, leaf 1 bucket 3.
abbrev tree : List ℕ
tree =
    encode (node 5 51 0)  -- slot 0, byte 0: its key waits
    ++ ((7 ∷ replicate 31 0)  -- slot 1, byte 32: bad, its flag is 7
    ++ (zeros 2
    ++ (encode (node 3 30 0)  -- slot 4, byte 128: taken
    ++ (encode (node 9 91 0)  -- slot 5, byte 160: taken
    ++ (zeros 2
    ++ (encode (node 9 90 0)  -- slot 8, byte 256: bad, off the path of leaf 0
    ++ (encode (node 3 31 1)  -- slot 9, byte 288: its key is at a lower place
    ++ zeros 2)))))))

-- Four places within the count: the second is empty, the fourth has the first one's key. The fifth is beyond it.
abbrev store : (mark structure size count : ℕ) → State
store mark structure size count =
    record {
      mark = mark;
      structure = structure;
      size = size;
      entries = 60000;
      root = record { height = 200; key = 1; tag = 9 };
      ahead = record { key = 7; tag = 9 };
      count = count;
      places = waits 7 70 0 ∷ no_place ∷ waits 5 50 1 ∷ waits 7 71 1 ∷ waits 1 1 9 ∷ replicate 96 no_place;
    }

-- ---- its file, of 96 bytes
abbrev expected : List ℕ
expected =
    4 ∷ 0  -- four entries
    ∷ 3 ∷ 0 ∷ 0 ∷ 0 ∷ 34 ∷ 0 ∷ 0 ∷ 0  -- key 3, its value at 34
    ∷ 5 ∷ 0 ∷ 0 ∷ 0 ∷ 42 ∷ 0 ∷ 0 ∷ 0
    ∷ 7 ∷ 0 ∷ 0 ∷ 0 ∷ 50 ∷ 0 ∷ 0 ∷ 0
    ∷ 9 ∷ 0 ∷ 0 ∷ 0 ∷ 58 ∷ 0 ∷ 0 ∷ 0
    ∷ 30 ∷ 0 ∷ 0 ∷ 0 ∷ 0 ∷ 0 ∷ 0 ∷ 0  -- the values
    ∷ 50 ∷ 0 ∷ 0 ∷ 0 ∷ 0 ∷ 0 ∷ 0 ∷ 0
    ∷ 70 ∷ 0 ∷ 0 ∷ 0 ∷ 0 ∷ 0 ∷ 0 ∷ 0
    ∷ 91 ∷ 0 ∷ 0 ∷ 0 ∷ 0 ∷ 0 ∷ 0 ∷ 0
    ∷ 0 ∷ 0 ∷ 0 ∷ 0 ∷ 2  -- byte 0: repeated
    ∷ 32 ∷ 0 ∷ 0 ∷ 0 ∷ 1  -- byte 32: bad
    ∷ 0 ∷ 1 ∷ 0 ∷ 0 ∷ 1  -- byte 256: bad
    ∷ 32 ∷ 1 ∷ 0 ∷ 0 ∷ 2  -- byte 288: repeated
    ∷ 160 ∷ 1 ∷ 0 ∷ 0 ∷ 1  -- waiting place 1, 384 + 32: empty
    ∷ 224 ∷ 1 ∷ 0 ∷ 0 ∷ 2  -- waiting place 3, 384 + 96: repeated
    ∷ []

abbrev pair : (key value : ℕ) → Pair
pair key value = record { key = key; value = value }

abbrev omitted : (place reason : ℕ) → Omitted
omitted place reason = record { place = place; reason = reason }

abbrev out : ℕ → List ℕ
out n = replicate n 165

pub record Worked : Type 0 where
  -- A buffer of 100 bytes keeps its last four; state fields that are not asked about may be anything.
  pub written : read_out (store 8 1 1 4) tree (out 100) ≡ writing expected (out 100)
  pub length-and-rest : writing expected (out 100) ≡ record { result = Written 96; out = expected ++ out 4 }
  -- The numbers, in the order of the checks; none writes a byte.
  pub open-store : read_out (store 0 9 9 102) [] (out 5) ≡ read_out_refusing 14 (out 5)
  pub refused-opening : read_out (store 3 1 1 4) tree (out 100) ≡ read_out_refusing 14 (out 100)
  pub no-structure : read_out (store 9 5 1 4) [] (out 5) ≡ read_out_refusing 2 (out 5)
  pub no_size : read_out (store 9 1 9 4) [] (out 5) ≡ read_out_refusing 2 (out 5)
  pub too-many-wait : read_out (store 9 1 1 102) [] (out 5) ≡ read_out_refusing 2 (out 5)
  pub other_length : read_out (store 9 1 1 4) (drop 1 tree) (out 5) ≡ read_out_refusing 3 (out 5)
  pub too_short : read_out (store 9 1 1 4) tree (out 95) ≡ read_out_refusing 15 (out 95)
  -- The sort keeps those with one number in their order.
  pub stable : sort_by (λ (p : Pair). p.key) (pair 2 1 ∷ pair 1 5 ∷ pair 2 0 ∷ []) ≡ pair 1 5 ∷ pair 2 1 ∷ pair 2 0 ∷ []
  -- What is returned, as two numbers.
  pub two-numbers : (read_out_number (Written 96) ≡ 0) × (length_of (Written 96) ≡ 96) × (read_out_number (Refused 15) ≡ 15) × (length_of (Refused 15) ≡ 0)
  -- Read back: the file alone, or with bytes after it.
  pub read_back_lem : read_back 96 (expected ++ out 4)
      ≡ record {
        entries = pair 3 30 ∷ pair 5 50 ∷ pair 7 70 ∷ pair 9 91 ∷ [];
        report = omitted 0 2 ∷ omitted 32 1 ∷ omitted 256 1 ∷ omitted 288 2 ∷ omitted 416 1 ∷ omitted 480 2 ∷ [];
      }

pub worked : Worked
unfolding read_out file index values_part report_part good_at good_in others firsts omitted_at omitted_in slots_from waiting_from insert_by sort_by places_from read_slot bad well_formed fields_in fields_of node_of encode fields pack value bytes all_zero halvings among entries_at report_at read_back read_out_number length_of
worked =
    record {
      written = refl;
      length-and-rest = refl;
      open-store = refl;
      refused-opening = refl;
      no-structure = refl;
      no_size = refl;
      too-many-wait = refl;
      other_length = refl;
      too_short = refl;
      stable = refl;
      two-numbers = (refl, refl, refl, refl);
      read_back_lem = refl;
    }
