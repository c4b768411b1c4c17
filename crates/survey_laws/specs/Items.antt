-- A store's slots and waiting places as numbered items, as the code that reads it out holds them: the slots of the tree, then those of
-- the waiting nodes, each by its number, so that an item's place is 32 times its number.
use Rattle.std.specs.Prelude.{ℕ, zero, suc, ◌-◌, ◌/◌, Bool, true, false, List, [], ◌∷◌, ◌++◌, map, eqb, ltb, length, get_or, set, take, drop, replicate}
use Rattle.list_spec.specs.Choice.{pick}
use Rattle.list_spec.specs.Sorting.{sort_by}
use Rattle.slot_spec.specs.Tree.{slot_length}
use Rattle.slot_spec.specs.Slot.{fields_in, read_slot}
use Rattle.slot_spec.specs.declared.Reading.{Reading}
use Rattle.slot_spec.specs.declared.Reading.TheVariants.{Full, Empty, Bad}
use Rattle.readout_spec.specs.Seen.{slot_place, bucket_of, slot_bytes_at}
use Rattle.readout_spec.specs.Taken.{Omitted, Entry, is_bad, is_repeated}
use Rattle.readout_spec.specs.File.{file}
use Rattle.readout_spec.specs.ReadOut.{ReadOutLeft, read_out_refusing, writing}

-- The key of an item; 0 for a number past the keys.
abbrev pub key_in : List ℕ → ℕ → ℕ
key_in keys i = get_or keys i 0

-- The slots that bytes hold.
abbrev pub slots_in : List ℕ → ℕ
slots_in bytes = length bytes / slot_length

-- The bytes of an item; zero bytes for a number past them.
unfoldable pub item_bytes : (tree waiting : List ℕ) → ℕ → List ℕ
item_bytes tree waiting i =
    pick (ltb i (slots_in tree)) (slot_bytes_at tree i)
    (pick (ltb (i - slots_in tree) (slots_in waiting)) (slot_bytes_at waiting (i - slots_in tree)) (replicate slot_length 0))

abbrev pub value_in : (tree waiting : List ℕ) → ℕ → ℕ
value_in tree waiting i = (fields_in (item_bytes tree waiting i)).value

-- ---- marks: the reason for which an item would be reported if it is not taken, 0 if none
-- A waiting place that is empty is bad; its bucket is not asked about, as the root's is on every path.
unfoldable pub mark_of : (in_tree : Bool) → Reading → ℕ
mark_of t (Full n) = is_repeated
mark_of t Bad = is_bad
mark_of true Empty = 0
mark_of false Empty = is_bad

abbrev pub bucket_for : (in_tree : Bool) → ℕ → ℕ
bucket_for in_tree i = pick in_tree (bucket_of i) 1

abbrev pub mark_at : (in_tree : Bool) → (size : ℕ) → List ℕ → ℕ → ℕ
mark_at t k bytes i = mark_of t (read_slot k (bucket_for t i) (slot_bytes_at bytes i))

-- n numbers in a row, from number i on.
unfoldable pub row_from : (ℕ → ℕ) → (n i : ℕ) → List ℕ
row_from f zero i = []
row_from f (suc n) i = f i ∷ row_from f n (suc i)

-- The marks and the keys of n slots from number i on.
abbrev pub marks_from : (in_tree : Bool) → (size : ℕ) → List ℕ → (n i : ℕ) → List ℕ
marks_from t k bytes = row_from (mark_at t k bytes)

abbrev pub key_at : List ℕ → ℕ → ℕ
key_at bytes i = (fields_in (slot_bytes_at bytes i)).key

abbrev pub keys_from : List ℕ → (n i : ℕ) → List ℕ
keys_from bytes = row_from (key_at bytes)

-- The items with a good node, numbered from i on.
unfoldable pub good_from : ℕ → List ℕ → List ℕ
good_from i [] = []
good_from i (m ∷ ms) = pick (eqb m is_repeated) (i ∷ good_from (suc i) ms) (good_from (suc i) ms)

-- ---- what is taken
-- Of a row in order of keys the first of each key; after one with key k, those with another.
module _ {A : Type 0} (key : A → ℕ) where
  unfoldable pub heads_after : ℕ → List A → List A
  heads_after k [] = []
  heads_after k (a ∷ xs) = pick (eqb k (key a)) (heads_after k xs) (a ∷ heads_after (key a) xs)

  unfoldable pub heads : List A → List A
  heads [] = []
  heads (a ∷ xs) = a ∷ heads_after (key a) xs

-- The good items, of marks the first of which are the tree's slots: the waiting ones come first, so that of a key they are taken over
-- the tree's.
unfoldable pub good_order : (slots : ℕ) → List ℕ → List ℕ
good_order slots marks = good_from slots (drop slots marks) ++ good_from 0 (take slots marks)

-- Items in order of their keys, the first of each.
unfoldable pub first_sorted : (keys : List ℕ) → List ℕ → List ℕ
first_sorted keys order = heads (key_in keys) (sort_by (key_in keys) order)

-- The items taken.
abbrev pub taken_items : (slots : ℕ) → (keys marks : List ℕ) → List ℕ
taken_items slots keys marks = first_sorted keys (good_order slots marks)

-- The marks of the items taken are cleared.
unfoldable pub cleared : List ℕ → List ℕ → List ℕ
cleared [] marks = marks
cleared (i ∷ is) marks = cleared is (set marks i 0)

-- The entry of an item.
abbrev pub entry_for : (keys tree waiting : List ℕ) → ℕ → Entry
entry_for keys tree waiting i = record { place = slot_place i; key = key_in keys i; value = value_in tree waiting i }

-- ---- what is reported
unfoldable pub omitted_by : ℕ → List ℕ → List Omitted
omitted_by i [] = []
omitted_by i (m ∷ ms) =
    pick (eqb m 0) (omitted_by (suc i) ms) (record { place = slot_place i; reason = m } ∷ omitted_by (suc i) ms)

-- ---- all of it
-- The keys and the marks of all items.
unfoldable pub all_keys : (tree waiting : List ℕ) → List ℕ
all_keys tree waiting = keys_from tree (slots_in tree) 0 ++ keys_from waiting (slots_in waiting) 0

unfoldable pub all_marks : (size : ℕ) → (tree waiting : List ℕ) → List ℕ
all_marks k tree waiting = marks_from true k tree (slots_in tree) 0 ++ marks_from false k waiting (slots_in waiting) 0

-- The file of the items taken and of the marks left.
unfoldable pub items_file : (tree waiting keys taken marks : List ℕ) → List ℕ
items_file tree waiting keys taken marks = file (map (entry_for keys tree waiting) taken) (omitted_by 0 marks)

-- The file of a tree and the slots of waiting nodes.
unfoldable pub slots_file : (size : ℕ) → (tree waiting : List ℕ) → List ℕ
slots_file k tree waiting =
    items_file tree waiting (all_keys tree waiting) (taken_items (slots_in tree) (all_keys tree waiting) (all_marks k tree waiting))
    (cleared (taken_items (slots_in tree) (all_keys tree waiting) (all_marks k tree waiting)) (all_marks k tree waiting))

-- What is left of an output buffer for a file: 15 where it is too short.
unfoldable pub fitting : List ℕ → List ℕ → ReadOutLeft
fitting f out = pick (ltb (length out) (length f)) (read_out_refusing 15 out) (writing f out)
