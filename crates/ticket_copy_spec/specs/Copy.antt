-- Document 02, change 8: "A small program copies a file of tickets to a second file with such fields zeroed, unknown kinds and a short end
-- unchanged, and prints how many tickets it changed."
use Rattle.std.specs.Prelude.{ℕ, zero, suc, ◌+◌, ◌/◌, Bool, true, false, not, ◌||◌, List, [], ◌∷◌, ◌++◌, eqb, length, take, drop, replicate}
use Rattle.list_spec.specs.Choice.{pick}
use Rattle.state_spec.specs.Ticket.{ticket_length, kind_in, key_field, value_field, fields_used}

-- ---- one ticket
-- A field's bytes, zeroed where the field is not used.
abbrev pub field_copy : (used : Bool) → List ℕ → List ℕ
field_copy used field = pick used field (replicate (length field) 0)

-- Bytes of another length than a ticket's, as a short end, are copied as they are.
unfoldable pub ticket_copy : List ℕ → List ℕ
ticket_copy t =
    pick (eqb (length t) ticket_length)
    (take 1 t ++ (field_copy (fields_used (kind_in t)).key (key_field t) ++ field_copy (fields_used (kind_in t)).value (value_field t)))
    t

-- Whether two lists of bytes differ.
unfoldable pub differ : List ℕ → List ℕ → Bool
differ [] [] = false
differ [] (y ∷ ys) = true
differ (x ∷ xs) [] = true
differ (x ∷ xs) (y ∷ ys) = not (eqb x y) || differ xs ys

-- "A ticket was changed where a byte of it was."
abbrev pub changed : List ℕ → Bool
changed t = differ t (ticket_copy t)

-- ---- a file
-- So many tickets copied, and what follows them as it is; how many of them were changed.
unfoldable pub copied : ℕ → List ℕ → List ℕ
copied zero file = file
copied (suc n) file = ticket_copy (take ticket_length file) ++ copied n (drop ticket_length file)

unfoldable pub changed_among : ℕ → List ℕ → ℕ
changed_among zero file = 0
changed_among (suc n) file = pick (changed (take ticket_length file)) 1 0 + changed_among n (drop ticket_length file)

-- All whole tickets.
abbrev pub file_copy : List ℕ → List ℕ
file_copy file = copied (length file / ticket_length) file

abbrev pub changed_in : List ℕ → ℕ
changed_in file = changed_among (length file / ticket_length) file
