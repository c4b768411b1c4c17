-- Tickets and files copied, by hand.
use Rattle.std.specs.Prelude.{ℕ, ◌≡◌, refl, true, false, List, [], ◌∷◌, ◌++◌, map}
use Rattle.slot_spec.specs.LittleEndian.{value}
use Rattle.state_spec.specs.Ticket.{fields_used}
use Rattle.state_spec.proofs.Examples.{full, keyed, valued, bare, every_kind}
use Rattle.ticket_copy_spec.specs.Copy.{ticket_copy, differ, changed, copied, changed_among, file_copy, changed_in}

-- Every kind with both fields, and its copy: get, put, remove; push, pop; add, take; in, out. Each but the put is changed.
pub record Kinds : Type 0 where
  pub map-kinds : map ticket_copy (full 1 ∷ full 2 ∷ full 3 ∷ []) ≡ keyed 1 ∷ full 2 ∷ keyed 3 ∷ []
  pub stack-kinds : map ticket_copy (full 4 ∷ full 5 ∷ []) ≡ valued 4 ∷ bare 5 ∷ []
  pub heap-kinds : map ticket_copy (full 6 ∷ full 7 ∷ []) ≡ valued 6 ∷ bare 7 ∷ []
  pub queue-kinds : map ticket_copy (full 8 ∷ full 9 ∷ []) ≡ valued 8 ∷ bare 9 ∷ []
  pub which-changed : map changed (every_kind full)
      ≡ true ∷ false ∷ true ∷ true ∷ true ∷ true ∷ true ∷ true ∷ true ∷ []
  -- One unused field is enough: a pop's key alone, a pop's value alone.
  pub one_field : map changed (keyed 5 ∷ valued 5 ∷ bare 5 ∷ []) ≡ true ∷ true ∷ false ∷ []

kinds-worked : Kinds
unfolding ticket_copy differ fields_used value
kinds-worked =
    record {
      map-kinds = refl;
      stack-kinds = refl;
      heap-kinds = refl;
      queue-kinds = refl;
      which-changed = refl;
      one_field = refl;
    }

-- Unknown kinds, a pop that lacks its last byte, and an empty end.
pub record Unchanged : Type 0 where
  pub unknown : map ticket_copy (full 0 ∷ full 10 ∷ full 255 ∷ []) ≡ full 0 ∷ full 10 ∷ full 255 ∷ []
  pub short-end : ticket_copy (5 ∷ 7 ∷ 0 ∷ 0 ∷ 1 ∷ 50 ∷ 0 ∷ 0 ∷ 0 ∷ 0 ∷ 0 ∷ 0 ∷ []) ≡ 5 ∷ 7 ∷ 0 ∷ 0 ∷ 1 ∷ 50 ∷ 0 ∷ 0 ∷ 0 ∷ 0 ∷ 0 ∷ 0 ∷ []
  pub no_end : ticket_copy [] ≡ []

unchanged-worked : Unchanged
unfolding ticket_copy fields_used value
unchanged-worked = record { unknown = refl; short-end = refl; no_end = refl }

-- A file of a stray pop, a put, a clean push, an unknown kind, a stray in, and the first three bytes of a pop: two were changed. A file
-- without a whole ticket, and one of no bytes.
abbrev season : List ℕ
season = full 5 ++ (full 2 ++ (valued 4 ++ (full 200 ++ (full 8 ++ (5 ∷ 7 ∷ 8 ∷ [])))))

abbrev season_copy : List ℕ
season_copy = bare 5 ++ (full 2 ++ (valued 4 ++ (full 200 ++ (valued 8 ++ (5 ∷ 7 ∷ 8 ∷ [])))))

pub record Files : Type 0 where
  pub a-season : (file_copy season ≡ season_copy) × (changed_in season ≡ 2)
  pub again : (file_copy season_copy ≡ season_copy) × (changed_in season_copy ≡ 0)
  pub short-alone : (file_copy (5 ∷ 7 ∷ []) ≡ 5 ∷ 7 ∷ []) × (changed_in (5 ∷ 7 ∷ []) ≡ 0)
  pub nothing : (file_copy [] ≡ []) × (changed_in [] ≡ 0)

files-worked : Files
unfolding copied changed_among ticket_copy differ fields_used value
files-worked = record { a-season = (refl, refl); again = (refl, refl); short-alone = (refl, refl); nothing = (refl, refl) }
