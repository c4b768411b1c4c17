-- When a queue's root link and what it knows ahead are good, when it has no key left, and which tickets have an unused field that is not zero,
-- on worked numbers.
use Rattle.std.specs.Prelude.{◌≡◌, refl, true, false, ℕ, List, [], ◌∷◌, map}
use Rattle.balance_spec.specs.Least.{least}
use Rattle.balance_spec.specs.Shape.{shaped}
use Rattle.method_spec.specs.Answer.{push, enqueue, dequeue}
use Rattle.state_spec.specs.Fit.{root_good, ahead_good}
use Rattle.slot_spec.specs.LittleEndian.{value}
use Rattle.state_spec.specs.Ticket.{out_of_keys, fields_used, stray_fields}

-- Two entries and next unused key 5: height 1 and key 3. Refused: another key, another height, no link. With next unused key 1 no key
-- will do; key 4,294,967,295 is none, whatever a 32-bit sum makes of it. Without entries only the link that is all zero.
pub record Roots : Type 0 where
  pub two-entries : map (root_good 4 2 5)
      (record { height = 1; key = 3; tag = 0 } ∷ record { height = 1; key = 2; tag = 0 } ∷ record { height = 2; key = 3; tag = 0 }
      ∷ record { height = 0; key = 0; tag = 0 } ∷ [])
      ≡ true ∷ false ∷ false ∷ false ∷ []
  pub below-nought : map (root_good 4 2 1) (record { height = 1; key = 0; tag = 0 } ∷ record { height = 1; key = 4294967295; tag = 0 } ∷ []) ≡ false ∷ false ∷ []
  pub no-entries : map (root_good 4 0 5) (record { height = 0; key = 0; tag = 0 } ∷ record { height = 1; key = 5; tag = 0 } ∷ record { height = 0; key = 5; tag = 0 } ∷ [])
      ≡ true ∷ false ∷ false ∷ []

roots-worked : Roots
unfolding root_good least shaped
roots-worked = record { two-entries = refl; below-nought = refl; no-entries = refl }

-- Size 2. A queue with an entry: tag 3, not 4; without: tag 0 alone. A stack: neither a key nor a tag.
pub record Aheads : Type 0 where
  pub an-entry : map (ahead_good 4 2 1) (record { key = 7; tag = 3 } ∷ record { key = 7; tag = 4 } ∷ []) ≡ true ∷ false ∷ []
  pub no-entry : map (ahead_good 4 2 0) (record { key = 7; tag = 0 } ∷ record { key = 7; tag = 3 } ∷ []) ≡ true ∷ false ∷ []
  pub a-stack : map (ahead_good 2 2 1) (record { key = 0; tag = 0 } ∷ record { key = 1; tag = 0 } ∷ record { key = 0; tag = 1 } ∷ []) ≡ true ∷ false ∷ false ∷ []

aheads-worked : Aheads
unfolding ahead_good
aheads-worked = record { an-entry = refl; no-entry = refl; a-stack = refl }

-- An in alone, at the last key alone.
keys-worked : (out_of_keys (enqueue 7) 4294967295 ≡ true) × (out_of_keys (enqueue 7) 4294967294 ≡ false) × (out_of_keys dequeue 4294967295 ≡ false)
    × (out_of_keys (push 7) 4294967295 ≡ false)
keys-worked = (refl, refl, refl, refl)

-- Tickets of a kind with both fields, with a key alone, with a value alone, and with neither. The first and last byte of a field are not zero.
abbrev pub full : ℕ → List ℕ
full kind = kind ∷ 7 ∷ 0 ∷ 0 ∷ 1 ∷ 50 ∷ 0 ∷ 0 ∷ 0 ∷ 0 ∷ 0 ∷ 0 ∷ 2 ∷ []

abbrev pub keyed : ℕ → List ℕ
keyed kind = kind ∷ 7 ∷ 0 ∷ 0 ∷ 1 ∷ 0 ∷ 0 ∷ 0 ∷ 0 ∷ 0 ∷ 0 ∷ 0 ∷ 0 ∷ []

abbrev pub valued : ℕ → List ℕ
valued kind = kind ∷ 0 ∷ 0 ∷ 0 ∷ 0 ∷ 50 ∷ 0 ∷ 0 ∷ 0 ∷ 0 ∷ 0 ∷ 0 ∷ 2 ∷ []

abbrev pub bare : ℕ → List ℕ
bare kind = kind ∷ 0 ∷ 0 ∷ 0 ∷ 0 ∷ 0 ∷ 0 ∷ 0 ∷ 0 ∷ 0 ∷ 0 ∷ 0 ∷ 0 ∷ []

-- Get, put, remove; push, pop; add, take; in, out.
abbrev pub every_kind : (ℕ → List ℕ) → List (List ℕ)
every_kind ticket =
    ticket 1 ∷ ticket 2 ∷ ticket 3 ∷ ticket 4 ∷ ticket 5 ∷ ticket 6 ∷ ticket 7 ∷ ticket 8 ∷ ticket 9 ∷ []

pub record Strays : Type 0 where
  -- With a key: a map's kinds use it. With a value: put, push, add and in use it. With both: put alone uses both.
  pub a_key : map stray_fields (every_kind keyed) ≡ false ∷ false ∷ false ∷ true ∷ true ∷ true ∷ true ∷ true ∷ true ∷ []
  pub a-value : map stray_fields (every_kind valued) ≡ true ∷ false ∷ true ∷ false ∷ true ∷ false ∷ true ∷ false ∷ true ∷ []
  pub a-key-and-value : map stray_fields (every_kind full) ≡ true ∷ false ∷ true ∷ true ∷ true ∷ true ∷ true ∷ true ∷ true ∷ []
  pub all-zero : map stray_fields (every_kind bare) ≡ false ∷ false ∷ false ∷ false ∷ false ∷ false ∷ false ∷ false ∷ false ∷ []
  -- No field of an unknown kind counts as unused.
  pub unknown : map stray_fields (full 0 ∷ full 10 ∷ full 255 ∷ []) ≡ false ∷ false ∷ false ∷ []

strays-worked : Strays
unfolding stray_fields fields_used value
strays-worked = record { a_key = refl; a-value = refl; a-key-and-value = refl; all-zero = refl; unknown = refl }
