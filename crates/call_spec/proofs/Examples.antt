-- The causes of a refusal, in their order; and each of them the first, while those after it are met too: calls on a queue of size 1 with no key left.
use Rattle.std.specs.Prelude.{ℕ, ◌≡◌, refl, List, [], ◌∷◌, ◌++◌, map, replicate}
use Rattle.std.proofs.Math.Option.{Option, none, some}
use Rattle.list_spec.specs.Ascending.{ascending_from, ascending}
use Rattle.slot_spec.specs.LittleEndian.{value, bytes}
use Rattle.slot_spec.specs.Tree.{tree_length}
use Rattle.method_spec.specs.Answer.{Structure, queue, Op}
use Rattle.method_spec.specs.Rounds.{rounds, spare}
use Rattle.state_spec.specs.declared.State.{State}
use Rattle.state_spec.specs.Fit.{all_of, root_good, ahead_good, fits, head_fits, places_from, places, no_place}
use Rattle.state_spec.specs.Ticket.{op_in, fields_used, stray_fields, last_key}
use Rattle.call_spec.specs.Store.{Check, checks, first_met}

-- Of every call.
pub in_order : (st : Structure) (s : State) (tree ticket tape trace : List ℕ) (asked : Option (Op st))
    → map (λ (c : Check). c.number) (checks st s tree ticket tape trace asked) ≡ 1 ∷ 2 ∷ 3 ∷ 4 ∷ 5 ∷ 19 ∷ 17 ∷ 6 ∷ 7 ∷ []
unfolding checks
in_order st s tree ticket tape trace asked = refl

-- An empty queue of that mark, with those entries in its count, whose next key is the last one.
abbrev keys_gone : (mark entries : ℕ) → State
keys_gone mark entries =
    record {
      mark = mark;
      structure = 4;
      size = 1;
      entries = entries;
      root = record { height = 0; key = 0; tag = 0 };
      ahead = record { key = last_key; tag = 0 };
      count = 0;
      places = replicate places no_place;
    }

abbrev ticket : (kind key number : ℕ) → List ℕ
ticket kind key number = bytes 1 kind ++ (bytes 4 key ++ bytes 8 number)

abbrev tree : List ℕ
tree = replicate (tree_length 1) 0

abbrev first : State → (tree ticket tape trace : List ℕ) → Option ℕ
first s tree ticket tape trace = first_met (checks queue s tree ticket tape trace (op_in queue ticket))

pub record Firsts : Type 0 where
  pub closed : first (keys_gone 8 2) [] [] [] [] ≡ some 1
  pub unfit : first (keys_gone 0 2) [] [] [] [] ≡ some 2
  pub other-tree : first (keys_gone 0 0) [] [] [] [] ≡ some 3
  pub other-ticket : first (keys_gone 0 0) tree [] [] [] ≡ some 4
  -- A pop with a key and a value; an in with a key; an in; an out.
  pub foreign-kind : first (keys_gone 0 0) tree (ticket 5 1 7) [] [] ≡ some 5
  pub stray-key : first (keys_gone 0 0) tree (ticket 8 1 7) [] [] ≡ some 19
  pub no_key : first (keys_gone 0 0) tree (ticket 8 0 7) [] [] ≡ some 17
  pub short-tape : first (keys_gone 0 0) tree (ticket 9 0 0) (replicate 3 0) [] ≡ some 6
  pub short-trace : first (keys_gone 0 0) tree (ticket 9 0 0) (replicate 4 0) (0 ∷ []) ≡ some 7
  pub passes : first (keys_gone 0 0) tree (ticket 9 0 0) (replicate 4 0) (0 ∷ 0 ∷ []) ≡ none

firsts : Firsts
unfolding checks first_met fits head_fits all_of ascending_from ascending root_good ahead_good places_from op_in fields_used stray_fields rounds spare value bytes
firsts =
    record {
      closed = refl;
      unfit = refl;
      other-tree = refl;
      other-ticket = refl;
      foreign-kind = refl;
      stray-key = refl;
      no_key = refl;
      short-tape = refl;
      short-trace = refl;
      passes = refl;
    }
