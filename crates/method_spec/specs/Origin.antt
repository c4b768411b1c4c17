-- The origin rule: the method at tags that say which call and which draw a tag came from. It is fed the structure, the
-- size and the tickets of the calls that count, and nothing else.
use Rattle.std.specs.Prelude.{ℕ, ◌≤◌, ◌<◌, ◌%◌, ◌^◌, List, [], ◌∷◌, length, get_or}
use Rattle.method_spec.specs.Answer.{Structure, Op}
use Rattle.method_spec.specs.Call.{capacity, empty_memory, run, Ran}

-- "a call's number and a draw's"; calls are numbered from 1.
pub record Origin : Type 0 where
  pub call : ℕ
  pub draw : ℕ

abbrev pub drawn : (call draw : ℕ) → Origin
drawn c d = record { call = c; draw = d }

-- "An absent link has none": this stands there, of no call. It is never named (`DrawOnTape`).
abbrev pub no_draw : Origin
no_draw = drawn 0 0

-- What the origin rule does with a list of calls.
unfoldable pub origins : {s : Structure} → (rounds size : ℕ) → List (Op s) → Ran Origin
origins rounds size ops = run no_draw rounds (capacity size) drawn 1 ops (empty_memory no_draw)

-- The draws that the rule names, one for each place.
abbrev pub names : {s : Structure} → (rounds size : ℕ) → List (Op s) → List Origin
names rounds size ops = (origins rounds size ops).revealed

-- The tape that a call brought, by the call's number.
abbrev pub tape_of : List (List ℕ) → (call : ℕ) → List ℕ
tape_of tapes c = get_or ([] ∷ tapes) c []

-- A draw of a call of the list, one that a call uses and that its tape has.
pub record DrawOnTape (draws : ℕ) (tapes : List (List ℕ)) (o : Origin) : Type 0 where
  pub numbered : 1 ≤ o.call
  pub of-the-list : o.call ≤ length tapes
  pub used : o.draw < draws
  pub on-tape : o.draw < length (tape_of tapes o.call)

-- The leaf of a named draw: that draw of the tape that the call brought.
unfoldable pub leaf_of : (size : ℕ) → List (List ℕ) → Origin → ℕ
leaf_of size tapes o = get_or (tape_of tapes o.call) o.draw 0 % 2 ^ size

-- A list of calls over leaves, with the draws of the tapes that the calls bring, from the empty structure.
unfoldable pub leaf_run : {s : Structure} → (rounds size : ℕ) → List (List ℕ) → List (Op s) → Ran ℕ
leaf_run rounds size tapes ops =
    run 0 rounds (capacity size) (λ c d. leaf_of size tapes (drawn c d)) 1 ops (empty_memory 0)
