-- The walk program's whole output for an input.
use Rattle.std.specs.Prelude.{ℕ, zero, suc, ◌*◌, ◌≡◌, Bool, true, false, List, [], ◌∷◌, ◌++◌, eqb, length, take, drop, replicate, ⊤, Result, Ok, Err}
use Rattle.state_spec.specs.declared.State.{State}
use Rattle.state_spec.specs.Opening.{Opened, opened}
use Rattle.call_spec.specs.Reply.{Refused}
use Rattle.call_spec.specs.Store.{Ended, called}
use Rattle.walk_spec.specs.declared.Stop.{Stop}
use Rattle.walk_spec.specs.declared.Stop.TheVariants.{End, Short}
use Rattle.walk_spec.specs.Lines.{line_of, short_line}
use Rattle.state_spec.specs.Fetching.{rounds_of, draws_of}
use Rattle.host_spec.specs.Lengths.{tree_lent}
use Rattle.walk_spec.specs.Input.{record_length, ticket_in, tape_in, arrived_of}

-- The call that stands first in the input, with a trace buffer of 2F numbers.
abbrev pub call_in : State → (tree input : List ℕ) → Ended
call_in s tree input =
    called s tree (ticket_in input) (tape_in (draws_of s.structure s.size) input)
    (replicate (2 * rounds_of s.structure s.size) 0)

abbrev pub call_line : Ended → List ℕ
call_line e = line_of e.reply (take e.leaves e.trace)

-- A call's outcome in the state, the tree and a buffer that its line stands at the start of.
pub record Printed (e : Ended) (before : List ℕ) (s : State) (tree after : List ℕ) (end : ℕ) : Type 0 where
  pub state : s ≡ e.state
  pub tree-left : tree ≡ e.tree
  pub ends : end ≡ length (call_line e)
  pub line : after ≡ call_line e ++ drop end before

-- The next call's line and what follows it, "short" where the input ends within the call, and nothing where it ends before.
abbrev pub next_line : Result ⊤ Stop → State → (tree input : List ℕ) → (State → List ℕ → List ℕ → List ℕ) → List ℕ
next_line (Err End) s tree input rest = []
next_line (Err Short) s tree input rest = short_line
next_line (Ok _) s tree input rest =
    call_line (call_in s tree input)
    ++ rest (call_in s tree input).state (call_in s tree input).tree (drop (record_length s.structure s.size) input)

-- The lines of the calls in the input, up to so many.
unfoldable pub call_lines : ℕ → State → (tree input : List ℕ) → List ℕ
call_lines zero s tree input = []
call_lines (suc more) s tree input =
    next_line (arrived_of (length input) (record_length s.structure s.size)) s tree input (call_lines more)

-- "A refused opening prints that line and stops". The input has fewer calls than bytes.
abbrev pub opened_lines : Bool → Opened → List ℕ → List ℕ
opened_lines true o input = call_lines (suc (length input)) o.state o.tree input
opened_lines false o input = line_of (Refused o.state.mark) []

unfoldable pub walked : List ℕ → List ℕ
walked [] = short_line
walked (structure ∷ []) = short_line
walked (structure ∷ size ∷ input) =
    let o = opened structure size (replicate (tree_lent size) 0) in
    opened_lines (eqb o.state.mark 0) o input
