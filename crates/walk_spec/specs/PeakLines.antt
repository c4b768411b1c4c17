-- The line that the program `peaks` prints for a call, as ASCII: the call's peak, the largest of the run so far, and the limit.
use Rattle.std.specs.Prelude.{ℕ, List, [], ◌∷◌, ◌++◌}
use Rattle.round_spec.specs.Round.{stash_limit}
use Rattle.walk_spec.specs.Lines.{ascii, newline, numbers}

-- A word and a number.
abbrev pub named : List ℕ → ℕ → List ℕ
named word n = word ++ numbers (n ∷ [])

unfoldable pub peak_line : (last largest : ℕ) → List ℕ
peak_line last largest =
    named (ascii "last") last ++ (named (ascii " largest") largest ++ (named (ascii " limit") stash_limit ++ (newline ∷ [])))
