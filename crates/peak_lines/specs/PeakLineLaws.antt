-- The line of a peak is put part by part, and there is room for each.
use Rattle.std.specs.Prelude.{List, [], ◌∷◌, ℕ, ◌+◌, ◌^◌, ◌≤◌, ◌<◌, length}
use Rattle.std.proofs.Common.{arith, length-append}
use Rattle.round_spec.specs.Round.{stash_limit}
use Rattle.walk_spec.specs.Lines.{ascii, newline, numbers, Put}
use Rattle.walk_spec.specs.PeakLines.{named, peak_line}
use Rattle.walk_laws.specs.LinesLaws.{number-length, put_then}

pub named-length : (word : List ℕ) (n : ℕ) → n < 2 ^ 64 → length (named word n) ≤ length word + 21
named-length word n h = omega (arith, length-append word (numbers (n ∷ [])), number-length n 19 (omega arith))

module _ (last largest : ℕ) {a b c d e : List ℕ} {first second third all : ℕ} where
  pub peak-line-put : Put (named (ascii "last") last) 0 a b first → Put (named (ascii " largest") largest) first b c second
      → Put (named (ascii " limit") stash_limit) second c d third → Put (newline ∷ []) third d e all → Put (peak_line last largest) 0 a e all
  unfolding peak_line
  peak-line-put p q r t = put_then p (put_then q (put_then r t))
