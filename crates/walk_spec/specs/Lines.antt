-- The lines that the walk program prints, as ASCII.
use Rattle.std.specs.Prelude.{ℕ, zero, suc, ◌+◌, ◌*◌, ◌/◌, ◌%◌, ◌≡◌, List, [], ◌∷◌, ◌++◌, eqb, length}
use Prim.Native.Char.{code}
use Prim.Native.String.{String, [] as nothing, ◌∷◌ as ◌then◌}
use Rattle.std.proofs.Math.Option.{Option, none, some}
use Rattle.std.proofs.lemmas.List.Edits.{sets}
use Rattle.list_spec.specs.Choice.{pick}
use Rattle.method_spec.specs.Answer.{Meaning}
use Rattle.call_spec.specs.Reply.{Reply}
use Rattle.call_spec.specs.Store.{reply_meaning}
use Rattle.state_spec.specs.Fetching.{most_rounds}

-- A text's letters by their numbers.
abbrev pub ascii : String → List ℕ
ascii nothing = []
ascii (c then s) = code c ∷ ascii s

abbrev pub blank : ℕ
blank = 32

abbrev pub newline : ℕ
newline = 10

-- ---- numbers in decimal
abbrev pub digit : ℕ → ℕ
digit d = 48 + d

-- A number's digits, most significant first, up to so many; none for 0.
unfoldable pub leading : ℕ → ℕ → List ℕ
leading zero n = []
leading (suc more) zero = []
leading (suc more) (suc n) = leading more (suc n / 10) ++ (digit (suc n % 10) ∷ [])

-- A number in decimal. The last digit stands in any case, so that 0 is "0"; before it stand no more digits than the number says.
unfoldable pub decimal : ℕ → List ℕ
decimal n = leading n (n / 10) ++ (digit (n % 10) ∷ [])

-- Each number after a blank.
unfoldable pub numbers : List ℕ → List ℕ
numbers [] = []
numbers (n ∷ ns) = (blank ∷ decimal n) ++ numbers ns

-- ---- the line of a call
abbrev pub reply_word : Reply → List ℕ
reply_word r = ascii (reply_meaning r).word

-- "value (0 if none)", or a refusal's number.
abbrev pub value_or_zero : Option ℕ → ℕ
value_or_zero none = 0
value_or_zero (some v) = v

abbrev pub shown : Meaning → ℕ
shown m = pick (eqb m.number 0) (value_or_zero m.value) m.number

abbrev pub reply_shown : Reply → ℕ
reply_shown r = shown (reply_meaning r)

-- "answer word, value (0 if none), leaves; or "refused", the number, leaves"
unfoldable pub line_of : Reply → List ℕ → List ℕ
line_of reply leaves = reply_word reply ++ (numbers (reply_shown reply ∷ leaves) ++ (newline ∷ []))

-- "an end within the first two bytes or within a call prints "short" as the last line"
abbrev pub short_line : List ℕ
short_line = ascii "short\n"

-- A call reveals a leaf in each fetch round and each put round.
abbrev pub most_leaves : ℕ
most_leaves = 2 * most_rounds

-- Leaves are numbers of 16 bits: a word of 8 letters, a value of 20 digits and leaves of 5 digits, each after a blank, and a newline.
abbrev pub longest_line : ℕ
longest_line = 8 + 21 + 6 * most_leaves + 1

-- ---- texts in a lent buffer
-- A text stands at a position of a buffer that is otherwise as it was, and `end` is the position after it.
pub record Put (text : List ℕ) (at : ℕ) (before after : List ℕ) (end : ℕ) : Type 0 where
  pub stands : after ≡ sets before at text
  pub ends : end ≡ at + length text
