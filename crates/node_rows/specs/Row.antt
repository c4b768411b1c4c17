-- Rows of nodes: their places and words, and where a link stands, as a word.
use Rattle.std.specs.Prelude.{ℕ, ◌*◌, ◌/◌, ◌%◌, List, map, eqb, take}
use Rattle.list_spec.specs.Choice.{pick}
use Rattle.method_spec.specs.Prog.{From, root, side}
use Rattle.held_keys.specs.Held.{most_held}

-- The places of a row, its words, and the most fetches of a call.
abbrev pub places : ℕ
places = 34

abbrev pub words : ℕ
words = 4 * places

abbrev pub fetches : ℕ
fetches = most_held

-- 0: the root link. Else the key in 32 bits above the lowest, which is 1 for the left side.
unfoldable pub from_in : ℕ → From
from_in x = pick (eqb x 0) root (side (x / 2 % 4294967296) (eqb (x % 2) 1))

-- Where the links to the first n fetched nodes stood.
abbrev pub froms_in : ℕ → List ℕ → List From
froms_in n ws = map from_in (take n ws)
