-- How many rounds and draws a call has. Each fact of a structure stands here once, a line for each structure.
use Rattle.std.specs.Prelude.{ℕ, ◌+◌, ◌*◌}
use Rattle.balance_spec.specs.Greatest.{greatest}
use Rattle.method_spec.specs.Answer.{Structure, map, stack, heap, queue}

-- The fetch rounds of a call on a store of a size, and as many put rounds: document 01's F. `greatest k` is its H.
unfoldable pub rounds : Structure → ℕ → ℕ
rounds map k = 3 * greatest k
rounds stack k = 1
rounds heap k = 3 * k
rounds queue k = 1

-- The spare draws of a call: those that no round takes. The first is a new node's tag, the queue's second the next one's, drawn ahead.
unfoldable pub spare : Structure → ℕ
spare map = 1
spare stack = 1
spare heap = 1
spare queue = 2

-- With F fetch rounds: fetch round i takes draw i, spare draw i is draw F + i, put round j takes draw F + spare + j.
abbrev pub spare_draw : (F i : ℕ) → ℕ
spare_draw F i = F + i

abbrev pub put_draw : Structure → (F j : ℕ) → ℕ
put_draw s F j = F + spare s + j

-- The draws of a call.
abbrev pub draws : Structure → ℕ → ℕ
draws s k = 2 * rounds s k + spare s
