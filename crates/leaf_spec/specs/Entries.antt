-- The entry of a node; what a ticket asks within the widths of its fields; whether there is a key for what it stores.
use Rattle.std.specs.Prelude.{ℕ, suc, ◌^◌, ◌<◌}
use Rattle.method_spec.specs.Node.{Node}
use Rattle.method_spec.specs.Answer.{Structure, Op, get, put, remove, push, pop, add, take, enqueue, dequeue}
use Rattle.method_spec.specs.Plain.{Pair}

abbrev pub pair_of : {T : Type 0} → Node T → Pair
pair_of n = record { key = n.key; value = n.value }

abbrev pub OpFits : {s : Structure} → Op s → Type 0
OpFits (get key) = key < 2 ^ 32
OpFits (put key value) = (key < 2 ^ 32) × (value < 2 ^ 64)
OpFits (remove key) = key < 2 ^ 32
OpFits (push value) = value < 2 ^ 64
OpFits pop = Unit {0}
OpFits (add value) = value < 2 ^ 64
OpFits take = Unit {0}
OpFits (enqueue value) = value < 2 ^ 64
OpFits dequeue = Unit {0}

-- An in takes the next unused key, and the one after it is the next then.
abbrev pub KeyLeft : {s : Structure} → Op s → (next : ℕ) → Type 0
KeyLeft (get key) next = Unit {0}
KeyLeft (put key value) next = Unit {0}
KeyLeft (remove key) next = Unit {0}
KeyLeft (push value) next = Unit {0}
KeyLeft pop next = Unit {0}
KeyLeft (add value) next = Unit {0}
KeyLeft take next = Unit {0}
KeyLeft (enqueue value) next = suc next < 2 ^ 32
KeyLeft dequeue next = Unit {0}
