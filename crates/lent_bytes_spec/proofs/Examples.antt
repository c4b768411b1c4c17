-- Worked byte states: heads, the queue's keys, slots, and numbers of a tape.
use Rattle.std.specs.Prelude.{◌≡◌, refl, true, false, List, [], ◌∷◌, ◌++◌, map, ℕ, replicate}
use Rattle.slot_spec.specs.LittleEndian.{value, bytes}
use Rattle.slot_spec.specs.Layout.{fields, pack, total}
use Rattle.slot_spec.specs.Slot.{fields_in, fields_of, node_of, encode, all_zero}
use Rattle.slot_spec.specs.declared.Node.{Node}
use Rattle.state_spec.specs.declared.State.{State}
use Rattle.state_spec.specs.Fit.{no_place}
use Rattle.lent_bytes_spec.specs.declared.StateHead.{StateHead}
use Rattle.lent_bytes_spec.specs.Numbers.{numbers_in, numbers_of, numbers_bytes}
use Rattle.lent_bytes_spec.specs.StateBytes.{head_widths, head_length, state_length, head_in, head_bytes, place_in, state_with, head_for, key_fits, slot_sound}

lengths-worked : (total head_widths ≡ head_length) × (state_length ≡ 3248)
unfolding total
lengths-worked = (refl, refl)

-- ---- heads
-- Each number in its place, low byte first: closed with 9, a queue of size 8, root height 1; 260 entries, 5 waiting; root key
-- 16,909,060; root tag 259; tag drawn ahead 262.
abbrev each_byte : List ℕ
each_byte = 9 ∷ 4 ∷ 8 ∷ 1 ∷ 4 ∷ 1 ∷ 5 ∷ 0 ∷ 4 ∷ 3 ∷ 2 ∷ 1 ∷ 3 ∷ 1 ∷ 6 ∷ 1 ∷ []

abbrev each_number : StateHead
each_number = record { mark = 9; structure = 4; size = 8; height = 1; entries = 260; waiting = 5; key = 16909060; tag = 259; ahead = 262 }

-- After document 01's worked push: a stack of size 2, one entry, its root link with height 1, key 1, tag 2.
abbrev pushed_state : State
pushed_state = record { mark = 0; structure = 2; size = 2; entries = 1; root = record { height = 1; key = 1; tag = 2 }; ahead = record { key = 0; tag = 0 }; count = 0; places = [] }

pub record Heads : Type 0 where
  pub reads : head_in (each_byte ++ (7 ∷ [])) ≡ each_number
  pub writes : head_bytes each_number ≡ each_byte
  pub worked-push : head_bytes (head_for pushed_state) ≡ 0 ∷ 2 ∷ 2 ∷ 1 ∷ 1 ∷ 0 ∷ 0 ∷ 0 ∷ 1 ∷ 0 ∷ 0 ∷ 0 ∷ 2 ∷ 0 ∷ 0 ∷ 0 ∷ []
  pub push-reads : state_with (head_in (head_bytes (head_for pushed_state))) [] ≡ pushed_state

heads-worked : Heads
unfolding head_in head_bytes fields pack value bytes
heads-worked = record { reads = refl; writes = refl; worked-push = refl; push-reads = refl }

-- ---- a queue's keys
-- A queue of size 3 with that many entries, root height, root key and tag, and tag drawn ahead.
abbrev queue_head : (height entries key tag ahead : ℕ) → StateHead
queue_head height entries key tag ahead =
    record { mark = 0; structure = 4; size = 3; height = height; entries = entries; waiting = 0; key = key; tag = tag; ahead = ahead }

abbrev queue_state : (height entries key tag next ahead : ℕ) → State
queue_state height entries key tag next ahead =
    record { mark = 0; structure = 4; size = 3; entries = entries; root = record { height = height; key = key; tag = tag }; ahead = record { key = next; tag = ahead }; count = 0; places = [] }

-- Two entries from key 3 on: the next unused key is 5. Without entries root key 5 is the next unused key, and no part of the root link.
-- 4,294,967,293 and two entries: the next unused key is 4,294,967,295, the last one. One more is too large a sum, and so is a sum that 32 bits
-- would make 1. A stack has no such sum.
pub record Queues : Type 0 where
  pub two : state_with (queue_head 1 2 3 6 7) [] ≡ queue_state 1 2 3 6 5 7
  pub two_back : head_for (queue_state 1 2 3 6 5 7) ≡ queue_head 1 2 3 6 7
  pub none : state_with (queue_head 0 0 5 0 0) [] ≡ queue_state 0 0 0 0 5 0
  pub none-back : head_for (queue_state 0 0 0 0 5 0) ≡ queue_head 0 0 5 0 0
  pub sums : map key_fits (queue_head 1 2 4294967293 0 0 ∷ queue_head 1 2 4294967294 0 0 ∷ queue_head 1 2 4294967295 0 0 ∷ queue_head 0 0 4294967295 0 0 ∷ [])
      ≡ true ∷ false ∷ false ∷ true ∷ []
  pub a-stack : key_fits (record { mark = 0; structure = 2; size = 3; height = 1; entries = 2; waiting = 0; key = 4294967295; tag = 0; ahead = 0 }) ≡ true

queues-worked : Queues
queues-worked = record { two = refl; two_back = refl; none = refl; none-back = refl; sums = refl; a-stack = refl }

-- ---- slots
abbrev aNode : Node
aNode = record { key = 1; value = 50; tag = 2; left = record { height = 0; key = 0; tag = 0 }; right = record { height = 0; key = 0; tag = 0 } }

-- An empty slot, a node's, one with flag 2, one with flag 0 and another byte, one with its zero byte set: what each is read as, and which are sound.
abbrev flagged : (flag spare key : ℕ) → List ℕ
flagged flag spare key = flag ∷ 0 ∷ 0 ∷ spare ∷ key ∷ replicate 27 0

pub record Slots : Type 0 where
  pub read : map place_in (replicate 32 0 ∷ encode aNode ∷ flagged 2 0 1 ∷ flagged 0 0 1 ∷ flagged 1 1 1 ∷ [])
      ≡ no_place ∷ record { full = true; node = aNode } ∷ no_place ∷ no_place ∷ no_place ∷ []
  pub sound : map slot_sound (replicate 32 0 ∷ encode aNode ∷ flagged 2 0 1 ∷ flagged 0 0 1 ∷ flagged 1 1 1 ∷ [])
      ≡ true ∷ true ∷ false ∷ false ∷ false ∷ []

slots-worked : Slots
unfolding place_in fields_in fields_of node_of encode fields pack value bytes all_zero
slots-worked = record { read = refl; sound = refl }

-- ---- numbers: 513, 65,535; of an odd number of bytes the last is no number.
pub record Tapes : Type 0 where
  pub reads : numbers_of (1 ∷ 2 ∷ 255 ∷ 255 ∷ []) ≡ 513 ∷ 65535 ∷ []
  pub writes : numbers_bytes (513 ∷ 65535 ∷ []) ≡ 1 ∷ 2 ∷ 255 ∷ 255 ∷ []
  pub odd : numbers_of (1 ∷ 2 ∷ 255 ∷ []) ≡ 513 ∷ []

tapes-worked : Tapes
unfolding numbers_in numbers_bytes value bytes
tapes-worked = record { reads = refl; writes = refl; odd = refl }
