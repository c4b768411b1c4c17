-- A ticket's 13 bytes: kind, key and value, what they ask of each structure, and which fields a kind uses.
use Rattle.std.specs.Prelude.{ℕ, Bool, true, false, not, ◌&&◌, ◌||◌, List, [], ◌∷◌, eqb, take, drop, get_or}
use Rattle.std.proofs.Math.Option.{Option, none, some}
use Rattle.list_spec.specs.Choice.{pick}
use Rattle.slot_spec.specs.LittleEndian.{value}
use Rattle.method_spec.specs.Answer.{Structure, map, stack, heap, queue, Op, get, put, remove, push, pop, add, take as take-smallest, enqueue, dequeue}
use Rattle.state_spec.specs.declared.Uses.{Uses}

abbrev pub ticket_length : ℕ
ticket_length = 13

abbrev pub kind_in : List ℕ → ℕ
kind_in t = value (take 1 t)

-- The bytes of key and value.
abbrev pub key_field : List ℕ → List ℕ
key_field t = take 4 (drop 1 t)

abbrev pub value_field : List ℕ → List ℕ
value_field t = take 8 (drop 5 t)

abbrev pub key_in : List ℕ → ℕ
key_in t = value (key_field t)

abbrev pub value_in : List ℕ → ℕ
value_in t = value (value_field t)

-- "Kinds: 1 get, 2 put, 3 remove (map); 4 push, 5 pop (stack)"; 6 add, 7 take (heap); 8 in, 9 out (queue)
unfoldable pub op_in : (s : Structure) → List ℕ → Option (Op s)
op_in map t =
    pick (eqb (kind_in t) 1) (some (get (key_in t)))
    (pick (eqb (kind_in t) 2) (some (put (key_in t) (value_in t))) (pick (eqb (kind_in t) 3) (some (remove (key_in t))) none))
op_in stack t =
    pick (eqb (kind_in t) 4) (some (push (value_in t))) (pick (eqb (kind_in t) 5) (some pop) none)
op_in heap t =
    pick (eqb (kind_in t) 6) (some (add (value_in t))) (pick (eqb (kind_in t) 7) (some take-smallest) none)
op_in queue t =
    pick (eqb (kind_in t) 8) (some (enqueue (value_in t))) (pick (eqb (kind_in t) 9) (some dequeue) none)

-- 1 map, 2 stack, 3 heap, 4 queue.
abbrev pub structure_of : ℕ → Structure
structure_of n = pick (eqb n 1) map (pick (eqb n 2) stack (pick (eqb n 3) heap queue))

-- "17 when the next unused key is 4,294,967,295 and kind 8 comes": there is no key for a node.
abbrev pub last_key : ℕ
last_key = 4294967295

abbrev pub out_of_keys : {s : Structure} → Op s → (next : ℕ) → Bool
out_of_keys (get key) next = false
out_of_keys (put key value) next = false
out_of_keys (remove key) next = false
out_of_keys (push value) next = false
out_of_keys pop next = false
out_of_keys (add value) next = false
out_of_keys take-smallest next = false
out_of_keys (enqueue value) next = eqb next last_key
out_of_keys dequeue next = false

-- ---- the fields that a kind uses
abbrev pub neither : Uses
neither = record { key = false; value = false }

abbrev pub key_alone : Uses
key_alone = record { key = true; value = false }

abbrev pub value_alone : Uses
value_alone = record { key = false; value = true }

abbrev pub both : Uses
both = record { key = true; value = true }

-- "Get and remove use the key; put uses both; push, add and in use the value; the others use none." By kind, from 0 on; what the fields of
-- an unknown kind are for is not known, so none of them counts as unused.
abbrev pub uses_table : List Uses
uses_table =
    both  -- 0, unknown
    ∷ key_alone  -- 1 get
    ∷ both  -- 2 put
    ∷ key_alone  -- 3 remove
    ∷ value_alone  -- 4 push
    ∷ neither  -- 5 pop
    ∷ value_alone  -- 6 add
    ∷ neither  -- 7 take
    ∷ value_alone  -- 8 in
    ∷ neither  -- 9 out
    ∷ []

unfoldable pub fields_used : (kind : ℕ) → Uses
fields_used kind = get_or uses_table kind both

-- A field that is not used and not zero.
abbrev pub stray : (used : Bool) → (field : ℕ) → Bool
stray used field = not used && not (eqb field 0)

-- "19 when an unused field is not zero"
unfoldable pub stray_fields : List ℕ → Bool
stray_fields t = stray (fields_used (kind_in t)).key (key_in t) || stray (fields_used (kind_in t)).value (value_in t)
