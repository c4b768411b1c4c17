-- Words and the slots that they hold: their number, one slot's four words, and four stores as one.
use Rattle.std.specs.Prelude.{◌≡◌, refl, ℕ, zero, suc, ◌+◌, ◌*◌, ◌<◌, List, [], ◌∷◌, map, length, get_or, set}
use Rattle.std.proofs.Common.{sym, ◌∙◌, ap, arith, length-set}
use Rattle.std.proofs.lemmas.List.{length-map}
use Rattle.std.proofs.Math.ListN.{get_or-map}
use Rattle.slot_spec.specs.declared.Node.{Node}
use Rattle.slot_spec.specs.declared.Slot.{Slot}
use Rattle.slot_spec.specs.Layout.{fields}
use Rattle.slot_spec.specs.LittleEndian.{value, bytes}
use Rattle.slot_spec.specs.Slot.{no_node, fields_in, node_of, slot_bytes, slot_of, Ranged}
use Rattle.slot_laws.specs.SlotLaws.{node-fields, fields-encoded, slot-encoded}
use Rattle.slot_spec.specs.Row.{slots_of, zero_slot, node_from, nodes_from}

pub slots_length : (n : ℕ) (ws : List ℕ) → length ws ≡ 4 * n → length (slots_of ws) ≡ n
unfolding slots_of
slots_length zero [] h = refl
slots_length zero (a ∷ ws) h = let z : ⊥ = omega arith in absurd z
slots_length (suc n) [] h = let z : ⊥ = omega arith in absurd z
slots_length (suc n) (a ∷ []) h = let z : ⊥ = omega arith in absurd z
slots_length (suc n) (a ∷ b ∷ []) h = let z : ⊥ = omega arith in absurd z
slots_length (suc n) (a ∷ b ∷ c ∷ []) h = let z : ⊥ = omega arith in absurd z
slots_length (suc n) (a ∷ b ∷ c ∷ d ∷ ws) h = ap suc (slots_length n ws (omega arith))

-- The four words of a place.
abbrev pub slot_at : List ℕ → ℕ → Slot
slot_at ws j = record { a = get_or ws j 0; b = get_or ws (j + 1) 0; c = get_or ws (j + 2) 0; d = get_or ws (j + 3) 0 }

past : (i : ℕ) → 4 * suc i ≡ suc (suc (suc (suc (4 * i))))
past i = omega arith

pub slot-got : (i : ℕ) (ws : List ℕ) → 4 * i + 3 < length ws → slot_at ws (4 * i) ≡ get_or (slots_of ws) i zero_slot
unfolding slots_of
slot-got i [] h = let z : ⊥ = omega arith in absurd z
slot-got i (a ∷ []) h = let z : ⊥ = omega arith in absurd z
slot-got i (a ∷ b ∷ []) h = let z : ⊥ = omega arith in absurd z
slot-got i (a ∷ b ∷ c ∷ []) h = let z : ⊥ = omega arith in absurd z
slot-got zero (a ∷ b ∷ c ∷ d ∷ ws) h = refl
slot-got (suc i) (a ∷ b ∷ c ∷ d ∷ ws) h =
    let e1 : 4 * suc i + 1 ≡ suc (suc (suc (suc (4 * i + 1)))) = omega arith in
    let e2 : 4 * suc i + 2 ≡ suc (suc (suc (suc (4 * i + 2)))) = omega arith in
    let e3 : 4 * suc i + 3 ≡ suc (suc (suc (suc (4 * i + 3)))) = omega arith in
    rw (e1, e2, e3, past i) (slot-got i ws (omega arith))

-- Four stores are one.
abbrev pub stored : List ℕ → ℕ → Slot → List ℕ
stored ws j x = set (set (set (set ws j x.a) (j + 1) x.b) (j + 2) x.c) (j + 3) x.d

pub slot-put : (i : ℕ) (ws : List ℕ) (x : Slot) → 4 * i + 3 < length ws → slots_of (stored ws (4 * i) x) ≡ set (slots_of ws) i x
unfolding slots_of
slot-put i [] x h = let z : ⊥ = omega arith in absurd z
slot-put i (a ∷ []) x h = let z : ⊥ = omega arith in absurd z
slot-put i (a ∷ b ∷ []) x h = let z : ⊥ = omega arith in absurd z
slot-put i (a ∷ b ∷ c ∷ []) x h = let z : ⊥ = omega arith in absurd z
slot-put zero (a ∷ b ∷ c ∷ d ∷ ws) x h = refl
slot-put (suc i) (a ∷ b ∷ c ∷ d ∷ ws) x h =
    let e1 : 4 * suc i + 1 ≡ suc (suc (suc (suc (4 * i + 1)))) = omega arith in
    let e2 : 4 * suc i + 2 ≡ suc (suc (suc (suc (4 * i + 2)))) = omega arith in
    let e3 : 4 * suc i + 3 ≡ suc (suc (suc (suc (4 * i + 3)))) = omega arith in
    rw (e1, e2, e3, past i) (ap (λ (l : List Slot). record { a = a; b = b; c = c; d = d } ∷ l) (slot-put i ws x (omega arith)))

pub stored-length : (ws : List ℕ) (j : ℕ) (x : Slot) → length (stored ws j x) ≡ length ws
stored-length ws j x = simp length-set

-- ---- the nodes of a row

-- A node's words hold it.
pub node-from-slot : (n : Node) → Ranged n → node_from (slot_of n) ≡ n
node-from-slot n r = ap node_of (ap fields_in (slot-encoded n r) ∙ fields-encoded n r) ∙ node-fields n

pub zero-holds : node_from zero_slot ≡ no_node
unfolding node_of fields_in fields value bytes slot_bytes
zero-holds = refl

pub row-length : (n : ℕ) (ws : List ℕ) → length ws ≡ 4 * n → length (nodes_from ws) ≡ n
row-length n ws h = length-map (slots_of ws) node_from ∙ slots_length n ws h

-- The node in a place.
pub row-got : (i : ℕ) (ws : List ℕ) → 4 * i + 3 < length ws → node_from (slot_at ws (4 * i)) ≡ get_or (nodes_from ws) i no_node
row-got i ws h =
    ap node_from (slot-got i ws h)
    ∙ sym (get_or-map node_from (slots_of ws) i zero_slot)
    ∙ ap (get_or (nodes_from ws) i) zero-holds

map-set : {A B : Type 0} (f : A → B) (xs : List A) (i : ℕ) (x : A) → map f (set xs i x) ≡ set (map f xs) i (f x)
map-set f [] i x = refl
map-set f (y ∷ xs) zero x = refl
map-set f (y ∷ xs) (suc i) x = ap (λ (l : List _). f y ∷ l) (map-set f xs i x)

-- A node stored in a place.
pub row_put : (i : ℕ) (ws : List ℕ) (n : Node) → Ranged n → 4 * i + 3 < length ws → nodes_from (stored ws (4 * i) (slot_of n)) ≡ set (nodes_from ws) i n
row_put i ws n r h =
    ap (map node_from) (slot-put i ws (slot_of n) h)
    ∙ map-set node_from (slots_of ws) i (slot_of n)
    ∙ ap (set (nodes_from ws) i) (node-from-slot n r)
