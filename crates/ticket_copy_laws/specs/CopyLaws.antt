-- One ticket's copy: which bytes stay, whether it was changed, and what it asks.
use Rattle.std.specs.Prelude.{◌≡◌, Bool, true, false, not, ◌||◌, List, [], ◌∷◌, ◌++◌, ◌↔◌, ◌⊎◌, ℕ, zero, suc, ◌+◌, ◌*◌, ◌≤◌, ◌<◌, eqb, length, take, drop, replicate}
use Rattle.std.proofs.Math.Path.{refl}
use Rattle.std.proofs.Common.{sym, ◌∙◌, ap, ⊎_elim, arith, eq-eqb, ne_eqb, eqb-true, length-append, length-take, length-drop, take-append-drop, take_all, take_at, drop_at, drop-drop}
use Rattle.std.proofs.lemmas.Bool.{eqb-false}
use Rattle.std.proofs.lemmas.List.{length-replicate}
use Rattle.std.proofs.Math.ListN.{get_or-eq_default}
use Rattle.list_spec.specs.Choice.{pick}
use Rattle.slot_spec.specs.LittleEndian.{value}
use Rattle.method_spec.specs.Answer.{Structure, map, stack, heap, queue}
use Rattle.state_spec.specs.Ticket.{ticket_length, kind_in, key_field, value_field, key_in, value_in, op_in, both, uses_table, fields_used, stray, stray_fields}
use Rattle.ticket_copy_spec.specs.Copy.{field_copy, ticket_copy, differ, changed}

-- ---- bytes that differ
pub differ_same : (xs : List ℕ) → differ xs xs ≡ false
unfolding differ
differ_same [] = refl
differ_same (x ∷ xs) = rw (eq-eqb x x refl) (differ_same xs)

pub differ-none : (xs ys : List ℕ) → differ xs ys ≡ false → xs ≡ ys
unfolding differ
differ-none [] [] h = refl
differ-none [] (y ∷ ys) h = let z : ◌≡◌ {A = ℕ} 0 1 = cc in absurd (omega arith)
differ-none (x ∷ xs) [] h = let z : ◌≡◌ {A = ℕ} 0 1 = cc in absurd (omega arith)
differ-none (x ∷ xs) (y ∷ ys) h = go (differ-none xs ys) (eqb x y) refl h
  where
    go : (differ xs ys ≡ false → xs ≡ ys) → (b : Bool) → eqb x y ≡ b → (not b || differ xs ys) ≡ false → x ∷ xs ≡ y ∷ ys
    go more true e g = rw (eqb-true x y e, more g)
    go more false e g = let z : ◌≡◌ {A = ℕ} 0 1 = cc in absurd (omega arith)

differ-append : (xs ys us vs : List ℕ) → length xs ≡ length ys → differ (xs ++ us) (ys ++ vs) ≡ (differ xs ys || differ us vs)
unfolding differ
differ-append [] [] us vs h = refl
differ-append [] (y ∷ ys) us vs h = let z : ⊥ = omega arith in absurd z
differ-append (x ∷ xs) [] us vs h = let z : ⊥ = omega arith in absurd z
differ-append (x ∷ xs) (y ∷ ys) us vs h = rw (differ-append xs ys us vs (omega arith)) (go (not (eqb x y)))
  where
    go : (b : Bool) → (b || (differ xs ys || differ us vs)) ≡ ((b || differ xs ys) || differ us vs)
    go true = refl
    go false = refl

-- ---- a field
pub value-zeroes : (n : ℕ) → value (replicate n 0) ≡ 0
unfolding value
value-zeroes zero = refl
value-zeroes (suc n) = let h : value (replicate n 0) ≡ 0 = value-zeroes n in omega arith

pub field-length : (used : Bool) (field : List ℕ) → length (field_copy used field) ≡ length field
field-length true field = refl
field-length false field = length-replicate (length field) 0

-- Bytes differ from zeroes exactly if their number is not zero.
differ-zeroes : (field : List ℕ) → differ field (replicate (length field) 0) ≡ not (eqb (value field) 0)
unfolding differ value
differ-zeroes [] = refl
differ-zeroes (b ∷ bs) = rw (differ-zeroes bs) (go (eqb b 0) refl (eqb (value bs) 0) refl)
  where
    go : (s : Bool) → eqb b 0 ≡ s → (t : Bool) → eqb (value bs) 0 ≡ t → (not s || not t) ≡ not (eqb (b + 256 * value bs) 0)
    go true e true f =
        let x : b ≡ 0 = eqb-true b 0 e in
        let y : value bs ≡ 0 = eqb-true (value bs) 0 f in
        ap not (sym (eq-eqb (b + 256 * value bs) 0 (omega arith)))
    go true e false f = ap not (sym (ne_eqb (b + 256 * value bs) 0 (λ q. eqb-false (value bs) 0 f (omega arith))))
    go false e t f = ap not (sym (ne_eqb (b + 256 * value bs) 0 (λ q. eqb-false b 0 e (omega arith))))

field-differs : (used : Bool) (field : List ℕ) → differ field (field_copy used field) ≡ stray used (value field)
field-differs true field = differ_same field
field-differs false field = differ-zeroes field

field-clean : (used : Bool) (field : List ℕ) → stray used (value (field_copy used field)) ≡ false
field-clean true field = refl
field-clean false field = ap not (eq-eqb (value (replicate (length field) 0)) 0 (value-zeroes (length field)))

-- ---- bytes of another length
pub other_length : (t : List ℕ) → (length t ≡ ticket_length → ⊥) → ticket_copy t ≡ t
unfolding ticket_copy
other_length t h = rw (ne_eqb (length t) ticket_length h)

pub changed-other : (t : List ℕ) → (length t ≡ ticket_length → ⊥) → changed t ≡ false
changed-other t h = rw (other_length t h) (differ_same t)

-- ---- a whole ticket
module _ (t : List ℕ) (whole : length t ≡ ticket_length) where
  abbrev key_copy : List ℕ
  key_copy = field_copy (fields_used (kind_in t)).key (key_field t)

  abbrev value_copy : List ℕ
  value_copy = field_copy (fields_used (kind_in t)).value (value_field t)

  kind-length : length (take 1 t) ≡ 1
  kind-length = simp length-take (omega arith)

  key-length : length (key_field t) ≡ 4
  key-length = simp (length-take, length-drop) (omega arith)

  value-length : length (value_field t) ≡ 8
  value-length = simp (length-take, length-drop) (omega arith)

  key-copy-length : length key_copy ≡ 4
  key-copy-length = field-length (fields_used (kind_in t)).key (key_field t) ∙ key-length

  value-copy-length : length value_copy ≡ 8
  value-copy-length = field-length (fields_used (kind_in t)).value (value_field t) ∙ value-length

  pub whole_copy : ticket_copy t ≡ take 1 t ++ (key_copy ++ value_copy)
  unfolding ticket_copy
  whole_copy = rw (eq-eqb (length t) ticket_length whole)

  pub whole_parts : take 1 t ++ (key_field t ++ value_field t) ≡ t
  whole_parts =
      let l : length (drop 5 t) ≤ 8 = simp length-drop (omega arith) in
      let e : value_field t ≡ drop 4 (drop 1 t) = take_all 8 (drop 5 t) l ∙ sym (drop-drop 4 1 t) in
      rw (e, take-append-drop 4 (drop 1 t), take-append-drop 1 t)

  pub changed-is-stray : changed t ≡ stray_fields t
  unfolding stray_fields
  changed-is-stray =
      let k = (fields_used (kind_in t)).key in
      let v = (fields_used (kind_in t)).value in
      let e : differ t (ticket_copy t) ≡ differ (take 1 t ++ (key_field t ++ value_field t)) (take 1 t ++ (key_copy ++ value_copy)) =
      rw (whole_copy, whole_parts) in
      e ∙ differ-append (take 1 t) (take 1 t) (key_field t ++ value_field t) (key_copy ++ value_copy) refl
      ∙ rw (differ_same (take 1 t), differ-append (key_field t) key_copy (value_field t) value_copy (sym (field-length k (key_field t))), field-differs k (key_field t), field-differs v (value_field t))

  -- The copy's fields.
  pub copy-kind : kind_in (ticket_copy t) ≡ kind_in t
  copy-kind = ap value (ap (take 1) whole_copy ∙ take_at (take 1 t) (key_copy ++ value_copy) 1 kind-length)

  after-kind : drop 1 (ticket_copy t) ≡ key_copy ++ value_copy
  after-kind = ap (drop 1) whole_copy ∙ drop_at (take 1 t) (key_copy ++ value_copy) 1 kind-length

  pub copy_key : key_field (ticket_copy t) ≡ key_copy
  copy_key = ap (take 4) after-kind ∙ take_at key_copy value_copy 4 key-copy-length

  pub copy-value : value_field (ticket_copy t) ≡ value_copy
  copy-value =
      let e : drop 5 (ticket_copy t) ≡ value_copy =
      sym (drop-drop 4 1 (ticket_copy t)) ∙ ap (drop 4) after-kind ∙ drop_at key_copy value_copy 4 key-copy-length in
      ap (take 8) e ∙ take_all 8 value_copy (omega (arith, value-copy-length))

  pub copy-clean : stray_fields (ticket_copy t) ≡ false
  unfolding stray_fields
  copy-clean =
      let k = (fields_used (kind_in t)).key in
      let v = (fields_used (kind_in t)).value in
      rw (copy-kind, copy_key, copy-value, field-clean k (key_field t), field-clean v (value_field t))

  pub clean-kept : stray_fields t ≡ false → ticket_copy t ≡ t
  clean-kept h = sym (differ-none t (ticket_copy t) (changed-is-stray ∙ h))

-- ---- bytes of any length
either-length : {P : Type 0} (t : List ℕ) → (length t ≡ ticket_length → P) → ((length t ≡ ticket_length → ⊥) → P) → P
either-length {P} t w o = go (eqb (length t) ticket_length) refl
  where
    go : (b : Bool) → eqb (length t) ticket_length ≡ b → P
    go true e = w (eqb-true (length t) ticket_length e)
    go false e = o (eqb-false (length t) ticket_length e)

pub copy-length : (t : List ℕ) → length (ticket_copy t) ≡ length t
copy-length t = either-length t whole (λ o. ap length (other_length t o))
  where
    whole : length t ≡ ticket_length → length (ticket_copy t) ≡ length t
    whole w =
        let a = kind-length t w in
        let b = key-copy-length t w in
        let c = value-copy-length t w in
        rw (whole_copy t w, length-append, length-append) (omega arith)

-- A ticket was changed exactly if its copy is another.
pub changed-differs : (t : List ℕ) → (changed t ≡ true) ↔ (ticket_copy t ≡ t → ⊥)
changed-differs t = (
  λ h e. let f : changed t ≡ false = rw e (differ_same t) in let z : ◌≡◌ {A = ℕ} 0 1 = cc in omega arith,
  λ n. go n (changed t) refl,
)
  where
    go : (ticket_copy t ≡ t → ⊥) → (b : Bool) → changed t ≡ b → b ≡ true
    go n true e = refl
    go n false e = absurd (n (sym (differ-none t (ticket_copy t) e)))

-- A kind that is not known.
unknown-uses : (kind : ℕ) → (kind ≡ 0) ⊎ (9 < kind) → fields_used kind ≡ both
unfolding fields_used
unknown-uses kind h = ⊎_elim (λ e. rw e) (λ l. get_or-eq_default uses_table both {n = kind} l) h

pub unknown-unchanged : (t : List ℕ) → (kind_in t ≡ 0) ⊎ (9 < kind_in t) → ticket_copy t ≡ t
unknown-unchanged t h = either-length t (λ w. whole_copy t w ∙ rw (unknown-uses (kind_in t) h) (whole_parts t w)) (other_length t)

-- A copy's copy is the same.
pub copy-twice : (t : List ℕ) → ticket_copy (ticket_copy t) ≡ ticket_copy t
copy-twice t =
    either-length t (λ w. clean-kept (ticket_copy t) (copy-length t ∙ w) (copy-clean t w)) (λ o. ap ticket_copy (other_length t o))

-- ---- a copy asks what the ticket asks
same-choice : {A : Type 0} (b : Bool) {x y u v : A} → (b ≡ true → x ≡ y) → u ≡ v → pick b x u ≡ pick b y v
same-choice true f g = f refl
same-choice false f g = g

module _ (t : List ℕ) (whole : length t ≡ ticket_length) where
  -- A kind that uses its key, or its value.
  key-kept : (kind : ℕ) → (fields_used kind).key ≡ true → eqb (kind_in t) kind ≡ true → key_in (ticket_copy t) ≡ key_in t
  key-kept kind h e = ap value (copy_key t whole ∙ rw (eqb-true (kind_in t) kind e, h))

  value-kept : (kind : ℕ) → (fields_used kind).value ≡ true → eqb (kind_in t) kind ≡ true → value_in (ticket_copy t) ≡ value_in t
  value-kept kind h e = ap value (copy-value t whole ∙ rw (eqb-true (kind_in t) kind e, h))

  whole-asks : (st : Structure) → op_in st (ticket_copy t) ≡ op_in st t
  unfolding op_in fields_used
  whole-asks map =
      rw (copy-kind t whole)
      (same-choice (eqb (kind_in t) 1) (λ e. rw (key-kept 1 refl e))
      (same-choice (eqb (kind_in t) 2) (λ e. rw (key-kept 2 refl e, value-kept 2 refl e))
      (same-choice (eqb (kind_in t) 3) (λ e. rw (key-kept 3 refl e)) refl)))
  whole-asks stack = rw (copy-kind t whole) (same-choice (eqb (kind_in t) 4) (λ e. rw (value-kept 4 refl e)) refl)
  whole-asks heap = rw (copy-kind t whole) (same-choice (eqb (kind_in t) 6) (λ e. rw (value-kept 6 refl e)) refl)
  whole-asks queue = rw (copy-kind t whole) (same-choice (eqb (kind_in t) 8) (λ e. rw (value-kept 8 refl e)) refl)

pub copy-asks : (st : Structure) (t : List ℕ) → op_in st (ticket_copy t) ≡ op_in st t
copy-asks st t = either-length t (λ w. whole-asks t w st) (λ o. ap (op_in st) (other_length t o))
