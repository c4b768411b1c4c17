-- What each turn of the loops adds.
use Rattle.std.specs.Prelude.{◌≡◌, refl, Bool, List, [], ◌++◌, ℕ, ◌+◌, ◌-◌, ◌*◌, ◌/◌, ◌<◌, ◌≤◌, length, take, drop, get_or}
use Rattle.std.proofs.Common.{sym, ◌∙◌, ap, append_assoc, append-nil, arith, take-append-drop, drop_of_length-le, length-append, length-take, length-drop, length-take-le, take_all, take-add, take_at, drop_at}
use Rattle.list_spec.specs.Choice.{pick}
use Rattle.state_spec.specs.declared.Uses.{Uses}
use Rattle.state_spec.specs.Ticket.{kind_in, fields_used}
use Rattle.ticket_copy_spec.specs.Copy.{field_copy, ticket_copy, changed, copied, changed_among, file_copy, changed_in}
use Rattle.ticket_copy_laws.specs.CopyLaws.{field-length, other_length, whole_copy, copy-length}
use Rattle.ticket_copy_laws.specs.PieceLaws.{piecewise, one-ticket, short-end}
use Rattle.tickets.specs.AskedLaws.{first_byte}

-- ---- a ticket
-- The list with other bytes from a place up to another.
abbrev pub put_part : (from to : ℕ) → List ℕ → List ℕ → List ℕ
put_part from to out part = take from out ++ (part ++ drop (to - from) (drop from out))

-- The kind, the key and the value.
pub ticket-written : (t o a b c : List ℕ) (used : Uses) → length t ≡ 13 → length o ≡ 13 → used ≡ fields_used (get_or t 0 0)
    → a ≡ take 1 t → b ≡ field_copy used.key (take 4 (drop 1 t)) → c ≡ field_copy used.value (take 8 (drop 5 t))
    → put_part 5 13 (put_part 1 5 (a ++ drop 1 o) b) c ≡ ticket_copy t
ticket-written t o a b c used h l e ea eb ec =
    let u : used ≡ fields_used (kind_in t) = e ∙ ap fields_used (first_byte t (omega arith)) in
    let na : length a ≡ 1 = ap length ea ∙ length-take 1 t ∙ omega arith in
    let nb : length b ≡ 4 = ap length eb ∙ field-length used.key (take 4 (drop 1 t)) ∙ simp (length-take, length-drop) (omega arith) in
    let n : length (a ++ b) ≡ 5 = length-append a b ∙ omega arith in
    let rest = drop 4 (drop 1 o) in
    let z : drop 8 rest ≡ [] = drop_of_length-le rest {i = 8} (simp length-drop (omega arith)) in
    let second : put_part 1 5 (a ++ drop 1 o) b ≡ (a ++ b) ++ rest =
    rw (take_at a (drop 1 o) 1 na, drop_at a (drop 1 o) 1 na) (sym (append_assoc a b rest)) in
    let third : put_part 5 13 (put_part 1 5 (a ++ drop 1 o) b) c ≡ a ++ (b ++ c) =
    rw (second, take_at (a ++ b) rest 5 n, drop_at (a ++ b) rest 5 n, z, append-nil c) (append_assoc a b c) in
    third ∙ sym (whole_copy t h ∙ rw (← u, ea, eb, ec) refl)

-- ---- a piece
-- The bytes before a place are copied, all of whole tickets, and so many of those were changed.
pub record CopiedTo (piece : List ℕ) (at : ℕ) (out : List ℕ) (count : ℕ) : Type 0 where
  pub tickets : at ≡ 13 * (at / 13)
  pub bytes : take at out ≡ file_copy (take at piece)
  pub number : count ≡ changed_in (take at piece)

pub piece-none : (piece out : List ℕ) → CopiedTo piece 0 out 0
unfolding copied changed_among
piece-none piece out = record { tickets = refl; bytes = refl; number = refl }

module _ (piece out : List ℕ) (at count : ℕ) (same : length out ≡ length piece) (done : CopiedTo piece at out count) where
  module _ (part : List ℕ) (l : at + 13 ≤ length piece) (e : part ≡ ticket_copy (take (at + 13 - at) (drop at piece))) where
    abbrev ticket : List ℕ
    ticket = take 13 (drop at piece)

    width : at + 13 - at ≡ 13
    width = omega arith

    ticket-length : length ticket ≡ 13
    ticket-length = simp (length-take, length-drop) (omega arith)

    front_length : length (take at piece) ≡ 13 * (at / 13)
    front_length = length-take at piece ∙ omega (arith, done.tickets)

    split : take (at + 13) piece ≡ take at piece ++ ticket
    split = take-add at 13 piece

    grown : (file_copy (take at piece ++ ticket) ≡ file_copy (take at piece) ++ file_copy ticket) × (changed_in (take at piece ++ ticket) ≡ changed_in (take at piece) + changed_in ticket)
    grown = piecewise (take at piece) ticket (at / 13) front_length

    part-is : part ≡ ticket_copy ticket
    part-is = e ∙ ap (λ (k : ℕ). ticket_copy (take k (drop at piece))) width

    joined_length : length (take at out ++ part) ≡ at + 13
    joined_length =
        let a : length (take at out) ≡ at = length-take-le at out (omega arith) in
        let b : length part ≡ 13 = ap length part-is ∙ copy-length ticket ∙ ticket-length in
        length-append (take at out) part ∙ omega arith

    joined : take at out ++ part ≡ file_copy (take (at + 13) piece)
    joined = rw (done.bytes, part-is, split, grown.0, (one-ticket ticket ticket-length).0)

    pub piece-more : (b : Bool) → b ≡ changed (take (at + 13 - at) (drop at piece)) → (n : ℕ) → n ≡ pick b 1 0 → CopiedTo piece (at + 13) (put_part at (at + 13) out part) (count + n)
    piece-more b f n g =
        let rest = drop (at + 13 - at) (drop at out) in
        let c : n ≡ changed_in ticket =
        g ∙ ap (λ (x : Bool). pick x 1 0) (f ∙ ap (λ (k : ℕ). changed (take k (drop at piece))) width) ∙ sym (one-ticket ticket ticket-length).1 in
        let m : count + n ≡ changed_in (take at piece) + changed_in ticket = omega (arith, done.number) in
        record {
          tickets = omega (arith, done.tickets);
          bytes = ap (take (at + 13)) (sym (append_assoc (take at out) part rest)) ∙ take_at (take at out ++ part) rest (at + 13) joined_length ∙ joined;
          number = m ∙ sym (ap changed_in split ∙ grown.1);
        }

  pub piece-done : (part : List ℕ) → at ≤ length piece → length piece - at < 13 → part ≡ ticket_copy (take (length piece - at) (drop at piece))
      → (put_part at (length out) out part ≡ file_copy piece) × (count ≡ changed_in piece)
  piece-done part low high e =
      let r : length (drop at piece) ≡ length piece - at = length-drop at piece in
      let o : length (drop at out) ≡ length out - at = length-drop at out in
      let f : length (take at piece) ≡ 13 * (at / 13) = length-take-le at piece low ∙ done.tickets in
      let w = piecewise (take at piece) (drop at piece) (at / 13) f in
      let s = short-end (drop at piece) (omega arith) in
      let j : take at piece ++ drop at piece ≡ piece = take-append-drop at piece in
      let t : take (length piece - at) (drop at piece) ≡ drop at piece = take_all (length piece - at) (drop at piece) (omega arith) in
      let p : part ≡ drop at piece = e ∙ ap ticket_copy t ∙ other_length (drop at piece) (λ q. omega arith) in
      let z : drop (length out - at) (drop at out) ≡ [] = drop_of_length-le (drop at out) {i = length out - at} (omega arith) in
      let n : changed_in piece ≡ changed_in (take at piece) + changed_in (drop at piece) = ap changed_in (sym j) ∙ w.1 in (
        rw (done.bytes, z, p) (ap (λ (l : List ℕ). file_copy (take at piece) ++ l) (append-nil (drop at piece)) ∙ ap (λ (l : List ℕ). file_copy (take at piece) ++ l) (sym s.0) ∙ sym w.0 ∙ ap file_copy j),
        omega (arith, done.number, n, s.1),
      )
