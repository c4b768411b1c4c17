-- A file's copy: as long as the file, piece by piece, and the same a second time.
use Rattle.std.specs.Prelude.{◌≡◌, refl, Bool, true, false, take, drop}
use Rattle.std.proofs.Common.{sym, ◌∙◌, ap, suc-add, length-append, length-take, take-append-drop, drop_of_length-le, take_all, take_at, drop_at}
use mathlib.Core.List.{List, [], ◌∷◌, ◌++◌, append_assoc, append-nil}
use Prim.Native.Nat.{ℕ, zero, suc, ◌+◌, ◌*◌, ◌/◌, ◌≤◌, ◌<◌}
use Rattle.std.proofs.Math.Nat.{zero-add}
use native.Mathlib.Omega.{arith}
use Rattle.std.proofs.Math.ListN.{length, length-drop}
use Rattle.std.proofs.Math.Seq.{take-append-le, drop-append-le}
use Rattle.list_spec.specs.Choice.{pick}
use Rattle.state_spec.specs.Ticket.{ticket_length}
use Rattle.ticket_copy_spec.specs.Copy.{ticket_copy, changed, copied, changed_among, file_copy, changed_in}
use Rattle.ticket_copy_laws.specs.CopyLaws.{differ_same, copy-length, copy-twice}

-- ---- so many tickets
copied-length : (n : ℕ) (file : List ℕ) → length (copied n file) ≡ length file
unfolding copied
copied-length zero file = refl
copied-length (suc n) file =
    let a : length (ticket_copy (take ticket_length file)) ≡ length (take ticket_length file) = copy-length (take ticket_length file) in
    let b : length (copied n (drop ticket_length file)) ≡ length (drop ticket_length file) = copied-length n (drop ticket_length file) in
    let c : length (take ticket_length file ++ drop ticket_length file) ≡ length file = ap length (take-append-drop ticket_length file) in
    let d : length (take ticket_length file ++ drop ticket_length file) ≡ length (take ticket_length file) + length (drop ticket_length file) = length-append (take ticket_length file) (drop ticket_length file) in
    length-append (ticket_copy (take ticket_length file)) (copied n (drop ticket_length file)) ∙ omega arith

-- A piece of n tickets, and what follows.
module _ (rest : List ℕ) (m : ℕ) where
  pub copied-append : (n : ℕ) (p : List ℕ) → length p ≡ ticket_length * n → copied (n + m) (p ++ rest) ≡ copied n p ++ copied m rest
  unfolding copied
  copied-append zero [] h = rw zero-add
  copied-append zero (x ∷ xs) h = absurd (omega arith)
  copied-append (suc n) p h =
      let l : ticket_length ≤ length p = omega arith in
      let r : length (drop ticket_length p) ≡ ticket_length * n = length-drop ticket_length p ∙ omega arith in
      rw (suc-add, take-append-le ticket_length p rest l, drop-append-le ticket_length p rest l, copied-append n (drop ticket_length p) r) (sym (append_assoc (ticket_copy (take ticket_length p)) (copied n (drop ticket_length p)) (copied m rest)))

  pub changed-append : (n : ℕ) (p : List ℕ) → length p ≡ ticket_length * n → changed_among (n + m) (p ++ rest) ≡ changed_among n p + changed_among m rest
  unfolding changed_among
  changed-append zero [] h = rw (zero-add m) (omega arith)
  changed-append zero (x ∷ xs) h = absurd (omega arith)
  changed-append (suc n) p h =
      let l : ticket_length ≤ length p = omega arith in
      let r : length (drop ticket_length p) ≡ ticket_length * n = length-drop ticket_length p ∙ omega arith in
      rw (suc-add, take-append-le ticket_length p rest l, drop-append-le ticket_length p rest l, changed-append n (drop ticket_length p) r) (omega arith)

at_most_one : (b : Bool) → pick b 1 0 ≤ 1
at_most_one true = omega arith
at_most_one false = omega arith

changed-among-most : (n : ℕ) (file : List ℕ) → changed_among n file ≤ n
unfolding changed_among
changed-among-most zero file = omega arith
changed-among-most (suc n) file = omega (arith, at_most_one (changed (take ticket_length file)), changed-among-most n (drop ticket_length file))

-- ---- a file
pub changed-most : (file : List ℕ) → changed_in file ≤ length file / ticket_length
changed-most file = changed-among-most (length file / ticket_length) file

pub file-length : (file : List ℕ) → length (file_copy file) ≡ length file
file-length file = copied-length (length file / ticket_length) file

pub piecewise : (p rest : List ℕ) (n : ℕ) → length p ≡ ticket_length * n
    → (file_copy (p ++ rest) ≡ file_copy p ++ file_copy rest) × (changed_in (p ++ rest) ≡ changed_in p + changed_in rest)
piecewise p rest n h =
    let a : length (p ++ rest) / ticket_length ≡ n + length rest / ticket_length = rw length-append (omega arith) in
    let b : length p / ticket_length ≡ n = omega arith in
    (rw (a, b) (copied-append rest (length rest / ticket_length) n p h), rw (a, b) (changed-append rest (length rest / ticket_length) n p h))

-- One ticket, and a short end.
pub one-ticket : (t : List ℕ) → length t ≡ ticket_length → (file_copy t ≡ ticket_copy t) × (changed_in t ≡ pick (changed t) 1 0)
unfolding copied changed_among
one-ticket t h =
    let n : length t / ticket_length ≡ 1 = omega arith in
    let a : take ticket_length t ≡ t = take_all ticket_length t (omega arith) in
    let b : drop ticket_length t ≡ [] = drop_of_length-le t {i = ticket_length} (omega arith) in
    (rw (n, a, b, append-nil), rw (n, a) (omega arith))

pub short-end : (file : List ℕ) → length file < ticket_length → (file_copy file ≡ file) × (changed_in file ≡ 0)
unfolding copied changed_among
short-end file h = let e : length file / ticket_length ≡ 0 = omega arith in (rw e, rw e)

-- ---- a copy's copy
copied-twice : (n : ℕ) (file : List ℕ) → ticket_length * n ≤ length file → (copied n (copied n file) ≡ copied n file) × (changed_among n (copied n file) ≡ 0)
unfolding copied changed_among
copied-twice zero file h = (refl, refl)
copied-twice (suc n) file h =
    let t = take ticket_length file in
    let more = copied-twice n (drop ticket_length file) (rw length-drop (omega arith)) in
    let l : length (ticket_copy t) ≡ ticket_length = copy-length t ∙ length-take ticket_length file ∙ omega arith in
    let a : take ticket_length (ticket_copy t ++ copied n (drop ticket_length file)) ≡ ticket_copy t = take_at (ticket_copy t) (copied n (drop ticket_length file)) ticket_length l in
    let b : drop ticket_length (ticket_copy t ++ copied n (drop ticket_length file)) ≡ copied n (drop ticket_length file) = drop_at (ticket_copy t) (copied n (drop ticket_length file)) ticket_length l in
    (rw (a, b, copy-twice t, more.0), rw (a, b, copy-twice t, differ_same (ticket_copy t), more.1))

pub file-twice : (file : List ℕ) → (file_copy (file_copy file) ≡ file_copy file) × (changed_in (file_copy file) ≡ 0)
file-twice file = rw (file-length file) (copied-twice (length file / ticket_length) file (omega arith))
