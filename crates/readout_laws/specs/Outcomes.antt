-- What a result of reading out says: a refusal writes nothing, and where a file was written the checks were passed.
use Rattle.std.specs.Prelude.{◌≡◌, refl, ◌⊎◌, Bool, true, false, not, List, ◌++◌, ℕ, ◌≤◌, eqb, ltb, length, drop}
use Rattle.std.proofs.Common.{inl, inr, arith, eqb-true, ltb-false}
use Rattle.std.proofs.lemmas.Bool.{not-false}
use Rattle.list_spec.specs.Choice.{pick}
use Rattle.slot_spec.specs.Tree.{tree_length}
use Rattle.state_spec.specs.declared.State.{State}
use Rattle.readout_spec.specs.ReadOut.{Written, Refused}
use Rattle.readout_spec.specs.ReadOut.{file_of, closed_mark, known, ReadOutLeft, read_out_refusing, writing, read_out}

-- The four checks and what is left, with each test's value in the place of the test.
abbrev by_tests : (a b c d : Bool) → (bytes out : List ℕ) → ReadOutLeft
by_tests a b c d bytes out =
    pick a (read_out_refusing 14 out) (pick b (read_out_refusing 2 out) (pick c (read_out_refusing 3 out) (pick d (read_out_refusing 15 out) (writing bytes out))))

-- The refusals' numbers.
abbrev RefusalNumber : ℕ → Type 0
RefusalNumber n = (n ≡ 14) ⊎ ((n ≡ 2) ⊎ ((n ≡ 3) ⊎ (n ≡ 15)))

refused-by : (a b c d : Bool) (bytes out : List ℕ) (n : ℕ) → (by_tests a b c d bytes out).result ≡ Refused n → ((by_tests a b c d bytes out).out ≡ out) × RefusalNumber n
refused-by true b c d bytes out n e = (refl, inl (cc))
refused-by false true c d bytes out n e = (refl, inr (inl (cc)))
refused-by false false true d bytes out n e = (refl, inr (inr (inl (cc))))
refused-by false false false true bytes out n e = (refl, inr (inr (inr (cc))))
refused-by false false false false bytes out n e = let z : ◌≡◌ {A = ℕ} 0 1 = cc in absurd (omega arith)

-- "None of them writes a byte."
pub refusal-writes-nothing : (s : State) (tree out : List ℕ) (n : ℕ) → (read_out s tree out).result ≡ Refused n → ((read_out s tree out).out ≡ out) × ((n ≡ 14) ⊎ ((n ≡ 2) ⊎ ((n ≡ 3) ⊎ (n ≡ 15))))
unfolding read_out
refusal-writes-nothing s tree out n e =
    refused-by (not (closed_mark s.mark)) (not (known s)) (not (eqb (length tree) (tree_length s.size)))
    (ltb (length out) (length (file_of s tree))) (file_of s tree) out n e

-- "It returns the file's length and changes no other byte": what holds where n bytes were written.
pub record WasWritten (s : State) (tree out : List ℕ) (n : ℕ) : Type 0 where
  -- The checks.
  pub closed : closed_mark s.mark ≡ true
  pub is_known : known s ≡ true
  pub tree-length : length tree ≡ tree_length s.size
  -- The file fits the buffer, stands at its start, and leaves the rest as it was.
  pub file-length : n ≡ length (file_of s tree)
  pub enough : n ≤ length out
  pub file-then-rest : (read_out s tree out).out ≡ file_of s tree ++ drop n out

written-by : (a b c d : Bool) (bytes out : List ℕ) (n : ℕ) → (by_tests a b c d bytes out).result ≡ Written n
    → (a ≡ false) × (b ≡ false) × (c ≡ false) × (d ≡ false) × (n ≡ length bytes) × ((by_tests a b c d bytes out).out ≡ bytes ++ drop (length bytes) out)
written-by true b c d bytes out n e = let z : ◌≡◌ {A = ℕ} 0 1 = cc in absurd (omega arith)
written-by false true c d bytes out n e = let z : ◌≡◌ {A = ℕ} 0 1 = cc in absurd (omega arith)
written-by false false true d bytes out n e = let z : ◌≡◌ {A = ℕ} 0 1 = cc in absurd (omega arith)
written-by false false false true bytes out n e = let z : ◌≡◌ {A = ℕ} 0 1 = cc in absurd (omega arith)
written-by false false false false bytes out n e = (refl, refl, refl, refl, cc, refl)

pub was-written : (s : State) (tree out : List ℕ) (n : ℕ) → (read_out s tree out).result ≡ Written n → WasWritten s tree out n
unfolding read_out
was-written s tree out n e =
    let r = written-by (not (closed_mark s.mark)) (not (known s)) (not (eqb (length tree) (tree_length s.size)))
    (ltb (length out) (length (file_of s tree))) (file_of s tree) out n e in
    let l = r.4 in
    let enough = ltb-false (length out) (length (file_of s tree)) r.3 in
    record {
      closed = not-false (closed_mark s.mark) r.0;
      is_known = not-false (known s) r.1;
      tree-length = eqb-true (length tree) (tree_length s.size) (not-false (eqb (length tree) (tree_length s.size)) r.2);
      file-length = l;
      enough = omega arith;
      file-then-rest = rw l r.5;
    }

pub written-file : (s : State) (tree out : List ℕ) (n : ℕ) → (read_out s tree out).result ≡ Written n → (n ≡ length (file_of s tree)) × ((n ≤ length out) × ((read_out s tree out).out ≡ file_of s tree ++ drop n out))
written-file s tree out n e = let w = was-written s tree out n e in (w.file-length, (w.enough, w.file-then-rest))
