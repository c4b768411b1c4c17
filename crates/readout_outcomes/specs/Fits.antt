-- A file that was written lies within the output buffer: what the definition of reading out says.
use Rattle.std.specs.Prelude.{◌≡◌, Bool, Result, Ok, Err, IfOk, true, false, not, List, ℕ, ◌≤◌, eqb, ltb, length}
use Rattle.std.proofs.Common.{sym, ◌∙◌, ap, arith, length-append}
use Rattle.slot_spec.specs.Tree.{tree_length}
use Rattle.state_spec.specs.declared.State.{State}
use Rattle.readout_spec.specs.declared.NoFile.{NoFile}
use Rattle.readout_spec.specs.ReadOut.{Written}
use Rattle.readout_spec.specs.ReadOut.{ReadOutLeft, read_out, file_of, closed_mark, known, read_out_leaving, read_out_refusing, writing, to_read_out}
use Rattle.list_spec.specs.Choice.{pick}

record Fits (l : ReadOutLeft) : Type 0 where
  within : (n : ℕ) → l.result ≡ Written n → n ≤ length l.out

refused-fits : (number : ℕ) (out : List ℕ) → Fits (read_out_refusing number out)
refused-fits number out = record { within = λ n e. let z : ◌≡◌ {A = ℕ} 0 1 = cc in absurd (omega arith) }

written-fits : (file out : List ℕ) → Fits (writing file out)
written-fits file out = record { within = λ n e. let h : length file ≡ n = cc in rw length-append (omega arith) }

either-fits : (b : Bool) {x y : ReadOutLeft} → Fits x → Fits y → Fits (pick b x y)
either-fits true p q = p
either-fits false p q = q

all_fit : (s : State) (tree out : List ℕ) → Fits (read_out s tree out)
unfolding read_out
all_fit s tree out =
    either-fits (not (closed_mark s.mark)) (refused-fits 14 out)
    (either-fits (not (known s)) (refused-fits 2 out)
    (either-fits (not (eqb (length tree) (tree_length s.size))) (refused-fits 3 out)
    (either-fits (ltb (length out) (length (file_of s tree))) (refused-fits 15 out) (written-fits (file_of s tree) out))))

-- ---- from the contract's equation
pub file-within : (s : State) (tree before after : List ℕ) (r : Result ℕ NoFile) → read_out_leaving (to_read_out r) after ≡ read_out s tree before
    → IfOk r (λ n. n ≤ length after)
file-within s tree before after (Ok n) is =
    rw (ap (λ (l : ReadOutLeft). l.out) is) ((all_fit s tree before).within n (sym (ap (λ (l : ReadOutLeft). l.result) is)))
file-within s tree before after (Err e) is = tt
