-- What a refusal's number says of the checks, and that a store that none refuses is read out from its slots.
use Rattle.std.specs.Prelude.{◌≡◌, Bool, not, ◌&&◌, List, [], ℕ, ◌≤◌, ltb, leb, length}
use Rattle.std.proofs.Math.Path.{refl}
use Rattle.std.proofs.Math.Bool.{true, false, and-eq-true_iff}
use Rattle.std.proofs.Common.{sym, ◌∙◌, arith}
use Rattle.std.proofs.Math.Dec.{eqb}
use borrow.Author.Tests.{eqb-true, leb-true}
use Rattle.list_spec.specs.Choice.{pick}
use Rattle.slot_spec.specs.Tree.{tree_length}
use Rattle.state_spec.specs.declared.State.{State}
use Rattle.state_spec.specs.Fit.{in_range, largest_structure, largest_size, places}
use Rattle.readout_spec.specs.declared.NoFile.{NoFile}
use Rattle.readout_spec.specs.declared.NoFile.TheVariants.{Unfit, TreeLength, NotClosed, ShortBuffer}
use Rattle.readout_spec.specs.ReadOut.{number_of, closed_mark, known, read_out_refusing, read_out, file_of}
use Rattle.survey_laws.specs.Items.{fitting}
use Rattle.store_readout.specs.Refusal.{known_numbers, refusal_of}

pub known-size : (structure size count : ℕ) → known_numbers structure size count ≡ true → (size ≤ largest_size) × (count ≤ places)
known-size structure size count e =
    let a = (and-eq-true_iff (in_range structure largest_structure) (in_range size largest_size && leb count places)).0 e in
    let b = (and-eq-true_iff (in_range size largest_size) (leb count places)).0 a.1 in
    let c = (and-eq-true_iff (ltb 0 size) (leb size largest_size)).0 b.0 in
    (leb-true size largest_size c.1, leb-true count places b.1)

-- The number, by what the checks say.
abbrev numbered : Bool → Bool → Bool → ℕ
numbered a b c = pick (not a) 14 (pick (not b) 2 (pick (not c) 3 0))

module _ (s : State) (tree out : List ℕ) where
  abbrev number : ℕ
  number = refusal_of s.mark s.structure s.size s.count (length tree)

  -- A refusal's number is the definition's, and none writes a byte.
  pub refused : (number ≡ 0 → ⊥) → read_out_refusing number out ≡ read_out s tree out
  unfolding refusal_of read_out fitting
  refused some = go (closed_mark s.mark) (known s) (eqb (length tree) (tree_length s.size)) some
    where
      go : (a b c : Bool) → (numbered a b c ≡ 0 → ⊥)
          → read_out_refusing (numbered a b c) out
          ≡ pick (not a) (read_out_refusing 14 out) (pick (not b) (read_out_refusing 2 out) (pick (not c) (read_out_refusing 3 out) (fitting (file_of s tree) out)))
      go false b c some = refl
      go true false c some = refl
      go true true false some = refl
      go true true true some = absurd (some refl)

  -- Where no check refuses, only the buffer's length is left to ask.
  pub passed : number ≡ 0 → (known_numbers s.structure s.size s.count ≡ true) × (length tree ≡ tree_length s.size)
      × (read_out s tree out ≡ fitting (file_of s tree) out)
  unfolding refusal_of read_out fitting
  passed none = go (closed_mark s.mark) (known s) (eqb (length tree) (tree_length s.size)) refl refl none
    where
      go : (a b c : Bool) → known s ≡ b → eqb (length tree) (tree_length s.size) ≡ c → numbered a b c ≡ 0
          → (known s ≡ true) × (length tree ≡ tree_length s.size)
          × (pick (not a) (read_out_refusing 14 out) (pick (not b) (read_out_refusing 2 out) (pick (not c) (read_out_refusing 3 out) (fitting (file_of s tree) out))) ≡ fitting (file_of s tree) out)
      go false b c e f none = let z : ⊥ = omega (arith, none) in absurd z
      go true false c e f none = let z : ⊥ = omega (arith, none) in absurd z
      go true true false e f none = let z : ⊥ = omega (arith, none) in absurd z
      go true true true e f none = (e, eqb-true (length tree) (tree_length s.size) f, refl)

-- A refusal has a number.
pub some_number : (e : NoFile) → number_of e ≡ 0 → ⊥
some_number Unfit h = omega (arith, h)
some_number TreeLength h = omega (arith, h)
some_number NotClosed h = omega (arith, h)
some_number ShortBuffer h = omega (arith, h)

-- What is returned where a check refuses.
pub refused-so : (s : State) (tree out : List ℕ) (e : NoFile) → number_of e ≡ refusal_of s.mark s.structure s.size s.count (length tree)
    → read_out_refusing (number_of e) out ≡ read_out s tree out
refused-so s tree out e h = rw h (refused s tree out (λ z. some_number e (h ∙ z)))

-- What is known where none does.
pub record Passed (s : State) (tree : List ℕ) : Type 0 where
  pub small : s.size ≤ largest_size
  pub few : s.count ≤ places
  pub sized : length tree ≡ tree_length s.size
  pub is : (out : List ℕ) → read_out s tree out ≡ fitting (file_of s tree) out

pub passed-so : (s : State) (tree : List ℕ) → 0 ≡ refusal_of s.mark s.structure s.size s.count (length tree) → Passed s tree
passed-so s tree none =
    let p = λ (out : List ℕ). passed s tree out (sym none) in
    let k = known-size s.structure s.size s.count (p []).0 in
    record { small = k.0; few = k.1; sized = (p []).1; is = λ out. (p out).2 }
