-- What a turn leaves: nothing came, or a piece was copied. No turn changes more tickets than a piece has.
use Rattle.std.specs.Prelude.{◌≡◌, refl, List, ◌++◌, ℕ, ◌≤◌, length, take}
use Rattle.std.proofs.Common.{sym, ◌∙◌, ap, arith, length-take, length-take-le, take_at}
use Rattle.ticket_copy_spec.specs.Copy.{copied, changed_among, file_copy, changed_in}
use Rattle.ticket_copy_laws.specs.PieceLaws.{changed-most, file-length}
use Rattle.ticket_copy.specs.Pieces.{most_tickets, longest_piece, Copies}

pub none_came : (piece copy : List ℕ) → Copies 0 0 piece copy
unfolding copied changed_among
none_came piece copy = record { within = omega arith; copied = refl; counted = refl }

module _ (piece : List ℕ) (n : ℕ) (low : n ≤ length piece) (within : n ≤ longest_piece) where
  pub piece-came : (came count : ℕ) (p rest : List ℕ) → p ≡ file_copy (take n piece) → count ≡ changed_in (take n piece) → came ≡ length (take n piece)
      → Copies came count piece (p ++ rest)
  piece-came came count p rest copy counted came-is =
      let e : came ≡ n = came-is ∙ length-take-le n piece low in
      let l : length p ≡ came = ap length copy ∙ file-length (take n piece) ∙ sym came-is in
      record {
        within = omega arith;
        copied = take_at p rest came l ∙ copy ∙ ap (λ (m : ℕ). file_copy (take m piece)) (sym e);
        counted = counted ∙ ap (λ (m : ℕ). changed_in (take m piece)) (sym e);
      }

pub turn-most : {came count : ℕ} {piece copy : List ℕ} → Copies came count piece copy → count ≤ most_tickets
turn-most {came} {count} {piece} t =
    omega (arith, t.counted, changed-most (take came piece), length-take came piece, t.within)
