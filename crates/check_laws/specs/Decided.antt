-- What a call comes to: the refusal of the first cause that is met, or the rounds of what its ticket asks. And two calls side by side that are told by the
-- same causes.
use Rattle.std.specs.Prelude.{ℕ, ◌≡◌, refl, true, false, List}
use Rattle.std.proofs.Math.Option.{Option, none, some}
use Rattle.std.proofs.Common.{arith}
use Rattle.method_spec.specs.Answer.{Structure, Op}
use Rattle.state_spec.specs.declared.State.{State}
use Rattle.state_spec.specs.Ticket.{op_in, structure_of}
use Rattle.call_spec.specs.Store.{Ended, refusing, by_rounds, Check, asks_nothing, checks, first_met, decided, called}
use Rattle.check_laws.specs.Causes.{none-met}

-- Two outcomes, by the same first cause and the same ticket: what holds of the two refusals and of the two endings holds of them.
pub decided-both : {R S : Type 0} (P : R → S → Type 0) {st : Structure} {refused : ℕ → R} {ended : Op st → R} {refused' : ℕ → S} {ended' : Op st → S}
    (first : Option ℕ) (asked : Option (Op st)) → (first ≡ none → asks_nothing asked ≡ false)
    → ((n : ℕ) → first ≡ some n → P (refused n) (refused' n)) → ((op : Op st) → first ≡ none → asked ≡ some op → P (ended op) (ended' op))
    → P (decided refused ended first asked) (decided refused' ended' first asked)
unfolding decided
decided-both P (some n) asked asks met none_is = met n refl
decided-both P none none asks met none_is = let e : true ≡ false = asks refl in let z : ◌≡◌ {A = ℕ} 0 1 = cc in absurd (omega arith)
decided-both P none (some op) asks met none_is = none_is op refl refl

module _ (s : State) (tree ticket tape trace : List ℕ) where
  abbrev pub structure : Structure
  structure = structure_of s.structure

  -- The causes of the call's refusal.
  abbrev pub causes : List Check
  causes = checks structure s tree ticket tape trace (op_in structure ticket)

  -- Where none is met, the ticket asks something.
  pub asks-some : first_met causes ≡ none → asks_nothing (op_in structure ticket) ≡ false
  unfolding checks
  asks-some e = none-met 5 causes e

  pub data Decided (e : Ended) : Type 0 where
    refused : (n : ℕ) → first_met causes ≡ some n → e ≡ refusing n s tree trace → Decided e
    rounded : (op : Op structure) → first_met causes ≡ none → op_in structure ticket ≡ some op → e ≡ by_rounds structure op s tree tape trace → Decided e

  pub how-decided : Decided (called s tree ticket tape trace)
  unfolding called
  how-decided =
      decided-both (λ (e f : Ended). Decided e) {refused' = λ n. refusing n s tree trace} {ended' = λ op. by_rounds structure op s tree tape trace} (first_met causes) (op_in structure ticket) asks-some (λ n e. refused n e refl)
      (λ op e asked. rounded op e asked refl)
