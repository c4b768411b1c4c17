-- Document 02, change 6: "Each call returns the largest of these over its closed rounds, 0 if none closed."
use Rattle.std.specs.Prelude.{ℕ, ◌≤◌, ◌≡◌, true, false, ◌⊎◌, length}
use mathlib.Core.List.{List, [], Memᴰ}
use Rattle.std.proofs.Math.Option.{some}
use Rattle.list_spec.specs.Distinct.{All}
use Rattle.method_spec.specs.Answer.{Structure, Op}
use Rattle.method_spec.specs.Rounds.{rounds}
use Rattle.method_spec.specs.Outcome.{Outcome}
use Rattle.bucket_call_spec.specs.Fetch.{Round}
use Rattle.bucket_call_spec.specs.Call.{draw_of}
use Rattle.bucket_call_spec.specs.Peak.{counts_of, call_rounds}
use Rattle.state_spec.specs.declared.State.{State}
use Rattle.state_spec.specs.Ticket.{op_in, structure_of}
use Rattle.call_spec.specs.Reply.{Refused}
use Rattle.call_spec.specs.Store.{store_of, called}
use Rattle.demand_spec.specs.History.{changes_nothing, early}

-- The largest of some numbers, seen to be one: none is larger, and it is one of them, or there are none and it is 0.
pub record LargestOf (ns : List ℕ) (n : ℕ) : Type 0 where
  pub none-larger : All (λ (m : ℕ). m ≤ n) ns
  pub is_one : ((ns ≡ []) × (n ≡ 0)) ⊎ Memᴰ n ns

module _ (s : State) (tree ticket tape trace : List ℕ) where
  abbrev structure : Structure
  structure = structure_of s.structure

  abbrev pub rounds_by : Op structure → List (Round (Outcome ℕ))
  rounds_by op = call_rounds s.size (rounds structure s.size) op (draw_of s.size tape) (store_of s tree)

  -- The rounds that the call made: none where it was refused with a number that changes nothing, else those of what its ticket asks.
  pub data Made : List (Round (Outcome ℕ)) → Type 0 where
    none_made : (n : ℕ) → changes_nothing n ≡ true → (called s tree ticket tape trace).reply ≡ Refused n → Made []
    made : (op : Op structure) → op_in structure ticket ≡ some op → early (called s tree ticket tape trace).reply ≡ false → Made (rounds_by op)

  -- The call's peak, by its rounds: each revealed one leaf, and it is the largest count at the close of those that closed.
  pub record Peaks : Type 0 where
    pub listed : List (Round (Outcome ℕ))
    pub made_so : Made listed
    pub one_each : length listed ≡ (called s tree ticket tape trace).leaves
    pub largest-of : LargestOf (counts_of listed) (called s tree ticket tape trace).peak
